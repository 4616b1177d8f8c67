-- What a list of documents gives, and what a document gives that is no list.
use Rattle.std.proofs.Common.{◌≡◌, ◌≢◌, ℕ, ◌+◌, List, [], ◌∷◌, ◌++◌, Result, Ok, Err, Option, Some, None, option_map, option_and_then, Vec, Global, refl, sym, ap, ap₂, ◌∙◌, subst, append_assoc}
use Rattle.std.specs.Prelude.{IfOk, MatchOption}
use Rattle.std.specs.Option.{option_to_list}
use Rattle.std.proofs.lemmas.List.{append-nil}
use Rattle.json.specs.Token.{Token}
use Rattle.serde_json.specs.Data.{Data, array, object, Items, no_items, item, Members, put}
use Rattle.serde_json.specs.Read.{read}
use Rattle.json_list.specs.List.{items_name, with_items}
use Rattle.json_list.specs.OnePass.{items_and_rest, object_from, IsReadUpTo, AreTheOthers}
use Rattle.json_fields.specs.Fields.{elements}
use Rattle.rbac_manifest.specs.Kinds.{kind_of}
use Rattle.rbac_manifest.specs.Document.{fault, stands, first_of, bad_header, bad_body, content_in}
use Rattle.rbac_manifest.specs.DocumentList.{IsListOf, IsReadAs}
use Rattle.rbac_manifest.specs.Load.{refusal_in, refusal_of, contents_of_input, contents_of_value, items_refusal, contents_of_body, list_refusal, contents_of_list, whole_or, item_or, first_refusal, as_whole, in_item, contents_of_items}
use Rattle.rbac_manifest.specs.Reads.{Yields}
use Rattle.rbac_manifest.specs.declared.content.Content.{Content}
use Rattle.rbac_manifest.specs.declared.kind.Kind.{Kind}
use Rattle.rbac_manifest.specs.declared.kind.Kind.TheVariants as kinds
use Rattle.rbac_manifest.specs.declared.kind.Implied.{Implied}
use Rattle.rbac_manifest.specs.declared.kind.Implied.TheVariants as lists
use Rattle.rbac_manifest.specs.declared.fault.Cause.{Cause}
use Rattle.rbac_manifest.specs.declared.fault.Cause.TheVariants.{NoMemory}
use Rattle.rbac_manifest.specs.declared.fault.Refusal.{Refusal}
use Rattle.rbac_manifest.proofs.Beside.{the_items, same_header, same_kind, same_fault, same_content}

-- what is yielded, for another refusal and other contents that are the same
yields_as : (r : Result (Vec Content Global) Refusal) (p q : Option Refusal) (xs ys : List Content) → q ≡ p → (p ≡ None → ys ≡ xs) → Yields r p xs → Yields r q ys
yields_as (Ok v) p q xs ys e f yields = (e ∙ yields.0, yields.1 ∙ sym (f yields.0))
yields_as (Err c) p q xs ys e f yields = λ told. e ∙ yields told

-- what is said of a list that was read, or where there is none
pub where_list : {L E : Type 0} (r : Result (Option L) E) {P Q : Type 0} {R S : L → Type 0} → (P → Q) → ((l : L) → R l → S l) → IfOk r (λ o. MatchOption o P R) → IfOk r (λ o. MatchOption o Q S)
where_list (Ok None) f g p = f p
where_list (Ok (Some l)) f g p = g l p
where_list (Err e) f g p = p

-- ---- a list

sound_list : (implied : Implied) (d : Data) → IsListOf implied d → fault lists.Nothing d ≡ None
unfolding fault
sound_list implied d is = ap₂ (λ h k. first_of (h ∷ bad_body k d ∷ [])) is.0 is.1

module _ (implied : Implied) (ms : Members) (ds : Items) where
  list_beside : IsListOf implied (object ms) → IsListOf implied (with_items ms ds)
  list_beside is = (same_header ms ds ∙ is.0, same_kind ms ds ∙ is.1)

  module _ (is : IsListOf implied (with_items ms ds)) where
    refused_by_items : refusal_in (with_items ms ds) ≡ first_refusal implied 0 (elements ds)
    unfolding refusal_in
    refused_by_items =
        ap₂ (λ f k. whole_or f (items_refusal k (with_items ms ds))) (sound_list implied (with_items ms ds) is) is.1 ∙ ap (list_refusal implied) (the_items ms ds)

    contents_in_items : contents_of_input (with_items ms ds) ≡ contents_of_items implied (elements ds)
    unfolding contents_of_input
    contents_in_items = ap (λ k. contents_of_body k (with_items ms ds)) is.1 ∙ ap (contents_of_list implied) (the_items ms ds)

-- ---- a document that is no list

abbrev pub IsNoList : Data → Type 0
IsNoList d = (implied : Implied) → IsListOf implied d → ⊥

sound_header : (h b : Option Cause) → first_of (h ∷ b ∷ []) ≡ None → h ≡ None
sound_header None b e = refl
sound_header (Some c) b e = e

no_list_kind : (d : Data) → IsNoList d → fault lists.Nothing d ≡ None → (implied : Implied) → kind_of lists.Nothing d ≡ kinds.List implied → ⊥
unfolding fault
no_list_kind d none sound implied e =
    none implied (sound_header (bad_header lists.Nothing d) (bad_body (kind_of lists.Nothing d) d) sound, e)

no_items_refused : (k : Kind) (d : Data) → ((implied : Implied) → k ≡ kinds.List implied → ⊥) → items_refusal k d ≡ None
no_items_refused kinds.Role d other = refl
no_items_refused kinds.ClusterRole d other = refl
no_items_refused kinds.RoleBinding d other = refl
no_items_refused kinds.ClusterRoleBinding d other = refl
no_items_refused kinds.Namespace d other = refl
no_items_refused kinds.ServiceAccount d other = refl
no_items_refused kinds.ApiList d other = refl
no_items_refused kinds.Universe d other = refl
no_items_refused kinds.Group d other = refl
no_items_refused (kinds.List implied) d other = absurd (other implied refl)
no_items_refused kinds.Other d other = refl

one_content : (k : Kind) (d : Data) → ((implied : Implied) → k ≡ kinds.List implied → ⊥) → contents_of_body k d ≡ option_to_list (content_in k d)
one_content kinds.Role d other = refl
one_content kinds.ClusterRole d other = refl
one_content kinds.RoleBinding d other = refl
one_content kinds.ClusterRoleBinding d other = refl
one_content kinds.Namespace d other = refl
one_content kinds.ServiceAccount d other = refl
one_content kinds.ApiList d other = refl
one_content kinds.Universe d other = refl
one_content kinds.Group d other = refl
one_content (kinds.List implied) d other = absurd (other implied refl)
one_content kinds.Other d other = refl

refused_or : (o : Option Cause) (r : Option Refusal) → (o ≡ None → r ≡ None) → whole_or o r ≡ option_map as_whole o
refused_or None r h = h refl
refused_or (Some c) r h = refl

refused_alone : (d : Data) → IsNoList d → refusal_in d ≡ option_map as_whole (fault lists.Nothing d)
unfolding refusal_in
refused_alone d none =
    refused_or (fault lists.Nothing d) (items_refusal (kind_of lists.Nothing d) d) (λ sound. no_items_refused (kind_of lists.Nothing d) d (no_list_kind d none sound))

contents_alone : (d : Data) → IsNoList d → fault lists.Nothing d ≡ None → contents_of_input d ≡ option_to_list (stands lists.Nothing d)
unfolding contents_of_input stands
contents_alone d none sound = one_content (kind_of lists.Nothing d) d (no_list_kind d none sound)

refused_beside : (ms : Members) (ds : Items) → IsNoList (object ms) → refusal_in (with_items ms ds) ≡ option_map as_whole (fault lists.Nothing (object ms))
unfolding refusal_in
refused_beside ms ds none =
    ap₂ (λ f k. whole_or f (items_refusal k (with_items ms ds))) (same_fault ms ds) (same_kind ms ds)
    ∙ refused_or (fault lists.Nothing (object ms)) (items_refusal (kind_of lists.Nothing (object ms)) (with_items ms ds)) (λ sound. no_items_refused (kind_of lists.Nothing (object ms)) (with_items ms ds) (no_list_kind (object ms) none sound))

contents_beside : (ms : Members) (ds : Items) → IsNoList (object ms) → fault lists.Nothing (object ms) ≡ None → contents_of_input (with_items ms ds) ≡ option_to_list (stands lists.Nothing (object ms))
unfolding contents_of_input stands
contents_beside ms ds none sound =
    let k = kind_of lists.Nothing (object ms) in
    ap (λ k. contents_of_body k (with_items ms ds)) (same_kind ms ds)
    ∙ one_content k (with_items ms ds) (no_list_kind (object ms) none sound)
    ∙ ap option_to_list (same_content ms ds k)

no_refusal : (o : Option Cause) → option_map as_whole o ≡ None → o ≡ None
no_refusal None e = refl
no_refusal (Some c) e = absurd (cc)

pub yields_alone : (d : Data) → IsNoList d → (r : Result (Vec Content Global) Refusal) → Yields r (option_map as_whole (fault lists.Nothing d)) (option_to_list (stands lists.Nothing d)) → Yields r (refusal_in d) (contents_of_input d)
yields_alone d none r yields = yields_as r _ _ _ _ (refused_alone d none) (λ e. contents_alone d none (no_refusal (fault lists.Nothing d) e)) yields

-- ---- a text of which a list was read

module _ (text : List ℕ) (implied : Implied) (r : Result (Vec Content Global) Refusal) (others : Members) (reads : IsReadAs text implied r others) where
  pub yields_items : ((d : Data) → read text ≡ Some d → IsListOf implied d) → Yields r (refusal_of (read text)) (contents_of_value (read text))
  yields_items is =
      let ds = reads.0 in
      let list = is (with_items others ds) reads.1 in
      yields_as r _ _ _ _ (ap refusal_of reads.1 ∙ refused_by_items implied others ds list) (λ _. ap contents_of_value reads.1 ∙ contents_in_items implied others ds list) reads.2

  -- the text is a list of this kind, if what is beside its items says so
  pub is_list : (kind : Implied) → IsListOf kind (object others) → (d : Data) → read text ≡ Some d → IsListOf kind d
  is_list kind is d e = let same : with_items others reads.0 ≡ d = let both = sym reads.1 ∙ e in cc in subst (IsListOf kind) same (list_beside kind others reads.0 is)

  pub yields_beside : IsNoList (object others) → (s : Result (Vec Content Global) Refusal) → Yields s (option_map as_whole (fault lists.Nothing (object others))) (option_to_list (stands lists.Nothing (object others)))
      → Yields s (refusal_of (read text)) (contents_of_value (read text))
  yields_beside none s yields =
      yields_as s _ _ _ _ (ap refusal_of reads.1 ∙ refused_beside others reads.0 none) (λ e. ap contents_of_value reads.1 ∙ contents_beside others reads.0 none (no_refusal (fault lists.Nothing (object others)) e)) yields

-- ---- a text that is read up to its items

module _ (text : List ℕ) (before : Members) (ahead : List Token) (up_to : IsReadUpTo text before ahead) where
  pub unread_items : items_and_rest ahead ≡ None → read text ≡ None
  unread_items e = up_to ∙ ap (option_and_then (λ p. object_from (put items_name (array p.0) before) p.1)) e

  module _ (ds : Items) (rest : List Token) (items : items_and_rest ahead ≡ Some (ds, rest)) where
    pub read_is : read text ≡ object_from (put items_name (array ds) before) rest
    read_is = up_to ∙ ap (option_and_then (λ p. object_from (put items_name (array p.0) before) p.1)) items

    pub read_as : (others : Members) → AreTheOthers before rest others → (implied : Implied) (r : Result (Vec Content Global) Refusal) → Yields r (first_refusal implied 0 (elements ds)) (contents_of_items implied (elements ds))
        → IsReadAs text implied r others
    read_as others are implied r yields = (ds, read_is ∙ are ds, yields)

    pub unread_others : ((found : Members) → object_from found rest ≡ None) → read text ≡ None
    unread_others none = read_is ∙ none (put items_name (array ds) before)

-- ---- the items, one after another

-- some items were passed: if those that follow can be read, so can all, and otherwise not
abbrev pub Passes : List Token → List Token → Type 0
Passes first now =
    ((ds : Items) (rest : List Token) → items_and_rest now ≡ Some (ds, rest) → (all : Items) × (items_and_rest first ≡ Some (all, rest)))
    × (items_and_rest now ≡ None → items_and_rest first ≡ None)

-- whatever items follow, with those that were read they are all, and what was read is sound and was taken; if they can't be read, neither can all
abbrev pub GoesOn : Implied → List Token → ℕ → List Token → List Content → Type 0
GoesOn implied first place now taken =
    ((ds : Items) (rest : List Token) → items_and_rest now ≡ Some (ds, rest) → (all : Items) × (items_and_rest first ≡ Some (all, rest)) × (first_refusal implied 0 (elements all) ≡ first_refusal implied place (elements ds))
    × (contents_of_items implied (elements all) ≡ taken ++ contents_of_items implied (elements ds)))
    × (items_and_rest now ≡ None → items_and_rest first ≡ None)

pub begun : (implied : Implied) (first : List Token) → GoesOn implied first 0 first []
begun implied first = ((λ ds rest e. (ds, e, refl, refl)), λ e. e)

module _ (implied : Implied) (first : List Token) (place : ℕ) (now : List Token) (taken : List Content) (so_far : GoesOn implied first place now taken) where
  module _ (d : Data) (left : List Token) (step : items_and_rest now ≡ option_map (λ p. (item d p.0, p.1)) (items_and_rest left)) where
    pub one_more : (next : List Content) → fault implied d ≡ None → next ≡ taken ++ option_to_list (stands implied d) → GoesOn implied first (place + 1) left next
    one_more next sound took = (
      (λ ds rest e.
          let all = so_far.0 (item d ds) rest (step ∙ ap (option_map (λ p. (item d p.0, p.1))) e) in (
            all.0,
            all.1,
            all.2 ∙ ap (λ f. item_or place f (first_refusal implied (place + 1) (elements ds))) sound,
            all.3 ∙ sym (append_assoc taken (option_to_list (stands implied d)) (contents_of_items implied (elements ds))) ∙ sym (ap (λ cs. cs ++ contents_of_items implied (elements ds)) took),
          )),
      λ e. so_far.1 (step ∙ ap (option_map (λ p. (item d p.0, p.1))) e),
    )

    pub refused_here : (cause : Cause) (e : Refusal) → e ≡ in_item place cause → (cause ≢ NoMemory → fault implied d ≡ Some cause) → (ds : Items) (rest : List Token) → items_and_rest left ≡ Some (ds, rest)
        → (all : Items) × (items_and_rest first ≡ Some (all, rest)) × (e.cause ≢ NoMemory → first_refusal implied 0 (elements all) ≡ Some e)
    refused_here cause e is bad ds rest left_is =
        let all = so_far.0 (item d ds) rest (step ∙ ap (option_map (λ p. (item d p.0, p.1))) left_is) in
        (all.0, all.1, λ told. all.2 ∙ ap (λ f. item_or place f (first_refusal implied (place + 1) (elements ds))) (bad (λ none. told (ap (λ r. r.cause) is ∙ none))) ∙ ap Some (sym is))

    pub unread_here : items_and_rest left ≡ None → items_and_rest first ≡ None
    unread_here e = so_far.1 (step ∙ ap (option_map (λ p. (item d p.0, p.1))) e)

  pub all_read : (rest : List Token) → items_and_rest now ≡ Some (no_items, rest)
      → (all : Items) × (items_and_rest first ≡ Some (all, rest)) × ((first_refusal implied 0 (elements all) ≡ None) × (taken ≡ contents_of_items implied (elements all)))
  all_read rest e =
      let all = so_far.0 no_items rest e in
      (all.0, all.1, (all.2, sym (all.3 ∙ append-nil taken)))
