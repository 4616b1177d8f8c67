-- Words under keys with verbs, and then under verbs, are groups of words with the same verbs; these are one list.
use Rattle.std.proofs.Common.{◌≡◌, ◌↔◌, ◌∙◌, ◌∷◌, [], Any, Bool, Contains, List, ap, ap₂, false, refl, subst, sym, true}
use Rattle.std.proofs.lemmas.List.Elements.{All-contains}
use Rattle.rbac_terms.specs.Text.{Text}
use Rattle.rbac_terms.specs.Targets.{What, Resource, Url}
use Rattle.rbac_model.specs.Policies.{PolicyView}
use Rattle.rbac_model.proofs.OneList.{one_list}
use Rattle.rbac_model.proofs.OwnWords.{any_from}
use Rattle.rbac_diff.specs.Requests.{RequestView}
use Rattle.rbac_use.specs.Grouping.{AreGrouped, AreWords, HasWord, group_of, key_texts, under}
use Rattle.rbac_use.specs.LeastRules.{AreByVerbs, HasSameVerbs, HasVerb, IsAsked, IsTurned, key_of, pair_of, target_key, with_words}
use Rattle.rbac_use.specs.Needs.{IsNeeded}
use Rattle.rbac_use.specs.Requests.{log_of, request_of}
use Rattle.rbac_use.specs.declared.grouping.Group.{Group}
use Rattle.rbac_use.specs.declared.grouping.Pair.{Pair}
use Rattle.rbac_use.specs.declared.grouping.RuleKey.{RuleKey}
use Rattle.rbac_use.specs.declared.request.Request.{Request}
use Rattle.rbac_use.proofs.AskedOf.{in_log, of_log}
use Rattle.rbac_use.proofs.Grouped.{one_group}
use Rattle.rbac_use.proofs.Pushed.{a_word, all_from, alone, one_words, only_one}

-- a target has one word
one_of_target : (names : Bool) (namespace : Text) (t : What) (word : Text) → Contains (target_key names namespace t).words word → target_key names namespace t ≡ with_words (target_key names namespace t) (word ∷ [])
one_of_target names namespace (Url path) word c = ap (λ (w : Text). with_words (target_key names namespace (Url path)) (w ∷ [])) (only_one path word c)
one_of_target true namespace (Resource group text name) word c = ap (λ (w : Text). with_words (target_key true namespace (Resource group text name)) (w ∷ [])) (only_one name word c)
one_of_target false namespace (Resource group text name) word c = ap (λ (w : Text). with_words (target_key false namespace (Resource group text name)) (w ∷ [])) (only_one text word c)

pub word_of_target : (names : Bool) (r : RequestView) (word : Text) → Contains (key_of names r).words word → key_of names r ≡ with_words (key_of names r) (word ∷ [])
word_of_target names r word c = one_of_target names r.namespace r.target word c

module _ (p : PolicyView) (log : List RequestView) (user : Text) (names : Bool) where
  abbrev Asked : RuleKey → Text → Text → Type 0
  Asked k word verb = IsAsked p log user names k word verb

  module _ (requests : List Request) (asked : List Pair) (verbs : List Group) (turned : List Pair) (groups : List Group) where
    -- each step has what the one before gives
    pub record AreSteps : Type 0 where
      pub needed : (r : RequestView) → Contains (log_of requests) r ↔ IsNeeded p log user r
      pub asked_are : (x : Pair) → Contains asked x ↔ Any (λ q. pair_of names (request_of q) ≡ x) requests
      pub by_target : AreGrouped (λ x. Contains asked x) verbs
      pub turned_are : (x : Pair) → Contains turned x ↔ Any (λ g. IsTurned g x) verbs
      pub by_verbs : AreGrouped (λ x. Contains turned x) groups

    module _ (steps : AreSteps) where
      -- the pairs are what is asked for
      pair_asked : (k : RuleKey) (word verb : Text) → Contains asked (under (with_words k (word ∷ [])) verb) ↔ Asked k word verb
      pair_asked k word verb = (
        λ c.
            (let a = (steps.asked_are (under (with_words k (word ∷ [])) verb)).0 c in
            let r = request_of a.1 in
            let logged = in_log (λ (x : RequestView). x ≡ r) requests a.1 (a.0, a.2, a.3) refl in
            let is = (steps.needed r).0 (subst (λ (x : RequestView). Contains (log_of requests) x) logged.4 (logged.0, logged.2, logged.3)) in
            (r, is, ap (λ (x : Pair). x.word) a.4, ap (λ (x : Pair). x.key) a.4)),
        λ w.
            (let r = w.0 in
            let c = (steps.needed r).1 w.1 in
            let q = of_log (λ (x : RequestView). x ≡ r) requests (c.0, r, c.1, c.2, refl) in
            let pair : pair_of names (request_of q.0) ≡ under (with_words k (word ∷ [])) verb = ap (pair_of names) q.2 ∙ ap₂ (λ (a : RuleKey) (b : Text). under a b) w.3 w.2 in
            (steps.asked_are (under (with_words k (word ∷ [])) verb)).1 (any_from (λ (x : Request). pair_of names (request_of x) ≡ under (with_words k (word ∷ [])) verb) requests q.0 q.1 pair)),
      )

      verbs_of : (h : Group) → Contains verbs h → AreWords h.words
      verbs_of h c = All-contains (λ (x : Group). AreWords x.words) verbs h steps.by_target.each c

      -- the words of a group are those that are under its key
      under_it : (P : Pair → Type 0) (gs : List Group) → AreGrouped P gs → (h : Group) → Contains gs h → (word : Text) → Contains h.words word ↔ P (under h.key word)
      under_it P gs are h c word = (
        λ d. (are.exact h.key word).0 (any_from (λ (x : Group). (x.key ≡ h.key) × Contains x.words word) gs h c (refl, d)),
        λ d. (let w = (are.exact h.key word).1 d in
            let same = one_group gs w.1 h are.ordered (w.0, w.2, w.3) c w.4.0 in
            subst (λ (x : Group). Contains x.words word) same w.4.1),
      )

      -- a key of verbs has one word
      one_under : (h : Group) → Contains verbs h → (word : Text) → Contains h.key.words word → h.key ≡ with_words h.key (word ∷ [])
      one_under h c word d =
          let v = a_word h.words (verbs_of h c).some in
          let a = (steps.asked_are (under h.key v.0)).0 ((under_it (λ (x : Pair). Contains asked x) verbs steps.by_target h c v.0).0 v.1) in
          let same : key_of names (request_of a.1) ≡ h.key = ap (λ (x : Pair). x.key) a.4 in
          subst (λ (k : RuleKey). k ≡ with_words k (word ∷ [])) same (word_of_target names (request_of a.1) word (subst (λ (k : RuleKey). Contains k.words word) (sym same) d))

      -- the verbs of a word
      verbs_asked : (h : Group) → Contains verbs h → (k : RuleKey) (word : Text) → h.key ≡ with_words k (word ∷ []) → (verb : Text) → Contains h.words verb ↔ Asked k word verb
      verbs_asked h c k word same verb =
          let found = under_it (λ (x : Pair). Contains asked x) verbs steps.by_target h c verb in
          let asks = pair_asked k word verb in (
            λ d. asks.0 (subst (λ (x : RuleKey). Contains asked (under x verb)) same (found.0 d)),
            λ a. found.1 (subst (λ (x : RuleKey). Contains asked (under x verb)) (sym same) (asks.1 a)),
          )

      -- the verbs under a target with that word
      for_word : (k : RuleKey) (word verb : Text) → Asked k word verb → (h : Group) × Contains verbs h × (h.key ≡ with_words k (word ∷ []))
      for_word k word verb a = (let w = (steps.by_target.exact (with_words k (word ∷ [])) verb).1 ((pair_asked k word verb).1 a) in (w.1, (w.0, w.2, w.3), w.4.0))

      -- a word of such verbs stands in a group of them
      group_for : (h : Group) → Contains verbs h → (k : RuleKey) (word : Text) → h.key ≡ with_words k (word ∷ []) → HasWord groups (with_words k h.words) word
      group_for h c k word same =
          let turned_key : with_words h.key h.words ≡ with_words k h.words = ap (λ (x : RuleKey). with_words x h.words) same in
          let has : Contains h.key.words word = subst (λ (x : RuleKey). Contains x.words word) (sym same) (alone word) in
          (steps.by_verbs.exact (with_words k h.words) word).1
          ((steps.turned_are (under (with_words k h.words) word)).1 (any_from (λ (x : Group). IsTurned x (under (with_words k h.words) word)) verbs h c (has, turned_key)))

      -- the verbs that a word of a group comes from
      record Source (g : Group) (word : Text) : Type 0 where
        of : Group
        there : Contains verbs of
        words : of.words ≡ g.key.words
        key : of.key ≡ with_words g.key (word ∷ [])

      source : (g : Group) → Contains groups g → (word : Text) → Contains g.words word → Source g word
      source g c word d =
          let t = (steps.turned_are (under g.key word)).0 ((under_it (λ (x : Pair). Contains turned x) groups steps.by_verbs g c word).0 d) in
          let h = t.1 in
          let there : Contains verbs h = (t.0, t.2, t.3) in record {
            of = h;
            there = there;
            words = ap (λ (k : RuleKey). k.words) t.4.1;
            key = one_under h there word t.4.0 ∙ ap (λ (k : RuleKey). with_words k (word ∷ [])) t.4.1;
          }

      same_verbs : (g : Group) → Contains groups g → HasSameVerbs Asked g
      same_verbs g c =
          let words = All-contains (λ (x : Group). AreWords x.words) groups g steps.by_verbs.each c in
          let first = a_word g.words words.some in
          let s = source g c first.0 first.1 in
          let key_words : AreWords g.key.words = subst AreWords s.words (verbs_of s.of s.there) in record {
            verbs = key_words;
            words = words;
            exact = λ word. (
              λ d verb.
                  (let t = source g c word d in
                  let asks = verbs_asked t.of t.there g.key word t.key verb in (
                    λ v. asks.0 (subst (λ (ws : List Text). Contains ws verb) (sym t.words) v),
                    λ a. subst (λ (ws : List Text). Contains ws verb) t.words (asks.1 a),
                  )),
              λ same.
                  (let v = a_word g.key.words key_words.some in
                  let f = for_word g.key word v.0 ((same v.0).0 v.1) in
                  let h = f.0 in
                  let words_too : h.words ≡ g.key.words = one_words h.words g.key.words (verbs_of h f.1) key_words (λ verb.
                  let asks = verbs_asked h f.1 g.key word f.2 verb in (λ d. (same verb).1 (asks.0 d), λ d. asks.1 ((same verb).0 d))) in
                  let found = group_for h f.1 g.key word f.2 in
                  let there : HasWord groups g.key word = subst (λ (ws : List Text). HasWord groups (with_words g.key ws) word) words_too found in
                  (under_it (λ (x : Pair). Contains turned x) groups steps.by_verbs g c word).1 ((steps.by_verbs.exact g.key word).0 there)),
            );
          }

      all_asked : (k : RuleKey) (word verb : Text) → Asked k word verb → Any (HasVerb k word verb) groups
      all_asked k word verb a =
          let f = for_word k word verb a in
          let h = f.0 in
          let has : Contains h.words verb = (verbs_asked h f.1 k word f.2 verb).1 a in
          let w = group_for h f.1 k word f.2 in
          let words : h.words ≡ w.1.key.words = ap (λ (x : RuleKey). x.words) (sym w.4.0) in
          any_from (HasVerb k word verb) groups w.1 (w.0, w.2, w.3)
          (ap (λ (ws : List Text). with_words k ws) (sym words) ∙ sym w.4.0, w.4.1, subst (λ (ws : List Text). Contains ws verb) words has)

      pub are_by_verbs : AreByVerbs Asked groups
      are_by_verbs = record {
        ordered = steps.by_verbs.ordered;
        each = all_from (HasSameVerbs Asked) groups same_verbs;
        all = all_asked;
      }

-- ---- one list

module _ (p : PolicyView) (log other : List RequestView) (user : Text) (names : Bool) (forth : (r : RequestView) → Contains log r → Contains other r) where
  asked_too : (k : RuleKey) (word verb : Text) → IsAsked p log user names k word verb → IsAsked p other user names k word verb
  asked_too k word verb a = (a.0, (forth a.0 a.1.0, a.1.1), a.2, a.3)

  module _ (gs hs : List Group) (a : AreByVerbs (IsAsked p log user names) gs) (b : AreByVerbs (IsAsked p other user names) hs) (again : (k : RuleKey) (word verb : Text) → IsAsked p other user names k word verb → IsAsked p log user names k word verb) where
    there_too : (g : Group) → Contains gs g → Contains hs g
    there_too g c =
        let same = All-contains (HasSameVerbs (IsAsked p log user names)) gs g a.each c in
        let word = a_word g.words same.words.some in
        let verb = a_word g.key.words same.verbs.some in
        let w = b.all g.key word.0 verb.0 (asked_too g.key word.0 verb.0 (((same.exact word.0).0 word.1 verb.0).0 verb.1)) in
        let h = w.1 in
        let d : Contains hs h = (w.0, w.2, w.3) in
        let also = All-contains (HasSameVerbs (IsAsked p other user names)) hs h b.each d in
        let like : with_words g.key h.key.words ≡ h.key = w.4.0 in
        let to : (t v : Text) → IsAsked p other user names h.key t v → IsAsked p other user names g.key t v =
        λ t v q. subst (λ (k : RuleKey). IsAsked p other user names k t v) (sym like) q in
        let from : (t v : Text) → IsAsked p other user names g.key t v → IsAsked p other user names h.key t v =
        λ t v q. subst (λ (k : RuleKey). IsAsked p other user names k t v) like q in
        let verbs : g.key.words ≡ h.key.words = one_words g.key.words h.key.words same.verbs also.verbs (λ v. (
          λ e. ((also.exact word.0).0 w.4.1 v).1 (from word.0 v (asked_too g.key word.0 v (((same.exact word.0).0 word.1 v).0 e))),
          λ e. ((same.exact word.0).0 word.1 v).1 (again g.key word.0 v (to word.0 v (((also.exact word.0).0 w.4.1 v).0 e))),
        )) in
        let key : g.key ≡ h.key = ap (λ (ws : List Text). with_words g.key ws) verbs ∙ like in
        let words : g.words ≡ h.words = one_words g.words h.words same.words also.words (λ t. (
          λ e. (also.exact t).1 (λ v. (
            λ f. from t v (asked_too g.key t v (((same.exact t).0 e v).0 (subst (λ (ws : List Text). Contains ws v) (sym verbs) f))),
            λ q. subst (λ (ws : List Text). Contains ws v) verbs (((same.exact t).0 e v).1 (again g.key t v (to t v q))),
          )),
          λ e. (same.exact t).1 (λ v. (
            λ f. again g.key t v (to t v (((also.exact t).0 e v).0 (subst (λ (ws : List Text). Contains ws v) verbs f))),
            λ q. subst (λ (ws : List Text). Contains ws v) (sym verbs) (((also.exact t).0 e v).1 (from t v (asked_too g.key t v q))),
          )),
        )) in
        subst (Contains hs) (sym (ap₂ (λ (k : RuleKey) (ws : List Text). group_of k ws) key words)) d

pub one_by_verbs : (p : PolicyView) (log other : List RequestView) (user : Text) (names : Bool) (gs hs : List Group) → ((r : RequestView) → Contains log r ↔ Contains other r) → AreByVerbs (IsAsked p log user names) gs → AreByVerbs (IsAsked p other user names) hs → gs ≡ hs
one_by_verbs p log other user names gs hs same a b =
    let forth : (r : RequestView) → Contains log r → Contains other r = λ r. (same r).0 in
    let back : (r : RequestView) → Contains other r → Contains log r = λ r. (same r).1 in
    one_list (λ (g : Group). key_texts g.key) gs hs a.ordered b.ordered
    (there_too p log other user names forth gs hs a b (asked_too p other log user names back))
    (there_too p other log user names back hs gs b a (asked_too p log other user names forth))
