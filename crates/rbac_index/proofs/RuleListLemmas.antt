-- lists under words, as they grow and as they are read
use Rattle.std.proofs.Common.{◌≡◌, ◌≢◌, ℕ, ◌<◌, ◌+◌, List, [], ◌∷◌, ◌++◌, length, take, refl, sym, ap, ◌∙◌, subst, eqb, Bool, true, cond, Contains, Vec, Global, ◌⊎◌, ◌↔◌, inl, inr, arith, get_or, slice_get}
use Rattle.std.specs.Prelude.{Option, Some, unwrap_or, codes, Result, Ok, Err, IfOk}
use Rattle.std.specs.BTreeMap.{get}
use Rattle.std.specs.Ordering.{is_eq}
use Rattle.std.proofs.lemmas.Bool.{eqb-true}
use Rattle.std.proofs.lemmas.Cmp.{tied_itself, nat_list_cmp_total}
use Rattle.std.proofs.lemmas.List.{nil_from_length, take_more}
use Rattle.std.proofs.lemmas.List.Elements.{Contains-append_left, Contains-push, Contains-push_cases}
use Rattle.std.proofs.lemmas.Map.Lookups.{exact_bytes}
use Rattle.rbac_terms.specs.Text.{Text, text_cmp, slash}
use Rattle.rbac_terms.proofs.Texts.{IsCutAtFirst-one}
use Rattle.rbac_terms.specs.Matching.{ResourceWordMatches, FollowsFirstSlash}
use Rattle.std.proofs.lemmas.Bool.{cases_eq}
use Rattle.std.proofs.lemmas.Option.{same_Some}
use Rattle.rbac_terms.specs.declared.matching.Rule.{Rule}
use Rattle.rbac_terms.proofs.Cases.{by_bool}
use Rattle.rbac_terms.proofs.Orderings.{equal_from_test}
use Rattle.rbac_index.specs.declared.rule_lists.RuleLists.{RuleLists}
use Rattle.rbac_index.specs.RuleLists.{Lists, listed, ListsMore, ListsUnder, ListsRule, AreListed}

pub nil_from_test : (s : Text) (b : Bool) → b ≡ eqb (length s) 0 → b ≡ true → s ≡ []
nil_from_test s b e h = nil_from_length s (eqb-true (length s) 0 (sym e ∙ h))

-- one word's list has the number added, and no other list has changed
pub lists_more : (old new : Lists) (word : Text) (added : ℕ) (xs : List ℕ) → ((q : Text) → get text_cmp new q ≡ cond (is_eq (text_cmp word q)) (Some xs) (get text_cmp old q)) → ((n : ℕ) → Contains xs n ↔ (Contains (listed old word) n ⊎ (n ≡ added))) → ListsMore old new word added
lists_more old new word added xs reads has w n =
    by_bool (is_eq (text_cmp word w))
    (λ h.
    let same : word ≡ w = exact_bytes word w (equal_from_test (text_cmp word w) h) in
    let is : listed new w ≡ xs = ap (λ (o : Option (List ℕ)). unwrap_or o []) (reads w ∙ ap (λ (b : Bool). cond b (Some xs) (get text_cmp old w)) h) in (
      λ c. elim ((has n).0 (subst (λ (l : List ℕ). Contains l n) is c)) [
        | inl a ↦ inl (subst (λ (t : Text). Contains (listed old t) n) same a)
        | inr e ↦ inr (sym same, e)
      ],
      λ s. subst (λ (l : List ℕ). Contains l n) (sym is) ((has n).1 (elim s [
        | inl a ↦ inl (subst (λ (t : Text). Contains (listed old t) n) (sym same) a)
        | inr e ↦ inr e.1
      ])),
    ))
    (λ h.
    let is : listed new w ≡ listed old w = ap (λ (o : Option (List ℕ)). unwrap_or o []) (reads w ∙ ap (λ (b : Bool). cond b (Some xs) (get text_cmp old w)) h) in (
      λ c. inl (subst (λ (l : List ℕ). Contains l n) is c),
      λ s. elim s [
        | inl a ↦ subst (λ (l : List ℕ). Contains l n) (sym is) a
        | inr e ↦ let t : is_eq (text_cmp word w) ≡ true = ap (λ (v : Text). is_eq (text_cmp word v)) e.0 ∙ ap is_eq (tied_itself nat_list_cmp_total word) in cc
      ],
    ))

-- the loop's step: one more of the words
pub lists_under_more : (old mid new : Lists) (words : List Text) (i : ℕ) (word : Text) (added : ℕ) → i < length words → word ≡ get_or words i word → ListsUnder old mid (take i words) added → ListsMore mid new word added → ListsUnder old new (take (i + 1) words) added
lists_under_more old mid new words i word added lt at before step w n =
    let more : take (i + 1) words ≡ take i words ++ word ∷ [] = take_more words i word lt ∙ ap (λ (x : Text). take i words ++ x ∷ []) (sym at) in (
      λ c. elim ((step w n).0 c) [
        | inl a ↦ elim ((before w n).0 a) [
          | inl b ↦ inl b
          | inr b ↦ inr (subst (λ (l : List Text). Contains l w) (sym more) (Contains-append_left (take i words) (word ∷ []) w b.0), b.1)
        ]
        | inr e ↦ inr (subst (λ (l : List Text). Contains l w) (sym more) (subst (λ (x : Text). Contains (take i words ++ word ∷ []) x) (sym e.0) (Contains-push (take i words) word)), e.1)
      ],
      λ s. (step w n).1 (elim s [
        | inl a ↦ inl ((before w n).1 (inl a))
        | inr b ↦ elim (Contains-push_cases (take i words) word w (subst (λ (l : List Text). Contains l w) more b.0)) [
          | inl c ↦ inl ((before w n).1 (inr (c, b.1)))
          | inr e ↦ inr (sym e, b.1)
        ]
      ]),
    )

-- under the three words that match a text stands all that is listed under any matching word
pub three_words : (lists : Lists) (text : Text) (third : List ℕ) (n : ℕ) → ((w : Text) × ((s : Text) × (w ≡ codes "*/" ++ s) × (s ≢ []) × FollowsFirstSlash text s) × Contains (listed lists w) n) ↔ Contains third n → (Contains (listed lists (codes "*")) n ⊎ (Contains (listed lists text) n ⊎ Contains third n)) ↔ ((w : Text) × ResourceWordMatches w text × Contains (listed lists w) n)
three_words lists text third n i = (
  λ s. elim s [
    | inl a ↦ (codes "*", inl (inl refl), a)
    | inr b ↦ elim b [
      | inl c ↦ (text, inl (inr refl), c)
      | inr c ↦ let f = i.1 c in (f.0, inr f.1, f.2)
    ]
  ],
  λ f. elim (f.1) [
    | inl a ↦ elim a [
      | inl e ↦ inl (subst (λ (w : Text). Contains (listed lists w) n) e f.2)
      | inr e ↦ inr (inl (subst (λ (w : Text). Contains (listed lists w) n) e f.2))
    ]
    | inr b ↦ inr (inr (i.0 (f.0, b, f.2)))
  ],
)

-- a union that may fail gives what matches
pub matching_from : {E : Type 0} (lists : Lists) (text : Text) (first second third : List ℕ) (r : Result (Vec ℕ Global) E) → IfOk r (λ v. (n : ℕ) → Contains v.items n ↔ (Contains first n ⊎ (Contains second n ⊎ Contains third n))) → first ≡ listed lists (codes "*") → second ≡ listed lists text
    → ((n : ℕ) → ((w : Text) × ((s : Text) × (w ≡ codes "*/" ++ s) × (s ≢ []) × FollowsFirstSlash text s) × Contains (listed lists w) n) ↔ Contains third n)
    → IfOk r (λ v. (n : ℕ) → Contains v.items n ↔ ((w : Text) × ResourceWordMatches w text × Contains (listed lists w) n))
matching_from lists text first second third (Err e) h a b i = tt
matching_from lists text first second third (Ok v) h a b i = λ n.
    let three = three_words lists text third n (i n) in
    let has : Contains v.items n ↔ (Contains (listed lists (codes "*")) n ⊎ (Contains (listed lists text) n ⊎ Contains third n)) = rw (a, b) at (h n) in
    (λ c. three.0 (has.0 c), λ f. has.1 (three.1 f))

-- the words with the text's subresource are one word
pub subresource_only : (lists : Lists) (text word : Text) (third : List ℕ) → (s : Text) × (word ≡ codes "*/" ++ s) × (s ≢ []) × FollowsFirstSlash text s → third ≡ listed lists word → (n : ℕ) → ((w : Text) × ((s : Text) × (w ≡ codes "*/" ++ s) × (s ≢ []) × FollowsFirstSlash text s) × Contains (listed lists w) n) ↔ Contains third n
subresource_only lists text word third of is n = (
  λ f.
      let one : f.1.0 ≡ of.0 = IsCutAtFirst-one text f.1.3.0 of.3.0 f.1.0 of.0 slash f.1.3.1 of.3.1 in
      let same : f.0 ≡ word = f.1.1 ∙ ap (λ (s : Text). codes "*/" ++ s) one ∙ sym of.1 in
      subst (λ (l : List ℕ). Contains l n) (ap (listed lists) same ∙ sym is) f.2,
  λ c. (word, of, subst (λ (l : List ℕ). Contains l n) is c),
)

pub subresource_none : (lists : Lists) (text : Text) (third : List ℕ) → ((s : Text) → s ≢ [] → FollowsFirstSlash text s → ⊥) → third ≡ [] → (n : ℕ) → ((w : Text) × ((s : Text) × (w ≡ codes "*/" ++ s) × (s ≢ []) × FollowsFirstSlash text s) × Contains (listed lists w) n) ↔ Contains third n
subresource_none lists text third none is n = (
  λ f. absurd (none f.1.0 f.1.2 f.1.3),
  λ c. absurd (omega (arith, c.1, ap length is)),
)

-- a list with one more at its end
pub pushed_has : {X : Type 0} (xs : List X) (x q : X) → Contains (xs ++ x ∷ []) q ↔ (Contains xs q ⊎ (q ≡ x))
pushed_has xs x q = (
  λ c. elim (Contains-push_cases xs x q c) [ inl a ↦ inl a | inr e ↦ inr (sym e) ],
  λ s. elim s [ inl a ↦ Contains-append_left xs (x ∷ []) q a | inr e ↦ rw e (Contains-push xs x) ],
)

-- what stands at a place of rules
pub same_at : {X : Type 0} (xs : List X) (i : ℕ) (x y : X) → slice_get xs i ≡ Some x → slice_get xs i ≡ Some y → x ≡ y
same_at xs i x y a b = same_Some x y (sym a ∙ b)

-- one rule more is listed
pub listed_more : (rules : List Rule) (n : ℕ) (old new : RuleLists) (r : Rule) → slice_get rules n ≡ Some r → AreListed rules n old → ListsRule old new r n → AreListed rules (n + 1) new
listed_more rules n old new r at are more = record {
  words = λ w k. (
    λ c. elim ((more.words w k).0 c) [
      | inl a ↦ let b = (are.words w k).0 a in (omega (arith, b.0), b.1)
      | inr a ↦ (omega (arith, a.1), (r, rw a.1 at, a.0))
    ],
    λ h. (more.words w k).1 (elim (cases_eq k n) [
      | inl e ↦ let same : h.1.0 ≡ r = same_at rules n h.1.0 r (rw (← e) h.1.1) at in inr (subst (λ (x : Rule). Contains x.resources w) same h.1.2, e)
      | inr ne ↦ inl ((are.words w k).1 (omega (arith, h.0), h.1))
    ]),
  );
  urls = λ k. (
    λ c. elim ((more.urls k).0 c) [
      | inl a ↦ let b = (are.urls k).0 a in (omega (arith, b.0), b.1)
      | inr a ↦ (omega (arith, a.1), (r, rw a.1 at, a.0))
    ],
    λ h. (more.urls k).1 (elim (cases_eq k n) [
      | inl e ↦ let same : h.1.0 ≡ r = same_at rules n h.1.0 r (rw (← e) h.1.1) at in inr (subst (λ (x : Rule). x.urls ≢ []) same h.1.2, e)
      | inr ne ↦ inl ((are.urls k).1 (omega (arith, h.0), h.1))
    ]),
  );
}
