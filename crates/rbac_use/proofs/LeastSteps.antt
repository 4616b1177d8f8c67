-- The words of a key are turned, one after another.
use Rattle.std.proofs.Common.{◌≡◌, ◌⊎◌, ◌↔◌, ◌++◌, ◌∷◌, [], Contains, List, ap, ap₂, inl, inr, subst}
use Rattle.std.proofs.lemmas.List.Elements.{Contains-append_left, Contains-push}
use Rattle.rbac_terms.specs.Text.{Text}
use Rattle.rbac_use.specs.Grouping.{under}
use Rattle.rbac_use.specs.LeastRules.{with_words}
use Rattle.rbac_use.specs.declared.grouping.Group.{Group}
use Rattle.rbac_use.specs.declared.grouping.Pair.{Pair}
use Rattle.rbac_use.specs.declared.grouping.RuleKey.{RuleKey}
use Rattle.rbac_use.proofs.Pushed.{contains_pushed}

-- the words of a key, turned one after another
module _ (g : Group) (first : List Pair) where
  abbrev pub TurnedOf : List Text → Pair → Type 0
  TurnedOf done x = Contains first x ⊎ (Contains done x.word × (with_words g.key g.words ≡ x.key))

  pub turned_more : (done : List Text) (word : Text) (old : List Pair) → ((x : Pair) → Contains old x ↔ TurnedOf done x) → (x : Pair) → Contains (old ++ under (with_words g.key g.words) word ∷ []) x ↔ TurnedOf (done ++ word ∷ []) x
  turned_more done word old are x =
      let y = under (with_words g.key g.words) word in
      let more = contains_pushed old y x in (
        λ c. elim (more.0 c) [
          | inl o ↦ elim ((are x).0 o) [ inl a ↦ inl a | inr h ↦ inr (Contains-append_left done (word ∷ []) x.word h.0, h.1) ]
          | inr e ↦ inr (subst (λ (t : Text). Contains (done ++ word ∷ []) t) (ap (λ (z : Pair). z.word) e) (Contains-push done word), ap (λ (z : Pair). z.key) e)
        ],
        λ d. more.1 (elim d [
          | inl a ↦ inl ((are x).1 (inl a))
          | inr h ↦ elim ((contains_pushed done word x.word).0 h.0) [
            | inl c ↦ inl ((are x).1 (inr (c, h.1)))
            | inr e ↦ inr (ap₂ (λ (k : RuleKey) (t : Text). under k t) h.1 e)
          ]
        ]),
      )
