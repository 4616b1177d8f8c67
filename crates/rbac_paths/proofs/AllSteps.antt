-- The powers of several steps, one step after the other.
use Rattle.std.proofs.Common.{◌≡◌, ◌++◌, ◌∷◌, [], ◌∙◌, List, Any, Contains, length, ap, arith, inl, inr, refl, subst, sym, append_assoc, append-nil}
use Rattle.std.proofs.lemmas.List.Elements.{Contains-append_cases, Contains-append_left, Contains-append_right}
use Rattle.rbac_model.proofs.OwnWords.{any_from}
use Rattle.rbac_model.specs.Policies.{PolicyView}
use Rattle.rbac_paths.specs.Finding.{AreWithGrants}
use Rattle.rbac_paths.specs.Powers.{ArePowersIn, ArePowersOf, GivesStep, IsPower, PowerView}
use Rattle.rbac_steps.specs.declared.steps.Step.{Step}
use Rattle.rbac_paths.proofs.Choosing.{among, only}

-- the powers of these steps, with the powers by each grant among them
pub record ArePowersTo (p : PolicyView) (steps : List Step) (xs : List PowerView) : Type 0 where
  pub powers : ArePowersIn p steps xs
  pub grants : (step : Step) → Contains steps step → AreWithGrants p step xs

-- no powers for no steps
pub to_none : (p : PolicyView) (xs : List PowerView) → xs ≡ [] → ArePowersTo p [] xs
to_none p xs none = record { powers = none; grants = λ step c. absurd (omega (arith, c.1)) }

one_more : (p : PolicyView) (steps : List Step) (step : Step) (xs own : List PowerView) → ArePowersIn p steps xs → ArePowersOf p step own → ArePowersIn p (steps ++ step ∷ []) (xs ++ own)
one_more p [] step xs own none are = (own, [], are, refl, ap (λ (ys : List PowerView). ys ++ own) none ∙ sym (append-nil own))
one_more p (s ∷ steps) step xs own (first, rest, of, others, is) are = (
  first,
  rest ++ own,
  of,
  one_more p steps step rest own others are,
  ap (λ (ys : List PowerView). ys ++ own) is ∙ append_assoc first rest own,
)

module _ {X : Type 0} (P : X → Type 0) (xs ys : List X) where
  any_left : Any P xs → Any P (xs ++ ys)
  any_left a = any_from P (xs ++ ys) a.1 (Contains-append_left xs ys a.1 (a.0, a.2, a.3)) a.4

  any_right : Any P ys → Any P (xs ++ ys)
  any_right a = any_from P (xs ++ ys) a.1 (Contains-append_right xs ys a.1 (a.0, a.2, a.3)) a.4

-- the powers of one more step
pub to_next : (p : PolicyView) (steps : List Step) (step : Step) (xs own : List PowerView) → ArePowersTo p steps xs → ArePowersOf p step own → AreWithGrants p step own → ArePowersTo p (steps ++ step ∷ []) (xs ++ own)
to_next p steps step xs own to are with_own = record {
  powers = one_more p steps step xs own to.powers are;
  grants = λ s c n g key here gives has.
      (let P : Step → PowerView → Type 0 = λ s x. (x.step ≡ s) × (x.who ≡ key) × (x.grant.binding.namespace ≡ g.binding.namespace) in
      elim (among steps step s c) [
        | inl before ↦ any_left (P s) xs own (to.grants s before n g key here gives has)
        | inr is ↦ any_right (P s) xs own (subst (λ (t : Step). Any (P t) own) (sym is) (with_own n g key here (subst (λ (t : Step). GivesStep t g) is gives) has))
      ]);
}

-- each listed power is a power
pub each_power : (p : PolicyView) (steps : List Step) (xs : List PowerView) → ArePowersIn p steps xs → (x : PowerView) → Contains xs x → IsPower p x
each_power p [] xs none x c = absurd (omega (arith, c.1, ap length none))
each_power p (s ∷ steps) xs (own, rest, of, others, is) x c = elim (Contains-append_cases own rest x (subst (λ (ys : List PowerView). Contains ys x) is c)) [
  | inl mine ↦ ((of.exact x).0 mine).1
  | inr later ↦ each_power p steps rest others x later
]

-- each power of one of the steps is listed
pub each_listed : (p : PolicyView) (steps : List Step) (xs : List PowerView) → ArePowersIn p steps xs → (x : PowerView) → Contains steps x.step → IsPower p x → Contains xs x
each_listed p [] xs none x c is = absurd (omega (arith, c.1))
each_listed p (s ∷ steps) xs (own, rest, of, others, e) x c is = subst (λ (ys : List PowerView). Contains ys x) (sym e) (elim (Contains-append_cases (s ∷ []) steps x.step c) [
  | inl mine ↦ Contains-append_left own rest x ((of.exact x).1 (only s x.step mine, is))
  | inr later ↦ Contains-append_right own rest x (each_listed p steps rest others x later is)
])
