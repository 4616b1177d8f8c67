-- Grants of the same rules in the same scope take the same words.
use Rattle.std.proofs.Common.{◌≡◌, ◌∙◌, ◌↔◌, ◌<◌, ℕ, List, Option, Some, Any, get_or, length, slice_get, subst, sym}
use Rattle.std.proofs.lemmas.Grind.{get_or_default_zero}
use Rattle.std.proofs.lemmas.Option.{same_Some}
use Rattle.rbac_terms.specs.Text.{Text}
use Rattle.rbac_model.proofs.OwnWords.{any_from}
use Rattle.rbac_model.specs.Policies.{GrantView, PolicyView, SourcedRule, grant_at}
use Rattle.rbac_model.specs.declared.places.GrantPlace.{GrantPlace}
use Rattle.rbac_paths.specs.SharedWords.{GrantTakesWord, StepTakesWord, TakeSameWords}
use Rattle.rbac_steps.specs.declared.steps.Step.{Step}
use Rattle.rbac_paths.proofs.RuleTakeovers.{rule_of_grant}

module _ (p : PolicyView) where
  -- both grants take the same words
  abbrev pub TakeAlike : ℕ → ℕ → Type 0
  TakeAlike m n = (steps : List Step) (w : Text) → GrantTakesWord p steps w m ↔ GrantTakesWord p steps w n

  -- the rule is that of the place
  pub rules_alike : (a b : GrantPlace) (g h : GrantView) → grant_at p.held a ≡ Some g → grant_at p.held b ≡ Some h → a.role ≡ b.role → a.rule ≡ b.rule → g.rule ≡ h.rule
  rules_alike a b g h at there role rule =
      same_Some g.rule h.rule (sym (rule_of_grant p.held a g at) ∙ rw (role, rule) (rule_of_grant p.held b h there))

  one_way : (m n : ℕ) (g h : GrantView) → slice_get p.grants m ≡ Some g → slice_get p.grants n ≡ Some h → g.rule ≡ h.rule → g.binding.namespace ≡ h.binding.namespace
      → (steps : List Step) (w : Text) → GrantTakesWord p steps w m → GrantTakesWord p steps w n
  one_way m n g h at there rule home steps w t = (
    h,
    there,
    subst (λ (r : SourcedRule). Any (StepTakesWord h.binding.namespace r.rule w) steps) rule
        (subst (λ (o : Option Text). Any (StepTakesWord o g.rule.rule w) steps) home
        (subst (λ (v : GrantView). Any (StepTakesWord v.binding.namespace v.rule.rule w) steps) (same_Some t.0 g (sym t.1 ∙ at)) t.2)),
  )

  pub alike : (m n : ℕ) (g h : GrantView) → slice_get p.grants m ≡ Some g → slice_get p.grants n ≡ Some h → g.rule ≡ h.rule → g.binding.namespace ≡ h.binding.namespace → TakeAlike m n
  alike m n g h at there rule home steps w =
      (one_way m n g h at there rule home steps w, one_way n m h g there at (sym rule) (sym home) steps w)

  -- grants that take the same words one by one
  among : (ms ns : List ℕ) → length ms ≡ length ns → ((k : ℕ) → k < length ms → TakeAlike (get_or ms k 0) (get_or ns k 0)) → (steps : List Step) (w : Text)
      → Any (GrantTakesWord p steps w) ms → Any (GrantTakesWord p steps w) ns
  among ms ns len each steps w a =
      let k = a.0 in
      let low : k < length ns = subst (λ (n : ℕ). k < n) len a.2 in
      let here = subst (GrantTakesWord p steps w) (sym a.3 ∙ get_or_default_zero ms k a.1 a.2) a.4 in
      any_from (GrantTakesWord p steps w) ns (get_or ns k 0) (k, low, get_or_default_zero ns k (get_or ns k 0) low) ((each k a.2 steps w).0 here)

  pub same_words : (ms ns : List ℕ) → length ms ≡ length ns → ((k : ℕ) → k < length ms → TakeAlike (get_or ms k 0) (get_or ns k 0)) → TakeSameWords p ms ns
  same_words ms ns len each steps w =
      (among ms ns len each steps w, among ns ms (sym len) (λ k low t v. (let e = each k (rw len low) t v in (e.1, e.0))) steps w)
