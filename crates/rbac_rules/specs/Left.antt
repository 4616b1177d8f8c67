-- The rules that an iteration has left.
use Rattle.std.specs.Prelude.{◌≡◌, ◌<◌, ◌↔◌, List, [], ◌∷◌, Option, Some, MatchOption, length}
use Rattle.std.specs.Prelude.{slice_get}
use Rattle.std.specs.Iterator.{Count, at_most}
use Rattle.rbac_terms.specs.Principals.{Who}
use Rattle.rbac_terms.specs.declared.granting.Binding.{Binding}
use Rattle.rbac_terms.specs.declared.scope.Scope.{Scope}
use Rattle.rbac_model.specs.Policies.{GrantView}
use Rattle.rbac_model.specs.Sources.{grant_of}
use Rattle.rbac_rules.specs.Effective.{RuleView, AreRulesBy}
use Rattle.rbac_rules.specs.declared.effective.EffectiveRule.{EffectiveRule}

-- what contracts see of an effective rule
abbrev pub rule_shown : EffectiveRule → RuleView
rule_shown x = record { grant = grant_of x.grant; subject_place = x.subject_place }

-- what contracts see of an iteration: whose rules, in which scope, the policy's bindings, and the
-- grants that haven't been passed
pub record LeftView : Type 0 where
  pub who : Who
  pub scope : Scope
  pub bindings : List Binding
  pub grants : List GrantView

-- these rules are left
abbrev pub AreRulesLeft : LeftView → List RuleView → Type 0
AreRulesLeft v xs = AreRulesBy v.who v.scope v.grants xs

-- x was the first rule that was left, with the place of its binding, and the other rules are left
-- now
pub record IsTaken (old new : LeftView) (x : EffectiveRule) : Type 0 where
  pub who : new.who ≡ old.who
  pub scope : new.scope ≡ old.scope
  pub bindings : new.bindings ≡ old.bindings
  pub place : slice_get old.bindings x.grant.binding_place ≡ Some x.grant.binding.now
  pub fewer : length new.grants < length old.grants
  pub left : (all : List RuleView) → AreRulesLeft old all
      ↔ ((others : List RuleView) × (all ≡ rule_shown x ∷ others) × AreRulesLeft new others)

-- a call gave the first of the rules that were left, or nothing if none was left
abbrev pub GivesRule : LeftView → Option EffectiveRule → LeftView → Type 0
GivesRule old r new =
    MatchOption r (AreRulesLeft old [] × (new ≡ old)) (λ x. IsTaken old new x)

-- how many grants haven't been passed; at most as many rules are left
abbrev pub rules_left_at_most : LeftView → Count
rules_left_at_most v = at_most (length v.grants)
