use Rattle.std.proofs.Common.{◌≡◌, ℕ, ◌<◌, slice_get}
use Rattle.std.specs.Prelude.{Some}
use Rattle.std.specs.Option.{option_copied}
use Rattle.rbac_terms.specs.declared.matching.Rule.{Rule}
use Rattle.rbac_paths.specs.Aims.{Serves, aim_of}
use Rattle.rbac_paths.proofs.reason.first_rule.Given as goal

abbrev pub invariant-loop-place : goal.invariant-loop-place
invariant-loop-place l = (k : ℕ) (r : Rule) → k < l.place → slice_get l.rules k ≡ Some r → Serves (aim_of l.aim) (option_copied l.home) r → ⊥
