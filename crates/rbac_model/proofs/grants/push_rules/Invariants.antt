use Rattle.std.proofs.Common.{◌≡◌, ◌+◌, ◌++◌, vec_len}
use Rattle.rbac_model.specs.Places.{places_of}
use Rattle.rbac_model.proofs.grants.push_rules.Given as goal

abbrev pub invariant-loop-rule : goal.invariant-loop-rule
invariant-loop-rule l = record {
  items : l.grants.items ≡ l.initial.grants.items ++ places_of l.binding l.role l.rule;
  len : vec_len l.grants ≡ vec_len l.initial.grants + l.rule;
}
