use Rattle.std.proofs.Common.{refl}
use Rattle.std.proofs.lemmas.Option.{slice_get_within}
use Rattle.rbac_model.specs.Sources.{grant_of}
use Rattle.rbac_index.proofs.DecidingLemmas.{none_allowed, one_first}
use Rattle.rbac_index.proofs.deciding.by_binding.Goals as goal

pub grant-grant-requires : goal.grant-grant-requires
grant-grant-requires c = let by = c.in-Some-first_allowing.ensures.0.0 in slice_get_within c.args.policy.now.grants c.in-Some-first_allowing.no by.0 by.1

pub returns-clause-why : goal.returns-clause-why
returns-clause-why c =
    one_first c.args.policy.now c.args.principal.now c.args.verb.now c.args.target.now c.args.place c.in-Some-first_allowing.no c.in-Some.subject_place c.binding_at-binding.result.now (grant_of c.grant-grant.result) _
    c.binding_at-binding.ensures.binding c.in-Some-first_allowing.ensures c.grant-grant.ensures.grant c.in-Some.ensures refl refl refl refl

pub returns-in_default-first_allowing-clause-why : goal.returns-in_default-first_allowing-clause-why
returns-in_default-first_allowing-clause-why c =
    none_allowed c.args.policy.now c.args.principal.now c.args.verb.now c.args.target.now c.args.place c.in_default-first_allowing.ensures
