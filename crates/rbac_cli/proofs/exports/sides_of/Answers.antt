use Rattle.std.proofs.Common.{◌∙◌, List, inl, inr, length, subst}
use Rattle.std.proofs.lemmas.Result.{err_from_is_err_and}
use Rattle.rbac_model.specs.declared.objects.Object.{Object}
use Rattle.rbac_manifest.specs.Changed.{IsResolved}
use Rattle.rbac_manifest.specs.Load.{HasTooManyGrants}
use Rattle.rbac_cli.proofs.Loads.{after_memory, after_ok, after_refused, moved_cause, moved_memory, number_fits, side_within}
use Rattle.rbac_cli.proofs.exports.sides_of.Goals as goal

pub moved_behind-requires : goal.moved_behind-requires
moved_behind-requires c =
    let same = c.as_slice.ensures.value ∙ c.in_ok-objects.ensures.ok.1 in
    let changed = c.changed_by-changed in
    number_fits (length c.args.first.now) 18446744073709551616 c.args.others.now c.in-Err.fault c.requires
    (λ refused. side_within c.args.others.now _ c.in-Err.fault (after_refused c.args.change c.args.first.now c.args.others.now c.as_slice.result.now changed.result c.in-Err.fault same
    changed.ensures.ok changed.ensures.fault c.in-Err.ensures.fault refused))
    (after_memory changed.result c.in-Err.fault changed.ensures.memory c.in-Err.ensures.memory)

pub returns-in-Ok-clause-ok : goal.returns-in-Ok-clause-ok
returns-in-Ok-clause-ok c =
    let same = c.as_slice.ensures.value ∙ c.in_ok-objects.ensures.ok.1 in
    let changed = c.changed_by-changed in (
      (c.in_ok-objects.ensures.ok.0, subst (λ (os : List Object). IsResolved os c.in_ok-old.old) c.in_ok-objects.ensures.ok.1 c.in_ok-old.ensures.ok),
      after_ok c.args.change c.args.first.now c.args.others.now c.as_slice.result.now changed.result c.in-Ok.new same changed.ensures.ok c.in-Ok.ensures.ok,
    )

pub returns-in_err-old-clause-fault : goal.returns-in_err-old-clause-fault
returns-in_err-old-clause-fault c =
    let p = err_from_is_err_and c.from_residual-in_err-old.result c.from_residual-in_err-old.ensures.1 in
    rw (p.1, p.2) (λ refused. inl (inr (
      c.in_ok-objects.ensures.ok.0,
      subst (λ (os : List Object). HasTooManyGrants os c.in_err-old.field-0.0) c.in_ok-objects.ensures.ok.1 (c.in_err-old.ensures.fault refused),
    )))

pub returns-in-Err-clause-fault : goal.returns-in-Err-clause-fault
returns-in-Err-clause-fault c = λ refused.
    let same = c.as_slice.ensures.value ∙ c.in_ok-objects.ensures.ok.1 in
    let changed = c.changed_by-changed in
    let own = moved_cause _ c.in-Err.fault c.moved_behind.result c.moved_behind.ensures refused in
    inr (
      (c.in_ok-old.old, (c.in_ok-objects.ensures.ok.0, subst (λ (os : List Object). IsResolved os c.in_ok-old.old) c.in_ok-objects.ensures.ok.1 c.in_ok-old.ensures.ok)),
      (
        c.in-Err.fault,
        after_refused c.args.change c.args.first.now c.args.others.now c.as_slice.result.now changed.result c.in-Err.fault same changed.ensures.ok changed.ensures.fault c.in-Err.ensures.fault own,
        c.moved_behind.ensures,
      ),
    )

pub returns-in-Err-clause-memory : goal.returns-in-Err-clause-memory
returns-in-Err-clause-memory c =
    moved_memory _ c.in-Err.fault c.moved_behind.result c.moved_behind.ensures
    (after_memory c.changed_by-changed.result c.in-Err.fault c.changed_by-changed.ensures.memory c.in-Err.ensures.memory)
