use Rattle.std.proofs.Common.{◌<◌, length, refl, arith, take}
use Rattle.std.proofs.lemmas.List.{take_all}
use Rattle.std.proofs.lemmas.Option.{slice_get_read}
use Rattle.std.proofs.lemmas.Result.{err_from_is_err_and}
use Rattle.rbac_model.specs.Policies.{grants_at, grant_at}
use Rattle.rbac_model.proofs.AllGranted.{all_granted}
use Rattle.rbac_model.proofs.Gathered.{some_sources}
use Rattle.rbac_model.proofs.Kept.{length-filter_map}
use Rattle.rbac_model.proofs.Listed.{binding_more}
use Rattle.rbac_model.proofs.OneList.{grants_from}
use Rattle.rbac_model.proofs.Stairs.{take_read}
use Rattle.rbac_model.proofs.grants.grants_of.Goals as goal

pub loop-at-preserved : goal.loop-at-preserved
loop-at-preserved c =
    let in_range : c.loop-at.at < length c.bindings-bindings.result.now = omega arith in
    let more = take_read c.bindings-bindings.result.now c.loop-at.at c.index-bindings-at.result in_range c.index-bindings-at.is in
    let a = c.in_ok-put_binding.ensures.added in
    record {
      are = rw (more, a.2.grants) (binding_more c.args.objects.now (take c.loop-at.at c.bindings-bindings.result.now) c.index-bindings-at.result (grants_at c.args.objects.now c.loop-at.grants.items) a.0 c.loop-at.invariant.are a.1);
      held = a.2.held;
      few = c.in_ok-put_binding.ensures.few;
    }

pub returns-in_err-put_binding-clause-many : goal.returns-in_err-put_binding-clause-many
returns-in_err-put_binding-clause-many c =
    let h = c.args.objects.now in
    let in_range : c.loop-at.at < length c.bindings-bindings.result.now = omega arith in
    let read = rw c.bindings-bindings.ensures.bindings at (slice_get_read _ _ _ _ refl in_range c.index-bindings-at.is) in
    let are = rw c.bindings-bindings.ensures.bindings at c.loop-at.invariant.are in
    let p = err_from_is_err_and c.from_residual.result c.from_residual.ensures.1 in
    rw (p.1, p.2) (λ e.
    let m = c.in_err-put_binding.ensures.many e in
    let all = all_granted h (some_sources h c.bindings-bindings.ensures.held c.args.reached.now c.requires) h.bindings in (
      all.0,
      all.1,
      omega (
        arith,
        m.2,
        length-filter_map (grant_at h) c.loop-at.grants.items c.loop-at.invariant.held,
        grants_from h h.bindings c.loop-at.at c.index-bindings-at.result (grants_at h c.loop-at.grants.items) m.0 all.0 c.bindings-bindings.ensures.held read are m.1 all.1,
      ),
    ))

pub put_binding-requires-clause-at : goal.put_binding-requires-clause-at
put_binding-requires-clause-at c =
    let bindings = c.bindings-bindings.result.now in
    rw c.bindings-bindings.ensures.bindings at (slice_get_read bindings (length bindings) c.loop-at.at c.index-bindings-at.result refl c.loop-at-test.true c.index-bindings-at.is)

pub returns-clause-are : goal.returns-clause-are
returns-clause-are c =
    rw c.bindings-bindings.ensures.bindings at (rw (take_all c.loop-at.at c.bindings-bindings.result.now (omega arith)) at c.loop-at.invariant.are)
