use Rattle.std.proofs.Common.{◌<◌, length, arith, refl, ap}
use Rattle.std.proofs.lemmas.Option.{slice_get_read}
use Rattle.rbac_model.proofs.NamesIn.{none_named_yet, named_more, named_same, all_named}
use Rattle.rbac_model.proofs.aggregation.names_in.Goals as goal
use Rattle.rbac_model.proofs.aggregation.names_in.Goals.{then-has+in_ok-clone+in_ok-push, else-has}

pub loop-at-init : goal.loop-at-init
loop-at-init c = rw c.new-names.ensures (none_named_yet _ _)

pub loop-at-preserved : goal.loop-at-preserved
loop-at-preserved c =
    let in_range : c.loop-at.at < length c.cluster_roles-role-items.result.now = omega arith in
    let read = rw c.cluster_roles-role-items.ensures.cluster_roles at (slice_get_read _ _ _ _ refl in_range c.role-item.is) in
    let more = named_more c.args.objects.now c.args.places.now c.loop-at.names c.loop-at.at c.role-item.result c.cluster_roles-role-items.ensures.held read in
    elim c.if-has.branch [
      | then-has+in_ok-clone+in_ok-push w ↦
          rw (w.names-is, w.in_ok-push.ensures.ok, w.in_ok-clone.ensures.cases) (more (c.has.ensures.0 w.if-has.true) c.loop-at.invariant)
      | else-has w ↦ rw w.names-is (named_same c.args.objects.now c.args.places.now c.loop-at.names c.loop-at.at (λ m. let yes = c.has.ensures.1 m in let no = w.if-has.false in cc) c.loop-at.invariant)
    ]

pub returns : goal.returns
returns c = all_named _ _ _ _ (let l = ap length c.cluster_roles-role-items.ensures.cluster_roles in omega (arith, l)) c.loop-at.invariant
