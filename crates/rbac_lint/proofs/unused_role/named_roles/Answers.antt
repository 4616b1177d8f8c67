use Rattle.std.proofs.Common.{arith, refl}
use Rattle.std.proofs.lemmas.Option.{slice_get_read}
use Rattle.rbac_lint.proofs.Flags.{flags_more, flags_named}
use Rattle.rbac_lint.proofs.unused_role.named_roles.Goals as goal

pub loop-binding-preserved : goal.loop-binding-preserved
loop-binding-preserved c =
    let bindings = c.bindings-bindings.result.now in
    flags_more c.args.objects.now bindings c.loop-binding.binding-index c.binding-item.result c.loop-binding.named.items _
    (slice_get_read bindings _ c.loop-binding.binding-index c.binding-item.result refl c.loop-binding-test.true c.binding-item.is) c.loop-binding.invariant c.flag_named.ensures

pub returns : goal.returns
returns c =
    flags_named c.args.objects.now c.bindings-bindings.result.now c.loop-binding.binding-index c.loop-binding.named.items c.bindings-bindings.ensures.bindings (omega arith) c.loop-binding.invariant
