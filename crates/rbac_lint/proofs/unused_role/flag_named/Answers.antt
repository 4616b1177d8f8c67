use Rattle.std.proofs.Common.{refl}
use Rattle.rbac_lint.proofs.Flags.{flagged_ref}
use Rattle.rbac_lint.proofs.unused_role.flag_named.Goals as goal

pub returns-in-Some : goal.returns-in-Some
returns-in-Some c =
    let w = c.in-Some.ensures in
    flagged_ref c.args.objects.now c.args.binding.now c.place_among.result w.0 c.args.named.now.items _ c.place_among.ensures.held (c.place_among.ensures.same w.0 w.1) w.2 c.requires refl
