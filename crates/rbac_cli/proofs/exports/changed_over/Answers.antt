use Rattle.std.proofs.Common.{length}
use Rattle.rbac_cli.proofs.Loads.{fault_within, number_fits}
use Rattle.rbac_cli.proofs.exports.changed_over.Goals as goal

pub moved_behind-requires : goal.moved_behind-requires
moved_behind-requires c =
    number_fits (length c.args.without.now) 18446744073709551616 c.args.over.now c.in-Err.fault c.requires
    (λ refused. fault_within c.args.over.now c.in-Err.fault (c.in-Err.ensures.fault refused)) c.in-Err.ensures.memory
