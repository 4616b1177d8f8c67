use Rattle.rbac_cli.proofs.exports.exports_from.Goals as goal

pub returns-in-Diff-clause-ok : goal.returns-in-Diff-clause-ok
returns-in-Diff-clause-ok c = rw c.in-Diff.is (c.pair_from.ensures.ok c.args.log.now)
