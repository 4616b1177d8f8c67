use Rattle.std.proofs.Common.{arith, refl, sym}
use Rattle.std.proofs.lemmas.Grind.{common_steps}
use Rattle.std.proofs.lemmas.List.{append-nil, take_all}
use Rattle.rbac_manifest.proofs.replacement.push_accounts.Goals as goal

pub loop-account-init : goal.loop-account-init
loop-account-init c = sym (append-nil _)

pub loop-account-preserved : goal.loop-account-preserved
loop-account-preserved c = grind (arith, common_steps)

pub returns : goal.returns
returns c = rw (c.loop-account.invariant, take_all c.loop-account.account-index c.args.accounts.now c.loop-account-test.false) refl
