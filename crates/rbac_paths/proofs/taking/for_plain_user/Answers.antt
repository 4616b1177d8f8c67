use Rattle.std.proofs.Common.{refl}
use Rattle.rbac_paths.proofs.Asking.{is_named, is_none_named, no_account, no_user, plain_user}
use Rattle.rbac_paths.proofs.taking.for_plain_user.Goals.{else-is_user-via-then-is_user+else-is_none, else-is_user-via-else-is_user}
use Rattle.rbac_paths.proofs.taking.for_plain_user.Goals as goal

pub returns-then-is_none : goal.returns-then-is_none
returns-then-is_none c counts = plain_user counts c.args.who.now c.name.result.now (c.if-is_user.ensures.0 refl)
    (is_none_named c.args.who.now c.account_parts.result c.if-is_none.ensures c.account_parts.ensures) c.name.ensures.name

pub returns-else-is_user : goal.returns-else-is_user
returns-else-is_user c counts namespace own a = elim c.else-is_user.branch [
  | else-is_user-via-then-is_user+else-is_none w ↦
      (let is = is_named c.args.who.now w.account_parts.result w.if-is_none.ensures w.account_parts.ensures in no_account counts c.args.who.now is.0 is.1 is.2 namespace own a)
  | else-is_user-via-else-is_user w ↦ no_user counts c.args.who.now (λ is. (let both = w.if-is_user.ensures.1 is in cc)) namespace own a
]
