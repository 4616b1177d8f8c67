use Rattle.std.proofs.lemmas.Result.{on_ok_weaker}
use Rattle.rbac_terms.proofs.Groups.{given_more}
use Rattle.rbac_terms.proofs.request.Principal.give.Goals as goal

pub returns-clause-given : goal.returns-clause-given
returns-clause-given c =
    rw (← c.self.view_is, ← c.more.view_is) (on_ok_weaker c.append.result (λ e. rw e (given_more c.self.inside.is_user c.more.inside.is_user c.self.inside.key c.more.inside.key c.self.inside.given c.more.inside.given (rw (← c.self.view_is, ← c.more.view_is) at c.requires))) c.append.ensures.ok)
