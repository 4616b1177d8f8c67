use Rattle.rbac_lint.proofs.Listed.{takes_push}
use Rattle.rbac_lint.proofs.rules_by_word.Places.take_in.Goals as goal

pub returns : goal.returns
returns c = rw (← c.self.view_is) (takes_push c.self.inside.items.items c.push.new.self.items c.args.place c.in_ok-push.ensures.items)
