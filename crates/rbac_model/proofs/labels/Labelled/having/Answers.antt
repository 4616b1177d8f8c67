use Rattle.std.specs.Option.{option_map}
use Rattle.rbac_model.specs.Labelled.{HasSome}
use Rattle.rbac_model.proofs.LabelSets.{with_first}
use Rattle.rbac_model.proofs.labels.Labelled.having.Goals as goal

pub returns : goal.returns
returns c =
    with_first c.args.self.now (λ own. HasSome own c.args.key.now (option_map (λ v. v.now) c.args.value)) c.put_having.new.places (rw c.new-places.ensures at c.in_ok-put_having.ensures)
