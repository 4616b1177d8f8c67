use Rattle.std.proofs.Common.{ap}
use Rattle.rbac_streams.specs.Streams.{SinkView}
use Rattle.rbac_streams.proofs.sink.Sink.taken.Goals as goal

pub returns : goal.returns
returns g c = ap (λ (s : SinkView g.row.W.Denot). s.taken) c.self.view_is
