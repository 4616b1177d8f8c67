use Rattle.std.proofs.Common.{ap}
use Rattle.rbac_streams.specs.Streams.{PageView}
use Rattle.rbac_streams.proofs.page.Page.written.Goals as goal

pub returns : goal.returns
returns c = ap (λ (p : PageView). p.written) c.self.view_is
