use Rattle.rbac_reaches.proofs.meter.Meter.count.Goals as goal

pub returns : goal.returns
returns c = c.self.view_is
