use Rattle.rbac_matrix.proofs.GoingLemmas.{meter_few}
use Rattle.rbac_matrix.proofs.enumeration.Rows.meter.Goals as goal

pub returns-clause-high : goal.returns-clause-high
returns-clause-high c = λ entered n e touched.
    meter_few c.args.self.now.index.now c.args.self.now.universe.now c.args.self.now.reaches.now c.args.self.now.start c.args.self.now.sought c.args.self.now.at c.args.self.now.from 0 c.args.self.now.seats.now c.requires.rows c.args.self.now.meter
    c.requires.policy c.requires.universe c.requires.reaches c.requires.ready c.requires.metered e.behind entered n e.whole e.last touched
