use Rattle.rbac_matrix.proofs.GoingLemmas.{meter_few}
use Rattle.rbac_matrix.proofs.every_rows.EveryRows.meter.Goals as goal

pub returns-clause-high : goal.returns-clause-high
returns-clause-high c = λ entered n e touched.
    meter_few c.args.self.now.rows.index.now c.args.self.now.rows.universe.now c.args.self.now.rows.reaches.now c.args.self.now.rows.start c.args.self.now.rows.sought c.args.self.now.rows.at c.args.self.now.rows.from c.args.self.now.upto c.args.self.now.rows.seats.now c.requires.way.rows c.args.self.now.rows.meter
    c.requires.way.policy c.requires.way.universe c.requires.way.reaches c.requires.way.ready c.requires.way.metered e.behind entered n e.whole e.last touched
