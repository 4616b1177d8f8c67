use Rattle.rbac_catalogue.proofs.Meaning.{only_one}
use Rattle.rbac_catalogue.proofs.catalogue.Catalogue.resolve_word.Goals as goal

pub returns-clause-only : goal.returns-clause-only
returns-clause-only c =
    only_one c.args.self.now.entries c.args.word.now c.resource_meant.result (rw c.entries.ensures at c.resource_meant.ensures)
