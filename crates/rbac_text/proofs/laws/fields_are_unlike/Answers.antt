use Rattle.rbac_text.proofs.Unlike.{field_text-one, field_text-plain}
use Rattle.rbac_text.proofs.laws.fields_are_unlike.Goals as goal

pub returns-clause-one : goal.returns-clause-one
returns-clause-one c = field_text-one

pub returns-clause-plain : goal.returns-clause-plain
returns-clause-plain c = field_text-plain
