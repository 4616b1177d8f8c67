use Rattle.rbac_index.proofs.ReasonLemmas.{by_a_key, no_later, why_member}
use Rattle.rbac_index.proofs.laws.keys_explain.Goals as goal

pub returns-clause-by_a_key : goal.returns-clause-by_a_key
returns-clause-by_a_key c = λ p who namespace verb t. by_a_key p namespace verb t who

pub returns-clause-no_later : goal.returns-clause-no_later
returns-clause-no_later c = λ p who namespace verb t. no_later p namespace verb t who

pub returns-clause-member : goal.returns-clause-member
returns-clause-member c = λ p group namespace verb t. why_member p namespace verb t group
