use Rattle.std.proofs.Common.{inl, inr, subst}
use Rattle.std.specs.Prelude.{None, Some}
use Rattle.rbac_model.specs.Policies.{IsPolicy}
use Rattle.rbac_matrix.proofs.EveryStartLemmas.{below_none, key_own, key_whole, own_few, own_settled_at, own_within, start_own, start_parts, start_whole}
use Rattle.rbac_matrix.proofs.every_start.every_start.Goals as goal

pub returns-in_default-clause-settled : goal.returns-in_default-clause-settled
returns-in_default-clause-settled c = c.whole_start.ensures.settled

pub returns-in_default-clause-few : goal.returns-in_default-clause-few
returns-in_default-clause-few c = c.whole_start.ensures.few

pub returns-in_default-clause-start : goal.returns-in_default-clause-start
returns-in_default-clause-start c = λ policy is. rw (c.in_default.is, c.whole_start.ensures.whole.0) (start_whole c.args.index.now policy c.args.universe.now is None c.whole_start.result.request.at c.whole_start.result.request.from tt c.whole_start.ensures.start)

pub returns-in_default-clause-key : goal.returns-in_default-clause-key
returns-in_default-clause-key c = rw c.in_default.is (key_whole c.args.universe.now _ c.whole_start.result.request.at c.whole_start.result.request.from c.whole_start.ensures.start c.whole_start.ensures.line)

pub returns-in_default-clause-below : goal.returns-in_default-clause-below
returns-in_default-clause-below c = rw (c.whole_start.ensures.whole.0, c.whole_start.ensures.whole.1) (below_none c.args.index.now)

pub returns-in_default-clause-within : goal.returns-in_default-clause-within
returns-in_default-clause-within c = inl c.whole_start.ensures.whole.0

pub returns-in_default-binding-clause-settled : goal.returns-in_default-binding-clause-settled
returns-in_default-binding-clause-settled c = c.whole_start-in_default-binding.ensures.settled

pub returns-in_default-binding-clause-few : goal.returns-in_default-binding-clause-few
returns-in_default-binding-clause-few c = c.whole_start-in_default-binding.ensures.few

pub returns-in_default-binding-clause-start : goal.returns-in_default-binding-clause-start
returns-in_default-binding-clause-start c = λ policy is. rw (c.in-Some.is, c.whole_start-in_default-binding.ensures.whole.0) (start_whole c.args.index.now policy c.args.universe.now is (Some c.in-Some.mark.now) c.whole_start-in_default-binding.result.request.at c.whole_start-in_default-binding.result.request.from (inl c.in_default-binding.is) c.whole_start-in_default-binding.ensures.start)

pub returns-in_default-binding-clause-key : goal.returns-in_default-binding-clause-key
returns-in_default-binding-clause-key c = rw c.in-Some.is (key_whole c.args.universe.now _ c.whole_start-in_default-binding.result.request.at c.whole_start-in_default-binding.result.request.from c.whole_start-in_default-binding.ensures.start c.whole_start-in_default-binding.ensures.line)

pub returns-in_default-binding-clause-below : goal.returns-in_default-binding-clause-below
returns-in_default-binding-clause-below c = rw (c.whole_start-in_default-binding.ensures.whole.0, c.whole_start-in_default-binding.ensures.whole.1) (below_none c.args.index.now)

pub returns-in_default-binding-clause-within : goal.returns-in_default-binding-clause-within
returns-in_default-binding-clause-within c = inl c.whole_start-in_default-binding.ensures.whole.0

pub returns-in_default-own_request-clause-settled : goal.returns-in_default-own_request-clause-settled
returns-in_default-own_request-clause-settled c = c.whole_start-in_default-own_request.ensures.settled

pub returns-in_default-own_request-clause-few : goal.returns-in_default-own_request-clause-few
returns-in_default-own_request-clause-few c = c.whole_start-in_default-own_request.ensures.few

pub returns-in_default-own_request-clause-start : goal.returns-in_default-own_request-clause-start
returns-in_default-own_request-clause-start c = λ policy is. rw (c.in-Some.is, c.whole_start-in_default-own_request.ensures.whole.0) (start_whole c.args.index.now policy c.args.universe.now is (Some c.in-Some.mark.now) c.whole_start-in_default-own_request.result.request.at c.whole_start-in_default-own_request.result.request.from (inr c.in_default-own_request.ensures.found) c.whole_start-in_default-own_request.ensures.start)

pub returns-in_default-own_request-clause-key : goal.returns-in_default-own_request-clause-key
returns-in_default-own_request-clause-key c = rw c.in-Some.is (key_whole c.args.universe.now _ c.whole_start-in_default-own_request.result.request.at c.whole_start-in_default-own_request.result.request.from c.whole_start-in_default-own_request.ensures.start c.whole_start-in_default-own_request.ensures.line)

pub returns-in_default-own_request-clause-below : goal.returns-in_default-own_request-clause-below
returns-in_default-own_request-clause-below c = rw (c.whole_start-in_default-own_request.ensures.whole.0, c.whole_start-in_default-own_request.ensures.whole.1) (below_none c.args.index.now)

pub returns-in_default-own_request-clause-within : goal.returns-in_default-own_request-clause-within
returns-in_default-own_request-clause-within c = inl c.whole_start-in_default-own_request.ensures.whole.0

pub returns-clause-settled : goal.returns-clause-settled
returns-clause-settled c = own_settled_at c.args.universe.now c.in-Some.mark.now.key c.in-Some-own_request.request.at c.in-Some-own_request.request.from c.in-Some-own_request.ensures.found

pub returns-clause-few : goal.returns-clause-few
returns-clause-few c = own_few c.args.universe.now c.in-Some.mark.now.key c.in-Some-own_request.request.at c.in-Some-own_request.request.from c.in-Some-own_request.ensures.found c.own_request.ensures.few

pub returns-clause-start : goal.returns-clause-start
returns-clause-start c = λ policy is. rw c.in-Some.is (start_parts c.args.index.now.held c.args.universe.now c.in-Some.mark.now c.in-Some-binding.name c.in-Some-own_request.request.at c.in-Some-own_request.request.from c.place_past-binding.result c.in-Some-binding.is
    (start_own c.args.index.now policy c.args.universe.now is c.in-Some.mark.now.key c.in-Some-own_request.request.at c.in-Some-own_request.request.from c.in-Some-own_request.ensures.found c.in-Some-binding.name c.place_past-binding.result
    (rw (c.bindings.ensures.bindings, c.policy.ensures) at c.place_past-binding.ensures)))

pub returns-clause-key : goal.returns-clause-key
returns-clause-key c = rw c.in-Some.is (key_own c.args.index.now (subst IsPolicy c.policy.ensures c.bindings.ensures.policy) c.args.universe.now c.own_request.ensures.universe c.in-Some.mark.now.key c.in-Some-own_request.request.at c.in-Some-own_request.request.from c.in-Some-own_request.ensures.found)

pub returns-clause-within : goal.returns-clause-within
returns-clause-within c = inr (own_within c.args.universe.now c.in-Some.mark.now.key c.in-Some-own_request.request.at c.in-Some-own_request.request.from c.in-Some-own_request.ensures.found)
