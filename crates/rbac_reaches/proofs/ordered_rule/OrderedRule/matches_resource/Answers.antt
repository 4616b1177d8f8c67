use Rattle.std.proofs.Common.{inl, inr, IsTrue}
use Rattle.std.proofs.lemmas.Bool.{both_ways}
use Rattle.rbac_reaches.proofs.WildcardLemmas.{resource_looked_up}
use Rattle.rbac_reaches.proofs.ordered_rule.OrderedRule.matches_resource.Goals as goal

pub returns-then-matches : goal.returns-then-matches
returns-then-matches c =
    let words = rw c.self.invariant.1 at c.matches.ensures in
    let both = resource_looked_up c.self.inside.rule.now.resources c.self.inside.subresources.items c.args.text.now (IsTrue c.matches.result) _ c.self.invariant.4 words (λ a. a, λ a. a) in
    rw (← c.self.view_is) (λ h. both.0 (inl c.if-matches.true), λ a. c.if-matches.true)

pub returns-else-matches : goal.returns-else-matches
returns-else-matches c =
    let words = rw c.self.invariant.1 at c.matches.ensures in
    let parts = rw c.as_slice.ensures.value at c.has_subresource_of.ensures in
    let both = resource_looked_up c.self.inside.rule.now.resources c.self.inside.subresources.items c.args.text.now (IsTrue c.matches.result) (IsTrue c.has_subresource_of.result) c.self.invariant.4 words parts in
    rw (← c.self.view_is) (λ h. both.0 (inr h), λ a. elim (both.1 a) [ inl p ↦ absurd (both_ways _ c.if-matches.false p) | inr q ↦ q ])
