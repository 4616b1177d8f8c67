use Rattle.std.proofs.Common.{inl, inr, IsTrue}
use Rattle.std.proofs.lemmas.Bool.{both_ways}
use Rattle.rbac_reaches.proofs.WildcardLemmas.{url_looked_up}
use Rattle.rbac_reaches.proofs.ordered_rule.OrderedRule.matches_url.Goals as goal

pub returns-then-contains : goal.returns-then-contains
returns-then-contains c =
    let words = rw c.self.invariant.2 at c.contains.ensures in
    let both = url_looked_up c.self.inside.rule.now.urls c.self.inside.url_prefixes.items c.args.path.now (IsTrue c.contains.result) _ c.self.invariant.5 words (λ a. a, λ a. a) in
    rw (← c.self.view_is) (λ h. both.0 (inl c.if-contains.true), λ a. c.if-contains.true)

pub returns-else-contains : goal.returns-else-contains
returns-else-contains c =
    let words = rw c.self.invariant.2 at c.contains.ensures in
    let parts = rw c.as_slice.ensures.value at c.begins_with_some.ensures in
    let both = url_looked_up c.self.inside.rule.now.urls c.self.inside.url_prefixes.items c.args.path.now (IsTrue c.contains.result) (IsTrue c.begins_with_some.result) c.self.invariant.5 words parts in
    rw (← c.self.view_is) (λ h. both.0 (inr h), λ a. elim (both.1 a) [ inl p ↦ absurd (both_ways _ c.if-contains.false p) | inr q ↦ q ])

pub begins_with_some-requires : goal.begins_with_some-requires
begins_with_some-requires c = rw c.as_slice.ensures.value c.self.invariant.5.apart
