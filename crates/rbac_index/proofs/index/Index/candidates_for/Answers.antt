use Rattle.rbac_index.specs.HolderViews.{requested_of}
use Rattle.rbac_index.proofs.IndexLemmas.{have_numbers, urls_within, found_within, urls_asked, listed_asked}
use Rattle.rbac_index.proofs.index.Index.candidates_for.Goals as goal

pub allowed_by-requires-clause-rules : goal.allowed_by-requires-clause-rules
allowed_by-requires-clause-rules c =
    rw (c.as_slice-places.ensures, c.as_slice-rules.ensures.value) (urls_within c.self.inside.policy.now c.self.inside.listed.rules.items c.self.inside.listed.lists c.self.inside.starts.items c.self.invariant.0 c.args.verb.now)

pub allowed_by-requires-clause-numbers : goal.allowed_by-requires-clause-numbers
allowed_by-requires-clause-numbers c =
    rw (c.as_slice-rules.ensures.value, c.as_slice-starts.ensures.value) (have_numbers c.self.inside.policy.now c.self.inside.listed.rules.items c.self.inside.listed.lists c.self.inside.starts.items c.self.invariant.0)

pub allowed_by-requires-else-is_url-clause-rules : goal.allowed_by-requires-else-is_url-clause-rules
allowed_by-requires-else-is_url-clause-rules c =
    rw (c.as_slice.ensures.value, c.as_slice-rules.ensures.value) (found_within c.self.inside.policy.now c.self.inside.listed.rules.items c.self.inside.listed.lists c.self.inside.starts.items c.self.invariant.0 c.args.verb.now c.text.result.now c.in_ok-places.places.items c.in_ok-places.ensures)

pub allowed_by-requires-else-is_url-clause-numbers : goal.allowed_by-requires-else-is_url-clause-numbers
allowed_by-requires-else-is_url-clause-numbers c =
    rw (c.as_slice-rules.ensures.value, c.as_slice-starts.ensures.value) (have_numbers c.self.inside.policy.now c.self.inside.listed.rules.items c.self.inside.listed.lists c.self.inside.starts.items c.self.invariant.0)

pub returns-then-is_url : goal.returns-then-is_url
returns-then-is_url c =
    rw (← c.self.view_is) (urls_asked c.self.inside.policy.now c.self.inside.listed.rules.items c.self.inside.listed.lists c.self.inside.starts.items c.self.invariant.0 c.args.verb.now (requested_of c.args.requested) c.allowed_by.result
    (rw c.target-target.ensures at c.if-is_url.ensures) c.allowed_by.ensures.ascending (rw (← c.as_slice-rules.ensures.value, ← c.as_slice-starts.ensures.value, ← c.as_slice-places.ensures) c.allowed_by.ensures.exact))

pub returns-in_ok-places : goal.returns-in_ok-places
returns-in_ok-places c =
    rw (← c.self.view_is) (listed_asked c.self.inside.policy.now c.self.inside.listed.rules.items c.self.inside.listed.lists c.self.inside.starts.items c.self.invariant.0 c.args.verb.now (requested_of c.args.requested) c.in_ok-places.places.items c.allowed_by-else-is_url.result
    (rw c.target-target.ensures at c.if-is_url.ensures) (rw (← c.target-target.ensures, ← c.text.ensures.text) c.in_ok-places.ensures) c.allowed_by-else-is_url.ensures.ascending (rw (← c.as_slice-rules.ensures.value, ← c.as_slice-starts.ensures.value, ← c.as_slice.ensures.value) c.allowed_by-else-is_url.ensures.exact))
