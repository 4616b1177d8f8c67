use Rattle.std.proofs.Common.{◌≡◌, ◌∙◌, sym, ℕ, List, ◌<◌, ◌≤◌, slice_get, ◌↔◌}
use Rattle.std.specs.Prelude.{Some, None}
use Rattle.rbac_terms.specs.declared.granting.Binding.{Binding}
use Rattle.rbac_subjects.specs.Living.{IsLiveRoleBinding}
use Rattle.rbac_index.proofs.DecidingLemmas.{decided_first, decided_second}
use Rattle.rbac_index.proofs.deciding.why_allowed.Goals as goal

abbrev FirstAre : List Binding → ℕ → Type 0
FirstAre bs count = (at : ℕ) (b : Binding) → slice_get bs at ≡ Some b → (at < count) ↔ (b.namespace ≡ None)

pub returns-then-is_some-clause-why : goal.returns-then-is_some-clause-why
returns-then-is_some-clause-why c =
    let first : FirstAre c.args.policy.now.held.bindings c.cluster_wide.result = rw c.bindings-bindings.ensures.bindings at c.cluster_wide.ensures.first in
    (decided_first c.args.policy.now c.args.principal.now c.args.verb.now c.args.target.now c.bindings-bindings.ensures.policy c.args.namespace.now c.cluster_wide.result first
    c.first_among-by_cluster.result (sym c.is_some.ensures ∙ c.if-is_some.true) c.first_among-by_cluster.ensures).0

pub returns-then-is_some-clause-first : goal.returns-then-is_some-clause-first
returns-then-is_some-clause-first c =
    let first : FirstAre c.args.policy.now.held.bindings c.cluster_wide.result = rw c.bindings-bindings.ensures.bindings at c.cluster_wide.ensures.first in
    (decided_first c.args.policy.now c.args.principal.now c.args.verb.now c.args.target.now c.bindings-bindings.ensures.policy c.args.namespace.now c.cluster_wide.result first
    c.first_among-by_cluster.result (sym c.is_some.ensures ∙ c.if-is_some.true) c.first_among-by_cluster.ensures).1

abbrev AreBetween : List Binding → ℕ × ℕ → (Binding → Type 0) → Type 0
AreBetween bs places P = (at : ℕ) (b : Binding) → slice_get bs at ≡ Some b → ((places.0 ≤ at) × (at < places.1)) ↔ P b

pub returns-clause-why : goal.returns-clause-why
returns-clause-why c =
    let first : FirstAre c.args.policy.now.held.bindings c.cluster_wide.result = rw c.bindings-bindings.ensures.bindings at c.cluster_wide.ensures.first in
    let between : AreBetween c.args.policy.now.held.bindings c.live_role_bindings-from.result (λ b. IsLiveRoleBinding b c.args.namespace.now c.args.target.now) = rw c.bindings-bindings.ensures.bindings at c.live_role_bindings-from.ensures.between in
    (decided_second c.args.policy.now c.args.principal.now c.args.verb.now c.args.target.now c.bindings-bindings.ensures.policy c.args.namespace.now c.cluster_wide.result first
    c.live_role_bindings-from.result.0 c.live_role_bindings-from.result.1 between c.first_among-by_cluster.result c.first_among.result (sym c.is_some.ensures ∙ c.if-is_some.false) c.first_among-by_cluster.ensures c.first_among.ensures).0

pub returns-clause-first : goal.returns-clause-first
returns-clause-first c =
    let first : FirstAre c.args.policy.now.held.bindings c.cluster_wide.result = rw c.bindings-bindings.ensures.bindings at c.cluster_wide.ensures.first in
    let between : AreBetween c.args.policy.now.held.bindings c.live_role_bindings-from.result (λ b. IsLiveRoleBinding b c.args.namespace.now c.args.target.now) = rw c.bindings-bindings.ensures.bindings at c.live_role_bindings-from.ensures.between in
    (decided_second c.args.policy.now c.args.principal.now c.args.verb.now c.args.target.now c.bindings-bindings.ensures.policy c.args.namespace.now c.cluster_wide.result first
    c.live_role_bindings-from.result.0 c.live_role_bindings-from.result.1 between c.first_among-by_cluster.result c.first_among.result (sym c.is_some.ensures ∙ c.if-is_some.false) c.first_among-by_cluster.ensures c.first_among.ensures).1
