use Rattle.std.proofs.Common.{◌<◌, ℕ, List, length, subst}
use Rattle.rbac_terms.specs.declared.granting.Binding.{Binding}
use Rattle.rbac_subjects.specs.declared.subject_keys.Keyed.{Keyed}
use Rattle.rbac_model.specs.Holders.{IsKeyFor}
use Rattle.rbac_subjects.specs.Keyed.{AnswersNext, IsLiveAt, IsLiveUnderAny}
use Rattle.rbac_subjects.proofs.NextRunLemmas.{any_named}
use Rattle.rbac_subjects.proofs.subject_index.SubjectIndex.has_grants.Goals as goal

pub returns : goal.returns
returns c =
    let p = c.self.inside.policy.now in
    let who = c.args.principal.now in
    let live = c.everywhere-live.result in
    let lives = subst (λ (bs : List Binding). (at : ℕ) → at < length bs → IsLiveAt live at) c.bindings.ensures.bindings (λ at low. (c.everywhere-live.ensures at).1 low) in
    let next = subst (λ (l : List Keyed). AnswersNext (IsLiveUnderAny l live (IsKeyFor who)) 0 c.next_for.result) c.as_slice.ensures.value c.next_for.ensures in
    rw (c.is_some.ensures, ← c.self.view_is) (any_named p c.bindings.ensures.policy c.self.inside.named.items c.self.invariant who live lives c.next_for.result next)
