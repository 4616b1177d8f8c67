use Rattle.std.proofs.Common.{◌≡◌, ◌↔◌, ℕ, List, slice_get, subst}
use Rattle.std.specs.Prelude.{Some}
use Rattle.rbac_terms.specs.declared.granting.Binding.{Binding}
use Rattle.rbac_model.specs.Holders.{IsKeyFor}
use Rattle.rbac_model.specs.Universes.{LiveForSome}
use Rattle.rbac_subjects.specs.declared.subject_keys.Keyed.{Keyed}
use Rattle.rbac_subjects.specs.Bound.{AnswersNextRun, IsBoundTo}
use Rattle.rbac_subjects.specs.Keyed.{IsLiveAt, IsOfLive}
use Rattle.rbac_subjects.proofs.NextRunLemmas.{bound_live, live_bound, runs_alike}
use Rattle.rbac_subjects.proofs.subject_index.SubjectIndex.next_run.Goals as goal

pub next_live_run-requires : goal.next_live_run-requires
next_live_run-requires c = rw c.as_slice.ensures.value c.self.invariant

pub returns : goal.returns
returns c =
    let p = c.self.inside.policy.now in
    let who = c.args.principal.now in
    let named = c.self.inside.named.items in
    let live = c.live_for_some-live.result in
    let namespace = c.args.namespace.now in
    let lives = subst (λ (bs : List Binding). (at : ℕ) (b : Binding) → slice_get bs at ≡ Some b → IsLiveAt live at ↔ LiveForSome b.namespace namespace) c.bindings.ensures.bindings c.live_for_some-live.ensures in
    let run = subst (λ (l : List Keyed). AnswersNextRun p (IsOfLive p l live (IsKeyFor who)) c.args.from c.next_live_run.result) c.as_slice.ensures.value c.next_live_run.ensures in
    rw (← c.self.view_is) (runs_alike p (IsOfLive p named live (IsKeyFor who)) (IsBoundTo p who namespace)
    (live_bound p c.bindings.ensures.policy named c.self.invariant who live namespace lives) (bound_live p c.bindings.ensures.policy named c.self.invariant who live namespace lives)
    c.args.from c.next_live_run.result run)
