use Rattle.std.proofs.Common.{◌<◌, ℕ, List, length, subst}
use Rattle.rbac_terms.specs.declared.granting.Binding.{Binding}
use Rattle.rbac_model.specs.Holders.{IsKeyFor}
use Rattle.rbac_subjects.specs.declared.subject_keys.Keyed.{Keyed}
use Rattle.rbac_subjects.specs.Bound.{AnswersNextRun, IsNamedBy}
use Rattle.rbac_subjects.specs.Keyed.{IsLiveAt, IsOfLive}
use Rattle.rbac_subjects.proofs.NextRunLemmas.{found_named, named_found, runs_alike, runs_within}
use Rattle.rbac_subjects.proofs.subject_index.SubjectIndex.next_named.Goals as goal

pub next_live_run-requires : goal.next_live_run-requires
next_live_run-requires c = rw c.as_slice.ensures.value c.self.invariant

pub returns : goal.returns
returns c =
    let p = c.self.inside.policy.now in
    let who = c.args.principal.now in
    let named = c.self.inside.named.items in
    let live = c.everywhere-all.result in
    let lives = subst (λ (bs : List Binding). (at : ℕ) → at < length bs → IsLiveAt live at) c.bindings-bindings.ensures.bindings (λ at low. (c.everywhere-all.ensures at).1 low) in
    let run = subst (λ (l : List Keyed). AnswersNextRun p (IsOfLive p l live (IsKeyFor who)) c.args.from c.next_live_run.result) c.as_slice.ensures.value c.next_live_run.ensures in
    let next : AnswersNextRun p (IsNamedBy p who) c.args.from c.next_live_run.result = runs_alike p (IsOfLive p named live (IsKeyFor who)) (IsNamedBy p who)
    (found_named p c.bindings-bindings.ensures.policy named c.self.invariant who live) (named_found p c.bindings-bindings.ensures.policy named c.self.invariant who live lives)
    c.args.from c.next_live_run.result run in
    rw (← c.self.view_is) (record { next = next; within = runs_within p who c.args.from c.next_live_run.result next })
