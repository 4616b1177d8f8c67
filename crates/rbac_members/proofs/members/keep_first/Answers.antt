use Rattle.std.proofs.Common.{ℕ, ap, inl, inr, refl, subst}
use Rattle.std.specs.Prelude.{Contains}
use Rattle.rbac_terms.specs.Text.{Text}
use Rattle.rbac_members.specs.Told.{AddsLabel, label_of}
use Rattle.rbac_members.proofs.members.keep_first.Goals as goal

pub returns-in_ok-push-clause-kept : goal.returns-in_ok-push-clause-kept
returns-in_ok-push-clause-kept c =
    let told = c.args.told.now.keys in
    let new = rw c.if-branch.true at c.in_ok-tell.ensures.new in
    inr (subst (λ (l : ℕ × Text). ¬ Contains told l) (ap (label_of c.args.every) c.as_holder.ensures) new, c.in_ok-push.ensures.items)

pub returns-in_ok-push-clause-told : goal.returns-in_ok-push-clause-told
returns-in_ok-push-clause-told c = subst (λ (l : ℕ × Text). AddsLabel c.args.told.now.keys c.tell.new.told.keys l) (ap (label_of c.args.every) c.as_holder.ensures) c.in_ok-tell.ensures.told

pub returns-else-branch-clause-kept : goal.returns-else-branch-clause-kept
returns-else-branch-clause-kept c =
    let told = c.args.told.now.keys in
    let there = rw c.if-branch.false at c.in_ok-tell.ensures.new in
    inl (subst (λ (l : ℕ × Text). Contains told l) (ap (label_of c.args.every) c.as_holder.ensures) there, refl)

pub returns-else-branch-clause-told : goal.returns-else-branch-clause-told
returns-else-branch-clause-told c = subst (λ (l : ℕ × Text). AddsLabel c.args.told.now.keys c.tell.new.told.keys l) (ap (label_of c.args.every) c.as_holder.ensures) c.in_ok-tell.ensures.told
