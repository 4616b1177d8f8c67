use Rattle.std.proofs.Common.{◌≡◌, ◌+◌, ◌≤◌, ◌∙◌, arith, inl, inr, length, refl, subst, sym}
use Rattle.std.specs.Prelude.{slice_range}
use Rattle.rbac_terms.specs.Text.{Text}
use Rattle.rbac_terms.specs.Principals.{who_name}
use Rattle.rbac_paths.specs.Nodes.{IsAccountNamed}
use Rattle.rbac_paths.proofs.Accounts.{in_named, name_is, name_long, named_in}
use Rattle.rbac_paths.proofs.taking.account_parts.Goals as goal

pub returns-in_err-namespace : goal.returns-in_err-namespace
returns-in_err-namespace c = rw c.from_residual.ensures (λ n m a. c.in_err-namespace.ensures n (named_in c.args.who.now n m a))

pub returns-in_err-parts : goal.returns-in_err-parts
returns-in_err-parts c = rw c.from_residual-in_err-parts.ensures (λ n m a.
    let own = c.in_ok-namespace.namespace.now in
    let same : n ≡ own = (c.in_ok-namespace.ensures n).0 (named_in c.args.who.now n m a) in
    let long = name_long c.args.who.now n m a in
    let there : 22 + length own + 1 ≤ length c.name.result.now = subst (λ (t : Text). 22 + length own + 1 ≤ length t) (sym c.name.ensures.name) (subst (λ (t : Text). 22 + length t + 1 ≤ length (who_name c.args.who.now)) same long) in
    elim c.in_err-parts.ensures.lookup.0 [
      | inl l ↦ omega (arith, l, there)
      | inr l ↦ omega (arith, l)
    ])

pub returns : goal.returns
returns c n m =
    let who = c.args.who.now in
    let own = c.in_ok-namespace.namespace.now in
    let there = in_named who own ((c.in_ok-namespace.ensures own).1 refl) in
    let name : c.in_ok-parts.parts.now ≡ there.0 = c.in_ok-parts.ensures.lookup.0.2 ∙ subst (λ (t : Text). slice_range t (22 + length own + 1) (length t) ≡ there.0) (sym c.name.ensures.name) (name_is who own there.0 there.1) in (
      λ a.
          let same : n ≡ own = (c.in_ok-namespace.ensures n).0 (named_in who n m a) in
          (same, sym (name_is who own m (subst (λ (t : Text). IsAccountNamed who t m) same a)) ∙ name_is who own there.0 there.1 ∙ sym name),
      λ w. subst (λ (t : Text). IsAccountNamed who t m) (sym w.0) (subst (λ (t : Text). IsAccountNamed who own t) (sym (w.1 ∙ name)) there.1),
    )
