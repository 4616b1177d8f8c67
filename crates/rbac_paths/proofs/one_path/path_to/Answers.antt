use Rattle.std.proofs.Common.{◌≡◌, ◌∙◌, ◌++◌, ◌∷◌, [], List, ap, false, reverse, subst, sym, true}
use Rattle.std.specs.Option.{option_copied}
use Rattle.std.specs.Slice.Iter.{iter_rest}
use Rattle.std.proofs.lemmas.List.{nil_from_length, reverse-append}
use Rattle.rbac_paths.specs.Nodes.{Somebody}
use Rattle.rbac_paths.specs.OnePath.{IsPathTo, IsWantedNext}
use Rattle.rbac_paths.specs.Paths.{PathView}
use Rattle.rbac_paths.proofs.OnePath.{IsWalked, walk_begun, walk_ended, walk_on, walk_taken}
use Rattle.rbac_paths.proofs.one_path.path_to.Goals as goal

pub loop-path-init : goal.loop-path-init
loop-path-init c = λ p principals steps who are.
    rw (c.into_iter-path-iterator.ensures.into_iter_gives, c.rev-path-items.ensures.source, c.iter.ensures.rest, c.new-chain.ensures.items)
    (walk_begun (Somebody who) c.args.to.now (option_copied c.args.scope) c.args.found.now)

pub loop-path-preserved-in-Continue-branch-2 : goal.loop-path-preserved-in-Continue-branch-2
loop-path-preserved-in-Continue-branch-2 c = λ p principals steps who are.
    let to = c.args.to.now in
    let scope = option_copied c.args.scope in
    let xs = c.args.found.now in
    let rest = iter_rest c.next.new.self.iter in
    let x = c.in-Some.path.now in
    let items = c.loop-path.chain.items in
    let left = subst (λ (l : List PathView). IsWalked (Somebody who) to scope xs l (reverse items)) c.in-Some.ensures.steps (c.loop-path.invariant p principals steps who are) in
    let wanted : IsWantedNext to scope (reverse items) x = subst (λ (l : List PathView). IsWantedNext to scope (reverse l) x) c.as_slice.ensures.value (c.in_ok-is_wanted.ensures.0 c.if-branch.true) in
    let more : reverse c.push.new.self.items ≡ x ∷ reverse items =
    ap reverse (c.in_ok-push.ensures.items ∙ ap (λ (z : PathView). items ++ z ∷ []) c.copy_of.ensures) ∙ reverse-append items (x ∷ []) in
    subst (λ (l : List PathView). IsWalked (Somebody who) to scope xs rest l) (sym more)
    (walk_taken p are.0 steps (Somebody who) xs are.2 to scope rest x (reverse items) wanted left)

pub loop-path-preserved : goal.loop-path-preserved
loop-path-preserved c = λ p principals steps who are.
    let to = c.args.to.now in
    let scope = option_copied c.args.scope in
    let xs = c.args.found.now in
    let rest = iter_rest c.next.new.self.iter in
    let x = c.in-Some.path.now in
    let items = c.loop-path.chain.items in
    let left = subst (λ (l : List PathView). IsWalked (Somebody who) to scope xs l (reverse items)) c.in-Some.ensures.steps (c.loop-path.invariant p principals steps who are) in
    walk_on p are.0 steps (Somebody who) xs are.2 to scope rest x (reverse items)
    (λ wanted. (let both : true ≡ false = sym (c.in_ok-is_wanted.ensures.1 (subst (λ (l : List PathView). IsWantedNext to scope (reverse l) x) (sym c.as_slice.ensures.value) wanted)) ∙ c.if-branch.false in cc))
    left

pub returns : goal.returns
returns c = λ p principals steps who are.
    let to = c.args.to.now in
    let scope = option_copied c.args.scope in
    let xs = c.args.found.now in
    let items = c.loop-path.chain.items in
    let none : iter_rest c.loop-path.path-iterator.iter ≡ [] = nil_from_length _ c.in-None.ensures.steps.0 in
    let left = subst (λ (l : List PathView). IsWalked (Somebody who) to scope xs l (reverse items)) none (c.loop-path.invariant p principals steps who are) in
    subst (IsPathTo (Somebody who) to scope xs) (sym c.reverse.ensures.items) (walk_ended p are.0 steps (Somebody who) xs are.2 to scope (reverse items) left)
