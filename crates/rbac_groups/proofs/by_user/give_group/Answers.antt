use Rattle.std.proofs.Common.{◌≡◌, ◌∙◌, ◌∷◌, [], List, arith, subst, sym, take, take_all}
use Rattle.std.specs.List.Sorted.{IsStrictlySortedBy}
use Rattle.rbac_terms.specs.Text.{Text, text_cmp}
use Rattle.rbac_groups.specs.ByUser.{GivesEach}
use Rattle.rbac_groups.proofs.ByUser.{gives_all, gives_more, gives_none, strictly_sorted}
use Rattle.rbac_groups.proofs.by_user.give_group.Goals as goal

pub loop-user-init : goal.loop-user-init
loop-user-init c = gives_none c.args.groups.now c.args.group.now

pub loop-user-preserved : goal.loop-user-preserved
loop-user-preserved c =
    let users = c.deref-user-items.result.now in
    let up = subst (IsStrictlySortedBy text_cmp) (sym c.deref-user-items.ensures.value) (strictly_sorted c.in_ok-once.once.items c.dedup.new.self.items c.in_ok-once.ensures.0 c.dedup.ensures.filtered) in
    gives_more c.args.groups.now c.loop-user.groups c.give_one.new.groups users c.loop-user.user-index c.user-item.result c.args.group.now up c.loop-user-test.true c.user-item.is c.loop-user.invariant
    (subst (λ (u : Text). GivesEach c.loop-user.groups c.give_one.new.groups (u ∷ []) c.args.group.now) c.in_ok-clone.ensures.cases c.in_ok-give_one.ensures)

pub returns : goal.returns
returns c =
    let users = c.deref-user-items.result.now in
    let all = subst (λ (us : List Text). GivesEach c.args.groups.now c.loop-user.groups us c.args.group.now) (take_all c.loop-user.user-index users c.loop-user-test.false ∙ c.deref-user-items.ensures.value) c.loop-user.invariant in
    gives_all c.args.groups.now c.loop-user.groups c.args.users.now c.in_ok-once.once.items c.dedup.new.self.items c.args.group.now c.in_ok-once.ensures.1 c.dedup.ensures.filtered all
