use Rattle.std.proofs.Common.{◌≡◌, ◌∙◌, ◌∷◌, ◌++◌, [], List, ap, cond, subst, sym}
use Rattle.std.specs.Prelude.{Option, Some, unwrap_or, is_some}
use Rattle.std.specs.BTreeMap.{get}
use Rattle.std.specs.Ordering.{is_eq}
use Rattle.rbac_terms.specs.Text.{Text, text_cmp}
use Rattle.rbac_groups.specs.ByUser.{GroupLists, groups_under}
use Rattle.rbac_groups.proofs.ByUser.{gives_one}
use Rattle.rbac_groups.proofs.by_user.give_one.Goals as goal

pub returns-in_ok-push-in-Some : goal.returns-in_ok-push-in-Some
returns-in_ok-push-in-Some c =
    let before = c.in-Some.given.now in
    gives_one c.args.groups.now (c.get_mut.follows.lender c.push.new.self) c.args.user c.args.group.now before c.push.new.self
    (ap (λ (o : Option (List Text)). unwrap_or o []) c.in-Some.ensures.value)
    (c.in_ok-push-in-Some.ensures.ok ∙ ap (λ (g : Text). before ++ g ∷ []) c.in_ok-clone-in-Some.ensures.cases)
    ((c.get_mut.follows.holds c.push.new.self).3 (ap is_some (sym c.in-Some.ensures.value))).0

pub returns-in_ok-insert-in-None : goal.returns-in_ok-insert-in-None
returns-in_ok-insert-in-None c =
    let old = c.args.groups.now in
    let new = c.insert.new.self in
    let same : c.get_mut.follows.lender-at-none ≡ old = c.get_mut.follows.holds-at-none in
    let none : [] ≡ groups_under old c.args.user = ap (λ (o : Option (List Text)). unwrap_or o []) c.in-None.ensures.value in
    let given = c.push-in-None.new.self in
    gives_one old new c.args.user c.args.group.now [] given none
    (c.in_ok-push-in-None.ensures.ok ∙ ap (λ (l : List Text). l ++ c.in_ok-clone-in-None.field-0 ∷ []) c.new-given.ensures ∙ ap (λ (g : Text). g ∷ []) c.in_ok-clone-in-None.ensures.cases)
    (subst (λ (m : GroupLists). (q : Text) → get text_cmp new q ≡ cond (is_eq (text_cmp c.args.user q)) (Some given) (get text_cmp m q)) same
    c.in_ok-insert-in-None.ensures.updates.0)
