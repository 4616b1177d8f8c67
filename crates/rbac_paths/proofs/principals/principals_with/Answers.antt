use Rattle.std.proofs.Common.{◌≡◌, ◌≢◌, ◌∙◌, Bool, Bor, List, false, not, refl, subst, sym, true}
use Rattle.std.specs.Str.{bytes_eq}
use Rattle.std.proofs.lemmas.Bool.{not-false, not-true}
use Rattle.std.proofs.lemmas.Bool.Decides.{not_from_Decides}
use Rattle.std.proofs.lemmas.List.{take_all}
use Rattle.std.proofs.lemmas.Slice.Eq.{bytes_eq-Decides}
use Rattle.rbac_terms.specs.Text.{Text}
use Rattle.rbac_terms.specs.Principals.{Who}
use Rattle.rbac_paths.proofs.PrincipalsWith.{IsWith, with_more, with_none, with_same}
use Rattle.rbac_paths.proofs.principals.principals_with.Goals as goal
use Rattle.rbac_paths.proofs.principals.principals_with.Goals.{then-ne+in_ok-push, else-ne}

abbrev who_is : Bor Who → Who
who_is each = each.now

module _ (a b s t : Text) (r : Bool) (first : a ≡ s) (second : b ≡ t) (tells : r ≡ not (bytes_eq a b)) where
  others : r ≡ true → s ≢ t
  others is e = not_from_Decides (bytes_eq a b) (bytes_eq-Decides a b) (not-true (bytes_eq a b) (sym tells ∙ is)) (first ∙ e ∙ sym second)

  same : r ≡ false → s ≡ t
  same isn = sym first ∙ (bytes_eq-Decides a b).0 (not-false (bytes_eq a b) (sym tells ∙ isn)) ∙ second

pub loop-who-init : goal.loop-who-init
loop-who-init c = with_none who_is c.args.asked.now c.args.principals.now c.args.asked c.in_ok-all.all.items refl c.in_ok-all.ensures.items

pub loop-who-preserved : goal.loop-who-preserved
loop-who-preserved c =
    let asked = c.args.asked.now in
    let ps = c.args.principals.now in
    let who = c.who-item.result in
    let xs = c.loop-who.all.items in
    let is_other = others c.key.result.now c.key-in-loop-who.result.now _ _ c.ne.result c.key.ensures c.key-in-loop-who.ensures c.ne.ensures in
    let is_same = same c.key.result.now c.key-in-loop-who.result.now _ _ c.ne.result c.key.ensures c.key-in-loop-who.ensures c.ne.ensures in
    elim c.if-ne.branch [
      | then-ne+in_ok-push w ↦ rw w.all-is
          (with_more who_is asked ps c.loop-who.who-index who c.loop-who-test.true c.who-item.is xs c.loop-who.invariant _ w.push.new.self.items w.in_ok-push.ensures.items refl (is_other w.if-ne.true))
      | else-ne w ↦ rw w.all-is
          (with_same who_is asked ps c.loop-who.who-index who c.loop-who-test.true c.who-item.is xs c.loop-who.invariant (is_same w.if-ne.false))
    ]

pub returns : goal.returns
returns c =
    let ps = c.args.principals.now in
    let xs = c.loop-who.all.items in
    let all : IsWith who_is c.args.asked.now ps ps xs =
    subst (λ (passed : List Who). IsWith who_is c.args.asked.now ps passed xs) (take_all c.loop-who.who-index ps c.loop-who-test.false) c.loop-who.invariant in
    record { exact = all.exact; apart = all.apart }
