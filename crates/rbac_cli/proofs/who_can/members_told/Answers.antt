use Rattle.std.proofs.Common.{◌≡◌, ◌∙◌, ◌++◌, Bool, true, false, not, List, ap, append-nil, refl, subst, sym}
use Rattle.std.proofs.lemmas.Result.{IfOk-weaker}
use Rattle.rbac_model.specs.Holders.{HolderView}
use Rattle.rbac_members.specs.Members.{AreHoldersAndMembers}
use Rattle.rbac_cli.proofs.who_can.members_told.Goals as goal

is_false : (b : Bool) → not b ≡ true → b ≡ false
is_false true e = let f : false ≡ true = e in cc
is_false false e = refl

is_true : (b : Bool) → not b ≡ false → b ≡ true
is_true true e = refl
is_true false e = let f : true ≡ false = e in cc

pub returns-then-not-options : goal.returns-then-not-options
returns-then-not-options c =
    let xs = c.args.holders.now in
    let all : xs ++ c.new.result.items ≡ xs = ap (λ (ys : List HolderView). xs ++ ys) c.new.ensures.items ∙ append-nil xs in
    λ up. subst (λ (told : Bool). AreHoldersAndMembers c.args.memberships.now told c.args.options.every xs (xs ++ c.new.result.items)) (sym (is_false c.args.options.members c.if-not-options.true)) all

pub returns : goal.returns
returns c =
    let xs = c.args.holders.now in
    λ up. IfOk-weaker c.members_of.result _ _
    (λ ys are. subst (λ (told : Bool). AreHoldersAndMembers c.args.memberships.now told c.args.options.every xs (xs ++ ys.items)) (sym (is_true c.args.options.members c.if-not-options.false)) (ys.items, are, refl))
    (c.members_of.ensures up)
