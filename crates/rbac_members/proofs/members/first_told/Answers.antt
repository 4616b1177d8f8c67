use Rattle.std.proofs.Common.{◌∙◌, [], append-nil, length, arith, subst}
use Rattle.std.specs.Prelude.{List}
use Rattle.std.proofs.lemmas.Iterator.Consumers.{YieldsList-turn, YieldsList-end}
use Rattle.std.proofs.lemmas.Iterator.Adapters.{YieldsList-from_vec}
use Rattle.std.proofs.lemmas.List.{length_push, take_all}
use Rattle.rbac_model.specs.Holders.{HolderView}
use Rattle.rbac_members.proofs.Firsts.{AreFirst, first_members, more_first, more_told, none_first}
use Rattle.rbac_members.proofs.members.first_told.Goals as goal

pub loop-member-init : goal.loop-member-init
loop-member-init c = record {
  firsts = λ ms up candidates. rw c.new-firsts.ensures.items (none_first c.args.every c.args.holders.now);
  labels = rw (append-nil c.args.holders.now) c.in_ok-told.ensures;
}

pub loop-member-preserved : goal.loop-member-preserved
loop-member-preserved c =
    let every = c.args.every in
    let xs = c.args.holders.now in
    let cs = c.args.candidates.items in
    let gives = c.into_iter-member-iterator.ensures.into_iter_gives in
    let road = YieldsList-from_vec {s = c.into_iter-member-iterator.result} cs gives.0 (gives.1 ∙ c.args.candidates.ok.0) in
    let turn = YieldsList-turn road c.loop-member.yielded c.loop-member.member-iterator c.loop-member.yielded_by c.next.result c.next.new.self c.in-Some.member c.in-Some.is c.next.ensures.steps in
    let n = length c.loop-member.yielded in
    let m = c.in-Some.member in
    let before = c.loop-member.invariant in
    rw (length_push c.loop-member.yielded m) (record {
      firsts = λ ms up candidates. more_first ms every xs cs c.loop-member.firsts.items c.keep_first.new.firsts.items n m c.loop-member.told.keys turn.0 turn.1 up candidates before.labels c.in_ok-keep_first.ensures.kept (before.firsts ms up candidates);
      labels = more_told [] every xs cs c.loop-member.firsts.items c.keep_first.new.firsts.items n m c.loop-member.told.keys turn.0 turn.1 c.keep_first.new.told.keys c.in_ok-keep_first.ensures.told before.labels;
    })

pub returns : goal.returns
returns c =
    let xs = c.args.holders.now in
    let cs = c.args.candidates.items in
    let gives = c.into_iter-member-iterator.ensures.into_iter_gives in
    let road = YieldsList-from_vec {s = c.into_iter-member-iterator.result} cs gives.0 (gives.1 ∙ c.args.candidates.ok.0) in
    let end = YieldsList-end road c.loop-member.yielded c.loop-member.member-iterator c.loop-member.yielded_by c.next.result c.next.new.self c.in-None.is c.next.ensures.steps in
    let all = take_all (length c.loop-member.yielded) cs (omega (arith, end.1)) in
    λ ms up candidates. first_members c.args.every xs ms cs c.loop-member.firsts.items candidates (subst (λ (ys : List HolderView). AreFirst c.args.every xs ys c.loop-member.firsts.items) all (c.loop-member.invariant.firsts ms up candidates))
