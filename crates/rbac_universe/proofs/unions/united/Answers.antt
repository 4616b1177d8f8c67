use Rattle.std.proofs.Common.{rules, ◌≡◌, ◌∙◌, sym, map-id, length, take}
use Rattle.std.specs.Ordering.{is_lt}
use Rattle.std.proofs.lemmas.Fn.{answers_by}
use Rattle.std.proofs.lemmas.Iterator.Consumers.{YieldsList-so_far, YieldsList-turn, YieldsList-end}
use Rattle.std.proofs.lemmas.Iterator.Adapters.{YieldsList-from_vec}
use Rattle.rbac_model.specs.Lists.{by_name}
use Rattle.rbac_universe.proofs.OneMore.{not_below, one_united, united_moved, ranks}
use Rattle.rbac_universe.proofs.unions.united.Goals as goal

pub put-requires-clause-not_below : goal.put-requires-clause-not_below
put-requires-clause-not_below g c =
    let sorted = c.sort_by.new.self.items in
    let gives = c.into_iter-item-iterator.ensures.into_iter_gives in
    let road = YieldsList-from_vec {s = c.into_iter-item-iterator.result} sorted gives.0 (gives.1 ∙ c.sort_by.new.self.ok.0) in
    let prefix : c.loop-item.yielded ≡ take (length c.loop-item.yielded) sorted = sym (map-id c.loop-item.yielded) ∙ YieldsList-so_far road c.loop-item.yielded c.loop-item.item-iterator c.loop-item.yielded_by in
    let turn = YieldsList-turn road c.loop-item.yielded c.loop-item.item-iterator c.loop-item.yielded_by c.next.result c.next.new.self c.in-Some.item c.in-Some.is c.next.ensures.steps in
    let up = c.in_ok-sort_by.ensures.sorted (λ x y. is_lt (by_name g.T.Unites.name x y)) (ranks g.T.Unites.name g.T.Unites.has)
    (answers_by _ _ (λ f. Unit {0}) (λ f a r h called met. (search rules, tt)) _ tt) in
    not_below g.T.Unites.name g.T.Unites.has sorted c.loop-item.yielded c.loop-item.united.items c.in-Some.item up prefix turn.0 turn.1 c.loop-item.invariant

pub loop-item-preserved : goal.loop-item-preserved
loop-item-preserved g c =
    one_united g.T.Unites.name g.T.Unites.has c.loop-item.yielded c.loop-item.united.items c.put.new.united.items c.in-Some.item c.loop-item.invariant c.in_ok-put.ensures

pub returns : goal.returns
returns g c =
    let sorted = c.sort_by.new.self.items in
    let gives = c.into_iter-item-iterator.ensures.into_iter_gives in
    let seen = YieldsList-end (YieldsList-from_vec {s = c.into_iter-item-iterator.result} sorted gives.0 (gives.1 ∙ c.sort_by.new.self.ok.0))
    c.loop-item.yielded c.loop-item.item-iterator c.loop-item.yielded_by c.next.result c.next.new.self c.in-None.is c.next.ensures.steps in
    let same : c.loop-item.yielded ≡ sorted = sym (map-id c.loop-item.yielded) ∙ seen.0 in
    united_moved g.T.Unites.name g.T.Unites.has c.args.listed.items sorted c.loop-item.united.items c.in_ok-sort_by.ensures.permutation (rw same at c.loop-item.invariant)
