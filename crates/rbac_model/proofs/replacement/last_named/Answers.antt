use Rattle.std.proofs.Common.{rules, ◌≡◌, ◌∙◌, sym, map-id}
use Rattle.std.proofs.lemmas.Fn.{answers_by}
use Rattle.std.proofs.lemmas.Iterator.Consumers.{YieldsList-end}
use Rattle.std.proofs.lemmas.Iterator.Adapters.{YieldsList-from_vec}
use Rattle.std.specs.Ordering.{is_lt}
use Rattle.rbac_model.specs.Lists.{by_name}
use Rattle.rbac_model.proofs.LastNamed.{one_more, last_sorted, ranks}
use Rattle.rbac_model.proofs.replacement.last_named.Goals as goal

pub loop-item-preserved : goal.loop-item-preserved
loop-item-preserved g c =
    one_more g.T.Named.name c.loop-item.yielded c.loop-item.kept.items c.put.new.items.items c.in-Some.item c.loop-item.invariant c.in_ok-put.ensures.ok c.in_ok-put.ensures.ascending

pub returns : goal.returns
returns g c =
    let gives = c.into_iter-item-iterator.ensures.into_iter_gives in
    let seen = YieldsList-end (YieldsList-from_vec {s = c.into_iter-item-iterator.result} c.sort_by.new.self.items gives.0 (gives.1 ∙ c.sort_by.new.self.ok.0))
    c.loop-item.yielded c.loop-item.item-iterator c.loop-item.yielded_by c.next.result c.next.new.self c.in-None.is c.next.ensures.steps in
    let same : c.loop-item.yielded ≡ c.sort_by.new.self.items = sym (map-id c.loop-item.yielded) ∙ seen.0 in
    let stable = c.in_ok-sort_by.ensures.stable (λ x y. is_lt (by_name g.T.Named.name x y)) (ranks g.T.Named.name)
    (answers_by _ _ (λ f. Unit {0}) (λ f a r h called met. (search rules, tt)) _ tt) in
    last_sorted g.T.Named.name c.args.given.items c.sort_by.new.self.items c.loop-item.kept.items stable (rw same at c.loop-item.invariant)
