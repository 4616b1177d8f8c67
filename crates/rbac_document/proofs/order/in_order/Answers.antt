use Rattle.std.proofs.Common.{rules}
use Rattle.std.specs.Ordering.{is_lt, eq_by_cmp}
use Rattle.std.proofs.lemmas.Fn.{answers_by, dedup_same}
use Rattle.rbac_model.specs.Lists.{by_name}
use Rattle.rbac_document.proofs.Once.{once_named, ranks}
use Rattle.rbac_document.proofs.order.in_order.Goals as goal

pub returns : goal.returns
returns g c =
    let name = g.T.Ordered.name in
    let sorted = c.in_ok-sort_by.ensures.sorted (λ x y. is_lt (by_name name x y)) (ranks name)
    (answers_by _ _ (λ f. Unit {0}) (λ f a r h called met. (search rules, tt)) _ tt) in
    let kept = dedup_same _ (eq_by_cmp (by_name name)) _ (λ x y b f' x' y' k. search rules) _ _ c.dedup_by.ensures.filtered in
    rw c.from_vec.ensures (once_named name g.T.Ordered.named g.T.Ordered.named_name c.args.listed c.sort_by.new.self.items c.dedup_by.new.self.items (rw c.into_vec-entries.ensures at c.sort_by.ensures.permutation) sorted kept)
