use Rattle.std.specs.Str.{bytes_eq}
use Rattle.std.specs.Cmp.Lexicographic.{texts_ties}
use Rattle.std.proofs.lemmas.Cmp.{nat_list_cmp_total, nat_list_eq_equiv}
use Rattle.std.proofs.lemmas.Slice.Eq.{bytes_eq-Decides}
use Rattle.rbac_terms.specs.Text.{text_cmp}
use Rattle.rbac_universe.proofs.Once.{once_each_is}
use Rattle.rbac_lists.proofs.WideLemmas.{count_once}
use Rattle.rbac_lists.proofs.wide.count.Goals as goal

pub returns : goal.returns
returns c =
    rw c.as_slice.ensures.value (count_once _ _
    (once_each_is text_cmp bytes_eq _ _ _ nat_list_cmp_total nat_list_eq_equiv (λ x y. (bytes_eq-Decides x y).0) texts_ties
    c.in_ok-sort.ensures.permutation c.in_ok-sort.ensures.sorted c.dedup.ensures.filtered))
