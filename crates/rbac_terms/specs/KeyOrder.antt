-- the laws of the order of keys
use Rattle.std.proofs.Common.{refl}
use Rattle.std.specs.Cmp.{IsTotalOrder, IsEquivalence, IsPartialOrder}
use Rattle.std.specs.Cmp.{partial_order_from_agreeing_total}
use Rattle.std.specs.Ordering.{eq_by_cmp, as_partial_cmp}
use Rattle.std.proofs.lemmas.Cmp.{nat_list_cmp_total, lists_total, on_total, eq_by_cmp_equiv}
use Rattle.rbac_terms.specs.Keys.{texts, key_cmp}

-- the order of keys is total
pub key_cmp_total : IsTotalOrder key_cmp
key_cmp_total = on_total texts (lists_total nat_list_cmp_total)

-- comparing as equal is an equivalence of keys
pub key_cmp_equiv : IsEquivalence (eq_by_cmp key_cmp)
key_cmp_equiv = eq_by_cmp_equiv key_cmp_total

-- the order of keys is a partial order that agrees with their equality
pub key_cmp_partial : IsPartialOrder (eq_by_cmp key_cmp) (as_partial_cmp key_cmp)
key_cmp_partial =
    partial_order_from_agreeing_total key_cmp key_cmp_total (λ _ _. refl) (λ _ _. refl)
