-- what a sort by names and then a dedup leave, and that it is one list
use Rattle.std.proofs.Common.{◌≡◌, true, List, ap, sym, refl, ◌∙◌}
use Rattle.std.specs.List.{dedup}
use Rattle.std.specs.Ordering.{is_eq, is_lt, eq_by_cmp}
use Rattle.std.specs.List.Sorted.{IsPermutation, IsSorted}
use Rattle.std.specs.declared.cmp.Ordering.{Ordering}
use Rattle.std.specs.declared.cmp.Ordering.TheVariants.{Less, Equal, Greater}
use Rattle.std.specs.Cmp.{IsStrictWeakOrder}
use Rattle.std.proofs.lemmas.Cmp.{eq_by_cmp_equiv, lists_total, nat_list_cmp_total}
use Rattle.std.proofs.lemmas.List.Kept.{IsStrictlySortedBy-dedup, Contains-dedup, Contains-from_dedup}
use Rattle.std.proofs.lemmas.List.Sorted.{Contains-permutation, IsPermutation-sym, ranks_by}
use Rattle.std.proofs.lemmas.Map.Keys.{Less-from_sorted}
use Rattle.rbac_terms.specs.Text.{Text}
use Rattle.rbac_model.specs.Lists.{by_name, IsAscendingBy, IsOnceEach}
use Rattle.rbac_model.proofs.NamePlaces.{total, same_name}
use Rattle.rbac_model.proofs.OneList.{one_list}

is_equal : (o : Ordering) → is_eq o ≡ true → o ≡ Equal
is_equal Less e = cc
is_equal Equal e = refl
is_equal Greater e = cc

module _ {X : Type 0} (name : X → List Text) (named : List Text → X) (named_name : (x : X) → named (name x) ≡ x) where
  tells : (x y : X) → eq_by_cmp (by_name name) x y ≡ true → x ≡ y
  tells x y e = sym (named_name x) ∙ ap named (same_name name x y (is_equal (by_name name x y) e)) ∙ named_name y

  pub once_named : (xs ss ys : List X) → IsPermutation xs ss → IsSorted (by_name name) ss → ys ≡ dedup (eq_by_cmp (by_name name)) ss → IsOnceEach (by_name name) xs ys
  once_named xs ss ys moved sorted e = record {
    ascending = rw e (IsStrictlySortedBy-dedup (total name) (λ x y. refl) ss sorted);
    same = λ x. (
      λ w. Contains-permutation ss xs x (IsPermutation-sym xs ss moved) (Contains-from_dedup (eq_by_cmp (by_name name)) ss x (rw e at w)),
      λ w. rw e (Contains-dedup (eq_by_cmp_equiv (total name)) tells ss x (Contains-permutation xs ss x moved w)),
    );
  }

module _ {X : Type 0} (name : X → List Text) where
  -- names rank their entries
  pub ranks : IsStrictWeakOrder (λ x y. is_lt (by_name name x y))
  ranks = ranks_by (lists_total nat_list_cmp_total) name

  ascends : (xs ys : List X) → IsOnceEach (by_name name) xs ys → IsAscendingBy name ys
  ascends xs ys are i j d lt l = Less-from_sorted (by_name name) ys i j d are.ascending lt l

  pub one_each : (xs ys zs : List X) → IsOnceEach (by_name name) xs ys → IsOnceEach (by_name name) xs zs → ys ≡ zs
  one_each xs ys zs p q =
      one_list name ys zs (ascends xs ys p) (ascends xs zs q) (λ x w. (q.same x).1 ((p.same x).0 w)) (λ x w. (p.same x).1 ((q.same x).0 w))
