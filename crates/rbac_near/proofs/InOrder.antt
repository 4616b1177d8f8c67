-- Near grants in order: three numbers tell them apart and order them.
use Rattle.std.proofs.Common.{◌≡◌, ◌↔◌, ◌∷◌, [], ◌∙◌, ℕ, zero, suc, List, AllPairs, Contains, ap, refl, sym, true}
use Rattle.std.specs.Cmp.{IsStrictWeakOrder, IsTotalOrder}
use Rattle.std.specs.List.{dedup}
use Rattle.std.specs.List.Sorted.{IsPermutation, IsSorted}
use Rattle.std.specs.Ordering.{eq_by_cmp, is_lt}
use Rattle.std.specs.declared.cmp.Ordering.TheVariants.{Less}
use Rattle.std.proofs.lemmas.Cmp.{eq_by_cmp_equiv, nat_list_cmp_total, on_total}
use Rattle.std.proofs.lemmas.List.Kept.{IsStrictlySortedBy-dedup, Contains-dedup, Contains-from_dedup}
use Rattle.std.proofs.lemmas.List.Sorted.{Contains-permutation, IsPermutation-sym, ranks_by}
use Rattle.std.proofs.lemmas.Map.Keys.{Less-from_sorted}
use Rattle.std.proofs.lemmas.Map.Lookups.{exact_bytes}
use Rattle.rbac_terms.proofs.Orderings.{equal_from_test}
use Rattle.rbac_terms.specs.Text.{Text}
use Rattle.rbac_model.specs.Lists.{IsAscendingBy}
use Rattle.rbac_model.specs.Policies.{PolicyView}
use Rattle.rbac_model.proofs.OneList.{one_list}
use Rattle.rbac_near.specs.Near.{AreNear, RequestView, missing_rank, near_cmp}
use Rattle.rbac_near.specs.declared.near.Missing.{Missing}
use Rattle.rbac_near.specs.declared.near.Missing.TheVariants.{Namespace, Verb, Group, Subresource, Name, Member}
use Rattle.rbac_near.specs.declared.near.Near.{Near}

-- the numbers by which near grants compare
abbrev near_numbers : Near → List ℕ
near_numbers x = missing_rank x.missing ∷ x.number ∷ x.subject_place ∷ []

near_total : IsTotalOrder near_cmp
near_total = on_total (λ (x : Near). near_numbers x) nat_list_cmp_total

pub near_ranks : IsStrictWeakOrder (λ x y. is_lt (near_cmp x y))
near_ranks = ranks_by near_total (λ (x : Near). x)

missing_of : ℕ → Missing
missing_of zero = Namespace
missing_of (suc zero) = Verb
missing_of (suc (suc zero)) = Group
missing_of (suc (suc (suc zero))) = Subresource
missing_of (suc (suc (suc (suc zero)))) = Name
missing_of (suc (suc (suc (suc (suc n))))) = Member

missing_back : (m : Missing) → missing_of (missing_rank m) ≡ m
unfolding missing_of
missing_back Namespace = refl
missing_back Verb = refl
missing_back Group = refl
missing_back Subresource = refl
missing_back Name = refl
missing_back Member = refl

near_of : List ℕ → Near
near_of (a ∷ b ∷ c ∷ rest) = record { missing = missing_of a; number = b; subject_place = c }
near_of _ = record { missing = Namespace; number = 0; subject_place = 0 }

near_back : (x : Near) → near_of (near_numbers x) ≡ x
unfolding near_of
near_back x = ap (λ (m : Missing). (let y : Near = record { missing = m; number = x.number; subject_place = x.subject_place } in y)) (missing_back x.missing)

tells : (x y : Near) → eq_by_cmp near_cmp x y ≡ true → x ≡ y
tells x y e =
    let same : near_numbers x ≡ near_numbers y = exact_bytes (near_numbers x) (near_numbers y) (equal_from_test (near_cmp x y) e) in
    sym (near_back x) ∙ ap near_of same ∙ near_back y

-- what a sort and then a dedup leave
module _ (xs ss ys : List Near) (moved : IsPermutation xs ss) (sorted : IsSorted near_cmp ss) (once : ys ≡ dedup (eq_by_cmp near_cmp) ss) where
  pub in_order : AllPairs (λ x y. near_cmp x y ≡ Less) ys
  in_order i j d low within = Less-from_sorted near_cmp ys i j d (rw once (IsStrictlySortedBy-dedup near_total (λ x y. refl) ss sorted)) low within

  pub same_ones : (x : Near) → Contains ys x ↔ Contains xs x
  same_ones x = (
    λ w. Contains-permutation ss xs x (IsPermutation-sym xs ss moved) (Contains-from_dedup (eq_by_cmp near_cmp) ss x (rw once at w)),
    λ w. rw once (Contains-dedup (eq_by_cmp_equiv near_total) tells ss x (Contains-permutation xs ss x moved w)),
  )

abbrev near_name : Near → List Text
near_name x = near_numbers x ∷ []

ascending : (p : PolicyView) (q : RequestView) (xs : List Near) → AreNear p q xs → IsAscendingBy near_name xs
ascending p q xs are i j d low within = rw (are.ordered i j d low within) refl

-- the near grants are one list
pub one_near_list : (p : PolicyView) (q : RequestView) (xs others : List Near) → AreNear p q xs → AreNear p q others → xs ≡ others
one_near_list p q xs others a b =
    one_list near_name xs others (ascending p q xs a) (ascending p q others b) (λ x w. (b.exact x).1 ((a.exact x).0 w)) (λ x w. (a.exact x).1 ((b.exact x).0 w))
