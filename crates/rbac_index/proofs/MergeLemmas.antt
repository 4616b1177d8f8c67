-- a merge of lists gives all their numbers, in order
use Rattle.std.proofs.Common.{◌≡◌, ℕ, ◌+◌, List, [], ◌∷◌, ◌++◌, refl, ap, ◌∙◌, sym, true, subst, IsPermutation, Option, Result, Ok, Err, Bool, Vec, Global, IfOk, vec_len, length, Contains, inl, inr, arith, get_or, zero, suc, Any}
use Rattle.std.proofs.lemmas.List.{append-nil, get_or_default}
use Rattle.std.proofs.lemmas.List.Elements.{Contains-append_left, Contains-append_right, Contains-append_cases}
use Rattle.std.specs.Prelude.{⊤}
use Rattle.std.specs.List.Sorted.{IsStrictlyIncreasing, IsSortedBy, IsSorted}
use Rattle.std.specs.Ordering.{is_lt, nat_cmp}
use Rattle.std.specs.Cmp.{nat_cmp_is}
use Rattle.std.specs.declared.cmp.Ordering.TheVariants.{Greater}
use Rattle.std.specs.Iterator.{AlwaysYields, YieldsFirst, DrainsIf}
use Rattle.itertools.specs.KMerge.{SourcesGive, joined_lists, kmerge_steps}
use Rattle.itertools.specs.declared.kmerge_impl.KMergeBy.{KMergeBy}
use Rattle.itertools.specs.declared.kmerge_impl.KMergeLt.{KMergeLt}

-- a list gives its numbers
numbers_yield : (xs : List ℕ) (s : List ℕ) → s ≡ xs → AlwaysYields (YieldsFirst (λ l. l)) (λ x. x) s xs
numbers_yield [] s e = λ x j h. (let bad = sym e ∙ h in cc)
numbers_yield (x ∷ xs) s e = (λ j h. (let bad = sym e ∙ h.0 in cc), λ y j h. (let both = sym h ∙ e in (let head : y ≡ x = cc in let rest : j ≡ xs = cc in (head, numbers_yield xs j rest))))

pub sources_give : (us : List (List ℕ)) → SourcesGive (λ u j. j ≡ u) (YieldsFirst (λ l. l)) us us
sources_give [] = tt
sources_give (u ∷ us) = (λ j e. numbers_yield u j e, sources_give us)

-- what is collected of a merge that gives all
all_from : {M E : Type 0} (steps : M → Option ℕ → M → Type 0) (m : M) (ls : List (List ℕ)) (r : Result (Vec ℕ Global) E) → IfOk r (λ v. (x : List ℕ) × DrainsIf steps ⊤ m x × ((v.items ≡ x) × (vec_len v ≡ length x))) → ((xs : List ℕ) (whole : Bool) → DrainsIf steps (whole ≡ true) m xs → (rest : List ℕ) × IsPermutation (joined_lists ls) (xs ++ rest) × (whole ≡ true → rest ≡ [])) → IfOk r (λ v. IsPermutation (joined_lists ls) v.items)
all_from steps m ls (Ok v) (x, drains, is) h =
    let found = h x true (drains.0, drains.1, λ _. drains.2 tt) in
    let whole : found.0 ≡ [] = found.2 refl in
    let all = rw (whole, append-nil) at found.1 in
    rw is.0 all
all_from steps m ls (Err e) h k = tt

sorted_from : {M E : Type 0} (steps : M → Option ℕ → M → Type 0) (m : M) (lt : ℕ → ℕ → Bool) (r : Result (Vec ℕ Global) E) → IfOk r (λ v. (x : List ℕ) × DrainsIf steps ⊤ m x × ((v.items ≡ x) × (vec_len v ≡ length x))) → ((xs : List ℕ) (whole : Bool) → DrainsIf steps (whole ≡ true) m xs → IsSortedBy lt xs) → IfOk r (λ v. IsSortedBy lt v.items)
sorted_from steps m lt (Ok v) (x, drains, is) h = subst (IsSortedBy lt) (sym is.0) (h x true (drains.0, drains.1, λ _. drains.2 tt))
sorted_from steps m lt (Err e) h k = tt

-- the steps of a merge, at the order of numbers
abbrev pub steps_of : (ℕ → ℕ → Bool) → KMergeBy (List ℕ) KMergeLt Global ℕ → Option ℕ → KMergeBy (List ℕ) KMergeLt Global ℕ → Type 0
steps_of lt = kmerge_steps (YieldsFirst (λ l. l)) (λ _ first. first ≡ lt)

pub merged_from : {E : Type 0} (lt : ℕ → ℕ → Bool) (m : KMergeBy (List ℕ) KMergeLt Global ℕ) (ls : List (List ℕ)) (r : Result (Vec ℕ Global) E) → IfOk r (λ v. (x : List ℕ) × DrainsIf (steps_of lt) ⊤ m x × ((v.items ≡ x) × (vec_len v ≡ length x))) → ((xs : List ℕ) (whole : Bool) → DrainsIf (steps_of lt) (whole ≡ true) m xs → (rest : List ℕ) × IsPermutation (joined_lists ls) (xs ++ rest) × (whole ≡ true → rest ≡ [])) → IfOk r (λ v. IsPermutation (joined_lists ls) v.items)
merged_from lt = all_from (steps_of lt)

pub merged_sorted : {E : Type 0} (lt : ℕ → ℕ → Bool) (m : KMergeBy (List ℕ) KMergeLt Global ℕ) (r : Result (Vec ℕ Global) E) → IfOk r (λ v. (x : List ℕ) × DrainsIf (steps_of lt) ⊤ m x × ((v.items ≡ x) × (vec_len v ≡ length x))) → ((xs : List ℕ) (whole : Bool) → DrainsIf (steps_of lt) (whole ≡ true) m xs → IsSortedBy lt xs) → IfOk r (λ v. IsSortedBy lt v.items)
merged_sorted lt m = sorted_from (steps_of lt) m lt

-- ascending numbers are in order
pub sorted_from_ascending : (xs : List ℕ) → IsStrictlyIncreasing xs → IsSorted nat_cmp xs
sorted_from_ascending xs up k d low lt =
    let here = get_or_default xs k d 0 (omega arith) in
    let next = get_or_default xs (k + 1) d 0 lt in
    let rise = up k lt in
    let greater : Greater ≡ nat_cmp (get_or xs (k + 1) d) (get_or xs k d) = nat_cmp_is (get_or xs (k + 1) d) (get_or xs k d) Greater (omega arith) in
    ap is_lt (sym greater)

-- what some of the lists has is among all their numbers
pub some_joined : (us : List (List ℕ)) (n : ℕ) → Any (λ u. Contains u n) us → Contains (joined_lists us) n
some_joined [] n w = absurd (omega (arith, w.2))
some_joined (u ∷ us) n (zero, x, l, e, c) = Contains-append_left u (joined_lists us) n (rw (← e) at c)
some_joined (u ∷ us) n (suc k, x, l, e, c) = Contains-append_right u (joined_lists us) n (some_joined us n (k, x, omega (arith, l), e, c))

pub joined_some : (us : List (List ℕ)) (n : ℕ) → Contains (joined_lists us) n → Any (λ u. Contains u n) us
joined_some [] n w = absurd (omega (arith, w.1))
joined_some (u ∷ us) n w = elim (Contains-append_cases u (joined_lists us) n w) [
  | inl c ↦ (0, u, omega arith, refl, c)
  | inr c ↦ let r = joined_some us n c in (suc r.0, r.1, omega (arith, r.2), r.3, r.4)
]
