-- which names stand more than once in a sorted list, run by run of equal ones
use Rattle.std.proofs.Common.{◌≡◌, ◌≢◌, ℕ, ◌+◌, ◌-◌, ◌<◌, ◌≤◌, ◌⊎◌, ◌↔◌, inl, inr, List, [], ◌∷◌, ◌++◌, length, get_or, length-append, append-nil, append_assoc, sym, ap, ◌∙◌, refl, subst, arith, zero, suc, cond, Bor}
use Rattle.std.specs.Prelude.{Bool, true, false, Contains, count_by}
use denote.Param.Members.{Mut}
use Rattle.std.specs.Fn.{ComputesOnPairs}
use Rattle.std.specs.Iterator.{Yields}
use Rattle.std.specs.Slice.Iter.{chunk_by_rest, chunk_by_callee, chunk_by_steps}
use Rattle.std.specs.List.{sum_by, flat_map, IsChunkByPrefix}
use Rattle.std.specs.List.Sorted.{IsPermutation, IsSorted}
use Rattle.std.specs.Ordering.{is_eq, is_lt, ordering_reverse}
use Rattle.std.specs.declared.cmp.Ordering.{Ordering}
use Rattle.std.specs.declared.cmp.Ordering.TheVariants.{Less, Equal, Greater}
use Rattle.std.proofs.Math.ListN.{get_or-append}
use Rattle.std.proofs.Math.Seq.{get_or-append_seam}
use Rattle.std.proofs.lemmas.List.Sums.{sum_by-append}
use Rattle.std.proofs.lemmas.List.Sorted.{sorted_far, sum_by-IsPermutation}
use Rattle.std.proofs.lemmas.List.Quantifiers.{all_pairs_push}
use Rattle.std.proofs.lemmas.List.Elements.{Contains-append_cases, Contains-append_left, Contains-append_right, Contains-get_or}
use Rattle.rbac_terms.specs.Text.{Text}
use Rattle.rbac_terms.proofs.Cases.{by_ordering}
use Rattle.rbac_model.specs.Lists.{IsCount, IsAscendingBy, by_name}
use Rattle.rbac_model.proofs.NamePlaces.{same_name, equal_from_name, total}
use Rattle.rbac_model.proofs.LastNamed.{ranks}
use Rattle.rbac_manifest.specs.declared.replacement.Replaced.{Replaced}
use Rattle.rbac_manifest.specs.Names.{name_cmp}
use Rattle.rbac_manifest.specs.Replaced.{replaced_name, replaced_by, AreReplaced}

abbrev Name : Type 0
Name = List Text

-- ---- the order of names

same_names : (n q : Name) → name_cmp n q ≡ Equal → n ≡ q
same_names n q e = same_name (λ (t : Name). t) n q e

tied_names : (n q : Name) → n ≡ q → name_cmp n q ≡ Equal
tied_names n q e = equal_from_name (λ (t : Name). t) n q e

turned : (n q : Name) → name_cmp n q ≡ Greater → name_cmp q n ≡ Less
turned n q e = (total (λ (t : Name). t)).antisymm q n ∙ ap ordering_reverse e

less_differs : (n q : Name) → name_cmp n q ≡ Less → n ≢ q
less_differs n q l e = let t = tied_names n q e in cc

same_from_test : (n q : Name) (o : Ordering) → name_cmp n q ≡ o → is_eq o ≡ true → n ≡ q
same_from_test n q Less e t = cc
same_from_test n q Equal e t = same_names n q e
same_from_test n q Greater e t = cc

-- of two names that differ, the one that is not greater is less
less_from_both : (n q : Name) (o : Ordering) → name_cmp n q ≡ o → is_eq o ≡ false → name_cmp q n ≢ Less → name_cmp n q ≡ Less
less_from_both n q Less e t h = e
less_from_both n q Equal e t h = cc
less_from_both n q Greater e t h = absurd (h (turned n q e))

abbrev alike : Name → Name → Bool
alike x y = is_eq (name_cmp x y)

-- ---- sorted names

-- no name is less than an earlier one
NotFalling : List Name → Type 0
NotFalling [] = Unit {0}
NotFalling (x ∷ xs) = ((y : Name) → Contains xs y → name_cmp y x ≢ Less) × NotFalling xs

not_less : (o : Ordering) → is_lt o ≡ false → o ≢ Less
not_less Less e l = cc
not_less Equal e l = cc
not_less Greater e l = cc

far_apart : (xs : List Name) → ((i j : ℕ) (d : Name) → i ≤ j → j < length xs → is_lt (name_cmp (get_or xs j d) (get_or xs i d)) ≡ false) → NotFalling xs
unfolding NotFalling
far_apart [] h = tt
far_apart (x ∷ xs) h = (
  λ y w. let P : Name → Type 0 = λ z. name_cmp z x ≢ Less in subst P w.2 (not_less (name_cmp (get_or xs w.0 y) x) (h 0 (suc w.0) y (omega arith) (omega (arith, w.1)))),
  far_apart xs (λ i j d le l. h (suc i) (suc j) d (omega arith) (omega arith)),
)

not_falling : (xs : List Name) → IsSorted name_cmp xs → NotFalling xs
not_falling xs up = far_apart xs (sorted_far (λ x y. is_lt (name_cmp x y)) (ranks (λ (t : Name). t)) xs up)

falls_later : (xs ys : List Name) → NotFalling (xs ++ ys) → NotFalling ys
unfolding NotFalling
falls_later [] ys h = h
falls_later (x ∷ xs) ys h = falls_later xs ys h.1

-- ---- a run of equal names

head_there : (k : Name) (r : List Name) → Contains (k ∷ r) k
head_there k r = (0, omega arith, refl)

first_or_later : (k : Name) (r : List Name) (x : Name) → Contains (k ∷ r) x → (k ≡ x) ⊎ Contains r x
first_or_later k r x (zero, l, same) = inl same
first_or_later k r x (suc i, l, same) = inr (i, omega (arith, l), same)

all_equal : (k : Name) (r rest : List Name) → ((i : ℕ) (d : Name) → i + 1 < length (k ∷ r) → alike (get_or (k ∷ r ++ rest) i d) (get_or (k ∷ r ++ rest) (i + 1) d) ≡ true) → (x : Name) → Contains (k ∷ r) x → x ≡ k
all_equal k r rest h x (zero, l, same) = sym same
all_equal k [] rest h x (suc i, l, same) = absurd (omega (arith, l))
all_equal k (m ∷ r) rest h x (suc i, l, same) =
    let next : (j : ℕ) → suc j + 1 ≡ suc (j + 1) = λ j. omega arith in
    let P : (d : Name) (j n : ℕ) → Type 0 = λ d j n. alike (get_or (k ∷ m ∷ r ++ rest) (suc j) d) (get_or (k ∷ m ∷ r ++ rest) n d) ≡ true in
    all_equal m r rest (λ j d n. subst (P d j) (next j) (h (suc j) d (omega arith))) x (i, omega (arith, l), same)
    ∙ sym (same_from_test k m (name_cmp k m) refl (h 0 k (omega arith)))

-- the last name of the run isn't the one after it
after_run : (k : Name) (r more : List Name) → ((x : Name) → Contains (k ∷ r) x → x ≡ k)
    → (length (k ∷ r) < length ((k ∷ r) ++ more) → (d : Name) → alike (get_or ((k ∷ r) ++ more) (length (k ∷ r) - 1) d) (get_or ((k ∷ r) ++ more) (length (k ∷ r)) d) ≡ false)
    → 0 < length more → (d : Name) → alike k (get_or more 0 d) ≡ false
after_run k r [] same cut some d = absurd (omega (arith, some))
after_run k r (m ∷ more) same cut some d =
    let last : get_or ((k ∷ r) ++ m ∷ more) (length r) d ≡ k = get_or-append (k ∷ r) (m ∷ more) d (length r) (omega arith) ∙ same (get_or (k ∷ r) (length r) d) (Contains-get_or (k ∷ r) (length r) d (omega arith)) in
    let next : get_or ((k ∷ r) ++ m ∷ more) (length (k ∷ r)) d ≡ m = get_or-append_seam (k ∷ r) m more d in
    let before : length (k ∷ r) - 1 ≡ length r = omega arith in
    let there : (i : ℕ) → Name = λ i. get_or ((k ∷ r) ++ m ∷ more) i d in
    sym (ap (λ (i : ℕ). alike (there i) (there (length (k ∷ r)))) before ∙ ap (λ (x : Name). alike x (there (length (k ∷ r)))) last ∙ ap (λ (y : Name). alike k y) next) ∙ cut (omega (arith, length-append (k ∷ r) (m ∷ more))) d

-- the names after the run are greater
run_below : (k : Name) (r rest : List Name) → NotFalling (k ∷ r ++ rest) → ((x : Name) → Contains (k ∷ r) x → x ≡ k)
    → (0 < length rest → (d : Name) → alike k (get_or rest 0 d) ≡ false) → (y : Name) → Contains rest y → name_cmp k y ≡ Less
unfolding NotFalling
run_below k r [] up same gap y w = absurd (omega (arith, w.1))
run_below k r (z ∷ rest) up same gap y w =
    let first : name_cmp k z ≡ Less = less_from_both k z (name_cmp k z) refl (gap (omega arith) z) (up.0 z (Contains-append_right r (z ∷ rest) z (head_there z rest))) in
    let after : (o : Ordering) → name_cmp k y ≡ o → o ≢ Equal = λ o e q. (
    let tied : k ≡ y = same_names k y (e ∙ q) in
    let P : Name → Type 0 = λ n. name_cmp n z ≢ Less in
    elim (first_or_later z rest y w) [
      | inl there ↦ less_differs k z first (tied ∙ sym there)
      | inr later ↦ subst P (sym tied) ((falls_later r (z ∷ rest) up.1).0 y later) first
    ]) in
    by_ordering (name_cmp k y) (λ e. e) (λ e. absurd (after Equal e refl)) (λ e. absurd (up.0 y (Contains-append_right r (z ∷ rest) y w) (turned k y e)))

-- ---- counts

-- a count by the test is a count of what is the name
count_step : (q n : Name) (k : ℕ) (o : Ordering) (ns : List Name) → name_cmp n q ≡ o → IsCount (λ t. t ≡ q) ns k → IsCount (λ t. t ≡ q) (n ∷ ns) (cond (is_eq o) 1 0 + k)
count_step q n k Less ns e c = let same : 0 + k ≡ k = omega arith in inr (less_differs n q e, let P : ℕ → Type 0 = λ m. IsCount (λ t. t ≡ q) ns m in subst P (sym same) c)
count_step q n k Equal ns e c = inl (same_names n q e, (k, omega arith, c))
count_step q n k Greater ns e c = let same : 0 + k ≡ k = omega arith in inr ((λ s. let t = tied_names n q s in absurd (let no_way : Greater ≡ Equal = sym e ∙ t in cc)), let P : ℕ → Type 0 = λ m. IsCount (λ t. t ≡ q) ns m in subst P (sym same) c)

counted : (q : Name) (ns : List Name) → IsCount (λ t. t ≡ q) ns (count_by (λ n. is_eq (name_cmp n q)) ns)
counted q [] = refl
counted q (n ∷ ns) =
    let f : Name → ℕ = λ t. cond (is_eq (name_cmp t q)) 1 0 in
    let same : sum_by f (n ∷ ns) ≡ f n + sum_by f ns = sum_by-append f (n ∷ []) ns ∙ (let plain : 0 + f n ≡ f n = omega arith in ap (λ (k : ℕ). k + sum_by f ns) plain) in
    let P : ℕ → Type 0 = λ k. IsCount (λ t. t ≡ q) (n ∷ ns) k in
    subst P (sym same) (count_step q n (count_by (λ t. is_eq (name_cmp t q)) ns) (name_cmp n q) ns refl (counted q ns))

one_count : (q : Name) (ns : List Name) (a b : ℕ) → IsCount (λ t. t ≡ q) ns a → IsCount (λ t. t ≡ q) ns b → a ≡ b
one_count q [] a b p r = p ∙ sym r
one_count q (n ∷ ns) a b (inl p) (inl r) = omega (arith, p.1.1, r.1.1, one_count q ns p.1.0 r.1.0 p.1.2 r.1.2)
one_count q (n ∷ ns) a b (inl p) (inr r) = absurd (r.0 p.0)
one_count q (n ∷ ns) a b (inr p) (inl r) = absurd (p.0 r.0)
one_count q (n ∷ ns) a b (inr p) (inr r) = one_count q ns a b p.1 r.1

count_as : (q : Name) (ns : List Name) (a b : ℕ) → a ≡ b → IsCount (λ t. t ≡ q) ns a → IsCount (λ t. t ≡ q) ns b
count_as q ns a b e c = let P : ℕ → Type 0 = λ n. IsCount (λ t. t ≡ q) ns n in subst P e c

count_append : (q : Name) (ms ns : List Name) (a b : ℕ) → IsCount (λ t. t ≡ q) ms a → IsCount (λ t. t ≡ q) ns b → IsCount (λ t. t ≡ q) (ms ++ ns) (a + b)
count_append q [] ns a b p r = count_as q ns b (a + b) (omega (arith, p)) r
count_append q (m ∷ ms) ns a b (inl p) r = inl (p.0, (p.1.0 + b, omega (arith, p.1.1), count_append q ms ns p.1.0 b p.1.2 r))
count_append q (m ∷ ms) ns a b (inr p) r = inr (p.0, count_append q ms ns a b p.1 r)

count_none : (q : Name) (ns : List Name) → ((x : Name) → Contains ns x → x ≢ q) → IsCount (λ t. t ≡ q) ns 0
count_none q [] h = refl
count_none q (n ∷ ns) h = inr (h n (head_there n ns), count_none q ns (λ x w. h x (suc w.0, omega (arith, w.1), w.2)))

count_all : (q : Name) (ns : List Name) → ((x : Name) → Contains ns x → x ≡ q) → IsCount (λ t. t ≡ q) ns (length ns)
count_all q [] h = refl
count_all q (n ∷ ns) h = inl (h n (head_there n ns), (length ns, omega arith, count_all q ns (λ x w. h x (suc w.0, omega (arith, w.1), w.2))))

count_there : (q : Name) (ns : List Name) (k : ℕ) → IsCount (λ t. t ≡ q) ns (k + 1) → Contains ns q
count_there q [] k c = absurd (omega (arith, c))
count_there q (n ∷ ns) k (inl p) = (0, omega arith, p.0)
count_there q (n ∷ ns) k (inr p) = let w = count_there q ns k p.1 in (suc w.0, omega (arith, w.1), w.2)

-- ---- what one run gives

Gives : Name → ℕ → Replaced → Type 0
Gives k n r = (k ≡ replaced_name r) × (n ≡ r.earlier + 1) × (0 < r.earlier)

gives : (k : Name) (run : List Name) (r : Replaced) → Contains (replaced_by (k ∷ run)) r → Gives k (length (k ∷ run)) r
unfolding Gives
gives [] run r w = absurd (omega (arith, w.1))
gives (a ∷ []) run r w = absurd (omega (arith, w.1))
gives (a ∷ b ∷ []) run r w = absurd (omega (arith, w.1))
gives (a ∷ b ∷ c ∷ d ∷ k) run r w = absurd (omega (arith, w.1))
gives (a ∷ b ∷ c ∷ []) [] r w = absurd (omega (arith, w.1))
gives (a ∷ b ∷ c ∷ []) (m ∷ run) r (suc i, l, same) = absurd (omega (arith, l))
gives (a ∷ b ∷ c ∷ []) (m ∷ run) r (zero, l, same) =
    let earlier : length run + 1 ≡ r.earlier = ap (λ (v : Replaced). v.earlier) same in
    (ap replaced_name same, omega (arith, earlier), omega (arith, earlier))

has : (r : Replaced) (run : List Name) → length run ≡ r.earlier → 0 < r.earlier → Contains (replaced_by (replaced_name r ∷ run)) r
has r [] e l = absurd (omega (arith, e))
has r (m ∷ run) e l =
    let same : length run + 1 ≡ r.earlier = omega (arith, e) in
    (0, omega arith, ap (λ (n : ℕ). record { kind = r.kind; namespace = r.namespace; name = r.name; earlier = n }) same)

at_most_one : (k : Name) (run : List Name) → length (replaced_by (k ∷ run)) ≤ 1
at_most_one [] run = omega arith
at_most_one (a ∷ []) run = omega arith
at_most_one (a ∷ b ∷ []) run = omega arith
at_most_one (a ∷ b ∷ c ∷ d ∷ k) run = omega arith
at_most_one (a ∷ b ∷ c ∷ []) [] = omega arith
at_most_one (a ∷ b ∷ c ∷ []) (m ∷ run) = omega arith

pairs_append : (xs ys : List Replaced) → length ys ≤ 1 → IsAscendingBy replaced_name xs → ((x y : Replaced) → Contains xs x → Contains ys y → by_name replaced_name x y ≡ Less) → IsAscendingBy replaced_name (xs ++ ys)
pairs_append xs [] l up cross = let P : List Replaced → Type 0 = λ v. IsAscendingBy replaced_name v in subst P (sym (append-nil xs)) up
pairs_append xs (y ∷ []) l up cross = all_pairs_push (λ a b. by_name replaced_name a b ≡ Less) xs y up (λ k d m. cross (get_or xs k d) y (Contains-get_or xs k d m) (0, omega arith, refl))
pairs_append xs (y ∷ z ∷ ys) l up cross = absurd (omega (arith, l))

-- ---- run after run

-- of the names, all but the rest are seen, and less than the rest
record HasListed (names rest : List Name) (rs : List Replaced) : Type 0 where
  pub seen : List Name
  pub whole : names ≡ seen ++ rest
  pub listed : AreReplaced seen rs
  pub below : (x y : Name) → Contains seen x → Contains rest y → name_cmp x y ≡ Less

none_listed : (names : List Name) → HasListed names names []
none_listed names = record {
  seen = [];
  whole = refl;
  listed = record {
    ordered = λ i j d lt l. absurd (omega (arith, l));
    exact = λ r. (λ w. absurd (omega (arith, w.1)), λ w. absurd (omega (arith, w.1)));
  };
  below = λ x y w v. absurd (omega (arith, w.1));
}

all_listed : (names rest : List Name) (rs : List Replaced) → length rest ≡ 0 → HasListed names rest rs → AreReplaced names rs
all_listed names [] rs l is = let P : List Name → Type 0 = λ ns. AreReplaced ns rs in subst P (sym (is.whole ∙ append-nil is.seen)) is.listed
all_listed names (n ∷ rest) rs l is = absurd (omega (arith, l))

-- one more run, of names that are k
module _ (seen : List Name) (rs : List Replaced) (listed : AreReplaced seen rs) (k : Name) (r : List Name) (same : (x : Name) → Contains (k ∷ r) x → x ≡ k) (below : (x : Name) → Contains seen x → name_cmp x k ≡ Less) where
  abbrev run : List Name
  run = k ∷ r

  other_in_run : (q : Name) → k ≢ q → IsCount (λ t. t ≡ q) run 0
  other_in_run q ne = count_none q run (λ x w e. ne (sym (same x w) ∙ e))

  unseen : IsCount (λ t. t ≡ k) seen 0
  unseen = count_none k seen (λ x w. less_differs x k (below x w))

  of_run : IsCount (λ t. t ≡ k) (seen ++ run) (length run)
  of_run = count_as k (seen ++ run) (0 + length run) (length run) (omega arith) (count_append k seen run 0 (length run) unseen (count_all k run same))

  listed_more : (x : Replaced) → Contains (rs ++ replaced_by run) x → (0 < x.earlier) × IsCount (λ n. n ≡ replaced_name x) (seen ++ run) (x.earlier + 1)
  unfolding Gives
  listed_more x w = elim (Contains-append_cases rs (replaced_by run) x w) [
    | inl was ↦
        let q : Name = replaced_name x in
        let before = (listed.exact x).0 was in
        let ne : q ≢ k = less_differs q k (below q (count_there q seen x.earlier before.1)) in
        (before.0, count_as q (seen ++ run) (x.earlier + 1 + 0) (x.earlier + 1) (omega arith) (count_append q seen run (x.earlier + 1) 0 before.1 (other_in_run q (λ e. ne (sym e)))))
    | inr new ↦
        let g : Gives k (length run) x = gives k r x new in
        let P : Name → Type 0 = λ q. IsCount (λ t. t ≡ q) (seen ++ run) (x.earlier + 1) in
        (g.2, subst P g.0 (count_as k (seen ++ run) (length run) (x.earlier + 1) g.1 of_run))
  ]

  more_listed : (x : Replaced) → 0 < x.earlier → IsCount (λ n. n ≡ replaced_name x) (seen ++ run) (x.earlier + 1) → Contains (rs ++ replaced_by run) x
  more_listed x some count =
      let q : Name = replaced_name x in
      let other : k ≢ q → Contains (rs ++ replaced_by run) x = λ ne. (
      let before = count_by (λ t. is_eq (name_cmp t q)) seen in
      let all = count_append q seen run before 0 (counted q seen) (other_in_run q ne) in
      let n : before ≡ x.earlier + 1 = omega (arith, one_count q (seen ++ run) (before + 0) (x.earlier + 1) all count) in
      Contains-append_left rs (replaced_by run) x ((listed.exact x).1 (some, count_as q seen before (x.earlier + 1) n (counted q seen)))) in
      by_ordering (name_cmp k q)
      (λ e. other (less_differs k q e))
      (λ e.
      let is : k ≡ q = same_names k q e in
      let P : Name → Type 0 = λ n. IsCount (λ t. t ≡ n) (seen ++ run) (length run) in
      let n : length run ≡ x.earlier + 1 = one_count q (seen ++ run) (length run) (x.earlier + 1) (subst P is of_run) count in
      let Q : Name → Type 0 = λ n. Contains (replaced_by (n ∷ r)) x in
      Contains-append_right rs (replaced_by run) x (subst Q (sym is) (has x r (omega (arith, n)) some)))
      (λ e. other (λ t. let tied = tied_names k q t in cc))

  run_listed : AreReplaced (seen ++ run) (rs ++ replaced_by run)
  unfolding Gives
  run_listed = record {
    ordered = pairs_append rs (replaced_by run) (at_most_one k r) listed.ordered
        (λ x y a b.
        let q : Name = replaced_name x in
        let g : Gives k (length run) y = gives k r y b in
        let less = below q (count_there q seen x.earlier ((listed.exact x).0 a).1) in
        ap (λ (n : Name). name_cmp q n) (sym g.0) ∙ less);
    exact = λ x. (listed_more x, λ w. more_listed x w.0 w.1);
  }

-- one more run
step_to : (names rest more : List Name) (rs : List Replaced) (k : Name) (r : List Name) → NotFalling names → HasListed names rest rs → rest ≡ (k ∷ r) ++ more
    → IsChunkByPrefix alike rest (length (k ∷ r)) → HasListed names more (rs ++ replaced_by (k ∷ r))
step_to names rest more rs k r up is parts chunk =
    let P : List Name → Type 0 = λ ns. IsChunkByPrefix alike ns (length (k ∷ r)) in
    let run : List Name = k ∷ r in
    let cut = subst P parts chunk in
    let same = all_equal k r more (λ i d l. cut.0 i d l) in
    let whole : names ≡ is.seen ++ (run ++ more) = is.whole ∙ ap (λ (ns : List Name). is.seen ++ ns) parts in
    let there : (y : Name) → Contains (run ++ more) y → Contains rest y = λ y w. (let Q : List Name → Type 0 = λ ns. Contains ns y in subst Q (sym parts) w) in
    let below : (x : Name) → Contains is.seen x → name_cmp x k ≡ Less = λ x w. is.below x k w (there k (Contains-append_left run more k (head_there k r))) in
    let gap : 0 < length more → (d : Name) → alike k (get_or more 0 d) ≡ false = λ some d. after_run k r more same cut.1 some d in
    let later : (y : Name) → Contains more y → name_cmp k y ≡ Less = run_below k r more (falls_later is.seen (run ++ more) (let Q : List Name → Type 0 = λ ns. NotFalling ns in subst Q whole up)) same gap in
    record {
      seen = is.seen ++ run;
      whole = whole ∙ sym (append_assoc is.seen run more);
      listed = run_listed is.seen rs is.listed k r same below;
      below = λ x y w v. elim (Contains-append_cases is.seen run x w) [
        | inl before ↦ is.below x y before (there y (Contains-append_right run more y v))
        | inr now ↦ let Q : Name → Type 0 = λ n. name_cmp n y ≡ Less in subst Q (sym (same x now)) (later y v)
      ];
    }

one_more_run : (names rest more run : List Name) (rs : List Replaced) → NotFalling names → HasListed names rest rs → rest ≡ run ++ more → 0 < length run
    → IsChunkByPrefix alike rest (length run) → HasListed names more (rs ++ replaced_by run)
one_more_run names rest more [] rs up is parts some chunk = absurd (omega (arith, some))
one_more_run names rest more (k ∷ r) rs up is parts some chunk = step_to names rest more rs k r up is parts chunk

-- `chunk_by` cuts names into these runs
module _ {F : Type 0} (g : Mut F (Bor Name × (Bor Name × Unit {0})) Bool) (names : List Name) (up : NotFalling names) where
  each_run : (runs : List (Bor (List Name))) (rs : List Replaced) (s t : _) → ComputesOnPairs g alike (chunk_by_callee s) → HasListed names (chunk_by_rest s) rs → Yields (chunk_by_steps g) s runs t
      → HasListed names (chunk_by_rest t) (rs ++ flat_map (λ run. replaced_by run.now) runs)
  each_run [] rs s t tests is y =
      let P : List Name → Type 0 = λ rest. HasListed names rest rs in
      let Q : List Replaced → Type 0 = λ v. HasListed names (chunk_by_rest t) v in
      subst Q (sym (append-nil rs)) (subst P (ap chunk_by_rest y) is)
  each_run (run ∷ runs) rs s t tests is y =
      let cut = y.1.2 alike tests in
      let listed = one_more_run names (chunk_by_rest s) (chunk_by_rest y.0) run.now rs up is y.1.0 y.1.1 cut.1 in
      let Q : List Replaced → Type 0 = λ v. HasListed names (chunk_by_rest t) v in
      subst Q (append_assoc rs (replaced_by run.now) (flat_map (λ r. replaced_by r.now) runs)) (each_run runs (rs ++ replaced_by run.now) y.0 t cut.0 listed y.2)

pub all_runs : {F : Type 0} {g : Mut F (Bor Name × (Bor Name × Unit {0})) Bool} (names : List Name) (runs : List (Bor (List Name))) (s t : _) → Yields (chunk_by_steps g) s runs t → IsSorted name_cmp names
    → chunk_by_rest s ≡ names → ComputesOnPairs g alike (chunk_by_callee s) → length (chunk_by_rest t) ≡ 0 → AreReplaced names (flat_map (λ run. replaced_by run.now) runs)
all_runs {F} {g} names runs s t y up e tests l =
    let P : List Name → Type 0 = λ rest. HasListed names rest [] in
    all_listed names (chunk_by_rest t) (flat_map (λ run. replaced_by run.now) runs) l (each_run g names (not_falling names up) runs [] s t tests (subst P (sym e) (none_listed names)) y)

-- ---- sorted or not

as_often : (q : Name) (names sorted : List Name) (n : ℕ) → IsPermutation names sorted → IsCount (λ t. t ≡ q) sorted n ↔ IsCount (λ t. t ≡ q) names n
as_often q names sorted n moved =
    let f : Name → ℕ = λ t. cond (is_eq (name_cmp t q)) 1 0 in
    let same : sum_by f sorted ≡ sum_by f names = sum_by-IsPermutation f names sorted moved in
    let in_names = counted q names in
    let in_sorted = counted q sorted in (
      λ c. count_as q names (sum_by f names) n (sym same ∙ one_count q sorted (sum_by f sorted) n in_sorted c) in_names,
      λ c. count_as q sorted (sum_by f sorted) n (same ∙ one_count q names (sum_by f names) n in_names c) in_sorted,
    )

pub sorted_listed : (names sorted : List Name) (rs : List Replaced) → IsPermutation names sorted → AreReplaced sorted rs → AreReplaced names rs
sorted_listed names sorted rs moved are = record {
  ordered = are.ordered;
  exact = λ r.
      let often = as_often (replaced_name r) names sorted (r.earlier + 1) moved in (
        λ w. let a = (are.exact r).0 w in (a.0, often.0 a.1),
        λ w. (are.exact r).1 (w.0, often.1 w.1),
      );
}
