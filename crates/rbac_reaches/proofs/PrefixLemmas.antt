-- texts that begin with other texts, in order
use Rattle.std.proofs.Common.{◌≡◌, ℕ, ◌+◌, ◌-◌, ◌<◌, ◌≤◌, ◌⊎◌, inl, inr, List, [], ◌∷◌, ◌++◌, get_or, length, append_assoc, sym, ap, ◌∙◌, refl, subst, arith, zero, suc, Bool, true, false, cond, All, Any, Contains, ◌↔◌, IsTrue}
use Rattle.std.specs.Prelude.{AllPairs}
use Rattle.std.specs.List.{dedup, dedup_from}
use Rattle.std.specs.List.Sorted.{IsPartitionPoint, IsPartitionedBy, IsSorted}
use Rattle.std.specs.Ordering.{nat_cmp, ordering_then, is_le, is_lt, MatchOrdering, ordering_reverse}
use Rattle.std.specs.declared.cmp.Ordering.{Ordering}
use Rattle.std.specs.declared.cmp.Ordering.TheVariants.{Less, Equal, Greater}
use Rattle.std.proofs.lemmas.Bool.{cases_lt}
use Rattle.std.proofs.lemmas.Cmp.{tied_itself, nat_cmp_total, nat_list_cmp_total, ranked}
use Rattle.std.proofs.lemmas.Map.Lookups.{exact_bytes}
use Rattle.std.proofs.lemmas.List.Elements.{All-cons, All-head, All-tail, All-weaker}
use Rattle.std.proofs.lemmas.List.{append-nil, get_or_default}
use Rattle.std.proofs.lemmas.List.Filters.{All-dedup}
use Rattle.std.proofs.lemmas.List.Kept.{AllPairs-cons, Contains-from_dedup}
use Rattle.std.proofs.lemmas.List.Sorted.{ranks_by, sorted_far}
use Rattle.rbac_terms.specs.Text.{Text, text_cmp, BeginsWith}
use Rattle.rbac_reaches.specs.Wildcards.{AreApart}

-- ---- the order of texts, and their beginnings

-- of texts in order, the first bytes are in order
first_le : (c d : ℕ) (r o : Ordering) → MatchOrdering r (c < d) (c ≡ d) (d < c) → is_le (ordering_then r o) ≡ true → c ≤ d
first_le c d Less o m e = omega (arith, m)
first_le c d Equal o m e = omega (arith, m)
first_le c d Greater o m e = cc

heads : (c d : ℕ) (o p : Ordering) → is_le (ordering_then (nat_cmp c d) o) ≡ true → is_le (ordering_then (nat_cmp d c) p) ≡ true → c ≡ d
heads c d o p a b = omega (arith, first_le c d (nat_cmp c d) o (ranked c d (nat_cmp c d) refl) a, first_le d c (nat_cmp d c) p (ranked d c (nat_cmp d c) refl) b)

tail_le : (c d : ℕ) (o : Ordering) → c ≡ d → is_le (ordering_then (nat_cmp c d) o) ≡ true → is_le o ≡ true
tail_le c d o same e =
    let tied : nat_cmp c d ≡ Equal = ap (nat_cmp c) (sym same) ∙ tied_itself nat_cmp_total c in
    sym (ap (λ (h : Ordering). is_le (ordering_then h o)) tied) ∙ e

-- a text that isn't before another, nor after one that begins with this other, begins with it too
between : (p q rest : Text) → is_le (text_cmp p q) ≡ true → is_le (text_cmp q (p ++ rest)) ≡ true → BeginsWith q p
between [] q rest a b = (q, refl)
between (c ∷ p) [] rest a b = cc
between (c ∷ p) (d ∷ q) rest a b =
    let same : c ≡ d = heads c d (text_cmp p q) (text_cmp q (p ++ rest)) a b in
    let more : BeginsWith q p = between p q rest (tail_le c d (text_cmp p q) same a) (tail_le d c (text_cmp q (p ++ rest)) (sym same) b) in
    let e : q ≡ p ++ more.0 = more.1 in
    (more.0, cc)

-- a text isn't after one that begins with it
begins_after : (p rest : Text) → is_le (text_cmp p (p ++ rest)) ≡ true
begins_after [] [] = refl
begins_after [] (r ∷ rest) = refl
begins_after (c ∷ p) rest = ap (λ (h : Ordering). is_le (ordering_then h (text_cmp p (p ++ rest)))) (tied_itself nat_cmp_total c) ∙ begins_after p rest

begins_through : (x p q : Text) → BeginsWith x q → BeginsWith q p → BeginsWith x p
begins_through x p q b c = (c.0 ++ b.0, b.1 ∙ ap (λ (t : Text). t ++ b.0) c.1 ∙ append_assoc p c.0 b.0)

-- ---- items of lists

-- each text isn't before any earlier one
abbrev Rises : List Text → Type 0
Rises texts = AllPairs (λ a b. is_le (text_cmp a b) ≡ true) texts

pairs_head : {X : Type 0} (R : X → X → Type 0) (x : X) (xs : List X) → AllPairs R (x ∷ xs) → All (R x) xs
pairs_head R x xs h j d lt = h 0 (suc j) d (omega arith) (omega (arith, lt))

pairs_tail : {X : Type 0} (R : X → X → Type 0) (x : X) (xs : List X) → AllPairs R (x ∷ xs) → AllPairs R xs
pairs_tail R x xs h i j d lt within = h (suc i) (suc j) d (omega (arith, lt)) (omega (arith, within))

any_here : {X : Type 0} (P : X → Type 0) (x : X) (xs : List X) → P x → Any P (x ∷ xs)
any_here P x xs h = (0, x, omega arith, refl, h)

any_later : {X : Type 0} (P : X → Type 0) (x : X) (xs : List X) → Any P xs → Any P (x ∷ xs)
any_later P x xs (k, y, lt, at, h) = (suc k, y, omega (arith, lt), at, h)

any_first : {X : Type 0} (P : X → Type 0) (x : X) (xs : List X) → Any P (x ∷ xs) → P x ⊎ Any P xs
any_first P x xs (zero, y, lt, at, h) = inl (subst P (sym at) h)
any_first P x xs (suc k, y, lt, at, h) = inr (k, y, omega (arith, lt), at, h)

-- ---- texts without those that begin with an earlier one

less_if_not : (o : Ordering) (p q : Text) → o ≡ text_cmp p q → is_le o ≡ true → ¬ BeginsWith q p → o ≡ Less
less_if_not Less p q e le never = refl
less_if_not Equal p q e le never = absurd (never ([], sym (exact_bytes p q (sym e)) ∙ sym (append-nil p)))
less_if_not Greater p q e le never = cc

-- a text after k and x, which doesn't begin with k, doesn't begin with k
after_both : (k x q : Text) → is_le (text_cmp k x) ≡ true → ¬ BeginsWith x k → (is_le (text_cmp k q) ≡ true) × (is_le (text_cmp x q) ≡ true) → (text_cmp k q ≡ Less) × (¬ BeginsWith q k)
after_both k x q kx never (kq, xq) =
    let none : ¬ BeginsWith q k = λ b. never (between k x b.0 kx (subst (λ (t : Text). is_le (text_cmp x t) ≡ true) b.1 xq)) in
    (less_if_not (text_cmp k q) k q refl kq none, none)

-- what some item has, an item of a list has that contains each
pub any_of : (P : Text → Type 0) (xs ys : List Text) → ((y : Text) → Contains xs y → Contains ys y) → Any P xs → Any P ys
any_of P xs ys each (k, y, lt, at, h) = let c = each y (k, lt, at) in (c.0, y, c.1, c.2, h)

All-both : (P Q : Text → Type 0) (xs : List Text) → All P xs → All Q xs → All (λ x. P x × Q x) xs
All-both P Q xs p q k d lt = (p k d lt, q k d lt)

module _ (same : Text → Text → Bool) (tells : (x p : Text) → (same x p ≡ true) ↔ BeginsWith x p) where
  apart_by : (k x : Text) (xs : List Text) (b : Bool) → same x k ≡ b → AreApart (dedup_from same k xs) → (¬ BeginsWith x k → All (λ q. (text_cmp k q ≡ Less) × (¬ BeginsWith q k)) (dedup_from same x xs)) → AreApart (dedup_from same x xs)
      → AreApart (cond b (dedup_from same k xs) (k ∷ dedup_from same x xs))
  apart_by k x xs true e passed after kept = passed
  apart_by k x xs false e passed after kept =
      AllPairs-cons (λ a b. (text_cmp a b ≡ Less) × (¬ BeginsWith b a)) k (dedup_from same x xs) (after (λ b. let t : same x k ≡ true = (tells x k).1 b in cc)) kept

  apart_from : (k : Text) (xs : List Text) → Rises (k ∷ xs) → AreApart (dedup_from same k xs)
  apart_from k [] rises = λ i j d lt within. absurd (omega (arith, lt, within))
  apart_from k (x ∷ xs) rises =
      let le = λ (a b : Text). is_le (text_cmp a b) ≡ true in
      let first = pairs_head le k (x ∷ xs) rises in
      let rest = pairs_tail le k (x ∷ xs) rises in
      let kx : is_le (text_cmp k x) ≡ true = All-head (le k) x xs first in
      let own : is_le (text_cmp x x) ≡ true = ap is_le (tied_itself nat_list_cmp_total x) in
      let later = All-both (le k) (le x) (x ∷ xs) first (All-cons (le x) x xs own (pairs_head le x xs rest)) in
      apart_by k x xs (same x k) refl (apart_from k xs (AllPairs-cons le k xs (All-tail (le k) x xs first) (pairs_tail le x xs rest)))
      (λ never. All-dedup same (λ q. (text_cmp k q ≡ Less) × (¬ BeginsWith q k)) (x ∷ xs) (All-weaker _ _ (λ q h. after_both k x q kx never h) (x ∷ xs) later))
      (apart_from x xs rest)

  begins_by : (t k x : Text) (xs : List Text) (b : Bool) → (b ≡ true → Any (BeginsWith t) (dedup_from same k xs)) → Any (BeginsWith t) (k ∷ dedup_from same x xs) → Any (BeginsWith t) (cond b (dedup_from same k xs) (k ∷ dedup_from same x xs))
  begins_by t k x xs true passed kept = passed refl
  begins_by t k x xs false passed kept = kept

  -- whatever begins with a text that goes begins with the one before it that stays
  shorter_one : (t k x : Text) (xs : List Text) → BeginsWith x k → Any (BeginsWith t) (k ∷ x ∷ xs) → Any (BeginsWith t) (k ∷ xs)
  shorter_one t k x xs begins a = elim (any_first (BeginsWith t) k (x ∷ xs) a) [
    | inl here ↦ any_here (BeginsWith t) k xs here
    | inr later ↦ elim (any_first (BeginsWith t) x xs later) [
      | inl here ↦ any_here (BeginsWith t) k xs (begins_through t k x here begins)
      | inr rest ↦ any_later (BeginsWith t) k xs rest
    ]
  ]

  begins_from : (t k : Text) (xs : List Text) → Any (BeginsWith t) (k ∷ xs) → Any (BeginsWith t) (dedup_from same k xs)
  begins_from t k [] a = a
  begins_from t k (x ∷ xs) a = begins_by t k x xs (same x k)
      (λ e. begins_from t k xs (shorter_one t k x xs ((tells x k).0 e) a))
      (elim (any_first (BeginsWith t) k (x ∷ xs) a) [
        | inl here ↦ any_here (BeginsWith t) k (dedup_from same x xs) here
        | inr later ↦ any_later (BeginsWith t) k (dedup_from same x xs) (begins_from t x xs later)
      ])

  pub dedup_apart : (xs : List Text) → Rises xs → AreApart (dedup same xs)
  dedup_apart [] rises = λ i j d lt within. absurd (omega (arith, within))
  dedup_apart (x ∷ xs) rises = apart_from x xs rises

  pub dedup_begins : (t : Text) (xs : List Text) → Any (BeginsWith t) (dedup same xs) ↔ Any (BeginsWith t) xs
  dedup_begins t [] = (λ a. a, λ a. a)
  dedup_begins t (x ∷ xs) = (λ a. any_of (BeginsWith t) (dedup same (x ∷ xs)) (x ∷ xs) (Contains-from_dedup same (x ∷ xs)) a, begins_from t x xs)

-- ---- in order

not_less : (o p : Ordering) → o ≡ ordering_reverse p → is_lt p ≡ false → is_le o ≡ true
not_less o Less e never = cc
not_less o Equal e never = ap is_le e
not_less o Greater e never = ap is_le e

pub sorted_rises : (xs : List Text) → IsSorted text_cmp xs → Rises xs
sorted_rises xs sorted i j d lt within =
    not_less (text_cmp (get_or xs i d) (get_or xs j d)) (text_cmp (get_or xs j d) (get_or xs i d)) (nat_list_cmp_total.antisymm (get_or xs i d) (get_or xs j d))
    (sorted_far (λ x y. is_lt (text_cmp x y)) (ranks_by nat_list_cmp_total (λ (x : Text). x)) xs sorted i j d (omega (arith, lt)) within)

less_le : (a b c : Text) (o : Ordering) → o ≡ text_cmp b c → text_cmp a b ≡ Less → is_le o ≡ true → is_le (text_cmp a c) ≡ true
less_le a b c Less e ab bc = ap is_le (nat_list_cmp_total.trans a b c ab (sym e))
less_le a b c Equal e ab bc = subst (λ (t : Text). is_le (text_cmp a t) ≡ true) (exact_bytes b c (sym e)) (ap is_le ab)
less_le a b c Greater e ab bc = cc

-- ---- the last that isn't after a text

module _ (texts : List Text) (t : Text) (apart : AreApart texts) where
  pub parted_apart : IsPartitionedBy (λ y. is_le (text_cmp y t)) texts
  parted_apart i j d le lt e = elim (cases_lt i j) [
    | inl below ↦ less_le (get_or texts i d) (get_or texts j d) t (text_cmp (get_or texts j d) t) refl (apart i j d below lt).0 e
    | inr above ↦ let one : i ≡ j = omega (arith, le, above) in subst (λ (n : ℕ). is_le (text_cmp (get_or texts n d) t) ≡ true) (sym one) e
  ]

  pub last_begins : (n : ℕ) → IsPartitionPoint (λ y. is_le (text_cmp y t) ≡ true) (λ y. is_le (text_cmp y t) ≡ false) texts n → n ≤ length texts → Any (BeginsWith t) texts → (1 ≤ n) × ((d : Text) → BeginsWith t (get_or texts (n - 1) d))
  last_begins n point bound (k, p, lt, at, begins) =
      let le : is_le (text_cmp p t) ≡ true = subst (λ (u : Text). is_le (text_cmp p u) ≡ true) (sym begins.1) (begins_after p begins.0) in
      let low : k < n = elim (cases_lt k n) [ inl l ↦ l | inr ge ↦ (let never : is_le (text_cmp p t) ≡ false = rw at at (point.1 k p ge lt) in cc) ] in (
        omega (arith, low),
        λ d. elim (cases_lt k (n - 1)) [
          | inl below ↦
              let last : n - 1 < length texts = omega (arith, low, bound) in
              let m = get_or texts (n - 1) p in
              let pair : (text_cmp p m ≡ Less) × (¬ BeginsWith m p) = rw at at (apart k (n - 1) p below last) in
              let up : is_le (text_cmp m t) ≡ true = point.0 (n - 1) p (omega arith) (omega (arith, low)) in
              absurd (pair.1 (between p m begins.0 (ap is_le pair.0) (subst (λ (u : Text). is_le (text_cmp m u) ≡ true) begins.1 up)))
          | inr above ↦
              let here : k ≡ n - 1 = omega (arith, low, above) in
              subst (λ (m : ℕ). BeginsWith t (get_or texts m d)) here (subst (BeginsWith t) (sym (get_or_default texts k d p lt ∙ at)) begins)
        ],
      )

  -- the last one tells whether the text begins with any
  pub last_tells : (n last : ℕ) (p : Text) (r : Bool) → IsPartitionPoint (λ y. is_le (text_cmp y t) ≡ true) (λ y. is_le (text_cmp y t) ≡ false) texts n → n ≤ length texts → (1 ≤ n) × (last ≡ n - 1) → p ≡ get_or texts last p → (IsTrue r ↔ BeginsWith t p)
      → IsTrue r ↔ Any (BeginsWith t) texts
  last_tells n last p r point bound is at begins = (
    λ h. (last, p, omega (arith, is.0, is.1, bound), sym at, begins.0 h),
    λ a. begins.1 (subst (BeginsWith t) (sym at) (subst (λ (m : ℕ). BeginsWith t (get_or texts m p)) (sym is.1) ((last_begins n point bound a).1 p))),
  )
