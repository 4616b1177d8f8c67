-- where the runs of each row begin, as they are found in turn
use Rattle.std.proofs.Common.{◌≡◌, ℕ, ◌+◌, ◌-◌, ◌<◌, List, [], ◌∷◌, ◌++◌, map, Bor, length, get_or, set, slice_get, take, append_assoc, ap, sym, ◌∙◌, zero, suc, arith, inl, inr, All, Contains, replicate}
use Rattle.std.specs.Prelude.{Some}
use Rattle.std.proofs.lemmas.Bool.{cases_eq, cases_lt}
use Rattle.std.proofs.lemmas.List.{get_or-set_same, get_or-set_other, length-set, length-map, length-replicate, map-append, take_more}
use Rattle.std.proofs.lemmas.List.Elements.{All-weaker, All-contains_itself, Contains-append_left, Contains-push, Contains-push_cases}
use Rattle.std.proofs.lemmas.Option.{same_Some, slice_get_within}
use Rattle.rbac_terms.specs.declared.matching.Rule.{Rule}
use Rattle.rbac_terms.proofs.Reading.{read_some}
use Rattle.rbac_model.specs.Policies.{PolicyView}
use Rattle.rbac_index.specs.Indexed.{IsRun, AreStarts}
use Rattle.rbac_index.proofs.ReadLemmas.{read_now}

nothing_in : (count at n : ℕ) → Contains (get_or (replicate count []) at []) n → ⊥
nothing_in zero at n w = omega (arith, w.1)
nothing_in (suc count) zero n w = omega (arith, w.1)
nothing_in (suc count) (suc at) n w = nothing_in count at n w

pub starts_none : (p : PolicyView) (rows : List (List Rule)) → AreStarts p rows 0 (replicate (length rows) [])
starts_none p rows = record {
  len = length-replicate (length rows) [];
  sound = λ row start rs at w. absurd (nothing_in (length rows) row start w);
  complete = λ n lt. absurd (omega arith);
}

-- a run more, put behind the others of its row
pub starts_more : (p : PolicyView) (rows : List (List Rule)) (n row : ℕ) (rs : List Rule) (old new : List (List ℕ)) → slice_get rows row ≡ Some rs → IsRun p rs n → new ≡ set old row (get_or old row [] ++ n ∷ []) → AreStarts p rows n old → AreStarts p rows (n + length rs) new
starts_more p rows n row rs old new at run is are =
    let lt : row < length old = omega (arith, slice_get_within rows row rs at, are.len) in
    let here : get_or new row [] ≡ get_or old row [] ++ n ∷ [] = ap (λ (l : List (List ℕ)). get_or l row []) is ∙ get_or-set_same old row (get_or old row [] ++ n ∷ []) [] lt in
    let other : (k : ℕ) → (k ≡ row → ⊥) → get_or new k [] ≡ get_or old k [] = λ k ne. ap (λ (l : List (List ℕ)). get_or l k []) is ∙ get_or-set_other old row k (get_or old row [] ++ n ∷ []) [] ne in
    let keeps : (k m : ℕ) → Contains (get_or old k []) m → Contains (get_or new k []) m = λ k m w. elim (cases_eq k row) [
      | inl e ↦ rw (e, here) (Contains-append_left (get_or old row []) (n ∷ []) m (rw e at w))
      | inr ne ↦ rw (other k ne) w
    ] in
    record {
      len = ap length is ∙ length-set old row (get_or old row [] ++ n ∷ []) ∙ are.len;
      sound = λ k m qs there w. elim (cases_eq k row) [
        | inl e ↦
            let mine : slice_get rows row ≡ Some qs = rw e at there in
            let same : rs ≡ qs = same_Some rs qs (sym at ∙ mine) in
            let inside : Contains (get_or old row [] ++ n ∷ []) m = rw (e, here) at w in
            elim (Contains-push_cases (get_or old row []) n m inside) [
              | inl c ↦ let s = are.sound row m qs mine c in (omega (arith, s.0), s.1)
              | inr is ↦ rw (← same, ← is) (omega arith, run)
            ]
        | inr ne ↦ let s = are.sound k m qs there (rw (other k ne) at w) in (omega (arith, s.0), s.1)
      ];
      complete = λ m low. elim (cases_lt m n) [
        | inl l ↦ let s = are.complete m l in (s.0, s.1, s.2, s.3, s.4, keeps s.0 s.1 s.5, s.6)
        | inr l ↦
            let r = read_some rs (m - n) (omega arith) in
            (row, n, m - n, r.0, (rs, at, r.1), rw here (Contains-push (get_or old row []) n), omega arith)
      ];
    }

-- the runs of a row that were found begin before the next
pub starts_below : (p : PolicyView) (rows : List (List Rule)) (n row : ℕ) (rs : List Rule) (starts : List (List ℕ)) → slice_get rows row ≡ Some rs → 0 < length rs → AreStarts p rows n starts → All (λ m. m < n) (get_or starts row [])
starts_below p rows n row rs starts at some are = All-weaker (Contains (get_or starts row [])) (λ m. m < n) (λ m w. omega (arith, some, (are.sound row m rs at w).0)) (get_or starts row []) (All-contains_itself (get_or starts row []))

-- the rules to which a row leads
module _ (rows : List (Bor (List Rule))) (all : List (List Rule)) (are : map (λ r. r.now) rows ≡ all) (row : ℕ) (rs : List Rule) (there : slice_get all row ≡ Some rs) where
  pub row_within : row < length rows
  row_within = omega (arith, slice_get_within all row rs there, ap length are, length-map {A = Bor (List Rule)} {B = List Rule} rows (λ r. r.now))

  pub row_read : (r : Bor (List Rule)) → r ≡ get_or rows row r → r.now ≡ rs
  row_read r is = same_Some r.now rs (sym (read_now rows row r row_within is) ∙ ap (λ (l : List (List Rule)). slice_get l row) are ∙ there)

-- the rules of one item more, added as a row
pub rows_more : {X : Type 0} (rules : X → List Rule) (items : List X) (i : ℕ) (item : X) (before : List (List Rule)) (old new : List (Bor (List Rule))) (row : Bor (List Rule)) → i < length items → item ≡ get_or items i item → row.now ≡ rules item → new ≡ old ++ row ∷ []
    → map (λ r. r.now) old ≡ before ++ map rules (take i items) → map (λ r. r.now) new ≡ before ++ map rules (take (i + 1) items)
rows_more {X} rules items i item before old new row lt is same new_is old_is =
    let now : Bor (List Rule) → List Rule = λ r. r.now in
    let more : take (i + 1) items ≡ take i items ++ item ∷ [] = take_more items i item lt ∙ ap (λ (x : X). take i items ++ x ∷ []) (sym is) in
    let put : map now new ≡ map now old ++ row.now ∷ [] = ap (map now) new_is ∙ map-append now old (row ∷ []) in
    put ∙ ap (λ (rs : List (List Rule)). rs ++ row.now ∷ []) old_is ∙ ap (λ (rs : List Rule). (before ++ map rules (take i items)) ++ rs ∷ []) same ∙ append_assoc before (map rules (take i items)) (rules item ∷ []) ∙ ap (λ (rs : List (List Rule)). before ++ rs) (sym (ap (map rules) more ∙ map-append rules (take i items) (item ∷ [])))
