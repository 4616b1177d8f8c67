-- the first runs of somebody's grants, from the first places of bindings that name them
use Rattle.std.proofs.Common.{◌≡◌, ℕ, ◌<◌, ◌≤◌, List, [], ◌∷◌, ◌++◌, length, suc, zero, ap, slice_get, AllPairs, Contains, sym, refl, subst, arith, inl, inr, ◌⊎◌, ◌↔◌, IsTrue, Bool, true, false}
use Rattle.std.specs.Prelude.{Some}
use Rattle.std.specs.List.{AllZip}
use Rattle.std.proofs.lemmas.Bool.{cases_lt}
use Rattle.std.proofs.lemmas.List.Elements.{All-head, All-tail}
use Rattle.std.proofs.lemmas.Option.{slice_get_within}
use Rattle.rbac_terms.specs.Text.{Text}
use Rattle.rbac_terms.specs.Principals.{Who}
use Rattle.rbac_terms.specs.declared.granting.Binding.{Binding}
use Rattle.rbac_model.specs.Policies.{PolicyView, IsPolicy, IsOfBinding}
use Rattle.rbac_model.specs.Universes.{LiveForSome}
use Rattle.rbac_model.proofs.BindingPlaces.{of_some_binding, places_rise}
use Rattle.rbac_subjects.specs.declared.first_runs.Run.{Run}
use Rattle.rbac_subjects.specs.declared.subject_keys.Keyed.{Keyed}
use Rattle.rbac_subjects.specs.declared.live_bindings.Live.{Live}
use Rattle.rbac_subjects.specs.Bound.{IsBoundTo, IsNextRun, IsRunAt, AreRunsFrom}
use Rattle.rbac_subjects.specs.Keyed.{keyed, HasGrants, AreKeyed, IsLiveAt}
use Rattle.rbac_subjects.specs.Least.{LeastView, IsPast}
use Rattle.rbac_subjects.proofs.LeastLemmas.{AreLeast}
use Rattle.rbac_subjects.proofs.NextRunLemmas.{Found, bound_of, of_bound}

-- one more run, of one more place
pub zip_more : {A B : Type 0} (R : A → B → Type 0) (xs : List A) (ys : List B) (x : A) (y : B) → AllZip R xs ys → R x y → AllZip R (xs ++ x ∷ []) (ys ++ y ∷ [])
zip_more R [] [] x y zip r = (r, tt)
zip_more R [] (b ∷ ys) x y zip r = absurd zip
zip_more R (a ∷ xs) [] x y zip r = absurd zip
zip_more R (a ∷ xs) (b ∷ ys) x y zip r = (zip.0, zip_more R xs ys x y zip.1 r)

pub zip_length : {A B : Type 0} (R : A → B → Type 0) (xs : List A) (ys : List B) → AllZip R xs ys → length xs ≡ length ys
zip_length R [] [] zip = refl
zip_length R [] (b ∷ ys) zip = absurd zip
zip_length R (a ∷ xs) [] zip = absurd zip
zip_length R (a ∷ xs) (b ∷ ys) zip = ap suc (zip_length R xs ys zip.1)

in_more : (x : ℕ) (xs : List ℕ) (n : ℕ) → Contains (x ∷ xs) n → (x ≡ n) ⊎ Contains xs n
in_more x xs n (zero, lt, e) = inl e
in_more x xs n (suc k, lt, e) = inr (k, omega (arith, lt), e)

in_rest : (x : ℕ) (xs : List ℕ) (n : ℕ) → Contains xs n → Contains (x ∷ xs) n
in_rest x xs n (k, lt, e) = (suc k, omega (arith, lt), e)

in_first : (x : ℕ) (xs : List ℕ) → Contains (x ∷ xs) x
in_first x xs = (zero, omega arith, refl)

first_least : (x : ℕ) (xs : List ℕ) → AllPairs (λ a b. a < b) (x ∷ xs) → (n : ℕ) → Contains xs n → x < n
first_least x xs up n (k, lt, e) = subst (λ m. x < m) e (up zero (suc k) n (omega arith) (omega (arith, lt)))

rest_ascends : (x : ℕ) (xs : List ℕ) → AllPairs (λ a b. a < b) (x ∷ xs) → AllPairs (λ a b. a < b) xs
rest_ascends x xs up i j d lt within = up (suc i) (suc j) d (omega (arith, lt)) (omega (arith, within))

-- the run of a binding, and the grants of others
module _ (p : PolicyView) (ok : IsPolicy p) (place : ℕ) (run : Run) (is : IsRunAt p place run) (some : HasGrants p place) where
  inside : (run.start ≤ some.0) × (some.0 < run.end)
  inside = (is.1 some.0 place some.1).1 refl

  starts : run.start < run.end
  starts = omega (arith, inside.0, inside.1)

  inside_is : (n at : ℕ) → IsOfBinding p n at → run.start ≤ n → n < run.end → at ≡ place
  inside_is n at of low high = (is.1 n at of).0 (low, high)

  -- grants of later bindings come after the run, and those before it are of earlier ones
  later_after : (n at : ℕ) → IsOfBinding p n at → place < at → run.end ≤ n
  later_after n at of less = elim (cases_lt n run.end) [
    | inr le ↦ le
    | inl lt ↦ elim (cases_lt n run.start) [
      | inr le ↦ absurd (omega (arith, less, inside_is n at of le lt))
      | inl low ↦ absurd (omega (arith, less, places_rise p ok n some.0 at place (omega (arith, low, inside.0)) of some.1))
    ]
  ]

module _ (p : PolicyView) (ok : IsPolicy p) (xs : List Keyed) (are : AreKeyed p xs) (who : Who) (live : Live) (namespace : Text)
    (lives : (at : ℕ) (b : Binding) → slice_get p.held.bindings at ≡ Some b → IsLiveAt live at ↔ LiveForSome b.namespace namespace) where
  abbrev pub Finds : ℕ → Type 0
  Finds = Found p ok xs are who live

  granted : (at : ℕ) → Finds at → HasGrants p at
  granted at found = ((are.exact (keyed found.0 at)).0 found.2.0).0

  bound : (n at : ℕ) → IsOfBinding p n at → Finds at → IsBoundTo p who namespace n
  bound = bound_of p ok xs are who live namespace lives

  found_at : (n at : ℕ) → IsOfBinding p n at → IsBoundTo p who namespace n → Finds at
  found_at = of_bound p ok xs are who live namespace lives

  module _ (are_all : Bool) where
    abbrev Kept : List ℕ → LeastView
    Kept places = record { kept = places; are_all = are_all }

    -- from a number on the grants bound are those of these places, and of some past them
    record AreLeft (from : ℕ) (places : List ℕ) : Type 0 where
      ascending : AllPairs (λ a b. a < b) places
      have : (at : ℕ) → Contains places at → Finds at
      ahead : (n at : ℕ) → Contains places at → IsOfBinding p n at → from ≤ n
      each : (n at : ℕ) → Finds at → IsOfBinding p n at → from ≤ n → Contains places at ⊎ IsPast (Kept places) at
      others : are_all ≡ false → (n at : ℕ) × IsOfBinding p n at × Finds at × (from ≤ n) × IsPast (Kept places) at

    module _ (from place : ℕ) (places : List ℕ) (left : AreLeft from (place ∷ places)) (run : Run) (is : IsRunAt p place run) where
      some : HasGrants p place
      some = granted place (left.have place (in_first place places))

      start_of : (at : ℕ) × IsOfBinding p run.start at
      start_of = of_some_binding p ok run.start (omega (arith, is.0, starts p ok place run is some))

      low : from ≤ run.start
      low = left.ahead run.start place (in_first place places)
          (subst (IsOfBinding p run.start) (inside_is p ok place run is some run.start start_of.0 start_of.1 (omega arith) (starts p ok place run is some)) start_of.1)

      past : (n at : ℕ) → IsOfBinding p n at → place < at → run.end ≤ n
      past = later_after p ok place run is some

      next_run : IsNextRun p who namespace from run.start run.end
      next_run = record {
        after = low;
        some = starts p ok place run is some;
        bound = λ n first last.
            let of = of_some_binding p ok n (omega (arith, last, is.0)) in
            bound n place (subst (IsOfBinding p n) (inside_is p ok place run is some n of.0 of.1 first last) of.1) (left.have place (in_first place places));
        none_before = λ n first last b.
            let of = of_some_binding p ok n (slice_get_within p.grants n b.0 b.1) in
            elim (left.each n of.0 (found_at n of.0 of.1 b) of.1 first) [
              | inl c ↦ elim (in_more place places of.0 c) [
                | inl e ↦ omega (arith, last, ((is.1 n of.0 of.1).1 (sym e)).0)
                | inr rest ↦ omega (arith, last, past n of.0 of.1 (first_least place places left.ascending of.0 rest), starts p ok place run is some)
              ]
              | inr far ↦ omega (arith, last, past n of.0 of.1 (All-head (λ other. other < of.0) place places far.1), starts p ok place run is some)
            ];
        whole = λ n at first one of. ((is.1 n at of).1 (inside_is p ok place run is some run.start at one (omega arith) (starts p ok place run is some))).1;
      }

      left_over : AreLeft run.end places
      left_over = record {
        ascending = rest_ascends place places left.ascending;
        have = λ at c. left.have at (in_rest place places at c);
        ahead = λ n at c of. past n at of (first_least place places left.ascending at c);
        each = λ n at found of le. elim (left.each n at found of (omega (arith, low, le, starts p ok place run is some))) [
          | inl c ↦ elim (in_more place places at c) [
            | inl e ↦ absurd (omega (arith, le, ((is.1 n at of).1 (sym e)).1))
            | inr rest ↦ inl rest
          ]
          | inr far ↦ inr (far.0, All-tail (λ other. other < at) place places far.1)
        ];
        others = λ e.
            let w = left.others e in
            (w.0, w.1, w.2, w.3, past w.0 w.1 w.2 (All-head (λ other. other < w.1) place places w.5.1), (w.5.0, All-tail (λ other. other < w.1) place places w.5.1));
      }

    not_both : (b : Bool) → IsTrue b → b ≡ false → ⊥
    not_both true t e = cc
    not_both false t e = cc

    runs_left : (from : ℕ) (places : List ℕ) (runs : List Run) → AllZip (IsRunAt p) places runs → AreLeft from places → AreRunsFrom p who namespace are_all from runs
    runs_left from [] [] zip left = λ t n le b.
        let of = of_some_binding p ok n (slice_get_within p.grants n b.0 b.1) in
        elim (left.each n of.0 (found_at n of.0 of.1 b) of.1 le) [
          | inl c ↦ omega (arith, c.1)
          | inr far ↦ not_both are_all t far.0
        ]
    runs_left from [] (run ∷ runs) zip left = absurd zip
    runs_left from (place ∷ places) [] zip left = absurd zip
    runs_left from (place ∷ places) (run ∷ runs) zip left = (
      next_run from place places left run zip.0,
      runs_left run.end places runs zip.1 (left_over from place places left run zip.0),
    )

    -- where other places were taken in, there are other runs
    not_all : are_all ≡ false → (from : ℕ) (places : List ℕ) (runs : List Run) → AllZip (IsRunAt p) places runs → AreLeft from places → AreRunsFrom p who namespace true from runs → ⊥
    not_all e from [] [] zip left are = let w = left.others e in are refl w.0 w.4 (bound w.0 w.1 w.2 w.3)
    not_all e from [] (run ∷ runs) zip left are = absurd zip
    not_all e from (place ∷ places) [] zip left are = absurd zip
    not_all e from (place ∷ places) (run ∷ runs) zip left are = not_all e run.end places runs zip.1 (left_over from place places left run zip.0) are.1

  module _ (l : LeastView) (least : AreLeast Finds l) where
    left_first : AreLeft l.are_all 0 l.kept
    left_first = record {
      ascending = least.ascending;
      have = least.have;
      ahead = λ n at c of. omega arith;
      each = λ n at found of le. least.each at found;
      others = λ e.
          let w = least.others e in
          let g = granted w.0 w.1 in
          (g.0, w.0, g.1, w.1, omega arith, w.2);
    }

    pub first_runs : (runs : List Run) → AllZip (IsRunAt p) l.kept runs → AreRunsFrom p who namespace l.are_all 0 runs
    first_runs runs zip = runs_left l.are_all 0 l.kept runs zip left_first

    pub other_runs : l.are_all ≡ false → (runs : List Run) → AllZip (IsRunAt p) l.kept runs → AreRunsFrom p who namespace true 0 runs → ⊥
    other_runs e runs zip = not_all l.are_all e 0 l.kept runs zip left_first
