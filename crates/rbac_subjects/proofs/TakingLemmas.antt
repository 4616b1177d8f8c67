-- the places of a key, taken in one after the other
use Rattle.std.proofs.Common.{◌≡◌, ℕ, ◌+◌, ◌<◌, ◌≤◌, List, inl, inr, ◌⊎◌, length, get_or, true, arith}
use Rattle.std.specs.Ordering.{is_lt}
use Rattle.std.specs.List.Sorted.{IsSorted}
use Rattle.rbac_terms.specs.Text.{Text}
use Rattle.rbac_subjects.specs.declared.subject_keys.Keyed.{Keyed}
use Rattle.rbac_subjects.specs.declared.live_bindings.Live.{Live}
use Rattle.rbac_subjects.specs.Keyed.{keyed, keyed_cmp, IsFirstEntry, IsLiveUnder, IsUnderBetween}
use Rattle.rbac_subjects.specs.Least.{LeastView, IsPast, Takes}
use Rattle.rbac_subjects.proofs.KeyedLemmas.{IsSeen, none_seen, all_seen, one_more, no_less}
use Rattle.rbac_subjects.proofs.LeastLemmas.{past_later, takes_both, takes_nothing, takes_past, takes_same}

-- entries are gone through, and the places `from..to` of a key are taken in
module _ (xs : List Keyed) (up : IsSorted keyed_cmp xs) (key : Text) (from to : ℕ) where
  pub takes_none : (first : ℕ) (l : LeastView) → IsFirstEntry xs (keyed key from) first → Takes (IsSeen xs key from to first) l l
  takes_none first l point = takes_nothing (IsSeen xs key from to first) l (none_seen xs up key from to first point)

  pub takes_all : (at : ℕ) (a b : LeastView) → ((n : ℕ) → (p : IsUnderBetween xs key from to n) → p.0.0 < at) → Takes (IsSeen xs key from to at) a b → Takes (IsUnderBetween xs key from to) a b
  takes_all at a b low s = takes_same (IsSeen xs key from to at) (IsUnderBetween xs key from to) a b (all_seen xs up key from to at low) s

  module _ (at : ℕ) (x : Keyed) (within : at < length xs) (here : x ≡ get_or xs at x) (low : (first : ℕ) × IsFirstEntry xs (keyed key from) first × (first ≤ at)) (high : is_lt (keyed_cmp x (keyed key to)) ≡ true)
      (a b c : LeastView) (s : Takes (IsSeen xs key from to at) a b) (one : Takes (λ n. n ≡ x.place) b c) where
    pub takes_more : Takes (IsSeen xs key from to (at + 1)) a c
    takes_more = takes_same (λ n. IsSeen xs key from to at n ⊎ (n ≡ x.place)) (IsSeen xs key from to (at + 1)) a c
        (one_more xs up key from to at x within here low high) (takes_both (IsSeen xs key from to at) (λ n. n ≡ x.place) a b c s one)

    -- all later places are past too
    pub takes_rest : IsPast c x.place → Takes (IsUnderBetween xs key from to) a c
    takes_rest past = takes_past (IsSeen xs key from to (at + 1)) (IsUnderBetween xs key from to) a c (λ n s. (s.0, s.2, s.3)) (λ n p. elim (no_less xs up key from to at x within here low high n p) [
      | inl l ↦ inl (p.0, l, p.1, p.2)
      | inr le ↦ inr (past_later c x.place n le past)
    ]) takes_more

-- the places of live bindings are those of ClusterRoleBindings and of one namespace's RoleBindings
pub live_both : (xs : List Keyed) (live : Live) (key : Text) (a b c : LeastView) → Takes (IsUnderBetween xs key 0 live.cluster_wide) a b → Takes (IsUnderBetween xs key live.from live.to) b c
    → Takes (IsLiveUnder xs live key) a c
live_both xs live key a b c s t = takes_same (λ n. IsUnderBetween xs key 0 live.cluster_wide n ⊎ IsUnderBetween xs key live.from live.to n) (IsLiveUnder xs live key) a c (λ n. (
  λ d. elim d [ inl p ↦ (p.0, inl p.2) | inr p ↦ (p.0, inr (p.1, p.2)) ],
  λ p. elim p.1 [ inl l ↦ inl (p.0, omega arith, l) | inr w ↦ inr (p.0, w.0, w.1) ],
)) (takes_both (IsUnderBetween xs key 0 live.cluster_wide) (IsUnderBetween xs key live.from live.to) a b c s t)
