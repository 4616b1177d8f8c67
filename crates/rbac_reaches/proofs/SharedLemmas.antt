-- grants by one rule have one reach, and the reaches of the first grants grow one by one
use Rattle.std.proofs.Common.{◌≡◌, ℕ, ◌+◌, ◌<◌, List, [], ◌∷◌, ◌++◌, length, slice_get, refl, sym, ◌∙◌, subst, inl, inr, arith}
use Rattle.std.specs.Prelude.{Some, map}
use Rattle.std.proofs.lemmas.Bool.{cases_lt}
use Rattle.std.proofs.lemmas.List.{length_push}
use Rattle.std.proofs.lemmas.Option.{same_Some, slice_get_within}
use Rattle.rbac_terms.specs.declared.matching.Rule.{Rule}
use Rattle.rbac_terms.proofs.Reading.{read_some, read_left, read_right}
use Rattle.rbac_model.specs.Policies.{PolicyView}
use Rattle.rbac_model.specs.Universes.{UniverseView, Listed}
use Rattle.rbac_index.specs.Indexed.{AreAlike}
use Rattle.rbac_reaches.specs.Reaches.{IsReach, IsReachAt, AreReachesBelow}

pub reach_shared : (p : PolicyView) (u : UniverseView) (first n : ℕ) (reaches : List (List ℕ)) (places : List ℕ) → n < length p.grants → AreAlike p first n → AreReachesBelow p u n reaches → slice_get reaches first ≡ Some places → IsReachAt p u n places
reach_shared p u first n reaches places lt alike below read =
    let r = below.each first places read in
    let here = read_some p.grants n lt in
    let same : r.0.rule.rule ≡ here.0.rule.rule = alike r.0 here.0 r.1 here.1 in
    (here.0, here.1, subst (λ (rule : Rule). IsReach rule (map (λ (t : Listed). t.0) u.targets) places) same r.2)

pub reaches_none : (p : PolicyView) (u : UniverseView) → AreReachesBelow p u 0 []
reaches_none p u = record {
  len = refl;
  each = λ k places read. absurd (omega (arith, slice_get_within [] k places read));
}

-- the reach of one grant more
pub reaches_more : (p : PolicyView) (u : UniverseView) (n : ℕ) (reaches : List (List ℕ)) (reach : List ℕ) → AreReachesBelow p u n reaches → IsReachAt p u n reach → AreReachesBelow p u (n + 1) (reaches ++ reach ∷ [])
reaches_more p u n reaches reach below at =
    let len : length (reaches ++ reach ∷ []) ≡ length reaches + 1 = length_push reaches reach in
    record {
      len = omega (arith, len, below.len);
      each = λ k places read. elim (cases_lt k n) [
        | inl lt ↦ below.each k places (sym (read_left reaches (reach ∷ []) k (omega (arith, lt, below.len))) ∙ read)
        | inr ge ↦
            let e : k ≡ n = omega (arith, ge, len, below.len, slice_get_within (reaches ++ reach ∷ []) k places read) in
            let last : slice_get (reaches ++ reach ∷ []) k ≡ Some reach = read_right reaches (reach ∷ []) k 0 (omega (arith, e, below.len)) in
            rw e (subst (IsReachAt p u n) (same_Some reach places (sym last ∙ read)) at)
      ];
    }
