-- the bindings of candidates, passed in order
use Rattle.std.proofs.Common.{◌≡◌, ℕ, ◌+◌, ◌<◌, ◌≤◌, List, All, Contains, length, get_or, ap, ◌∙◌, inl, inr, arith}
use Rattle.std.proofs.lemmas.Bool.{cases_eq, cases_lt}
use Rattle.std.proofs.lemmas.List.{get_or_default}
use Rattle.std.proofs.lemmas.List.Elements.{All-weaker, All-contains_itself, Contains-get_or}
use Rattle.std.proofs.lemmas.List.Kept.{AllPairs-from_increasing}
use Rattle.std.proofs.lemmas.Option.{slice_get_within}
use Rattle.rbac_terms.specs.Text.{Text}
use Rattle.rbac_model.specs.Policies.{PolicyView, IsPolicy, IsOfBinding}
use Rattle.rbac_model.specs.Holders.{HolderView}
use Rattle.rbac_model.proofs.GrantNumbers.{grant_by}
use Rattle.rbac_model.proofs.BindingPlaces.{places_rise, one_binding_place, rule_of_binding, grant_of_rule}
use Rattle.rbac_index.specs.Indexed.{AreCandidates}
use Rattle.rbac_index.specs.Holding.{BringsAt, BringsRuleAt, AreSeen, AreAllSeen}
use Rattle.rbac_index.specs.Requested.{RequestedView}
use Rattle.rbac_terms.specs.declared.scope.Scope.{Scope}
use Rattle.rbac_index.proofs.SeenLemmas.{brings, seen_entered}

-- the bindings of the grants with the first `count` numbers are before `place`, and those of the others are no earlier than right before it
pub record ArePassed (p : PolicyView) (ns : List ℕ) (count place : ℕ) : Type 0 where
  pub behind : (k i : ℕ) → k < count → IsOfBinding p (get_or ns k 0) i → i < place
  pub ahead : (k i : ℕ) → count ≤ k → k < length ns → IsOfBinding p (get_or ns k 0) i → place ≤ i + 1

pub candidates_within : (p : PolicyView) (verb : Text) (t : RequestedView) (ns : List ℕ) → AreCandidates p verb t ns → All (λ n. n < length p.grants) ns
candidates_within p verb t ns are = All-weaker (Contains ns) (λ n. n < length p.grants) (λ n w. let a = (are.exact n).0 w in slice_get_within p.grants n a.0 a.1) ns (All-contains_itself ns)

module _ (p : PolicyView) (ok : IsPolicy p) (scope : Scope) (verb : Text) (t : RequestedView) (ns : List ℕ) (are : AreCandidates p verb t ns) where
  -- a candidate's binding brings a rule that allows
  pub candidate_brings : (k place : ℕ) → k < length ns → IsOfBinding p (get_or ns k 0) place → BringsRuleAt p.held verb t place
  candidate_brings k place lt of =
      let a = (are.exact (get_or ns k 0)).0 (Contains-get_or ns k 0 lt) in
      let by = rule_of_binding p ok (get_or ns k 0) place a.0 a.1 of in
      let has = by.2.2 in
      (by.0, by.1, (by.2.0, by.2.1, (has.0, a.0.rule, has.1, has.2, a.2)))

  -- a binding that brings a rule that allows is a candidate's
  brings_candidate : (m : ℕ) → BringsAt p.held scope verb t m → (k : ℕ) × (k < length ns) × IsOfBinding p (get_or ns k 0) m
  brings_candidate m brings =
      let any = brings.3.2 in
      let g = grant_of_rule p ok m brings.0 brings.3.0 any.1 brings.1 brings.3.1 (any.0, any.2, any.3) in
      let w = (are.exact g.0).1 (grant_by brings.0 any.1, g.1, any.4) in
      (w.0, w.1, rw (get_or_default ns w.0 0 g.0 w.1 ∙ w.2) g.2)

  -- between what is passed and the next candidate's binding none brings such a rule
  none_between : (k next place : ℕ) → k < length ns → IsOfBinding p (get_or ns k 0) place → ArePassed p ns k next → (m : ℕ) → next ≤ m → m < place → ¬ BringsAt p.held scope verb t m
  none_between k next place lt of passed m low high brings =
      let c = brings_candidate m brings in
      elim (cases_lt c.0 k) [
        | inl l ↦ let below : m < next = passed.behind c.0 m l c.2 in omega arith
        | inr l ↦
            let rise : get_or ns k 0 ≤ get_or ns c.0 0 = elim (cases_eq k c.0) [
              | inl e ↦ omega (arith, ap (λ j. get_or ns j 0) e)
              | inr ne ↦ let less : get_or ns k 0 < get_or ns c.0 0 = AllPairs-from_increasing ns are.ascending k c.0 0 (omega arith) c.1 in omega arith
            ] in
            let up : place ≤ m = places_rise p ok (get_or ns k 0) (get_or ns c.0 0) place m rise of c.2 in
            omega arith
      ]

  pub entered : (k next place : ℕ) (xs : List HolderView) → k < length ns → IsOfBinding p (get_or ns k 0) place → next ≤ place → ArePassed p ns k next → AreSeen p.held scope verb t next 0 xs → AreSeen p.held scope verb t place 0 xs
  entered k next place xs lt of le passed seen = seen_entered p.held scope verb t next place xs le (none_between k next place lt of passed) seen

  pub passed_none : ArePassed p ns 0 0
  passed_none = record {
    behind = λ k i lt of. absurd (omega arith);
    ahead = λ k i le lt of. omega arith;
  }

  -- the binding is passed
  pub passed_more : (k next place : ℕ) → k < length ns → IsOfBinding p (get_or ns k 0) place → next ≤ place → ArePassed p ns k next → ArePassed p ns (k + 1) (place + 1)
  passed_more k next place lt of le passed = record {
    behind = λ j i less by. elim (cases_eq j k) [
      | inl e ↦ let same : i ≡ place = one_binding_place p ok (get_or ns k 0) i place (rw e at by) of in omega arith
      | inr ne ↦ let below : i < next = passed.behind j i (omega arith) by in omega arith
    ];
    ahead = λ j i low high by.
        let less : get_or ns k 0 < get_or ns j 0 = AllPairs-from_increasing ns are.ascending k j 0 (omega arith) high in
        let up : place ≤ i = places_rise p ok (get_or ns k 0) (get_or ns j 0) place i (omega arith) of by in
        omega arith;
  }

  -- the binding was passed before
  pub passed_again : (k next place : ℕ) → k < length ns → IsOfBinding p (get_or ns k 0) place → place < next → ArePassed p ns k next → ArePassed p ns (k + 1) next
  passed_again k next place lt of past passed = record {
    behind = λ j i less by. elim (cases_eq j k) [
      | inl e ↦ let same : i ≡ place = one_binding_place p ok (get_or ns k 0) i place (rw e at by) of in omega arith
      | inr ne ↦ passed.behind j i (omega arith) by
    ];
    ahead = λ j i low high by. passed.ahead j i (omega arith) high by;
  }

  pub all_seen : (k next : ℕ) (xs : List HolderView) → length ns ≤ k → ArePassed p ns k next → AreSeen p.held scope verb t next 0 xs → AreAllSeen p.held scope verb t xs
  all_seen k next xs le passed seen = record {
    ordered = seen.ordered;
    exact = λ x. (
      λ w. ((seen.exact x).0 w).0,
      λ there.
          let c = brings_candidate x.binding_place (brings p.held scope verb t x.key x.binding_place x.subject_place there.1) in
          let low : x.binding_place < next = passed.behind c.0 x.binding_place (omega (arith, c.1, le)) c.2 in
          (seen.exact x).1 (there, inl low),
    );
  }
