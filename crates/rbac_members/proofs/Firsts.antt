-- The candidates that are kept: the first of those that are alike, unless a holder is like them.
use Rattle.std.proofs.Common.{◌≡◌, ◌∙◌, ℕ, ◌+◌, ◌<◌, ◌↔◌, Bool, List, [], ◌∷◌, ◌++◌, Contains, length, get_or, take, append_assoc, ap, sym, subst, inl, inr, arith}
use Rattle.std.specs.Prelude.{AllPairs, Any}
use Rattle.std.proofs.lemmas.List.{get_or_default, get_or-take, length-take}
use Rattle.std.proofs.lemmas.List.Elements.{Contains-append_left, Contains-append_right, Contains-append_cases}
use Rattle.rbac_terms.specs.Text.{Text}
use Rattle.rbac_groups.specs.declared.membership.Membership.{Membership}
use Rattle.rbac_index.specs.Holding.{IsAlike, IsEarlier}
use Rattle.rbac_model.specs.Holders.{HolderView}
use Rattle.rbac_model.specs.Lists.{IsAscendingBy}
use Rattle.rbac_universe.proofs.Flattened.{here, in_cons, pairs_append}
use Rattle.rbac_members.specs.Candidates.{AreCandidates, IsNotBefore}
use Rattle.rbac_members.specs.Members.{AreMembers, ComesBefore, member_name}
use Rattle.rbac_model.proofs.Stairs.{take_read}
use Rattle.rbac_members.specs.Told.{AddsLabel, AreLabels, KeepsUntold, label_of}
use Rattle.rbac_members.proofs.CandidateLemmas.{no_pairs}
use Rattle.rbac_members.proofs.Labels.{alike_label, label_alike, more_labels}
use Rattle.rbac_members.proofs.Orders.{alike_by_name, not_before_itself, one_member, one_name, strictly}

module _ (every : Bool) (xs : List HolderView) where
  -- y is the first of those seen that are alike, and no holder is like it
  abbrev pub IsFirst : List HolderView → HolderView → Type 0
  IsFirst seen y = Contains seen y
      × ((x : HolderView) → Contains xs x → ¬ IsAlike every x y)
      × ((z : HolderView) → Contains seen z → IsAlike every z y → ¬ ComesBefore z y)

  pub record AreFirst (seen firsts : List HolderView) : Type 0 where
    pub ordered : IsAscendingBy member_name firsts
    pub exact : (y : HolderView) → Contains firsts y ↔ IsFirst seen y

  pub none_first : AreFirst [] []
  none_first = record {
    ordered = no_pairs ComesBefore;
    exact = λ y. (λ w. absurd (omega (arith, w.1)), λ f. absurd (omega (arith, f.0.1)));
  }

  in_one : (z m : HolderView) → Contains (m ∷ []) z → m ≡ z
  in_one z m w = elim (in_cons m [] z w) [ inl e ↦ e | inr v ↦ absurd (omega (arith, v.1)) ]

  -- one more candidate, which doesn't come before those that were seen
  module _ (seen firsts : List HolderView) (m : HolderView) (are : AreFirst seen firsts) (last : (z : HolderView) → Contains seen z → IsNotBefore z m) where
    first_still : (y : HolderView) → IsFirst (seen ++ m ∷ []) y → Contains seen y → Contains firsts y
    first_still y (there, fresh, before) w = (are.exact y).1 (w, fresh, λ z v. before z (Contains-append_left seen (m ∷ []) z v))

    still_first : (y : HolderView) → (IsAlike every m y → ¬ ComesBefore m y) → Contains firsts y → IsFirst (seen ++ m ∷ []) y
    still_first y last_one w =
        let (there, fresh, before) = (are.exact y).0 w in (
          Contains-append_left seen (m ∷ []) y there,
          fresh,
          λ z v alike. elim (Contains-append_cases seen (m ∷ []) z v) [
            | inl u ↦ before z u alike
            | inr u ↦ subst (λ (q : HolderView). ¬ ComesBefore q y) (in_one z m u) (last_one (subst (λ (q : HolderView). IsAlike every q y) (sym (in_one z m u)) alike))
          ],
        )

    -- it is kept if it is like nobody
    module _ (no_holder : (x : HolderView) → Contains xs x → ¬ IsAlike every x m) (no_other : (z : HolderView) → Contains seen z → ¬ IsAlike every z m) where
      turned : (z y : HolderView) → IsAlike every z y → IsAlike every y z
      turned z y a = (sym a.0, sym a.1)

      kept_first : (y : HolderView) → Contains (firsts ++ m ∷ []) y → IsFirst (seen ++ m ∷ []) y
      kept_first y w = elim (Contains-append_cases firsts (m ∷ []) y w) [
        | inl v ↦ still_first y (λ alike. absurd (no_other y ((are.exact y).0 v).0 (turned m y alike))) v
        | inr v ↦ subst (IsFirst (seen ++ m ∷ [])) (in_one y m v) (
          Contains-append_right seen (m ∷ []) m (here m []),
          no_holder,
          λ z u alike. elim (Contains-append_cases seen (m ∷ []) z u) [
            | inl t ↦ absurd (no_other z t alike)
            | inr t ↦ subst (λ (q : HolderView). ¬ ComesBefore q m) (in_one z m t) (not_before_itself m)
          ],
        )
      ]

      first_kept : (y : HolderView) → IsFirst (seen ++ m ∷ []) y → Contains (firsts ++ m ∷ []) y
      first_kept y f = elim (Contains-append_cases seen (m ∷ []) y f.0) [
        | inl v ↦ Contains-append_left firsts (m ∷ []) y (first_still y f v)
        | inr v ↦ Contains-append_right firsts (m ∷ []) y v
      ]

      one_ascends : IsAscendingBy member_name (m ∷ [])
      one_ascends i j d lt l = absurd (omega arith)

      ascends : (a b : HolderView) → Contains firsts a → Contains (m ∷ []) b → ComesBefore a b
      ascends a b w v =
          let there = ((are.exact a).0 w).0 in
          subst (ComesBefore a) (in_one b m v) (strictly a m (last a there) (λ e. no_other a there (alike_by_name every a m e)))

      pub keeps_first : AreFirst (seen ++ m ∷ []) (firsts ++ m ∷ [])
      keeps_first = record {
        ordered = pairs_append ComesBefore firsts (m ∷ []) are.ordered one_ascends ascends;
        exact = λ y. (kept_first y, first_kept y);
      }

    -- it is passed if a holder or another candidate is like it
    module _ (one : (z : HolderView) → Contains seen z → member_name z ≡ member_name m → z ≡ m) (like : Any (λ z. IsAlike every z m) (xs ++ seen)) where
      passed_seen : IsFirst (seen ++ m ∷ []) m → Contains seen m
      passed_seen (there, fresh, before) =
          let (k, z, lt, at, alike) = like in
          elim (Contains-append_cases xs seen z (k, lt, at)) [
            | inl w ↦ absurd (fresh z w alike)
            | inr w ↦
                let same : z ≡ m = one z w (one_name z m (last z w) (before z (Contains-append_left seen (m ∷ []) z w) alike)) in
                subst (Contains seen) same w
          ]

      first_passed : (y : HolderView) → IsFirst (seen ++ m ∷ []) y → Contains firsts y
      first_passed y f = elim (Contains-append_cases seen (m ∷ []) y f.0) [
        | inl v ↦ first_still y f v
        | inr v ↦
            let same = in_one y m v in
            first_still y f (subst (Contains seen) same (passed_seen (subst (IsFirst (seen ++ m ∷ [])) (sym same) f)))
      ]

      pub passes_first : AreFirst (seen ++ m ∷ []) firsts
      passes_first = record {
        ordered = are.ordered;
        exact = λ y. (λ w. still_first y (λ _. last y ((are.exact y).0 w).0) w, first_passed y);
      }

  -- the first of all candidates are the members
  pub first_members : (ms : List Membership) (cs firsts : List HolderView) → AreCandidates ms xs cs → AreFirst cs firsts → AreMembers ms every xs firsts
  first_members ms cs firsts candidates are = record {
    ordered = are.ordered;
    exact = λ y. (
      λ w. let (there, fresh, before) = (are.exact y).0 w in
          ((candidates.exact y).0 there, fresh, λ z a. before z ((candidates.exact z).1 a)),
      λ (among, fresh, before). (are.exact y).1 ((candidates.exact y).1 among, fresh, λ z w. before z ((candidates.exact z).0 w)),
    );
  }

-- ---- by labels

pub nobody_alike : (every : Bool) (xs seen : List HolderView) (m : HolderView) (labels : List (ℕ × Text)) → AreLabels every (xs ++ seen) labels → (¬ Contains labels (label_of every m)) → (z : HolderView) → Contains (xs ++ seen) z → ¬ IsAlike every z m
nobody_alike every xs seen m labels are new z w alike = new ((are (label_of every m)).1 (w.0, z, w.1, w.2, alike_label every z m alike))

pub somebody_alike : (every : Bool) (xs seen : List HolderView) (m : HolderView) (labels : List (ℕ × Text)) → AreLabels every (xs ++ seen) labels → Contains labels (label_of every m) → Any (λ z. IsAlike every z m) (xs ++ seen)
somebody_alike every xs seen m labels are told =
    let a = (are (label_of every m)).0 told in (a.0, a.1, a.2, a.3, label_alike every a.1 m a.4)

-- ---- one more candidate

module _ (ms : List Membership) (every : Bool) (xs cs firsts kept : List HolderView) (n : ℕ) (m : HolderView) (labels : List (ℕ × Text)) (low : n < length cs) (read : m ≡ get_or cs n m) where
  taken : (z : HolderView) → Contains (take n cs) z → (k : ℕ) × (k < n) × (get_or cs k z ≡ z)
  taken z (k, lt, at) =
      let before : k < n = omega (arith, lt, length-take n cs) in
      (k, before, sym (get_or-take n cs k z before) ∙ at)

  in_order : AllPairs IsNotBefore cs → (z : HolderView) → Contains (take n cs) z → IsNotBefore z m
  in_order up z w =
      let (k, before, at) = taken z w in
      rw (sym read, get_or_default cs k m z (omega arith) ∙ at) at (up k n m before low)

  only_one : AllPairs IsEarlier xs → AreCandidates ms xs cs → (z : HolderView) → Contains (take n cs) z → member_name z ≡ member_name m → z ≡ m
  only_one up candidates z w e =
      let (k, before, at) = taken z w in
      one_member ms xs z m up ((candidates.exact z).0 (k, omega arith, at)) ((candidates.exact m).0 (n, low, sym read)) e

  grown : take (n + 1) cs ≡ take n cs ++ m ∷ []
  grown = take_read cs n m low read

  pub more_first : AllPairs IsEarlier xs → AreCandidates ms xs cs → AreLabels every (xs ++ take n cs) labels → KeepsUntold (label_of every m) labels m firsts kept → AreFirst every xs (take n cs) firsts → AreFirst every xs (take (n + 1) cs) kept
  more_first up candidates told (inl (there, same)) are =
      rw (grown, same) (passes_first every xs (take n cs) firsts m are (in_order candidates.ordered) (only_one up candidates) (somebody_alike every xs (take n cs) m labels told there))
  more_first up candidates told (inr (new, same)) are =
      let nobody = nobody_alike every xs (take n cs) m labels told new in
      rw (grown, same) (keeps_first every xs (take n cs) firsts m are (in_order candidates.ordered)
      (λ x w. nobody x (Contains-append_left xs (take n cs) x w)) (λ z w. nobody z (Contains-append_right xs (take n cs) z w)))

  pub more_told : (new : List (ℕ × Text)) → AddsLabel labels new (label_of every m) → AreLabels every (xs ++ take n cs) labels → AreLabels every (xs ++ take (n + 1) cs) new
  more_told new adds are = subst (λ (ys : List HolderView). AreLabels every ys new) (append_assoc xs (take n cs) (m ∷ []) ∙ ap (λ (ys : List HolderView). xs ++ ys) (sym grown)) (more_labels every (xs ++ take n cs) m labels new adds are)
