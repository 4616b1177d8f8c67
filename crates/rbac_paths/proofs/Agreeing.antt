-- A principal is listed among the ways to a request exactly if the request is allowed to it, or its
-- paths list a node that allows the request.
use Rattle.std.proofs.Common.{◌≡◌, ◌≢◌, ◌↔◌, ◌⊎◌, ◌+◌, ◌<◌, ℕ, zero, suc, List, Bool, Contains, Any, ap, arith, false, inl, inr, refl, subst, sym, true}
use Rattle.std.specs.Str.{bytes_eq}
use Rattle.std.proofs.lemmas.Bool.{cases_order}
use Rattle.std.proofs.lemmas.Slice.Eq.{bytes_eq-Decides}
use Rattle.std.proofs.lemmas.Bool.Decides.{not_from_Decides}
use Rattle.rbac_terms.specs.Principals.{Who, who_key}
use Rattle.rbac_terms.specs.Text.{Text}
use Rattle.rbac_model.specs.Policies.{PolicyView}
use Rattle.rbac_paths.specs.Access.{AccessView, AllowsAccess}
use Rattle.rbac_paths.specs.Agreement.{AgreeOn, IsAllowedAfter}
use Rattle.rbac_paths.specs.NodeLists.{IsNode}
use Rattle.rbac_paths.specs.Nodes.{NodeView, Somebody, ClusterRoleIn, OwnRole, EverythingIn}
use Rattle.rbac_paths.specs.Paths.{ArePaths, ArePathsOf, GoesTo, IsPath, LeadsTo, PathView}
use Rattle.rbac_paths.specs.Principals.{AreToldByKeys, IsOneWith}
use Rattle.rbac_paths.specs.WaysTo.{AreWays, AreWaysTo, GoesBack, IsComeTo, IsWayOn, WayView}
use Rattle.rbac_steps.specs.declared.steps.Step.{Step}
use Rattle.rbac_paths.proofs.OneLists.{paths_to}

same_or_not : (a b : Text) → (a ≡ b) ⊎ (a ≢ b)
same_or_not a b = decided (bytes_eq a b) refl
  where
    decided : (r : Bool) → bytes_eq a b ≡ r → (a ≡ b) ⊎ (a ≢ b)
    decided true is = inl ((bytes_eq-Decides a b).0 is)
    decided false isnt = inr (not_from_Decides (bytes_eq a b) (bytes_eq-Decides a b) isnt)

module _ (principals : List Who) (told : AreToldByKeys principals) (who : Who) (among : Contains principals who) where
  -- each principal is the one asked about, or has another key
  is_one : (other : Who) → Contains principals other → (other ≡ who) ⊎ (who_key other ≢ who_key who)
  is_one other c = elim (same_or_not (who_key other) (who_key who)) [
    | inl same ↦ inl (told other who c among same)
    | inr differ ↦ inr differ
  ]

  one_with : (other : Who) → IsOneWith principals who other ↔ Contains principals other
  one_with other = (
    λ one. elim one [ inl e ↦ subst (Contains principals) (sym e) among | inr w ↦ w.0 ],
    λ c. elim (is_one other c) [ inl e ↦ inl e | inr differ ↦ inr (c, differ) ],
  )

  module _ (p : PolicyView) (all : List Who) (same : (other : Who) → Contains all other ↔ Contains principals other) (steps : List Step) (asked : AccessView) where
    abbrev start : NodeView
    start = Somebody who

    abbrev LeadsFrom : ℕ → NodeView → Type 0
    LeadsFrom n y = LeadsTo (GoesTo p all steps) (λ y. y ≡ start) n y

    abbrev LeadsOn : ℕ → NodeView → Type 0
    LeadsOn n y = LeadsTo (GoesBack p all steps) (AllowsAccess p asked) n y

    -- if k steps lead to y, and n steps lead on from y to a node that allows the request, k + n
    -- steps lead to such a node
    an_end : (n k : ℕ) (y : NodeView) → LeadsFrom k y → LeadsOn n y → (j : ℕ) × (j ≡ k + n) × ((z : NodeView) × LeadsFrom j z × AllowsAccess p asked z)
    an_end zero k y from allows = (k, omega arith, (y, from, allows))
    an_end (suc n) k y from (z, on, goes) = let (j, sum, end) = an_end n (suc k) z (y, from, goes) on in (j, omega (arith, sum), end)

    -- if n steps lead from the start to y, and m steps lead on from y, then n + m steps lead on
    -- from the start
    from_start : (n m : ℕ) (y : NodeView) → LeadsFrom n y → LeadsOn m y → (k : ℕ) × (k ≡ n + m) × LeadsOn k start
    from_start zero m y is on = (m, omega arith, subst (LeadsOn m) is on)
    from_start (suc n) m y (x, from, goes) on = let (k, sum, way) = from_start n (suc m) x from (y, on, goes) in (k, omega (arith, sum), way)

    -- each node is the start or another node
    start_or_not : (y : NodeView) → IsNode p all y → (y ≡ start) ⊎ (y ≢ start)
    start_or_not (Somebody other) is = elim (is_one other ((same other).0 is)) [
      | inl e ↦ inl (ap Somebody e)
      | inr differ ↦ inr (λ e. differ (let keys : who_key other ≡ who_key who = key_of (Somebody other) (Somebody who) e in keys))
    ]
      where
        key_in : NodeView → Text
        key_in (Somebody w) = who_key w
        key_in (ClusterRoleIn role scope) = who_key who
        key_in (OwnRole role) = who_key who
        key_in (EverythingIn scope) = who_key who

        key_of : (x y : NodeView) → x ≡ y → key_in x ≡ key_in y
        key_of x y e = ap key_in e
    start_or_not (ClusterRoleIn role scope) is = inr (λ e. cc)
    start_or_not (OwnRole role) is = inr (λ e. cc)
    start_or_not (EverythingIn scope) is = inr (λ e. cc)

    come : IsComeTo p all steps start
    come = (zero, (who, (same who).1 among, refl))

    module _ (paths : List PathView) (are : ArePaths p all steps start paths) (ways : List WayView) (those : AreWays p all steps asked ways) where
      abbrev Leads : Type 0
      Leads = AllowsAccess p asked start ⊎ Any (λ x. AllowsAccess p asked x.node) paths

      there : (j : ℕ) (z : NodeView) → LeadsFrom j z → AllowsAccess p asked z → Leads
      there zero z is allows = inl (subst (AllowsAccess p asked) is allows)
      there (suc j) z from allows = elim (start_or_not z from.2.0) [
        | inl e ↦ inl (subst (AllowsAccess p asked) e allows)
        | inr differ ↦ (let w = are.complete (suc j) z differ from in inr (w.0, w.1, w.2, w.3, subst (AllowsAccess p asked) (sym w.4) allows))
      ]

      leads_there : Any (λ x. x.node ≡ start) ways → Leads
      leads_there w =
          let x = w.1 in
          let is : IsWayOn p all steps asked x = subst (IsWayOn p all steps asked) w.3 (those.each w.0 x w.2) in
          let (j, sum, (z, from, allows)) = an_end x.count zero start refl (subst (LeadsOn x.count) w.4 is.fewest.leads) in
          there j z from allows

      -- the listed path to a node that allows the request
      path_at : (w : Any (λ x. AllowsAccess p asked x.node) paths) → IsPath p all steps start w.1
      path_at w = subst (IsPath p all steps start) w.3 (are.each w.0 w.1 w.2)

      -- as many steps lead on from the start
      way_through : (w : Any (λ x. AllowsAccess p asked x.node) paths) → LeadsOn w.1.count start
      way_through w =
          let (k, sum, way) = from_start w.1.count zero w.1.node (path_at w).fewest.leads w.4 in
          let same : k ≡ w.1.count = omega (arith, sum) in subst (λ (n : ℕ). LeadsOn n start) same way

      listed_there : Leads → Any (λ x. x.node ≡ start) ways
      listed_there (inl allows) = those.complete zero start come allows
      listed_there (inr w) = those.complete w.1.count start come (way_through w)

      -- ---- the least number of steps

      abbrev Allowed : ℕ → Type 0
      Allowed n = IsAllowedAfter p who asked paths n

      on_from : (n : ℕ) → Allowed n → LeadsOn n start
      on_from n (inl (none, allows)) = subst (λ (n : ℕ). LeadsOn n start) (sym none) allows
      on_from n (inr w) = subst (λ (n : ℕ). LeadsOn n start) w.4.0 (way_through (w.0, w.1, w.2, w.3, w.4.1))

      allowed_at : (j : ℕ) (z : NodeView) → LeadsFrom j z → AllowsAccess p asked z → ((k : ℕ) → k < j → ¬ LeadsOn k start) → Allowed j
      allowed_at zero z is allows none = inl (refl, subst (AllowsAccess p asked) is allows)
      allowed_at (suc j) z from allows none = elim (start_or_not z from.2.0) [
        | inl e ↦ absurd (none zero (omega arith) (subst (AllowsAccess p asked) e allows))
        | inr differ ↦ (let w = are.complete (suc j) z differ from in
            let at : Any (λ x. AllowsAccess p asked x.node) paths = (w.0, w.1, w.2, w.3, subst (AllowsAccess p asked) (sym w.4) allows) in
            let count : w.1.count ≡ suc j = elim (cases_order w.1.count (suc j)) [
              | inl same ↦ same
              | inr less ↦ elim less [
                | inl low ↦ absurd (none w.1.count low (way_through at))
                | inr high ↦ absurd ((path_at at).fewest.fewest (suc j) high (subst (LeadsFrom (suc j)) (sym w.4) from))
              ]
            ] in
            inr (w.0, w.1, w.2, w.3, (count, at.4)))
      ]

      fewest_there : (x : WayView) → Contains ways x → x.node ≡ start → Allowed x.count × ((n : ℕ) → n < x.count → ¬ Allowed n)
      fewest_there x c at =
          let is : IsWayOn p all steps asked x = subst (IsWayOn p all steps asked) c.2 (those.each c.0 x c.1) in
          let none : (k : ℕ) → k < x.count → ¬ LeadsOn k start = λ k low on. is.fewest.fewest k low (subst (LeadsOn k) (sym at) on) in
          let (j, sum, (z, from, allows)) = an_end x.count zero start refl (subst (LeadsOn x.count) at is.fewest.leads) in
          let same : j ≡ x.count = omega (arith, sum) in
          (subst Allowed same (allowed_at j z from allows (λ k low. none k (omega (arith, low, same)))), λ n low allowed. none n low (on_from n allowed))

  pub agree : (p : PolicyView) (steps : List Step) (asked : AccessView) (paths : List PathView) (ways : List WayView) → ArePathsOf p principals steps who paths → AreWaysTo p principals steps asked ways
      → AgreeOn p who asked paths ways
  agree p steps asked paths ways (others, exact, are) (all, same, those) =
      let both : (other : Who) → Contains others other ↔ Contains all other = λ other. (
        λ c. (same other).1 ((one_with other).0 ((exact other).0 c)),
        λ c. (exact other).1 ((one_with other).1 ((same other).0 c)),
      ) in
      let these = paths_to p others all steps both (Somebody who) paths are in
      record {
        listed = (leads_there p all same steps asked paths these ways those, listed_there p all same steps asked paths these ways those);
        count = fewest_there p all same steps asked paths these ways those;
      }
