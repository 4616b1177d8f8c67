-- What is taken over by some steps, and what `bind` and `escalate` leave out.
use Rattle.std.proofs.Common.{◌≡◌, ◌<◌, ◌≤◌, ◌∙◌, ◌+◌, ◌⊎◌, ℕ, Any, List, Option, Some, None, Contains, arith, inl, inr, length, refl, slice_get, subst, sym}
use Rattle.std.proofs.lemmas.Bool.{cases_lt}
use Rattle.std.proofs.lemmas.Option.{same_Some, slice_get_within}
use Rattle.rbac_terms.specs.Text.{Text}
use Rattle.rbac_terms.proofs.Reading.{contains_read}
use Rattle.rbac_model.proofs.OwnWords.{any_from}
use Rattle.rbac_model.proofs.Stairs.{read_contains}
use Rattle.rbac_model.specs.Policies.{PolicyView}
use Rattle.rbac_paths.specs.Having.{HoldingView}
use Rattle.rbac_paths.specs.Joints.{DecideOn, IsAboutNode, IsNobody}
use Rattle.rbac_paths.specs.Nodes.{NodeView, Somebody, ClusterRoleIn, OwnRole, EverythingIn}
use Rattle.rbac_paths.specs.TakingOver.{BindsNode, MayGoOn, HasAll, IsUntold, IsUntoldBy, TakesByStep, TakesOver, WritesRoles}
use Rattle.rbac_paths.specs.Told.{HoldingsBind, HoldingsHaveAll, HoldingsTake, HoldingsTell, IsFirstTold, IsUntoldOf}
use Rattle.rbac_steps.specs.declared.steps.Step.{Step}
use Rattle.rbac_steps.specs.declared.steps.Step.TheVariants.{Bind}

either : {A B C D : Type 0} → (A → C) → (B → D) → A ⊎ B → C ⊎ D
either f g (inl a) = inl (f a)
either f g (inr b) = inr (g b)

-- a node that is left out is still left out if more is taken over by `bind` and `escalate`
pub untold_too : (A C : Option Text → Type 0) (B D : NodeView → Type 0) → ((scope : Option Text) → A scope → C scope) → ((y : NodeView) → IsNobody y → B y → D y) → (y : NodeView) → IsUntoldBy A B y → IsUntoldBy C D y
untold_too A C B D f g (Somebody who) u = u
untold_too A C B D f g (EverythingIn None) u = u
untold_too A C B D f g (EverythingIn (Some namespace)) u = f None u
untold_too A C B D f g (ClusterRoleIn role None) u = f None u
untold_too A C B D f g (ClusterRoleIn role (Some namespace)) u = either (f None) (either (f (Some namespace)) (g (ClusterRoleIn role None) tt)) u
untold_too A C B D f g (OwnRole role) u = either (f None) (f (Some role.namespace)) u

module _ (p : PolicyView) (x : NodeView) (hs : List HoldingView) (steps : List Step) (y : NodeView) (decide : DecideOn p steps x hs (IsAboutNode y)) where
  -- taking over everything in a scope
  pub has_all : (scope : Option Text) → HoldingsHaveAll steps hs scope → HasAll p steps x scope
  unfolding HoldingsHaveAll
  has_all scope a = (a.1, a.4.0, (a.0, a.2, a.3), (decide a.1 (EverythingIn scope) (a.0, a.2, a.3) (inr tt)).0 a.4.1)

  have_all : (scope : Option Text) → HasAll p steps x scope → HoldingsHaveAll steps hs scope
  unfolding HoldingsHaveAll
  have_all scope w = any_from (λ s. WritesRoles s × HoldingsTake s hs (EverythingIn scope)) steps w.0 w.2 (w.1, (decide w.0 (EverythingIn scope) w.2 (inr tt)).1 w.3)

  -- taking over by `bind`
  binds : (z : NodeView) → IsNobody z → HoldingsBind steps hs z → BindsNode p steps x z
  unfolding HoldingsBind
  binds z nobody a =
      let among = subst (λ (s : Step). Contains steps s) a.4.0 (a.0, a.2, a.3) in
      (among, (decide Bind z among (inr nobody)).0 (subst (λ (s : Step). HoldingsTake s hs z) a.4.0 a.4.1))

  bind : (z : NodeView) → IsNobody z → BindsNode p steps x z → HoldingsBind steps hs z
  unfolding HoldingsBind
  bind z nobody w = any_from (λ s. (s ≡ Bind) × HoldingsTake s hs z) steps Bind w.0 (refl, (decide Bind z w.0 (inr nobody)).1 w.1)

  is_untold : IsUntoldOf steps hs y → IsUntold p steps x y
  is_untold = untold_too (HoldingsHaveAll steps hs) (HasAll p steps x) (HoldingsBind steps hs) (BindsNode p steps x) has_all binds y

  untold_of : IsUntold p steps x y → IsUntoldOf steps hs y
  untold_of = untold_too (HasAll p steps x) (HoldingsHaveAll steps hs) (BindsNode p steps x) (HoldingsBind steps hs) have_all bind y

  -- x takes over y by the step exactly if its holdings do, and the step doesn't leave out y
  takes_by : MayGoOn x y → (s : Step) → Contains steps s → HoldingsTell steps hs y s → TakesByStep p steps x s y
  takes_by on s among told = record { goes_on = on; among = among; can = (decide s y among (inl refl)).0 told.0; told = λ writes untold. told.1 writes (untold_of untold) }

  told_by : (s : Step) → TakesByStep p steps x s y → HoldingsTell steps hs y s
  told_by s takes = ((decide s y takes.among (inl refl)).1 takes.can, λ writes untold. takes.told writes (is_untold untold))

-- by none of the first `count` steps the node is taken over
abbrev pub ToldNoneTo : List Step → List HoldingView → NodeView → ℕ → Type 0
ToldNoneTo steps hs y count = (k : ℕ) (s : Step) → k < count → slice_get steps k ≡ Some s → ¬ HoldingsTell steps hs y s

module _ (steps : List Step) (hs : List HoldingView) (y : NodeView) where
  pub none_more : (k : ℕ) (s : Step) → slice_get steps k ≡ Some s → ¬ HoldingsTell steps hs y s → ToldNoneTo steps hs y k → ToldNoneTo steps hs y (k + 1)
  none_more k s here isnt none i other low there is = elim (cases_lt i k) [
    | inl less ↦ none i other less there is
    | inr high ↦ (let same : i ≡ k = omega (arith, low, high) in
        let one : other ≡ s = same_Some other s (sym (subst (λ (n : ℕ). slice_get steps n ≡ Some other) same there) ∙ here) in
        isnt (subst (HoldingsTell steps hs y) one is))
  ]

  module _ (p : PolicyView) (x : NodeView) (decide : DecideOn p steps x hs (IsAboutNode y)) where
    pub takes_none : (count : ℕ) → ((k : ℕ) (s : Step) → slice_get steps k ≡ Some s → k < count) → ToldNoneTo steps hs y count → ¬ TakesOver p steps x y
    takes_none count all none w =
        let at = read_contains steps w.0 w.1.among in
        none at.0 w.0 (all at.0 w.0 at.1) at.1 (told_by p x hs steps y decide w.0 w.1)

    pub first_told : MayGoOn x y → (k : ℕ) (s : Step) → slice_get steps k ≡ Some s → HoldingsTell steps hs y s → ToldNoneTo steps hs y k → IsFirstTold p steps x y s
    first_told on k s here told none = (
      k,
      record {
        here = here;
        holds = takes_by p x hs steps y decide on s (contains_read steps k s here) told;
        none_before = λ i other low there takes. none i other low there (told_by p x hs steps y decide other takes);
      },
    )
