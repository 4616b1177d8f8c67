-- The near grants of bindings that name who asks.
use Rattle.std.specs.Prelude.{◌≢◌, ◌<◌, ◌↔◌, ℕ, List, Contains}
use Rattle.rbac_model.specs.Policies.{IsOfBinding, PolicyView}
use Rattle.rbac_near.specs.Near.{IsNear, RequestView}
use Rattle.rbac_near.specs.declared.near.Missing.TheVariants.{Member}
use Rattle.rbac_near.specs.declared.near.Near.{Near}

-- x is a near grant of the binding at that place, which names who asks
abbrev pub IsNamedOf : PolicyView → RequestView → ℕ → Near → Type 0
IsNamedOf p q place x = IsNear p q x × (x.missing ≢ Member) × IsOfBinding p x.number place

-- exactly the near grants of the first `count` bindings that name who asks
abbrev pub AreNamedUpTo : PolicyView → RequestView → ℕ → List Near → Type 0
AreNamedUpTo p q count xs = (x : Near) → Contains xs x
    ↔ ((place : ℕ) × (place < count) × IsNamedOf p q place x)
