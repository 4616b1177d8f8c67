-- The powers of a policy are one list.
use Rattle.std.proofs.Common.{◌≡◌, List, [], ◌∷◌, ◌++◌, ◌∙◌, refl, sym, ap₂}
use Rattle.rbac_terms.specs.Text.{Text}
use Rattle.rbac_model.specs.Lists.{IsAscendingBy}
use Rattle.rbac_model.specs.Policies.{PolicyView}
use Rattle.rbac_model.proofs.OneList.{one_list}
use Rattle.rbac_paths.specs.Powers.{ArePowersIn, ArePowersOf, PowerView, power_place}
use Rattle.rbac_steps.specs.declared.steps.Step.{Step}

-- a power of a step has a name: its who and where, as printed
abbrev power_name : PowerView → List Text
power_name x = power_place x ∷ []

by_place : (p : PolicyView) (step : Step) (xs : List PowerView) → ArePowersOf p step xs → IsAscendingBy power_name xs
by_place p step xs are i j d lt l = rw (are.ordered i j d lt l) refl

one_step : (p : PolicyView) (step : Step) (xs others : List PowerView) → ArePowersOf p step xs → ArePowersOf p step others → xs ≡ others
one_step p step xs others a b =
    one_list power_name xs others (by_place p step xs a) (by_place p step others b) (λ x w. (b.exact x).1 ((a.exact x).0 w)) (λ x w. (a.exact x).1 ((b.exact x).0 w))

pub one_powers : (p : PolicyView) (steps : List Step) (xs others : List PowerView) → ArePowersIn p steps xs → ArePowersIn p steps others → xs ≡ others
one_powers p [] xs others a b = a ∙ sym b
one_powers p (step ∷ steps) xs others (x, xr, xo, xi, xe) (y, yr, yo, yi, ye) =
    xe ∙ ap₂ (λ (a : List PowerView) (b : List PowerView). a ++ b) (one_step p step x y xo yo) (one_powers p steps xr yr xi yi) ∙ sym ye
