-- a rule of a role, read by the places of both
use Rattle.std.proofs.Common.{◌≡◌, ◌<◌, ◌∙◌, ℕ, List, Some, None, ap, get_or, length, option_map, refl, subst}
use Rattle.std.specs.Prelude.{Option, IsSome, slice_get}
use Rattle.std.specs.Option.{option_and_then}
use Rattle.std.proofs.lemmas.Option.{slice_get_read, slice_get_within}
use Rattle.rbac_model.specs.Policies.{Source, SourcedRule, rule_at}
use Rattle.rbac_terms.specs.declared.matching.Rule.{Rule}

some_within : {X Y : Type 0} (f : X → Option Y) (xs : List X) (i : ℕ) (o : Option X) → slice_get xs i ≡ o → IsSome (option_and_then f o) → i < length xs
some_within f xs i None e is = cc
some_within f xs i (Some x) e is = slice_get_within xs i x e

mapped_within : {X Y : Type 0} (f : X → Y) (xs : List X) (i : ℕ) (o : Option X) → slice_get xs i ≡ o → IsSome (option_map f o) → i < length xs
mapped_within f xs i None e is = cc
mapped_within f xs i (Some x) e is = slice_get_within xs i x e

module _ {R : Type 0} (source : R → Source) (rules : R → List Rule) (roles : List R) (at place : ℕ) (is : IsSome (option_and_then (λ r. rule_at (source r) (rules r) place) (slice_get roles at))) where
  pub role_within : at < length roles
  role_within = some_within (λ (r : R). rule_at (source r) (rules r) place) roles at (slice_get roles at) refl is

  role_read : (r : R) → r ≡ get_or roles at r → slice_get roles at ≡ Some r
  role_read r e = slice_get_read roles (length roles) at r refl role_within e

  pub rule_within : (r : R) → r ≡ get_or roles at r → place < length (rules r)
  rule_within r e =
      let made : Rule → SourcedRule = λ x. record { source = source r; rule = x; place = place } in
      let there = subst (λ (o : Option R). IsSome (option_and_then (λ s. rule_at (source s) (rules s) place) o)) (role_read r e) is in
      mapped_within made (rules r) place (slice_get (rules r) place) refl there

  pub rule_read : (r : R) (x : Rule) → r ≡ get_or roles at r → x ≡ get_or (rules r) place x → option_and_then (λ s. rule_at (source s) (rules s) place) (slice_get roles at) ≡ Some (record { source = source r; rule = x; place = place })
  rule_read r x e f =
      let made : Rule → SourcedRule = λ y. record { source = source r; rule = y; place = place } in
      ap (λ (o : Option R). option_and_then (λ s. rule_at (source s) (rules s) place) o) (role_read r e) ∙ ap (option_map made) (slice_get_read (rules r) (length (rules r)) place x refl (rule_within r e) f)
