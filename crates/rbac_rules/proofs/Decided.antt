-- there is a list of the rules that somebody has
use Rattle.std.proofs.Common.{List, [], ◌∷◌, inl, inr, refl, Any}
use Rattle.std.specs.Prelude.{Option, Some, None}
use Rattle.std.proofs.lemmas.Option.{slice_get_within, get_or_from_slice_get}
use Rattle.rbac_terms.specs.Principals.{Who}
use Rattle.rbac_terms.specs.Granting.{Names}
use Rattle.rbac_terms.specs.Text.{Text}
use Rattle.rbac_model.specs.Policies.{GrantView}
use Rattle.rbac_model.proofs.Decided.{Decided, both, not_so, same_text, is_nil, names, first_of}
use Rattle.rbac_terms.specs.declared.scope.Scope.{Scope}
use Rattle.rbac_terms.specs.declared.scope.Scope.TheVariants.{Anywhere, Namespace, ClusterWide}
use Rattle.rbac_model.specs.Scopes.{MayBeLiveIn}
use Rattle.rbac_rules.specs.Effective.{RuleView, AreRulesBy}

may_be_live : (scope : Scope) (own : Option Text) → Decided (MayBeLiveIn scope own)
may_be_live Anywhere own = inl tt
may_be_live (Namespace asked) None = inl tt
may_be_live (Namespace asked) (Some own) = both (not_so (is_nil asked)) (same_text own asked)
may_be_live ClusterWide None = inl refl
may_be_live ClusterWide (Some own) = inr (λ e. cc)

-- the rules that somebody has by grants are a list
pub are_there : (who : Who) (scope : Scope) (gs : List GrantView) → (xs : List RuleView) × AreRulesBy who scope gs xs
are_there who scope [] = ([], refl)
are_there who scope (g ∷ gs) =
    let rest = are_there who scope gs in
    let b = g.binding in
    elim (may_be_live scope b.namespace) [
      | inl force ↦ elim (first_of (λ s. Names s b.namespace who) (λ s. names s b.namespace who) b.subjects) [
        | inl f ↦
            let at = f.2.here in
            let x : RuleView = record { grant = g; subject_place = f.0 } in
            let named : Any (λ s. Names s b.namespace who) b.subjects = (f.0, f.1, slice_get_within b.subjects f.0 f.1 at, get_or_from_slice_get b.subjects f.0 f.1 f.1 at, f.2.holds) in
            (x ∷ rest.0, inr ((force, named), (x, rest.0, refl, (f.1, f.2), rest.1, refl)))
        | inr none ↦ (rest.0, inl (λ h. none h.1, rest.1))
      ]
      | inr none ↦ (rest.0, inl (λ h. none h.0, rest.1))
    ]
