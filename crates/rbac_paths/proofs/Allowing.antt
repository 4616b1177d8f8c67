-- A rule allows a request of a row exactly if it matches a verb, the API group, a resource and an
-- object name of the row.
use Rattle.std.proofs.Common.{List, [], ◌∷◌, ◌↔◌, inl, inr, refl, arith, subst, Any}
use Rattle.rbac_terms.specs.Text.{Text}
use Rattle.rbac_terms.specs.Matching.{NameMatches, VerbOk, WordMatches}
use Rattle.rbac_terms.specs.declared.matching.Rule.{Rule}
use Rattle.rbac_model.proofs.OwnWords.{any_from}
use Rattle.rbac_paths.specs.Asked.{AllowsRowFor, HasRowNameFor}
use Rattle.rbac_paths.specs.Rows.{HasRowName, HasRowResource}
use Rattle.rbac_paths.specs.Steps.{AllowsRow, StepRowView}
use Rattle.rbac_paths.specs.declared.table.Names.TheVariants as names

-- the names of a rule always match some object name
pub some_name : (names : List Text) → (name : Text) × NameMatches names name
some_name [] = ([], inl refl)
some_name (n ∷ ns) = (n, inr (0, omega arith, refl))

pub any_has_name : (rule : Rule) → HasRowName names.Any rule
any_has_name rule = let n = some_name rule.resource_names in (n.0, (n.0, tt), n.1)

pub own_has_name : (rule : Rule) → HasRowName names.Own rule
own_has_name rule = let n = some_name rule.resource_names in (n.0, (n.0, refl), n.1)

pub allows_row : (r : StepRowView) (rule : Rule) → Any (VerbOk rule) r.verbs → Any (λ w. WordMatches w r.group) rule.groups → Any (HasRowResource rule) r.resources → HasRowName r.names rule → AllowsRow r rule
allows_row r rule v g x n = record {
  verb = v.1;
  text = x.1;
  name = n.0;
  of_verbs = (v.0, v.2, v.3);
  of_resources = (x.0, x.2, x.3);
  named = n.1;
  allows = (v.4, (g, x.4, n.2));
}

-- requests for a node with its own name
pub allows_row_for : (r : StepRowView) (own : Text) (rule : Rule) → Any (VerbOk rule) r.verbs → Any (λ w. WordMatches w r.group) rule.groups → Any (HasRowResource rule) r.resources → HasRowNameFor r.names own rule → AllowsRowFor r own rule
allows_row_for r own rule v g x n = record {
  verb = v.1;
  text = x.1;
  name = n.0;
  of_verbs = (v.0, v.2, v.3);
  of_resources = (x.0, x.2, x.3);
  named = n.1;
  allows = (v.4, (g, x.4, n.2));
}

pub any_name_for : (own : Text) (rule : Rule) → HasRowNameFor names.Any own rule
any_name_for own rule = let n = some_name rule.resource_names in (n.0, tt, n.1)

pub own_name_for : (own : Text) (rule : Rule) → HasRowNameFor names.Own own rule ↔ NameMatches rule.resource_names own
own_name_for own rule = (
  λ h. subst (λ (n : Text). NameMatches rule.resource_names n) h.1 h.2,
  λ h. (own, refl, h),
)

pub no_name_for : (own : Text) (rule : Rule) → HasRowNameFor names.None own rule ↔ NameMatches rule.resource_names []
no_name_for own rule = (
  λ h. subst (λ (n : Text). NameMatches rule.resource_names n) h.1 h.2,
  λ h. ([], refl, h),
)
