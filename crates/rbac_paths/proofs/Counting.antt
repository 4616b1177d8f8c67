-- Where the requests of a row count: a binding in a namespace is live for them exactly if the row
-- counts there, and the binding is where they are made.
use Rattle.std.proofs.Common.{◌≡◌, ◌≢◌, ◌↔◌, ◌∙◌, [], Bool, Some, ap, cond, false, refl, subst, sym, true}
use Rattle.std.specs.Str.{bytes_eq}
use Rattle.std.proofs.lemmas.Slice.Eq.{bytes_eq-Decides}
use Rattle.rbac_terms.specs.Targets.{Resource}
use Rattle.rbac_terms.specs.Text.{Text}
use Rattle.rbac_model.specs.Policies.{Live}
use Rattle.rbac_paths.specs.Steps.{CountsThere, asked_in, kube_system}
use Rattle.rbac_paths.specs.declared.table.Counts.{Counts}
use Rattle.rbac_paths.specs.declared.table.Counts.TheVariants as counted

-- no row counts in the empty namespace
pub not_empty : (counts : Counts) (namespace : Text) → CountsThere counts namespace → namespace ≢ []
not_empty counted.ClusterWide namespace there = elim there [ ]
not_empty counted.InNamespaces namespace there = there
not_empty counted.InKubeSystem namespace there = λ e. (let both : kube_system ≡ [] = sym there ∙ e in cc)

-- where a row counts, its requests are made
asked_there : (counts : Counts) (namespace : Text) → CountsThere counts namespace → asked_in counts namespace ≡ namespace
asked_there counted.ClusterWide namespace there = elim there [ ]
asked_there counted.InNamespaces namespace there = refl
asked_there counted.InKubeSystem namespace there = subst (λ (t : Text). asked_in counted.InKubeSystem t ≡ t) (sym there) refl

-- what is asked in one namespace alone is asked there or nowhere
there_alone : (b : Bool) (own namespace : Text) → b ≡ bytes_eq namespace kube_system → cond b namespace [] ≢ [] → own ≡ cond b namespace [] → (own ≡ kube_system) × (own ≡ namespace)
there_alone true own namespace is some same = (same ∙ (bytes_eq-Decides namespace kube_system).0 (sym is), same)
there_alone false own namespace is some same = absurd (some refl)

module _ (counts : Counts) (own namespace group text name : Text) where
  pub counts_live : CountsThere counts own → own ≡ namespace → Live (Some own) (asked_in counts namespace) (Resource group text name)
  counts_live there same =
      let asked : asked_in counts namespace ≡ own = ap (asked_in counts) (sym same) ∙ asked_there counts own there in
      (λ e. not_empty counts own there (sym asked ∙ e), sym asked)

pub live_counts : (counts : Counts) (own namespace group text name : Text) → Live (Some own) (asked_in counts namespace) (Resource group text name) → CountsThere counts own × (own ≡ namespace)
live_counts counted.ClusterWide own namespace group text name live = absurd (live.0 refl)
live_counts counted.InNamespaces own namespace group text name live = (λ e. live.0 (sym live.1 ∙ e), live.1)
live_counts counted.InKubeSystem own namespace group text name live = there_alone (bytes_eq namespace kube_system) own namespace refl live.0 live.1
