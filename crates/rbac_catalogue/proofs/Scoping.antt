-- a resource text that isn't listed is as what stands before its first slash
use Rattle.std.proofs.Common.{◌↔◌, inl, inr, List, Contains, subst}
use Rattle.rbac_terms.specs.Text.{Text, slash, IsCutAtFirst}
use Rattle.rbac_terms.proofs.Texts.{IsCutAtFirst-prefix, IsCutAtFirst-contains}
use Rattle.rbac_catalogue.specs.declared.entry.Entry.{Entry}
use Rattle.rbac_catalogue.specs.Catalogue.{IsListed, IsClusterScoped, IsClusterOnly}

module _ (entries : List Entry) (group text : Text) (unlisted : ¬ IsListed entries group text) where
  pub asked_by_resource : (resource subresource : Text) → IsCutAtFirst text slash resource subresource → IsClusterScoped entries group resource ↔ IsClusterOnly entries group text
  unfolding IsClusterOnly
  asked_by_resource resource subresource cut = (
    λ w. inr (unlisted, (resource, subresource, cut, w)),
    λ w. elim w [
      | inl v ↦ absurd (unlisted v.0)
      | inr v ↦ subst (IsClusterScoped entries group) (IsCutAtFirst-prefix text v.1.0 resource v.1.1 subresource slash v.1.2 cut) v.1.3
    ],
  )

  pub no_resource : ¬ Contains text slash → ¬ IsClusterOnly entries group text
  unfolding IsClusterOnly
  no_resource lacks = λ w. elim w [
    | inl v ↦ unlisted v.0
    | inr v ↦ lacks (IsCutAtFirst-contains text v.1.0 v.1.1 slash v.1.2)
  ]
