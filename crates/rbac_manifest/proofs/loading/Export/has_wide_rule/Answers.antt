use Rattle.std.proofs.Common.{◌≡◌, subst, refl}
use Rattle.rbac_lists.specs.Derived.{resources_of}
use Rattle.rbac_lists.specs.Meant.{given_or}
use Rattle.rbac_manifest.specs.Load.{LoadedView}
use Rattle.rbac_manifest.proofs.loading.Export.has_wide_rule.Goals as goal

pub returns : goal.returns
returns c =
    let Is : LoadedView → Type 0 = λ l. given_or (resources_of l.policy.held l.catalogue) (λ d. d.resources) c.self.inside.documents.items ≡ l.lists.resources in
    let is : Is c.args.self.now = subst Is c.self.view_is refl in
    rw (← is) (rw (c.objects.ensures.held, c.policy.ensures, c.catalogue.ensures, c.as_slice-documents.ensures.value) at c.has_wide_rule.ensures.many)
