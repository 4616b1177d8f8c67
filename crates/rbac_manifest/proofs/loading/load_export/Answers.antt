use Rattle.std.proofs.Common.{rules, ◌≡◌, ◌≢◌, ◌∙◌, List, ap, subst}
use Rattle.rbac_terms.specs.Text.{Text}
use Rattle.rbac_model.specs.declared.objects.Object.{Object}
use Rattle.rbac_lists.specs.declared.given_lists.Account.{Account}
use Rattle.rbac_manifest.specs.Names.{names_given}
use Rattle.rbac_manifest.specs.Replaced.{AreReplaced}
use Rattle.rbac_manifest.specs.Contents.{ContentsView, sorted_contents}
use Rattle.rbac_manifest.specs.Load.{HasFault, all_contents}
use Rattle.rbac_manifest.specs.declared.fault.Cause.TheVariants.{NoMemory}
use Rattle.rbac_manifest.proofs.Outcomes.{loaded, refused}
use Rattle.rbac_manifest.proofs.loading.load_export.Goals as goal

pub returns-in_err-policy-clause-fault : goal.returns-in_err-policy-clause-fault
returns-in_err-policy-clause-fault c =
    let i = c.objects.inside in
    let g : ContentsView = record { objects = i.objects.items; namespaces = i.namespaces.items; accounts = i.accounts.items; catalogue = i.catalogue; documents = i.documents.items; memberships = i.memberships.items } in
    let e : g ≡ sorted_contents (all_contents c.args.inputs.now) = c.objects.view_is ∙ c.in_ok-objects.ensures.contents in
    let f = c.in_err-policy.field-0.0 in
    let told : f.cause ≢ NoMemory → HasFault c.args.inputs.now f = λ h. refused c.args.inputs.now g e c.in_ok-objects.ensures.sound f (c.in_err-policy.ensures.fault h) in
    search (rules, told)

pub returns-clause-ok : goal.returns-clause-ok
returns-clause-ok c =
    let i = c.objects.inside in
    let g : ContentsView = record { objects = i.objects.items; namespaces = i.namespaces.items; accounts = i.accounts.items; catalogue = i.catalogue; documents = i.documents.items; memberships = i.memberships.items } in
    let e : g ≡ sorted_contents (all_contents c.args.inputs.now) = c.objects.view_is ∙ c.in_ok-objects.ensures.contents in
    let rs = c.in_ok-replaced.replaced.items in
    let names = ap (λ (os : List Object). names_given os c.as_slice-2.result.now c.as_slice-3.result.now) c.as_slice.ensures.value
    ∙ ap (λ (ns : List Text). names_given i.objects.items ns c.as_slice-3.result.now) c.as_slice-2.ensures.value
    ∙ ap (λ (accounts : List Account). names_given i.objects.items i.namespaces.items accounts) c.as_slice-3.ensures.value in
    let P : List (List Text) → Type 0 = λ ns. AreReplaced ns rs in
    let several : AreReplaced (names_given i.objects.items i.namespaces.items i.accounts.items) rs = subst P names c.in_ok-replaced.ensures.replaced in
    loaded c.args.inputs.now g c.in_ok-policy.policy c.in_ok-replaced.replaced.items e c.in_ok-objects.ensures.sound c.in_ok-policy.ensures.ok several
