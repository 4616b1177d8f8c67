use Rattle.std.proofs.Common.{List}
use Rattle.std.specs.List.Sorted.{IsPermutation}
use Rattle.std.proofs.lemmas.Result.{IfOk-weaker}
use Rattle.rbac_terms.specs.Text.{Text}
use Rattle.rbac_manifest.specs.Names.{names_given}
use Rattle.rbac_manifest.proofs.Replacing.{sorted_listed}
use Rattle.rbac_manifest.proofs.replacement.replaced_of.Goals as goal

pub returns : goal.returns
returns c =
    let given : List (List Text) = names_given c.args.objects.now c.args.namespaces.now c.args.accounts.now in
    let moved : IsPermutation given c.as_slice.result.now = rw (c.as_slice.ensures.value, ← c.in_ok-names.ensures) c.in_ok-sort_names.ensures.same in
    IfOk-weaker c.several.result _ _ (λ v are. sorted_listed given c.as_slice.result.now v.items moved are) c.several.ensures
