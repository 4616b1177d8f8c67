use Rattle.std.proofs.Common.{◌++◌, ap, ◌∙◌, sym}
use Rattle.std.proofs.lemmas.List.{append_cancel_left}
use Rattle.std.proofs.lemmas.Slice.Eq.{slice_eq-Decides}
use Rattle.std.proofs.lemmas.Bool.Decides.{Decides-eqb}
use Rattle.rbac_terms.proofs.text.is_joined.Goals as goal

pub returns-in-Some : goal.returns-in-Some
returns-in-Some c =
    let prefix = c.args.prefix.now in
    let same = slice_eq-Decides Decides-eqb _ _ _ c.eq.ensures in (
      λ h. c.in-Some.ensures ∙ ap (λ t. prefix ++ t) (same.0 h),
      λ e. same.1 (append_cancel_left prefix c.in-Some.after.now c.args.rest.now (sym c.in-Some.ensures ∙ e)),
    )
