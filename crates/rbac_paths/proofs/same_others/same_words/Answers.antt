use Rattle.std.proofs.Common.{◌∙◌, sym}
use Rattle.std.proofs.lemmas.Slice.Eq.{slice_eq-Decides, bytes_eq-Decides}
use Rattle.rbac_paths.proofs.same_others.same_words.Goals as goal

pub returns : goal.returns
returns c =
    let d = slice_eq-Decides bytes_eq-Decides c.as_slice.result.now c.as_slice-2.result.now c.eq.result c.eq.ensures in
    (λ t. sym c.as_slice.ensures ∙ d.0 t ∙ c.as_slice-2.ensures, λ e. d.1 (c.as_slice.ensures ∙ e ∙ sym c.as_slice-2.ensures))
