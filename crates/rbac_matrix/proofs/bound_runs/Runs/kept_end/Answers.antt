use Rattle.std.proofs.Common.{◌≡◌, ◌-◌, ◌∙◌, ap, length, slice_get, subst, sym, List}
use Rattle.std.specs.Prelude.{None, Some}
use Rattle.std.specs.Option.{option_copied}
use Rattle.rbac_subjects.specs.declared.first_runs.Run.{Run}
use Rattle.rbac_matrix.proofs.RunLemmas.{end_last, end_none}
use Rattle.rbac_matrix.proofs.bound_runs.Runs.kept_end.Goals as goal

pub returns-in-Some : goal.returns-in-Some
returns-in-Some c =
    let at : slice_get c.as_slice.result.now (length c.as_slice.result.now - 1) ≡ Some c.in-Some.last.now = sym c.last.ensures.value ∙ ap option_copied c.in-Some.is in
    sym (end_last 0 c.args.self.now.kept.items c.in-Some.last.now (subst (λ (xs : List Run). slice_get xs (length xs - 1) ≡ Some c.in-Some.last.now) c.as_slice.ensures.value at))

pub returns-in-None : goal.returns-in-None
returns-in-None c =
    let at : slice_get c.as_slice.result.now (length c.as_slice.result.now - 1) ≡ None = sym c.last.ensures.value ∙ ap option_copied c.in-None.is in
    sym (end_none 0 c.args.self.now.kept.items (subst (λ (xs : List Run). slice_get xs (length xs - 1) ≡ None) c.as_slice.ensures.value at))
