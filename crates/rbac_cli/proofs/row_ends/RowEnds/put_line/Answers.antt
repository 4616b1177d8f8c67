use Rattle.std.proofs.Common.{◌≡◌, ◌∙◌, ℕ, List, append_assoc, Result, Ok, Err}
use Rattle.std.specs.Prelude.{OnOk, if◌then◌else◌, is_ok}
use Rattle.rbac_cli.proofs.row_ends.RowEnds.put_line.Goals as goal

-- where the last call went well, its piece was added
on_ok : {T E Q : Type 0} (r : Result T E) (a b c : List ℕ) → c ≡ (if is_ok r then a else b) → (c ≡ a → Q) → OnOk r Q
on_ok (Ok x) a b c e f = f e
on_ok (Err x) a b c e f = tt

pub returns : goal.returns
returns c =
    on_ok c.extend_from_slice-2.result _ _ _ c.extend_from_slice-2.ensures.items
    (λ last. rw (c.as_slice-2.ensures.value, c.requires.ends.1, c.in_ok-put_field_and_tab-3.ensures, c.as_bytes-3.ensures, c.in_ok-put_field_and_tab-2.ensures, c.as_bytes-2.ensures, c.in_ok-put_field_and_tab.ensures, c.as_bytes.ensures, c.in_ok-extend_from_slice.ensures.items, c.as_slice.ensures.value, c.requires.ends.0, c.requires.empty) at last ∙ simp append_assoc)
