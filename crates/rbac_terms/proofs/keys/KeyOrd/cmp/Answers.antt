use Rattle.std.proofs.Common.{◌≡◌, List, map, ap, sym, ◌∙◌, Bor}
use Rattle.std.specs.Cmp.Lexicographic.{slice_cmp}
use Rattle.std.specs.Cmp.Derive.Mapped.{lex_map}
use Rattle.rbac_terms.specs.Text.{Text, text_cmp}
use Rattle.rbac_terms.specs.Keys.{texts}
use Rattle.rbac_terms.proofs.keys.KeyOrd.cmp.Goals as goal

-- the texts of the two keys, behind their borrows, are compared as the texts themselves are
pub returns : goal.returns
returns c =
    let now : Bor Text → Text = λ text. text.now in
    let left : map now c.as_slice.result.now ≡ texts c.args.self.now = rw c.as_slice.ensures c.texts.ensures in
    let right : map now c.as_slice-2.result.now ≡ texts c.args.other.now = rw c.as_slice-2.ensures c.texts-2.ensures in
    c.cmp.ensures ∙ sym (lex_map now text_cmp c.as_slice.result.now c.as_slice-2.result.now)
    ∙ ap (λ (xs : List Text). slice_cmp text_cmp xs (map now c.as_slice-2.result.now)) left
    ∙ ap (λ (ys : List Text). slice_cmp text_cmp (texts c.args.self.now) ys) right
