-- The lines of a text.
use Rattle.std.proofs.Common.{◌≡◌, ◌≢◌, ◌∙◌, ◌+◌, ℕ, Bool, false, List, [], ◌∷◌, ◌++◌, All, Contains, length, ap, arith, refl, subst, sym}
use Rattle.std.specs.Prelude.{◌==◌}
use Rattle.std.specs.List.{onto_first, slice_split}
use Rattle.std.proofs.lemmas.Bool.{ne_eqb}
use Rattle.std.proofs.lemmas.List.Elements.{All-append, All-cons, All-head, All-nil, All-tail, All-weaker}
use Rattle.std.proofs.lemmas.List.Splits.{length-slice_split, slice_split-cons_no, slice_split-cons_yes}
use Rattle.rbac_terms.specs.Text.{Text, BeginsWith}
use Rattle.rbac_terms.proofs.Cases.{by_bool}
use Rattle.rbac_text.specs.Field.{field_text, is_control}
use Rattle.rbac_text.specs.Row.{tab, newline, field_and_tab}
use Rattle.rbac_text.proofs.Unlike.{field_text-plain}
use Rattle.rbac_cli.specs.TextLines.{lines_in}

-- ---- no newline stands in a field

abbrev pub IsInline : ℕ → Type 0
IsInline b = (b == newline) ≡ false

not_newline : (b : ℕ) → is_control b ≡ false → b ≢ newline
not_newline b plain e = let bad : is_control newline ≡ false = subst (λ x. is_control x ≡ false) e plain in cc

pub field_inline : (t : Text) → All IsInline (field_text t)
field_inline t = All-weaker (λ b. is_control b ≡ false) IsInline (λ b plain. ne_eqb b newline (not_newline b plain)) (field_text t) (field_text-plain t)

tab_inline : All IsInline (tab ∷ [])
tab_inline = All-cons IsInline tab [] refl (All-nil IsInline)

pub and_tab : (t : Text) → All IsInline t → All IsInline (t ++ tab ∷ [])
and_tab t all = All-append IsInline t (tab ∷ []) all tab_inline

pub fields_inline : (t : Text) → All IsInline (field_and_tab t)
fields_inline t = and_tab (field_text t) (field_inline t)

-- ---- the lines of texts that stand one behind the other

abbrev ends : ℕ → Bool
ends b = b == newline

onto_more : (x : ℕ) (ps qs : List Text) → length ps ≢ 0 → onto_first x (ps ++ qs) ≡ onto_first x ps ++ qs
onto_more x [] qs some = absurd (some refl)
onto_more x (p ∷ ps) qs some = refl

-- a newline ends the lines before it
pub lines_append : (a b : Text) → lines_in (a ++ newline ∷ b) ≡ lines_in a ++ lines_in b
lines_append [] b = slice_split-cons_yes ends newline b refl
lines_append (x ∷ a) b = by_bool (ends x)
    (λ is. slice_split-cons_yes ends x (a ++ newline ∷ b) is ∙ ap (λ (ls : List Text). [] ∷ ls) (lines_append a b)
    ∙ ap (λ (ls : List Text). ls ++ lines_in b) (sym (slice_split-cons_yes ends x a is)))
    (λ isn. slice_split-cons_no ends x (a ++ newline ∷ b) isn ∙ ap (onto_first x) (lines_append a b)
    ∙ onto_more x (lines_in a) (lines_in b) (λ none. (let zero : length (slice_split ends a) ≡ 0 = none in let len = length-slice_split ends a in omega (arith, zero, len)))
    ∙ ap (λ (ls : List Text). ls ++ lines_in b) (sym (slice_split-cons_no ends x a isn)))

-- the lines of a text, the first of them by itself
record Lines (text front : Text) : Type 0 where
  pub rest : Text
  pub more : List Text
  pub are : lines_in text ≡ (front ++ rest) ∷ more

some_lines : (text : Text) (ls : List Text) → lines_in text ≡ ls → Lines text []
some_lines text [] none = absurd (let len = length-slice_split ends text in let zero : length (slice_split ends text) ≡ 0 = ap length none in omega (arith, len, zero))
some_lines text (l ∷ ls) are = record { rest = l; more = ls; are = are }

-- the first line begins as the text does, up to its first newline
first_line : (front rest : Text) → All IsInline front → Lines (front ++ rest) front
first_line [] rest all = some_lines rest (lines_in rest) refl
first_line (x ∷ front) rest all =
    let later = first_line front rest (All-tail IsInline x front all) in
    record {
      rest = later.rest;
      more = later.more;
      are = slice_split-cons_no ends x (front ++ rest) (All-head IsInline x front all) ∙ ap (onto_first x) later.are;
    }

-- so a text has a line that begins as it does
pub line_with : (front rest : Text) → All IsInline front → (line : Text) × Contains (lines_in (front ++ rest)) line × BeginsWith line front
line_with front rest all =
    let first = first_line front rest all in
    (front ++ first.rest, subst (λ (ls : List Text). Contains ls (front ++ first.rest)) (sym first.are) (0, omega arith, refl), (first.rest, refl))
