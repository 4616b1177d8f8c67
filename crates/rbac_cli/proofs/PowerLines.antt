-- A power has a line of its key.
use Rattle.std.proofs.Common.{◌≡◌, ◌∙◌, List, [], ◌∷◌, ◌++◌, All, Any, Contains, append_assoc, ap, arith, inl, inr, subst, sym, zero, suc}
use Rattle.std.proofs.lemmas.List.Elements.{All-append, Contains-append_cases, Contains-append_left, Contains-append_right}
use Rattle.rbac_terms.specs.Text.{Text, BeginsWith}
use Rattle.rbac_terms.specs.Principals.{Who}
use Rattle.rbac_model.specs.Holders.{IsKeyFor}
use Rattle.rbac_text.specs.Choice.{choice_and_tab}
use Rattle.rbac_text.specs.Row.{field_and_tab, newline}
use Rattle.rbac_text.specs.Why.{reason_text}
use Rattle.rbac_universe.proofs.OneMore.{as_any}
use Rattle.rbac_paths.specs.Lines.{power_text}
use Rattle.rbac_paths.specs.Powers.{PowerView, power_place}
use Rattle.rbac_steps.specs.Steps.{step_word}
use Rattle.rbac_steps.specs.declared.steps.Step.{Step}
use Rattle.rbac_cli.specs.Agreement.{HasNoPowerLine}
use Rattle.rbac_cli.specs.Out.{powers_text}
use Rattle.rbac_cli.specs.TextLines.{lines_in}
use Rattle.rbac_cli.proofs.LinesLemmas.{IsInline, fields_inline, line_with, lines_append}

-- how the line of a power begins, and goes on up to its newline
abbrev front : Step → Text → Text
front step who = field_and_tab (step_word step) ++ field_and_tab who

abbrev rest : PowerView → Text
rest x = choice_and_tab x.grant.binding.namespace ++ reason_text x.grant.binding x.grant.rule.source x.grant.rule.place x.subject_place

front_inline : (step : Step) (who : Text) → All IsInline (front step who)
front_inline step who = All-append IsInline (field_and_tab (step_word step)) (field_and_tab who) (fields_inline (step_word step)) (fields_inline who)

text_is : (x : PowerView) (others : Text) → power_text x ++ others ≡ (front x.step x.who ++ rest x) ++ newline ∷ others
text_is x others =
    let step = field_and_tab (step_word x.step) in
    let who = field_and_tab x.who in
    let home = choice_and_tab x.grant.binding.namespace in
    let reason = reason_text x.grant.binding x.grant.rule.source x.grant.rule.place x.subject_place in
    let body : (step ++ power_place x) ++ reason ≡ front x.step x.who ++ rest x = ap (λ (t : Text). t ++ reason) (sym (append_assoc step who home)) ∙ append_assoc (step ++ who) home reason in
    ap (λ (t : Text). t ++ others) (sym (append_assoc (step ++ power_place x) reason (newline ∷ [])))
    ∙ append_assoc ((step ++ power_place x) ++ reason) (newline ∷ []) others
    ∙ ap (λ (t : Text). t ++ newline ∷ others) body

-- the lines of powers are those of the first, and those of the others
lines_of : (x : PowerView) (xs : List PowerView) → lines_in (powers_text (x ∷ xs)) ≡ lines_in (front x.step x.who ++ rest x) ++ lines_in (powers_text xs)
lines_of x xs = ap lines_in (text_is x (powers_text xs)) ∙ lines_append (front x.step x.who ++ rest x) (powers_text xs)

power_line : (xs : List PowerView) (x : PowerView) → Contains xs x → (line : Text) × Contains (lines_in (powers_text xs)) line × BeginsWith line (front x.step x.who)
power_line [] x c = absurd (omega (arith, c.1))
power_line (y ∷ ys) x c =
    let own = lines_in (front y.step y.who ++ rest y) in
    let others = lines_in (powers_text ys) in
    elim (Contains-append_cases (y ∷ []) ys x c) [
      | inl first ↦ (let (line, among, begins) = line_with (front y.step y.who) (rest y) (front_inline y.step y.who) in
          let same : y ≡ x = one_of y x first in
          (line, subst (λ (ls : List Text). Contains ls line) (sym (lines_of y ys)) (Contains-append_left own others line among), subst (λ (z : PowerView). BeginsWith line (front z.step z.who)) same begins))
      | inr later ↦ (let (line, among, begins) = power_line ys x later in
          (line, subst (λ (ls : List Text). Contains ls line) (sym (lines_of y ys)) (Contains-append_right own others line among), begins))
    ]
  where
    one_of : (y x : PowerView) → Contains (y ∷ []) x → y ≡ x
    one_of y x (zero, l, e) = e
    one_of y x (suc n, l, e) = absurd (omega (arith, l))

-- so without a line for somebody there is no power of theirs
pub no_power : (who : Who) (xs : List PowerView) → HasNoPowerLine (powers_text xs) who → ¬ Any (λ x. IsKeyFor who x.who) xs
no_power who xs none (i, x, low, at, key) =
    let (line, among, begins) = power_line xs x (i, low, at) in
    none x.who key (as_any (λ l. (step : Step) × BeginsWith l (front step x.who)) (lines_in (powers_text xs)) line among (x.step, begins))
