use Rattle.std.proofs.Common.{◌≡◌, ◌∙◌, ◌++◌, ◌⊎◌, inl, inr, ap, sym, arith, length, ◌+◌, ◌<◌, refl, ℕ}
use Rattle.std.specs.Prelude.{min}
use Rattle.std.specs.Ordering.{ordering_then}
use Rattle.std.specs.declared.cmp.Ordering.{Ordering}
use Rattle.std.specs.declared.cmp.Ordering.TheVariants.{Less, Equal, Greater}
use Rattle.std.proofs.lemmas.Bool.{cases_lt}
use Rattle.std.proofs.lemmas.List.{take-append-drop}
use Rattle.rbac_terms.specs.Text.{Text, text_cmp}
use Rattle.rbac_subjects.proofs.KeyedLemmas.{joined_cmp}
use Rattle.rbac_subjects.proofs.principal_keys.PrincipalKey.cmp_listed.Goals as goal

-- what the heads decide needs no tails
then_decided : (o p : Ordering) → (o ≡ Equal → ⊥) → ordering_then o p ≡ o
then_decided Less p not = refl
then_decided Equal p not = absurd (not refl)
then_decided Greater p not = refl

-- a text that is cut after as many bytes as the prefix has, or after all of its own
cut_cmp : (text head tail prefix rest : Text) (n : ℕ) → n ≡ min (length text) (length prefix) → length head ≡ n → length tail + n ≡ length text → head ++ tail ≡ text
    → ordering_then (text_cmp head prefix) (text_cmp tail rest) ≡ text_cmp text (prefix ++ rest)
cut_cmp text head tail prefix rest n least front back whole =
    let cut : (length head ≡ length prefix) ⊎ ((length tail ≡ 0) × (length head < length prefix)) = elim (cases_lt (length head) (length prefix)) [
      | inl l ↦ inr (omega (arith, l, least, front, back), l)
      | inr l ↦ inl (omega (arith, l, least, front, back))
    ] in
    joined_cmp head tail prefix rest cut ∙ ap (λ (t : Text). text_cmp t (prefix ++ rest)) whole

pub returns-in-Equal : goal.returns-in-Equal
returns-in-Equal c =
    let text = c.args.listed.now in
    let head = c.split_at.result.0.now in
    let tail = c.split_at.result.1.now in
    let whole : head ++ tail ≡ text = rw (c.split_at.ensures.front, c.split_at.ensures.back) (take-append-drop c.min.result text) in
    let both = cut_cmp text head tail c.self.inside.prefix.now c.self.inside.rest.now c.min.result c.min.ensures (omega (arith, c.split_at.ensures.front_len, c.min.ensures)) (omega (arith, c.split_at.ensures.back_len, c.min.ensures)) whole in
    c.cmp-in-Equal.ensures ∙ ap (λ (o : Ordering). ordering_then o (text_cmp tail c.self.inside.rest.now)) (sym c.in-Equal.is ∙ c.cmp-2.ensures) ∙ both ∙ ap (text_cmp text) c.self.view_is

pub returns-in_default : goal.returns-in_default
returns-in_default c =
    let text = c.args.listed.now in
    let head = c.split_at.result.0.now in
    let tail = c.split_at.result.1.now in
    let prefix = c.self.inside.prefix.now in
    let rest = c.self.inside.rest.now in
    let whole : head ++ tail ≡ text = rw (c.split_at.ensures.front, c.split_at.ensures.back) (take-append-drop c.min.result text) in
    let both = cut_cmp text head tail prefix rest c.min.result c.min.ensures (omega (arith, c.split_at.ensures.front_len, c.min.ensures)) (omega (arith, c.split_at.ensures.back_len, c.min.ensures)) whole in
    let decided = then_decided (text_cmp head prefix) (text_cmp tail rest) (λ e. c.in_default.not-Equal (c.cmp-2.ensures ∙ e)) in
    c.cmp-2.ensures ∙ sym decided ∙ both ∙ ap (text_cmp text) c.self.view_is
