-- the rules of rows, listed one after the other
use Rattle.std.proofs.Common.{◌≡◌, ℕ, ◌+◌, ◌<◌, List, [], ◌∷◌, ◌++◌, length, slice_get, ap, sym, ◌∙◌, refl, arith, inl, inr, ◌⊎◌, ◌↔◌}
use Rattle.std.specs.Prelude.{Some}
use Rattle.std.specs.Option.{option_map}
use Rattle.std.proofs.lemmas.Bool.{cases_eq, cases_lt}
use Rattle.std.proofs.lemmas.List.{length-append}
use Rattle.std.proofs.lemmas.List.Quantifiers.{Any-push}
use Rattle.std.proofs.lemmas.Option.{same_Some, slice_get-map, slice_get_within, get_or_from_slice_get}
use Rattle.rbac_terms.specs.declared.matching.Rule.{Rule}
use Rattle.rbac_terms.proofs.Reading.{read_left, read_right, any_pushed, any_kept}
use Rattle.rbac_index.specs.declared.rule_rows.Written.{Written}
use Rattle.rbac_index.specs.Written.{IsRuleAt, HasWritten, AreWritten, bare_rules}

-- new has the first rules of a row behind what old has
abbrev pub HasMore : List Written → List Written → ℕ → List Rule → ℕ → Type 0
HasMore old new row rs count = (at k : ℕ) (r : Rule) → HasWritten new at k r ↔ (HasWritten old at k r ⊎ ((k < count) × (at ≡ row) × (slice_get rs k ≡ Some r)))

pub has_none : (ws : List Written) (row : ℕ) (rs : List Rule) → HasMore ws ws row rs 0
has_none ws row rs at k r = (λ a. inl a, λ s. elim s [ inl a ↦ a | inr b ↦ absurd (omega (arith, b.0)) ])

pub has_all : (old new : List Written) (row : ℕ) (rs : List Rule) (count : ℕ) → length rs ≡ count → HasMore old new row rs count → (at k : ℕ) (r : Rule) → HasWritten new at k r ↔ (HasWritten old at k r ⊎ ((at ≡ row) × (slice_get rs k ≡ Some r)))
has_all old new row rs count all more at k r = (
  λ w. elim ((more at k r).0 w) [ inl a ↦ inl a | inr b ↦ inr (b.1, b.2) ],
  λ s. (more at k r).1 (elim s [ inl a ↦ inl a | inr b ↦ inr (omega (arith, slice_get_within rs k r b.1, all), b.0, b.1) ]),
)

pub has_more : (old mid new : List Written) (row : ℕ) (rs : List Rule) (n : ℕ) (w : Written) → w.row ≡ row → w.place ≡ n → slice_get rs n ≡ Some w.rule.now → new ≡ mid ++ w ∷ [] → HasMore old mid row rs n → HasMore old new row rs (n + 1)
has_more old mid new row rs n w in_row at_place read is before at k r =
    let P : Written → Type 0 = λ v. (v.row ≡ at) × (v.place ≡ k) × (v.rule.now ≡ r) in (
      λ a. elim (any_pushed P mid w (rw is at a)) [
        | inl c ↦ elim ((before at k r).0 c) [
          | inl b ↦ inl b
          | inr b ↦ inr (omega (arith, b.0), b.1, b.2)
        ]
        | inr e ↦
            let place : k ≡ n = sym e.1 ∙ at_place in
            inr (omega (arith, place), sym e.0 ∙ in_row, ap (slice_get rs) place ∙ read ∙ ap (λ (x : Rule). Some x) e.2)
      ],
      λ s. rw is (elim s [
        | inl a ↦ any_kept P mid w ((before at k r).1 (inl a))
        | inr b ↦ elim (cases_eq k n) [
          | inl e ↦
              let rule : w.rule.now ≡ r = same_Some w.rule.now r (sym read ∙ ap (slice_get rs) (sym e) ∙ b.2) in
              Any-push P mid w (in_row ∙ sym b.1, at_place ∙ sym e, rule)
          | inr ne ↦ any_kept P mid w ((before at k r).1 (inr (omega (arith, b.0), b.1, b.2)))
        ]
      ]),
    )

-- one row more
pub written_more : (rows : List (List Rule)) (rs : List Rule) (row : ℕ) (old new : List Written) → length rows ≡ row → ((at k : ℕ) (r : Rule) → HasWritten new at k r ↔ (HasWritten old at k r ⊎ ((at ≡ row) × (slice_get rs k ≡ Some r)))) → AreWritten rows old → AreWritten (rows ++ rs ∷ []) new
written_more rows rs row old new len more are at k r = (
  λ w. elim ((more at k r).0 w) [
    | inl a ↦ let b = (are at k r).0 a in (b.0, read_left rows (rs ∷ []) at (slice_get_within rows at b.0 b.1) ∙ b.1, b.2)
    | inr a ↦ (rs, read_right rows (rs ∷ []) at 0 (omega (arith, a.0, len)), a.1)
  ],
  λ b. (more at k r).1 (elim (cases_lt at (length rows)) [
    | inl l ↦ inl ((are at k r).1 (b.0, sym (read_left rows (rs ∷ []) at l) ∙ b.1, b.2))
    | inr l ↦
        let last : at < length (rows ++ rs ∷ []) = slice_get_within (rows ++ rs ∷ []) at b.0 b.1 in
        let here : at ≡ length rows = omega (arith, last, l, length-append rows (rs ∷ [])) in
        let same : b.0 ≡ rs = same_Some b.0 rs (sym b.1 ∙ read_right rows (rs ∷ []) at 0 (omega (arith, here))) in
        inr (here ∙ len, ap (λ (l : List Rule). slice_get l k) (sym same) ∙ b.2)
  ]),
)

-- what is listed is written there
pub written_at : (rows : List (List Rule)) (ws : List Written) (i : ℕ) (w : Written) → AreWritten rows ws → slice_get ws i ≡ Some w → IsRuleAt rows w.row w.place w.rule.now
written_at rows ws i w are read = (are w.row w.place w.rule.now).0 (i, w, slice_get_within ws i w read, get_or_from_slice_get ws i w w read, (refl, refl, refl))

pub rule_read : (ws : List Written) (i : ℕ) (w : Written) → slice_get ws i ≡ Some w → slice_get (bare_rules ws) i ≡ Some w.rule.now
rule_read ws i w read = slice_get-map (λ (v : Written). v.rule.now) ws i ∙ ap (option_map (λ (v : Written). v.rule.now)) read
