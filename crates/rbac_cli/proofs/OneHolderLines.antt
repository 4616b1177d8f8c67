-- The lines of holders, with or without the reason, are one list.
use Rattle.std.proofs.Common.{◌≡◌, ◌∙◌, ℕ, Bool, true, false, List, [], ◌∷◌, ap, ap₂, inl, inr, sym, slice_get}
use Rattle.std.proofs.lemmas.Bool.{cases_order}
use Rattle.std.proofs.lemmas.Option.{same_Some}
use Rattle.rbac_terms.specs.Text.{Text}
use Rattle.rbac_model.specs.Policies.{PolicyView, GrantView}
use Rattle.rbac_model.specs.Holders.{HolderView}
use Rattle.rbac_index.specs.Deciding.{IsFirstAllowing}
use Rattle.rbac_index.specs.Requested.{RequestedView}
use Rattle.rbac_index.specs.WhyHeld.{IsWhyBy}
use Rattle.rbac_text.specs.Why.{holder_why_text}
use Rattle.rbac_cli.specs.HolderLines.{AreHolderLines, IsHolderLine}

module _ (p : PolicyView) (verb : Text) (t : RequestedView) where
  pub one_first_allowing : (at n m : ℕ) → IsFirstAllowing p verb t at n → IsFirstAllowing p verb t at m → n ≡ m
  one_first_allowing at n m a b = elim (cases_order n m) [
    | inl e ↦ e
    | inr d ↦ elim d [
      | inl l ↦ absurd (b.1 n l a.0)
      | inr l ↦ absurd (a.1 m l b.0)
    ]
  ]

  pub one_why_by : (x : HolderView) (g k : GrantView) → IsWhyBy p verb t x g → IsWhyBy p verb t x k → g ≡ k
  one_why_by x g k a b =
      let same = one_first_allowing x.binding_place a.0 b.0 a.1 b.1 in
      same_Some g k (sym a.2 ∙ ap (slice_get p.grants) same ∙ b.2)

  pub one_holder_line : (why : Bool) (x : HolderView) (line other : Text) → IsHolderLine p why verb t x line → IsHolderLine p why verb t x other → line ≡ other
  one_holder_line false x line other a b = a ∙ sym b
  one_holder_line true x line other (g, a, e) (k, b, f) =
      e ∙ ap (λ (v : GrantView). holder_why_text x.key v.binding v.rule.source v.rule.place x.subject_place) (one_why_by x g k a b) ∙ sym f

  pub one_holder_lines : (why : Bool) (xs : List HolderView) (lines others : List Text) → AreHolderLines p why verb t xs lines → AreHolderLines p why verb t xs others → lines ≡ others
  one_holder_lines why [] lines others a b = a ∙ sym b
  one_holder_lines why (x ∷ xs) lines others (line, rest, is, are, e) (other, more, this, these, f) =
      e ∙ ap₂ (λ (l : Text) (ls : List Text). l ∷ ls) (one_holder_line why x line other is this) (one_holder_lines why xs rest more are these) ∙ sym f
