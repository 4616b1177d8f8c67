use Rattle.std.proofs.Common.{◌<◌, ◌∙◌, ap, arith, inl, inr, subst, sym, w64}
use Rattle.std.specs.Prelude.{Some, slice_get}
use Rattle.std.proofs.lemmas.Bool.{cases_eq}
use Rattle.std.proofs.lemmas.Option.{same_Some, slice_get-get_or, slice_get_within}
use Rattle.std.proofs.lemmas.Nat.Bits.{bit_at_set_same, bit_at_set_other}
use Rattle.rbac_terms.specs.Text.{Text}
use Rattle.rbac_terms.specs.Matching.{VerbOk}
use Rattle.rbac_matrix.proofs.grant_verbs.bits_of.Goals as goal

pub loop-place-preserved : goal.loop-place-preserved
loop-place-preserved c =
    let at = c.loop-place.place in
    let few : at < 64 = omega (arith, c.loop-place-test.true, c.min-place-end.ensures) in
    let ok = c.verb_matches.ensures.0 (c.if-not-verb_matches.false) in
    let same = bit_at_set_same w64 c.loop-place.bits at few in
    record {
      bits = λ k verb lt read. elim (cases_eq k at) [
        | inl e ↦ (
          λ _. subst (VerbOk c.args.rule.now) (same_Some _ verb (sym (slice_get-get_or c.args.verbs.now at _ (omega (arith, slice_get_within c.args.verbs.now k verb read)) ∙ ap (λ (t : Text). Some t) (sym c.index-verbs-place.is)) ∙ ap (slice_get c.args.verbs.now) (sym e) ∙ read)) ok,
          λ _. rw e same,
        )
        | inr ne ↦ rw (bit_at_set_other w64 c.loop-place.bits at few k ne) (c.loop-place.invariant.bits k verb (omega (arith, ne)) read)
      ];
      none = λ k has. elim (cases_eq k at) [
        | inl e ↦ omega arith
        | inr ne ↦ let old = c.loop-place.invariant.none k (rw (bit_at_set_other w64 c.loop-place.bits at few k ne) at has) in omega arith
      ];
    }

pub returns : goal.returns
returns c = λ place verb few read. c.loop-place.invariant.bits place verb (let within = slice_get_within c.args.verbs.now place verb read in omega (arith, c.loop-place-test.false, c.min-place-end.ensures)) read
