use Rattle.std.proofs.Common.{◌≢◌, [], ◌∷◌, refl, sym, ◌∙◌}
use Rattle.std.proofs.lemmas.Bool.Decides.{Decides-eqb}
use Rattle.std.proofs.lemmas.Slice.Eq.{slice_eq-Decides}
use Rattle.rbac_text.specs.Field.{field_text}
use Rattle.rbac_token.proofs.Printed.{reads_on, reads_all, spells_field}
use Rattle.rbac_token.proofs.field.read_field.Goals as goal

pub loop-byte-init : goal.loop-byte-init
loop-byte-init c = λ text e.
    (let same = slice_eq-Decides Decides-eqb _ _ _ c.eq.ensures in
    let other : field_text text ≢ 45 ∷ [] = λ h. (let yes = same.1 (e ∙ h ∙ sym c.as_slice.ensures) in absurd (cc (yes, c.if-eq.false))) in
    (text, rw c.new-text.ensures refl, rw e (spells_field text other)))

pub loop-byte-preserved : goal.loop-byte-preserved
loop-byte-preserved c = λ text e.
    (let inv = c.loop-byte.invariant text e in
    let read = reads_on text c.loop-byte.text inv.0 c.loop-byte.rest.now c.in-Some.after.now c.in-Some.byte inv.1 inv.2
    c.in-Some.ensures.onward c.in-Some.ensures.stands c.in-Some.ensures.coded in
    rw c.in_ok-push.ensures.ok read)

pub returns : goal.returns
returns c = λ text e.
    (let inv = c.loop-byte.invariant text e in
    reads_all text c.loop-byte.text inv.0 c.loop-byte.rest.now inv.1 inv.2 c.in_default.ensures.ended)
