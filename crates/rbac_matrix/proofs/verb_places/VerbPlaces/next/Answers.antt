use Rattle.std.proofs.Common.{◌/◌, ◌%◌, ◌^◌, ap, arith, get_or, length, refl, rules}
use Rattle.rbac_matrix.proofs.PlaceLemmas.{has_here, none_before, none_in_word}
use Rattle.rbac_matrix.proofs.verb_places.VerbPlaces.next.Goals as goal

pub returns-then-rest-ne0-clause-none : goal.returns-then-rest-ne0-clause-none
returns-then-rest-ne0-clause-none c =
    let some = rw c.as_slice-words.ensures.value at c.if-rest-ne0.true in
    rw c.as_slice-words.ensures.value (none_before c.args.self.now.words.items c.args.from c.loop-place.place c.loop-place.invariant.none (omega (arith, c.loop-place-test.true, ap length c.as_slice-words.ensures.value)) (get_or c.args.self.now.words.items (c.loop-place.place / 64) 0 / 2 ^ (c.loop-place.place % 64)) refl (omega (arith, some)) (search rules))

pub returns-then-rest-ne0-clause-here : goal.returns-then-rest-ne0-clause-here
returns-then-rest-ne0-clause-here c =
    let some = rw c.as_slice-words.ensures.value at c.if-rest-ne0.true in
    rw c.as_slice-words.ensures.value (has_here c.args.self.now.words.items c.args.from c.loop-place.place c.loop-place.invariant.none (omega (arith, c.loop-place-test.true, ap length c.as_slice-words.ensures.value)) (get_or c.args.self.now.words.items (c.loop-place.place / 64) 0 / 2 ^ (c.loop-place.place % 64)) refl (omega (arith, some)) (search rules))

pub loop-place-preserved : goal.loop-place-preserved
loop-place-preserved c =
    let none = rw c.as_slice-words.ensures.value at c.if-rest-ne0.false in
    record {
      on = omega (arith, c.loop-place.invariant.on);
      none = none_in_word c.args.self.now.words.items c.args.from c.loop-place.place c.loop-place.invariant.none (omega (arith, c.loop-place-test.true, ap length c.as_slice-words.ensures.value)) (get_or c.args.self.now.words.items (c.loop-place.place / 64) 0 / 2 ^ (c.loop-place.place % 64)) refl (omega (arith, none));
    }
