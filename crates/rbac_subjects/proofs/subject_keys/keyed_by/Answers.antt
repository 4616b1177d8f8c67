use Rattle.std.proofs.Common.{◌≡◌, ◌∙◌, ℕ, ◌+◌, ◌<◌, ◌≤◌, ap, eqb, sym, refl, subst, length, true, arith, rules}
use Rattle.std.specs.Option.{option_eq}
use Rattle.std.specs.Prelude.{Option, Some, None}
use Rattle.std.specs.Ordering.{is_lt}
use Rattle.std.proofs.lemmas.Bool.{not-false}
use Rattle.std.proofs.lemmas.Bool.Decides.{Decides-eqb}
use Rattle.std.proofs.lemmas.Fn.{answers_by}
use Rattle.std.proofs.lemmas.List.Sorted.{ranks_by}
use Rattle.std.proofs.lemmas.Option.{same_Some, slice_get_read, slice_get_within}
use Rattle.rbac_subjects.specs.declared.subject_keys.Keyed.{Keyed}
use Rattle.rbac_subjects.specs.Keyed.{keyed_cmp}
use Rattle.rbac_subjects.proofs.KeyedLemmas.{keyed_total}
use Rattle.rbac_subjects.proofs.KeyingLemmas.{HasOneBelow, has_later, has_this, keyed_all, keyed_more, keyed_same}
use Rattle.rbac_subjects.proofs.subject_keys.keyed_by.Goals as goal
use Rattle.rbac_subjects.proofs.subject_keys.keyed_by.Goals.{then-ne+in_ok-push_keys, else-ne}

same_place : (last : Option ℕ) (place : ℕ) → option_eq eqb last (Some place) ≡ true → last ≡ Some place
same_place None place e = cc
same_place (Some n) place e = ap Some ((Decides-eqb n place).0 e)

pub loop-number-preserved : goal.loop-number-preserved
loop-number-preserved c =
    let p = c.args.policy.now in
    let ok = c.bindings-bindings.ensures.policy in
    let number = c.loop-number.number in
    let place = c.place-place.result.binding in
    let of = c.place-place.ensures.binding in
    let old = c.loop-number.entries.items in
    let keys = c.loop-number.invariant.keyed in
    let bindings = c.bindings-bindings.result.now in
    let within : place < length bindings = let low = slice_get_within p.held.bindings place of.0.binding of.2 in omega (arith, low, ap length c.bindings-bindings.ensures.bindings) in
    elim c.if-ne.branch [
      | then-ne+in_ok-push_keys w ↦ record {
        keyed = rw w.entries-is (keyed_more p ok number place of old keys w.index-bindings-place.result (rw (← c.bindings-bindings.ensures.bindings) (slice_get_read bindings (length bindings) place w.index-bindings-place.result refl within w.index-bindings-place.is)) w.push_keys.new.entries.items w.in_ok-push_keys.ensures);
        last = λ at e. subst (HasOneBelow p (number + 1)) (same_Some place at (sym w.last-is ∙ e)) (has_this p ok number place of old keys);
      }
      | else-ne w ↦ record {
        keyed = rw w.entries-is (keyed_same p ok number place of old keys (c.loop-number.invariant.last place (same_place c.loop-number.last place (not-false (option_eq eqb c.loop-number.last (Some place)) (sym c.ne.ensures ∙ w.if-ne.false)))));
        last = λ at e. has_later p ok number place of old keys at (c.loop-number.invariant.last at (sym w.last-is ∙ e));
      }
    ]

pub returns : goal.returns
returns c =
    let p = c.args.policy.now in
    let all : length p.grants ≤ c.loop-number.number = omega (arith, c.loop-number-test.false, c.len-number-end.ensures.len) in
    let up = c.sort_unstable_by.ensures.sorted (λ x y. is_lt (keyed_cmp x y)) (ranks_by keyed_total (λ (y : Keyed). y)) (answers_by _ _ (λ f. Unit {0}) (λ f a r h called met. (search rules, tt)) _ tt) in
    keyed_all p c.loop-number.number c.loop-number.entries.items c.sort_unstable_by.new.self.items all c.loop-number.invariant.keyed c.sort_unstable_by.ensures.permutation up
