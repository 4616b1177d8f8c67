use Rattle.std.proofs.Common.{ℕ, ◌≡◌, ◌+◌, ◌*◌, ◌<◌, length, min, sym, ap, ◌∙◌, arith, refl}
use Rattle.std.proofs.lemmas.Option.{slice_get_read, same_Some}
use Rattle.rbac_model.specs.Graphs.{HasPlace}
use Rattle.rbac_model.specs.Places.{IsPlainAt}
use Rattle.rbac_terms.specs.declared.granting.ClusterRole.{ClusterRole}
use Rattle.rbac_model.proofs.UpTo.{one_more, not_more, none_is, isnt_none}
use Rattle.rbac_model.proofs.aggregation.put_plain.Goals as goal
use Rattle.rbac_model.proofs.aggregation.put_plain.Goals.{then-has+then-is_none+in_ok-push, else-has, else-has-via-then-has+else-is_none, else-has-via-else-has}

pub loop-place-init : goal.loop-place-init
loop-place-init c = c.requires.before

pub loop-place-preserved : goal.loop-place-preserved
loop-place-preserved c =
    let P : ℕ → Type 0 = λ k. HasPlace c.args.places.now k × IsPlainAt c.args.roles.now k in
    let in_range : c.loop-place.place < length c.args.roles.now = omega arith in
    elim c.if-has.branch [
      | then-has+then-is_none+in_ok-push w ↦
          let read = slice_get_read _ _ _ _ refl in_range w.index-roles-place.is in
          rw (w.row-is, w.in_ok-push.ensures.items) (one_more P c.loop-place.row.items c.loop-place.place (c.has.ensures.0 w.if-has.true, (w.index-roles-place.result, read, none_is w.index-roles-place.result.aggregation _ (rw (← w.index-roles-place.is) at w.is_none.ensures) w.if-is_none.true)) c.loop-place.invariant)
      | else-has w ↦ rw w.row-is (not_more P c.loop-place.row.items c.loop-place.place (elim w.else-has.branch [
        | else-has-via-then-has+else-is_none v ↦ λ p.
            let read = slice_get_read _ _ _ _ refl in_range v.index-roles-place.is in
            let same = same_Some p.1.0 v.index-roles-place.result (sym p.1.1 ∙ read) in
            isnt_none v.index-roles-place.result.aggregation _ (rw (← v.index-roles-place.is) at v.is_none.ensures) v.if-is_none.false (ap (λ (r : ClusterRole). r.aggregation) (sym same) ∙ p.1.2)
        | else-has-via-else-has v ↦ λ p. let no = v.if-has.false in let yes = c.has.ensures.1 p.0 in cc
      ]) c.loop-place.invariant)
    ]

pub returns : goal.returns
returns c =
    let ended : c.loop-place.place ≡ min (c.args.at * 64 + 64) (length c.args.roles.now) = omega arith in
    rw (← ended) c.loop-place.invariant
