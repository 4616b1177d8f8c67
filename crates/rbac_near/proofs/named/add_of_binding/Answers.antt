use Rattle.std.proofs.Common.{◌≡◌, ◌++◌, ◌∷◌, [], Some, inl, inr, refl, slice_get, subst}
use Rattle.std.proofs.lemmas.Option.{slice_get_read}
use Rattle.rbac_model.specs.Policies.{IsOfBinding}
use Rattle.rbac_model.specs.Sources.{grant_of}
use Rattle.rbac_near.specs.Near.{request_of}
use Rattle.rbac_near.specs.declared.near.Near.{Near}
use Rattle.rbac_near.proofs.NamedOf.{added_none, added_one, all_added, none_named, nothing_added}
use Rattle.rbac_near.proofs.named.add_of_binding.Goals as goal
use Rattle.rbac_near.proofs.named.add_of_binding.Goals.{in-Some-missing_in+in_ok-push, in_default-missing_in}

pub returns-in_default : goal.returns-in_default
returns-in_default c =
    let p = c.args.policy.now in
    let b = c.index-bindings-place.result in
    let there : slice_get p.held.bindings c.args.place ≡ Some b = slice_get_read _ _ _ _ refl c.requires (rw c.bindings.ensures.bindings at c.index-bindings-place.is) in
    λ x. (
      λ h. inl h,
      λ w. elim w [
        | inl h ↦ h
        | inr h ↦ absurd (none_named p (request_of c.args.request) c.args.place b there c.in_default.ensures x h)
      ],
    )

pub loop-number-init : goal.loop-number-init
loop-number-init c =
    let p = c.args.policy.now in
    let b = c.index-bindings-place.result in
    let there : slice_get p.held.bindings c.args.place ≡ Some b = slice_get_read _ _ _ _ refl c.requires (rw c.bindings.ensures.bindings at c.index-bindings-place.is) in
    let old = c.args.found.now.items in
    nothing_added p (request_of c.args.request) c.args.place b there c.in-Some.subject_place c.in-Some.ensures c.grants_of-from.result.0 c.grants_of-from.result.1 c.grants_of-from.ensures.between old old

pub loop-number-preserved : goal.loop-number-preserved
loop-number-preserved c =
    let p = c.args.policy.now in
    let q = request_of c.args.request in
    let b = c.index-bindings-place.result in
    let there : slice_get p.held.bindings c.args.place ≡ Some b = slice_get_read _ _ _ _ refl c.requires (rw c.bindings.ensures.bindings at c.index-bindings-place.is) in
    let n = c.loop-number.number in
    let g = grant_of c.grant.result in
    let between = c.grants_of-from.ensures.between in
    let of : IsOfBinding p n c.args.place = subst (λ at. IsOfBinding p n at) ((between n c.grant.result.binding_place c.grant.ensures.binding).0 (c.loop-number.auto.number, c.loop-number-test.true)) c.grant.ensures.binding in
    let old = c.args.found.now.items in
    let mid = c.loop-number.found.items in
    let i = c.in-Some.subject_place in
    elim c.match-missing_in.branch [
      | in-Some-missing_in+in_ok-push w ↦ (let m = w.in-Some-missing_in.missing in
          let x : Near = record { missing = m; number = n; subject_place = i } in
          let items : w.push.new.self.items ≡ mid ++ x ∷ [] = cc w.in_ok-push.ensures.items in
          rw (w.found-is, items) (added_one p q c.args.place b there i c.in-Some.ensures n g c.grant.ensures.grant of c.missing_in.result c.missing_in.ensures old mid c.loop-number.invariant m w.in-Some-missing_in.is))
      | in_default-missing_in w ↦ rw w.found-is (added_none p q c.args.place b there i c.in-Some.ensures n g c.grant.ensures.grant of c.missing_in.result c.missing_in.ensures old mid c.loop-number.invariant w.in_default-missing_in.is)
    ]

pub returns : goal.returns
returns c =
    let p = c.args.policy.now in
    let b = c.index-bindings-place.result in
    let there : slice_get p.held.bindings c.args.place ≡ Some b = slice_get_read _ _ _ _ refl c.requires (rw c.bindings.ensures.bindings at c.index-bindings-place.is) in
    all_added p (request_of c.args.request) c.args.place b there c.in-Some.subject_place c.in-Some.ensures c.grants_of-from.result.0 c.grants_of-from.result.1 c.grants_of-from.ensures.between c.args.found.now.items c.loop-number.found.items c.loop-number.number c.loop-number-test.false c.loop-number.invariant
