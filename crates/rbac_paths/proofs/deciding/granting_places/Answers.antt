use Rattle.std.proofs.Common.{◌≡◌, ◌∙◌, [], Contains, List, ap, arith, get_or, length, subst, sym, take, true, ℕ}
use Rattle.std.specs.Cmp.{unsigned_Decides}
use Rattle.std.proofs.lemmas.List.{take_all, take_more}
use Rattle.rbac_subjects.specs.Bound.{AreNamedPlaces}
use Rattle.rbac_paths.specs.Deciding.{AreGrantingPlaces}
use Rattle.rbac_paths.proofs.Kept.{AreKept, kept_more, kept_none, kept_same}
use Rattle.rbac_paths.proofs.ListPlaces.{HasSome, among_all, nothing_in}
use Rattle.rbac_paths.proofs.Takeovers.{none_of, not_empty}
use Rattle.rbac_paths.proofs.deciding.granting_places.Goals as goal
use Rattle.rbac_paths.proofs.deciding.granting_places.Goals.{then-not-is_empty+in_ok-push, else-not-is_empty}

pub loop-place-init : goal.loop-place-init
loop-place-init c = kept_none (HasSome c.args.grants.now) c.in_ok-places.places.items c.in_ok-places.ensures.items

pub loop-place-preserved : goal.loop-place-preserved
loop-place-preserved c =
    let grants = c.args.grants.now in
    let named = c.as_slice-place-items.result.now in
    let i = c.loop-place.place-index in
    let next = get_or named i 0 in
    let list = c.listed_at.result.now in
    rw (take_more named i 0 c.loop-place-test.true) (elim c.if-not-is_empty.branch [
      | then-not-is_empty+in_ok-push w ↦ (
          let some = not_empty list (λ e. (let both : c.is_empty.result ≡ true = c.is_empty.ensures ∙ (unsigned_Decides (length list) 0).1 (ap length e) in let not = w.if-not-is_empty.true in cc)) in
          rw (w.places-is, w.in_ok-push.ensures.items) (kept_more (HasSome grants) (take i named) next c.loop-place.places.items c.loop-place.invariant (some.0, subst (λ (ns : List ℕ). Contains ns some.0) c.listed_at.ensures some.1))
          )
      | else-not-is_empty w ↦ rw w.places-is
          (kept_same (HasSome grants) (take i named) next c.loop-place.places.items c.loop-place.invariant
          (λ s. nothing_in (get_or grants next []) s.0 (sym c.listed_at.ensures ∙ none_of list ((unsigned_Decides (length list) 0).0 (sym c.is_empty.ensures ∙ w.if-not-is_empty.false))) s.1))
    ])

pub returns : goal.returns
returns c =
    let p = c.args.index.now in
    let who = c.args.who.now in
    let grants = c.args.grants.now in
    let items = c.as_slice-place-items.result.now in
    let i = c.loop-place.place-index in
    let places = c.loop-place.places.items in
    let named = subst (λ (ns : List ℕ). AreNamedPlaces p who ns) (sym c.as_slice-place-items.ensures.value) c.in_ok-named.ensures in
    let among = subst (λ (ns : List ℕ). AreKept (HasSome grants) ns places) (take_all i items (let test = c.loop-place-test.false in omega (arith, test))) c.loop-place.invariant in
    subst (λ (ns : List ℕ). AreGrantingPlaces p grants who ns) (sym c.from_vec.ensures) (among_all grants p who items places c.requires named among)
