use Rattle.std.proofs.Common.{◌≡◌, ◌+◌, ◌++◌, ◌∷◌, [], ◌∙◌, List, Some, ap, length, refl, rules, slice_get, subst, sym, take}
use Rattle.std.specs.BTreeMap.{get}
use Rattle.std.specs.BTreeMap.Entry.{map_with_value}
use Rattle.std.specs.Option.{unwrap_or}
use Rattle.std.proofs.lemmas.Option.{slice_get_read}
use Rattle.rbac_terms.specs.Text.{Text, text_cmp}
use Rattle.rbac_terms.specs.declared.granting.Subject.{Subject}
use Rattle.rbac_terms.specs.declared.granting.Subject.TheVariants.{Group as ForGroup}
use Rattle.rbac_model.proofs.Stairs.{take_read}
use Rattle.rbac_near.specs.Members.{Found}
use Rattle.rbac_near.specs.declared.near.Missing.TheVariants.{Member}
use Rattle.rbac_near.specs.declared.near.Near.{Near}
use Rattle.rbac_near.proofs.Adding.{AddsOf, IsPutUnless, adds_more, adds_other, put_unless}
use Rattle.rbac_near.proofs.members.add_groups.Goals as goal
use Rattle.rbac_near.proofs.members.add_groups.Goals.{in-Group+in_ok-name+in_ok-found, in_default}

pub loop-place-preserved : goal.loop-place-preserved
loop-place-preserved c =
    let n = c.args.number in
    let subjects = c.args.binding.now.subjects in
    let items = c.as_slice-subject-items.result.now in
    let i = c.loop-place.place in
    let s = c.subject-item.result in
    let old = c.loop-place.found in
    let of : items ≡ subjects = c.as_slice-subject-items.ensures in
    let here : slice_get items i ≡ Some s = slice_get_read items (length items) i s refl c.loop-place-test.true c.subject-item.is in
    let more : take (i + 1) items ≡ take i items ++ s ∷ [] = take_read items i s c.loop-place-test.true c.subject-item.is in
    rw more (elim c.match-subject.branch [
      | in-Group+in_ok-name+in_ok-found w ↦ (let group = w.in-Group.group in
          let name = w.in_ok-name.name in
          let entry = w.in_ok-found.field-0 in
          let v = w.or_insert.result.now in
          let x : Near = record { missing = Member; number = n; subject_place = i } in
          let new = map_with_value entry v in
          let same : name ≡ group = cc (w.in_ok-name.ensures, w.as_bytes.ensures) in
          let value : v ≡ unwrap_or (get text_cmp old name) x = cc (w.or_insert.ensures.value, w.in_ok-found.ensures.value) in
          let put : IsPutUnless name x old new = put_unless name x v old new (get text_cmp old name) refl value (w.in_ok-found.ensures.update.0 v).0 in
          let is : s ≡ ForGroup group = w.in-Group.is in
          let first : slice_get subjects i ≡ Some (ForGroup group) = ap (λ (xs : List Subject). slice_get xs i) (sym of) ∙ here ∙ ap (λ (z : Subject). Some z) is in
          let adds : AddsOf n subjects (take i subjects) c.args.found.now old = subst (λ (xs : List Subject). AddsOf n subjects (take i xs) c.args.found.now old) of c.loop-place.invariant in
          let added : AddsOf n subjects (take i items ++ s ∷ []) c.args.found.now new = subst (λ (xs : List Subject). AddsOf n subjects (take i xs ++ s ∷ []) c.args.found.now new) (sym of)
          (subst (λ (z : Subject). AddsOf n subjects (take i subjects ++ z ∷ []) c.args.found.now new) (sym is)
          (adds_more n subjects i group c.args.found.now old new first (subst (λ (t : Text). IsPutUnless t x old new) same put) adds)) in
          subst (λ (m : Found). AddsOf n subjects (take i items ++ s ∷ []) c.args.found.now m) (search rules) added)
      | in_default w ↦ rw w.found-is (adds_other n subjects (take i items) s c.args.found.now old w.in_default.not-Group c.loop-place.invariant)
    ])
