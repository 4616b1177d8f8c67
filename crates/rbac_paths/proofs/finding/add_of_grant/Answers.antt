use Rattle.std.proofs.Common.{◌≡◌, ◌+◌, ◌++◌, ◌∷◌, ◌↔◌, [], ◌∙◌, List, Option, Some, take, length, slice_get, ap, refl, sym, subst, rules}
use Rattle.std.specs.BTreeMap.{get}
use Rattle.std.specs.BTreeMap.Entry.{map_with_value}
use Rattle.std.specs.Option.{option_copied, unwrap_or}
use Rattle.std.proofs.lemmas.List.{take_all}
use Rattle.std.proofs.lemmas.Option.{slice_get_read}
use Rattle.rbac_terms.specs.Text.{Text, text_cmp}
use Rattle.rbac_terms.specs.Granting.{IsSubjectKey}
use Rattle.rbac_terms.specs.declared.granting.Subject.{Subject}
use Rattle.rbac_model.proofs.Stairs.{take_read}
use Rattle.rbac_model.specs.Sources.{grant_of}
use Rattle.rbac_paths.specs.Finding.{AddsPowers, Found}
use Rattle.rbac_paths.specs.Powers.{PowerView, who_and_where}
use Rattle.rbac_paths.proofs.Adding.{IsPutUnless, adds_nobody, adds_more, key_before, put_unless}
use Rattle.rbac_paths.proofs.finding.add_of_grant.Goals as goal
use Rattle.rbac_paths.proofs.finding.add_of_grant.Goals.{in-Some+in_ok-text+in_ok-found, in_default}

pub loop-place-preserved : goal.loop-place-preserved
loop-place-preserved c =
    let g = grant_of c.args.grant in
    let items = c.as_slice-subject-items.result.now in
    let i = c.loop-place.place in
    let s = c.subject-item.result in
    let own : option_copied c.as_ref-namespace.result ≡ g.binding.namespace = c.as_ref-namespace.ensures.value in
    let of : items ≡ g.binding.subjects = c.as_slice-subject-items.ensures in
    let here : slice_get items i ≡ Some s = slice_get_read items (length items) i s refl c.loop-place-test.true c.subject-item.is in
    let more : take (i + 1) items ≡ take i items ++ s ∷ [] = take_read items i s c.loop-place-test.true c.subject-item.is in
    let key = c.in_ok-who.ensures.key in
    rw more (elim c.match-branch-2.branch [
      | in-Some+in_ok-text+in_ok-found w ↦ (let who = w.in-Some.who in
          let x : PowerView = record { step = c.args.step; who = who; grant = g; subject_place = i } in
          let old = c.loop-place.found in
          let v = w.or_insert.result.now in
          let text = w.in_ok-text.text in
          let entry = w.in_ok-found.field-0 in
          let new = map_with_value entry v in
          let one : (k : Text) → IsSubjectKey s g.binding.namespace k ↔ (k ≡ who) = rw own at (rw w.in-Some.is at key) in
          let same : text ≡ who_and_where who g.binding.namespace = w.in_ok-text.ensures ∙ ap (λ (o : Option Text). who_and_where who o) own in
          let put : IsPutUnless text x old new = put_unless text x v old new (get text_cmp old text) refl
          (w.or_insert.ensures.value ∙ ap (λ (o : Option PowerView). unwrap_or o x) w.in_ok-found.ensures.value) (w.in_ok-found.ensures.update.0 v).0 in
          subst (λ (m : Found). AddsPowers c.args.step g (take i items ++ s ∷ []) c.args.found.now m) (search rules)
          (adds_more c.args.step g (take i items) s i who x c.args.found.now old new one refl (ap (λ (xs : List Subject). slice_get xs i) (sym of) ∙ here)
          (λ k y low there has. key_before g.binding.namespace who items i k y low (ap (λ (xs : List Subject). slice_get xs k) of ∙ there) has)
          (subst (λ (t : Text). IsPutUnless t x old new) same put) c.loop-place.invariant))
      | in_default w ↦ rw w.found-is (adds_nobody c.args.step g (take i items) s c.args.found.now c.loop-place.found (let nobody : (k : Text) → ¬ IsSubjectKey s g.binding.namespace k = rw own at (rw w.in_default.is at key) in nobody) c.loop-place.invariant)
    ])

pub returns : goal.returns
returns c =
    let items = c.as_slice-subject-items.result.now in
    subst (λ (xs : List Subject). AddsPowers c.args.step (grant_of c.args.grant) xs c.args.found.now c.loop-place.found)
    (take_all c.loop-place.place items c.loop-place-test.false ∙ c.as_slice-subject-items.ensures) c.loop-place.invariant
