use Rattle.std.proofs.Common.{ℕ, List, subst, length, ap}
use Rattle.std.proofs.lemmas.Result.{IfOk-weaker}
use Rattle.rbac_model.specs.Holders.{IsKeyFor}
use Rattle.rbac_subjects.specs.declared.subject_keys.Keyed.{Keyed}
use Rattle.rbac_subjects.specs.Bound.{AreNamedPlaces}
use Rattle.rbac_subjects.proofs.NamedLemmas.{AreUnder, under_named}
use Rattle.rbac_subjects.proofs.subject_index.SubjectIndex.named_places.Goals as goal

pub places_under-requires : goal.places_under-requires
places_under-requires c = rw c.as_slice.ensures.value c.self.invariant.sorted

pub returns : goal.returns
returns c =
    let p = c.self.inside.policy.now in
    let who = c.args.principal.now in
    let named = c.self.inside.named.items in
    rw (← c.self.view_is) (IfOk-weaker c.places_under.result _ (λ places. AreNamedPlaces p who places.items)
    (λ places under. under_named p c.bindings-end.ensures.policy named c.self.invariant who places.items
    (subst (λ (n : ℕ). AreUnder named (IsKeyFor who) n places.items) (ap length c.bindings-end.ensures.bindings)
    (subst (λ (l : List Keyed). AreUnder l (IsKeyFor who) (length c.bindings-end.result.now) places.items) c.as_slice.ensures.value under)))
    c.places_under.ensures)
