use Rattle.std.proofs.Common.{◌≡◌, ◌<◌, ◌≤◌, ◌∙◌, ◌⊎◌, ◌↔◌, ℕ, Bool, [], List, ap, arith, false, get_or, inl, inr, length, sym, true}
use Rattle.std.specs.Prelude.{◌==◌}
use Rattle.rbac_terms.specs.declared.granting.Binding.{Binding}
use Rattle.rbac_subjects.specs.declared.subject_keys.Keyed.{Keyed}
use Rattle.rbac_subjects.specs.Naming.{AreKeyedSubjects}
use Rattle.rbac_subjects.proofs.NamingLemmas.{first_naming, keyed_there}
use Rattle.rbac_subjects.proofs.subject_places.SubjectPlaces.naming.Goals as goal

some_entry : (xs : List Keyed) (r : Bool) → r ≡ (length xs == 0) → r ≡ false → xs ≡ [] → ⊥
some_entry xs r is e none = let zero : (length xs == 0) ≡ true = ap (λ (ys : List Keyed). length ys == 0) none in cc

all_live : (n m at : ℕ) → n ≡ m → ((at < n) ⊎ ((0 ≤ at) × (at < 0))) ↔ (at < m)
all_live n m at same = (λ d. elim d [ inl l ↦ omega (arith, same, l) | inr w ↦ absurd (let low = w.1 in omega (arith, low)) ], λ l. inl (omega (arith, same, l)))

pub next_for-requires : goal.next_for-requires
next_for-requires c =
    let b = c.args.binding.now in
    let entries = c.entries_at-entries.result.now in
    (keyed_there b entries (get_or c.self.inside.large.items c.args.place []) (c.entries_at-entries.ensures ∙ ap (λ (ls : List (List Keyed)). get_or ls c.args.place []) c.as_slice.ensures.value)
    (c.self.invariant c.args.place b (rw (← c.self.view_is) at c.requires)) (some_entry entries c.is_empty.result c.is_empty.ensures c.if-is_empty.false)).sorted

pub returns : goal.returns
returns c =
    let b = c.args.binding.now in
    let entries = c.entries_at-entries.result.now in
    let keys = keyed_there b entries (get_or c.self.inside.large.items c.args.place []) (c.entries_at-entries.ensures ∙ ap (λ (ls : List (List Keyed)). get_or ls c.args.place []) c.as_slice.ensures.value)
    (c.self.invariant c.args.place b (rw (← c.self.view_is) at c.requires)) (some_entry entries c.is_empty.result c.is_empty.ensures c.if-is_empty.false) in
    first_naming b c.args.principal.now entries keys _ (λ at. all_live (length c.as_slice-2.result.now) (length b.subjects) at (ap length c.as_slice-2.ensures)) c.next_for.result c.next_for.ensures
