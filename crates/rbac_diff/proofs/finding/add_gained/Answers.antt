use Rattle.std.proofs.Common.{◌≡◌, ◌<◌, ◌∙◌, ℕ, List, Bool, Some, ap, false, get_or, length, refl, slice_get, subst, sym, true}
use Rattle.std.specs.List.{list_any}
use Rattle.std.proofs.lemmas.List.Folds.{list_any_at}
use Rattle.std.proofs.lemmas.Option.{slice_get-get_or}
use Rattle.rbac_terms.proofs.Cases.{by_bool}
use Rattle.rbac_diff.proofs.Gathering.{gathered_nothing, unchanged_gains_nothing}
use Rattle.rbac_diff.proofs.finding.add_gained.Goals as goal

-- where no flag is set, each is unset
none_set : (flags : List Bool) (p : Bool → Bool) → p true ≡ true → list_any p flags ≡ false → (i : ℕ) → i < length flags → slice_get flags i ≡ Some false
none_set flags p set none i low = slice_get-get_or flags i false low ∙ ap (λ b. Some b) (by_bool (get_or flags i false)
    (λ is. absurd (let both : true ≡ false = sym (list_any_at p flags i false low (ap p is ∙ set)) ∙ none in cc both))
    (λ is. is))

pub returns-then-not-contains : goal.returns-then-not-contains
returns-then-not-contains c =
    let flags = c.args.flags.now in
    gathered_nothing c.args.kind c.args.before.now c.args.after.now (length c.args.after.now.held.bindings) c.args.findings.now
    (λ at low. unchanged_gains_nothing c.args.before.now c.args.after.now at (c.requires.unflagged at (none_set flags _ refl (sym c.contains.ensures.value ∙ c.if-not-contains.true) at (subst (λ (n : ℕ). at < n) (sym c.requires.each) low))))

pub add_of_flagged-requires : goal.add_of_flagged-requires
add_of_flagged-requires c = rw c.in_ok-asked.ensures c.requires

pub returns : goal.returns
returns c = rw (← c.in_ok-asked.ensures) c.add_of_flagged.ensures
