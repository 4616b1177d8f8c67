use Rattle.std.proofs.Common.{◌≡◌, ◌∙◌, ◌+◌, ◌-◌, ◌++◌, ◌∷◌, [], List, ap, false, length, slice_get, subst, sym, take, true}
use Rattle.std.specs.Option.{option_copied}
use Rattle.std.specs.Prelude.{Some}
use Rattle.std.proofs.lemmas.List.{take_all, take_more}
use Rattle.std.proofs.lemmas.Option.{get_or_from_slice_get, slice_get_within}
use Rattle.std.proofs.lemmas.Slice.Eq.{bytes_eq-Decides}
use Rattle.rbac_terms.specs.Principals.{Who}
use Rattle.rbac_subjects.specs.declared.subject_keys.Keyed.{Keyed}
use Rattle.rbac_subjects.proofs.PrincipalLemmas.{AreListed, listed_more, listed_none, listed_same}
use Rattle.rbac_subjects.proofs.subject_principals.listed_principals.Goals as goal
use Rattle.rbac_subjects.proofs.subject_principals.listed_principals.Goals.{in-Some, in-Some-2+in_ok-push, in_default, in_default-2, in_default-3}

pub loop-entry-preserved-then-matches : goal.loop-entry-preserved-then-matches
loop-entry-preserved-then-matches c =
    let xs = c.args.entries.now in
    let i = c.loop-entry.entry-index in
    let y = c.entry-item.result in
    let found = c.loop-entry.found.items in
    let more : take (i + 1) xs ≡ take i xs ++ y ∷ [] = take_more xs i y c.loop-entry-test.true ∙ ap (λ (x : Keyed). take i xs ++ x ∷ []) (sym c.entry-item.is) in
    subst (λ (ys : List Keyed). AreListed ys found) (sym more) (listed_same (take i xs) y found c.loop-entry.invariant (elim c.match-matches.branch [
      | in-Some w ↦
          let last = w.in-Some.last.now in
          let at = length c.deref.result.now - 1 in
          let is : slice_get found at ≡ Some last = ap (λ (l : List Who). slice_get l at) (sym c.deref.ensures.value) ∙ sym c.last.ensures.value ∙ ap option_copied w.in-Some.is in
          let equal : w.eq.result ≡ true = search in
          (at, last, slice_get_within found at last is, get_or_from_slice_get found at last last is, sym w.key.ensures ∙ (bytes_eq-Decides w.key.result.now y.key).0 (sym w.eq.ensures ∙ equal))
      | in_default-3 w ↦ let both : false ≡ true = sym w.matches-is ∙ c.if-matches.true in cc
      | in_default w ↦ let both : false ≡ true = sym w.matches-is ∙ c.if-matches.true in cc
    ]))

pub loop-entry-preserved : goal.loop-entry-preserved
loop-entry-preserved c =
    let xs = c.args.entries.now in
    let i = c.loop-entry.entry-index in
    let y = c.entry-item.result in
    let found = c.loop-entry.found.items in
    let more : take (i + 1) xs ≡ take i xs ++ y ∷ [] = take_more xs i y c.loop-entry-test.true ∙ ap (λ (x : Keyed). take i xs ++ x ∷ []) (sym c.entry-item.is) in
    subst (λ (ys : List Keyed). AreListed ys c.match-branch-2.found.items) (sym more) (elim c.match-branch-2.branch [
      | in-Some-2+in_ok-push w ↦
          let is = rw w.in-Some-2.is at c.in_ok-principal.ensures in
          rw w.found-is (rw w.in_ok-push.ensures.items (listed_more (take i xs) y found c.loop-entry.invariant w.in-Some-2.principal is.0 (is.1, is.2)))
      | in_default-2 w ↦
          rw w.found-is (listed_none (take i xs) y found c.loop-entry.invariant (rw w.in_default-2.is at c.in_ok-principal.ensures))
    ])

pub returns : goal.returns
returns c =
    subst (λ (ys : List Keyed). AreListed ys c.loop-entry.found.items) (take_all c.loop-entry.entry-index c.args.entries.now c.loop-entry-test.false) c.loop-entry.invariant
