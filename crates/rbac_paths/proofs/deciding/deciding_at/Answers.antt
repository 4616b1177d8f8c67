use Rattle.std.proofs.Common.{◌↔◌, ◌∙◌, [], Contains, List, ap, get_or, subst, sym, ℕ}
use Rattle.std.proofs.lemmas.List.Elements.{Contains-get_or}
use Rattle.std.proofs.lemmas.List.Sorted.{Contains-permutation, IsPermutation-sym}
use Rattle.std.proofs.lemmas.Option.{slice_get_within}
use Rattle.rbac_ways.specs.Joining.{IsListedIn}
use Rattle.rbac_paths.specs.Deciding.{AreNumbersOf}
use Rattle.rbac_paths.specs.Nodes.{node_of}
use Rattle.rbac_paths.proofs.ListPlaces.{numbers_of}
use Rattle.rbac_paths.proofs.deciding.deciding_at.Goals as goal

pub deciding_holdings-requires-clause-within : goal.deciding_holdings-requires-clause-within
deciding_holdings-requires-clause-within c =
    let sorted = c.as_slice-3.result.now in
    λ k d low.
    let n = get_or sorted k d in
    let has = subst (λ (ns : List ℕ). Contains ns n) c.as_slice-3.ensures.value (Contains-get_or sorted k d low) in
    let l = (c.in_ok-numbers.ensures n).0 (Contains-permutation c.sort_unstable.new.self.items c.in_ok-numbers.numbers.items n (IsPermutation-sym c.in_ok-numbers.numbers.items c.sort_unstable.new.self.items c.sort_unstable.ensures.permutation) has) in
    let of = c.requires.grants n l.0 (subst (λ (gs : List (List ℕ)). Contains (get_or gs l.0 []) n) c.as_slice-2.ensures.value l.2) in
    slice_get_within c.args.policy.now.grants n of.0 of.1

pub returns-clause-deciding : goal.returns-clause-deciding
returns-clause-deciding c steps own taking past at =
    let p = c.args.policy.now in
    let x = node_of c.args.node in
    let grants = c.args.made.now.grants.items in
    let places = get_or c.args.made.now.places.items c.args.place [] in
    let numbers = c.in_ok-numbers.numbers.items in
    let sorted = c.sort_unstable.new.self.items in
    let by_places = subst (λ (ps : List ℕ). (n : ℕ) → Contains numbers n ↔ IsListedIn c.as_slice-2.result.now ps n)
    (c.listed_at-own.ensures ∙ ap (λ (all : List (List ℕ)). get_or all c.args.place []) c.as_slice.ensures.value) c.in_ok-numbers.ensures in
    let listed = subst (λ (gs : List (List ℕ)). (n : ℕ) → Contains numbers n ↔ IsListedIn gs places n) c.as_slice-2.ensures.value by_places in
    let of = numbers_of p c.requires.policy steps grants taking own x places sorted past at
    (λ n. (
      λ h. (listed n).0 (Contains-permutation sorted numbers n (IsPermutation-sym numbers sorted c.sort_unstable.ensures.permutation) h),
      λ l. Contains-permutation numbers sorted n c.sort_unstable.ensures.permutation ((listed n).1 l),
    )) in
    (of, c.in_ok-holdings.ensures steps (subst (λ (ns : List ℕ). AreNumbersOf p steps x ns) (sym c.as_slice-3.ensures.value) of))
