use Rattle.std.proofs.Common.{◌≡◌, ◌∙◌, ap, [], ◌∷◌, ◌++◌, ◌+◌, List, ℕ, map, get_or, subst}
use Rattle.std.specs.List.Sorted.{IsStrictlyIncreasing}
use Rattle.std.proofs.lemmas.List.{get_or_default}
use Rattle.rbac_index.proofs.IndexLemmas.{shifted_up}
use Rattle.rbac_index.proofs.index.push_numbers.Goals as goal

pub returns-clause-ascending : goal.returns-clause-ascending
returns-clause-ascending c =
    let starts = c.args.starts.now in
    let w = c.args.written in
    let is : c.as_slice.result.now ≡ get_or starts w.row [] = c.as_slice.ensures.numbers ∙ c.index-starts-written.is ∙ get_or_default starts w.row c.index-starts-written.result [] c.requires.0 in
    subst (λ (ns : List ℕ). IsStrictlyIncreasing (map (λ start. start + w.place) ns)) is (shifted_up c.as_slice.result.now w.place (rw c.as_slice.ensures.numbers c.as_slice.ensures.ascending))

pub returns-clause-added : goal.returns-clause-added
returns-clause-added c =
    let starts = c.args.starts.now in
    let w = c.args.written in
    let is : c.as_slice.result.now ≡ get_or starts w.row [] = c.as_slice.ensures.numbers ∙ c.index-starts-written.is ∙ get_or_default starts w.row c.index-starts-written.result [] c.requires.0 in
    c.in_ok-push.ensures.items ∙ ap (λ (ns : List ℕ). c.args.lists.now.items ++ map (λ start. start + w.place) ns ∷ []) is
