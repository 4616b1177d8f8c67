use Rattle.std.proofs.Common.{◌<◌, ◌∙◌, ℕ, List, ap, sym, arith, length}
use Rattle.std.specs.Prelude.{Some}
use Rattle.std.proofs.lemmas.Option.{slice_get-get_or}
use Rattle.rbac_reaches.proofs.SharedLemmas.{reach_shared}
use Rattle.rbac_reaches.proofs.reach.next_reach.Goals as goal

pub returns-in_ok-share-in-Some : goal.returns-in_ok-share-in-Some
returns-in_ok-share-in-Some c =
    let first = c.in-Some.first in
    let reaches = c.args.reaches.now in
    let places = c.index-reaches-first.result in
    let within : first < length reaches = omega (arith, c.in-Some.ensures.0, c.requires.before.len) in
    let read = slice_get-get_or reaches first places within ∙ ap (λ (r : List ℕ). Some r) (sym c.index-reaches-first.is) in
    rw c.in_ok-share-in-Some.ensures (reach_shared c.args.index.now c.args.universe.now first c.args.no reaches places c.requires.number c.in-Some.ensures.1 c.requires.before read)
