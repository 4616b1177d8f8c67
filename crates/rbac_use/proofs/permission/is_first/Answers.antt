use Rattle.std.proofs.Common.{◌≡◌, Some, refl, slice_get}
use Rattle.std.proofs.lemmas.Option.{slice_get_read}
use Rattle.rbac_use.proofs.FirstPlaces.{first_by_test}
use Rattle.rbac_use.proofs.permission.is_first.Goals as goal

pub returns-in-Some : goal.returns-in-Some
returns-in-Some c =
    let found = c.in-Some.ensures.lookup.3 in
    let w = c.in-Some.word.now in
    let at : slice_get c.args.words.now c.args.place ≡ Some w = slice_get_read _ _ _ _ refl found.0 (found.1 w) in
    first_by_test c.args.words.now c.args.place w at c.has_word.result c.has_word.ensures
