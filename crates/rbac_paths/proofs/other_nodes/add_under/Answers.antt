use Rattle.std.proofs.Common.{◌↔◌, ◌++◌, Contains, ℕ, subst}
use Rattle.std.specs.Option.{option_copied}
use Rattle.rbac_terms.specs.Text.{Text}
use Rattle.rbac_ways.specs.Joining.{HasUnder}
use Rattle.rbac_paths.specs.Joints.{OthersView, asked_word}
use Rattle.rbac_paths.proofs.WordsAdded.{adds_all, adds_same}
use Rattle.rbac_paths.proofs.other_nodes.add_under.Goals as goal

pub returns : goal.returns
returns c =
    let old = c.args.places.now.items in
    let more = c.under.result.now in
    let asked = c.in_ok-asked.asked in
    rw c.in_ok-extend_from_slice.ensures.items
    (adds_same (Contains more) (HasUnder c.args.others.now.by_word (asked_word (option_copied c.args.home) (option_copied c.args.name)))
    (λ j. subst (λ (t : Text). Contains more j ↔ HasUnder c.args.others.now.by_word t j) c.in_ok-asked.ensures
    (subst (λ (o : OthersView). Contains more j ↔ HasUnder o.by_word asked j) c.others.view_is (c.under.ensures j))) old (old ++ more) (adds_all more old))
