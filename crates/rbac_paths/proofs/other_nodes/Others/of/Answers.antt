use Rattle.std.proofs.Common.{◌↔◌, [], ℕ, List, Contains, get_or, map, subst, sym}
use Rattle.std.proofs.lemmas.List.{length-map}
use Rattle.rbac_terms.specs.Text.{Text}
use Rattle.rbac_ways.specs.Joining.{HasUnder}
use Rattle.rbac_paths.specs.Joints.{AreOtherWords}
use Rattle.rbac_paths.specs.Nodes.{node_of}
use Rattle.rbac_paths.proofs.OtherPlaces.{among_others}
use Rattle.rbac_paths.proofs.other_nodes.Others.of.Goals as goal

pub returns : goal.returns
returns c =
    let ys = map node_of c.args.nodes.now in
    let all = c.in_ok-words.words.items in
    let n = c.in_ok-by_word.by_word in
    among_others ys all (subst (λ (k : ℕ). AreOtherWords ys k all) (sym (length-map c.args.nodes.now node_of)) c.in_ok-words.ensures) c.in_ok-places.places.items c.in_ok-places.ensures n
    (subst (λ (ls : List (List Text)). (w : Text) (j : ℕ) → HasUnder n w j ↔ Contains (get_or ls j []) w) c.as_slice.ensures.value c.in_ok-by_word.ensures)
