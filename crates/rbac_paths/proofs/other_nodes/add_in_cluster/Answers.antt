use Rattle.std.proofs.Common.{◌≡◌, ◌↔◌, [], Any, None, Some, subst}
use Rattle.rbac_terms.specs.Text.{Text}
use Rattle.rbac_ways.specs.Joining.{HasUnder}
use Rattle.rbac_terms.proofs.Cases.{on_ok}
use Rattle.rbac_paths.specs.Joints.{CountsAt, asked_word, named_in}
use Rattle.rbac_paths.specs.SharedWords.{AddsWhere}
use Rattle.rbac_paths.proofs.WordsAdded.{adds_none, adds_same}
use Rattle.rbac_paths.proofs.other_nodes.add_in_cluster.Goals as goal

pub returns-then-count_in_cluster : goal.returns-then-count_in_cluster
returns-then-count_in_cluster c =
    let hs = c.args.holdings.now in
    let old = c.args.places.now.items in
    let new = c.add_under.new.places.items in
    let n = c.args.others.now.by_word in
    let any : Any (CountsAt None) hs = c.count_in_cluster.ensures.0 c.if-count_in_cluster.true in
    on_ok c.add_under.result
    (λ added. adds_same (HasUnder n (named_in [] [])) (λ j. Any (CountsAt None) hs × HasUnder n (named_in [] []) j) (λ j. (λ under. (any, under), λ w. w.1)) old new
    (subst (λ (name : Text). AddsWhere (HasUnder n (asked_word (Some name) (Some name))) old new) c.requires added)) c.add_under.ensures

pub returns : goal.returns
returns c =
    adds_none (λ j. Any (CountsAt None) c.args.holdings.now × HasUnder c.args.others.now.by_word (named_in [] []) j)
    (λ j w. (let both = c.count_in_cluster.ensures.1 w.0 in let not = c.if-count_in_cluster.false in cc)) c.args.places.now.items
