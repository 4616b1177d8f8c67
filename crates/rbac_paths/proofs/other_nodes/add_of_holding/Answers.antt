use Rattle.std.proofs.Common.{◌≡◌, ◌∙◌, [], Any, List, None, Some, ap, length, subst, sym, true}
use Rattle.std.specs.Cmp.{unsigned_Decides}
use Rattle.std.specs.Option.{option_copied}
use Rattle.rbac_terms.proofs.Cases.{on_ok}
use Rattle.rbac_terms.specs.Text.{Text}
use Rattle.rbac_ways.specs.Joining.{HasUnder}
use Rattle.rbac_paths.specs.Having.{HoldingView}
use Rattle.rbac_paths.specs.Joints.{IsAskedBy, asked_word}
use Rattle.rbac_paths.specs.SharedWords.{AddsWhere}
use Rattle.rbac_paths.proofs.OtherPlaces.{asks_any, asks_named}
use Rattle.rbac_paths.proofs.Takeovers.{none_of}
use Rattle.rbac_paths.proofs.other_nodes.add_of_holding.Goals as goal

pub returns-then-is_empty : goal.returns-then-is_empty
returns-then-is_empty c =
    let n = c.args.others.now.by_word in
    let home = option_copied c.held.inside.home in
    let names = c.as_slice-names.result.now in
    let old = c.args.places.now.items in
    let mid = c.add_named.new.places.items in
    let last = c.add_under.new.places.items in
    let new = c.add_under-then-is_empty.new.places.items in
    let listed = subst (λ (ns : List Text). AddsWhere (λ j. Any (λ name. HasUnder n (asked_word home (Some name)) j) ns) old mid) c.as_slice-names.ensures c.in_ok-add_named.ensures in
    let nameless = subst (λ (t : Text). AddsWhere (HasUnder n (asked_word home (Some t))) mid last) c.requires c.in_ok-add_under.ensures in
    let none = sym c.as_slice-names.ensures ∙ none_of names ((unsigned_Decides (length names) 0).0 (sym c.is_empty.ensures ∙ c.if-is_empty.true)) in
    on_ok c.add_under-then-is_empty.result
    (λ all. subst (λ (h : HoldingView). AddsWhere (IsAskedBy n h) old new) c.held.view_is (asks_any n (record { home = home; rule = c.held.inside.rule.now }) old mid last listed nameless none new all)) c.add_under-then-is_empty.ensures

pub returns : goal.returns
returns c =
    let n = c.args.others.now.by_word in
    let home = option_copied c.held.inside.home in
    let names = c.as_slice-names.result.now in
    let old = c.args.places.now.items in
    let mid = c.add_named.new.places.items in
    let last = c.add_under.new.places.items in
    let listed = subst (λ (ns : List Text). AddsWhere (λ j. Any (λ name. HasUnder n (asked_word home (Some name)) j) ns) old mid) c.as_slice-names.ensures c.in_ok-add_named.ensures in
    let nameless = subst (λ (t : Text). AddsWhere (HasUnder n (asked_word home (Some t))) mid last) c.requires c.in_ok-add_under.ensures in
    subst (λ (h : HoldingView). AddsWhere (IsAskedBy n h) old last) c.held.view_is (asks_named n (record { home = home; rule = c.held.inside.rule.now }) old mid last listed nameless
    (λ none. (let both : c.is_empty.result ≡ true = c.is_empty.ensures ∙ (unsigned_Decides (length names) 0).1 (ap length (c.as_slice-names.ensures ∙ none)) in let not = c.if-is_empty.false in cc)))
