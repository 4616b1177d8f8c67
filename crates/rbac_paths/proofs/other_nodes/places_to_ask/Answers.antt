use Rattle.std.proofs.Common.{◌≡◌, ◌∙◌, ◌++◌, ◌↔◌, [], ℕ, ap, Any, Contains, List, None, subst, sym}
use Rattle.rbac_terms.specs.Text.{Text}
use Rattle.rbac_ways.specs.Joining.{HasUnder}
use Rattle.rbac_paths.specs.Joints.{AsksAll, CountsAt, IsAskedBy, OthersView, named_in}
use Rattle.rbac_paths.specs.SharedWords.{AddsWhere}
use Rattle.rbac_paths.proofs.OtherPlaces.{asked_all, asked_from, kept_once}
use Rattle.rbac_paths.proofs.other_nodes.places_to_ask.Goals as goal

pub returns-then-some_asks_all : goal.returns-then-some_asks_all
returns-then-some_asks_all c ys are =
    let o = c.args.others.now in
    let same : c.extend_from_slice.new.self.items ≡ o.places = c.in_ok-extend_from_slice.ensures.items ∙ ap (λ (xs : List ℕ). xs ++ c.as_slice.result.now) c.new-places.ensures.items
    ∙ c.as_slice.ensures.value ∙ ap (λ (v : OthersView). v.places) c.others.view_is in
    asked_all ys o are c.args.few.now c.args.scoped.now c.extend_from_slice.new.self.items (λ j. (subst (λ (xs : List ℕ). Contains xs j) same, subst (λ (xs : List ℕ). Contains xs j) (sym same)))

pub returns : goal.returns
returns c ys are =
    let o = c.args.others.now in
    let none : Any AsksAll c.args.scoped.now → ⊥ = λ any. (let both = c.some_asks_all.ensures.1 any in let not = c.if-some_asks_all.false in cc) in
    let first = subst (λ (xs : List ℕ). AddsWhere (λ j. Any (CountsAt None) c.args.few.now × HasUnder o.by_word (named_in [] []) j) xs c.add_in_cluster.new.places.items) c.new-places.ensures.items c.in_ok-add_in_cluster.ensures in
    asked_from ys o are c.args.few.now c.args.scoped.now none c.add_in_cluster.new.places.items c.add_of_holdings.new.places.items c.dedup.new.self.items first c.in_ok-add_of_holdings.ensures
    (kept_once c.add_of_holdings.new.places.items c.sort_unstable.new.self.items c.dedup.new.self.items c.sort_unstable.ensures.permutation c.dedup.ensures.filtered)
