use Rattle.std.proofs.Common.{◌≡◌, ◌↔◌, ◌⊎◌, ◌<◌, ◌+◌, ◌∙◌, ◌++◌, [], List, ℕ, ap, get_or, length, subst, sym}
use Rattle.std.proofs.lemmas.List.Elements.{same_from_all_zip}
use Rattle.rbac_terms.specs.Text.{Text}
use Rattle.rbac_ways.specs.Joining.{AreLists, HasSet, IsListedAt, IsNumberOf, SharesWord, TakesListed}
use Rattle.rbac_ways.specs.Ways.{IsEdge}
use Rattle.rbac_ways.proofs.Sharing.{joined_edges, shared_there}
use Rattle.rbac_ways.proofs.graph.Graph.joined.Goals as goal

pub returns-clause-edges : goal.returns-clause-edges
returns-clause-edges c = λ i j.
    let lists = c.args.lists.now in
    let takes = c.args.takes.now in
    let had_by = c.args.had_by.now in
    let also = c.args.also.now in
    let own = c.args.own.now in
    let words = c.in_ok-words.words.items in
    let added = c.in_ok-extend_with_clones.ensures.items in
    let of = subst (λ (ws : List Text). AreLists (HasSet ws lists) (length lists + length also) c.in_ok-lists.lists.items) c.as_slice.ensures.value c.in_ok-lists.ensures in
    let had = subst (λ (ws : List Text). (number n : ℕ) → number < length ws → IsListedAt c.in_ok-sets.sets.items number n ↔ IsNumberOf ws (get_or had_by n []) number) c.as_slice-2.ensures.value c.in_ok-sets.ensures.each in
    let all : c.extend_with_clones.new.self.items ≡ c.in_ok-sets.sets.items ++ also = added.1 ∙ ap (λ (more : List (List ℕ)). c.in_ok-sets.sets.items ++ more) (same_from_all_zip _ also added.0 added.2 (λ x y same. sym same.3 ∙ same_from_all_zip _ same.0.items.items same.1.items.items same.4.0 (λ n m e. e) ∙ same.2)) in
    subst (λ (sets : List (List ℕ)). IsEdge (record { takes = c.in_ok-takes.takes.items; lists = c.in_ok-lists.lists.items; sets = sets }) i j ↔ ((j < length takes) × (SharesWord lists takes had_by i j ⊎ TakesListed also own i j))) (sym all)
    (joined_edges lists takes had_by also own words c.in_ok-takes.takes.items c.in_ok-lists.lists.items c.in_ok-sets.sets.items (shared_there lists had_by c.fewer_words.result.now words c.fewer_words.ensures c.in_ok-words.ensures) c.requires (c.in_ok-sets.ensures.len ∙ ap length c.as_slice-2.ensures.value) c.in_ok-takes.ensures of had i j)
