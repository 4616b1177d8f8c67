use Rattle.std.proofs.Common.{◌≡◌, ◌≢◌, ◌<◌, ◌+◌, ◌++◌, ◌∷◌, ◌∙◌, [], Contains, List, ap, arith, length, set, subst, sym, take, ◌-◌}
use Rattle.std.proofs.lemmas.Bool.{both_ways}
use Rattle.std.proofs.lemmas.List.{get_or_default, nil_from_length}
use Rattle.rbac_terms.specs.Text.{Text}
use Rattle.rbac_terms.proofs.Cases.{on_ok}
use Rattle.rbac_use.specs.Grouping.{AreGrouped, group_of}
use Rattle.rbac_use.specs.declared.grouping.Group.{Group}
use Rattle.rbac_use.specs.declared.grouping.Pair.{Pair}
use Rattle.rbac_use.proofs.Grouped.{first_pushed, next_pushed, word_added}
use Rattle.rbac_use.proofs.Pushed.{cut_last, set_last}
use Rattle.rbac_use.proofs.grouping.add_word.Goals as goal

pub returns-then-count-eq0 : goal.returns-then-count-eq0
returns-then-count-eq0 c done are up =
    let pair = c.args.pair.now in
    let groups = c.args.groups.now.items in
    let none : groups ≡ [] = nil_from_length groups (omega (arith, c.if-count-eq0.true, ap length c.as_slice-count.ensures.value)) in
    on_ok c.add_group.result
    (λ e. subst (λ (gs : List Group). AreGrouped (λ (x : Pair). Contains (done ++ pair ∷ []) x) gs) (sym e) (first_pushed done pair up groups are none)) c.add_group.ensures

pub returns-then-is_same : goal.returns-then-is_same
returns-then-is_same c done are up =
    let pair = c.args.pair.now in
    let groups = c.args.groups.now.items in
    let i = length c.as_slice-count.result.now - 1 in
    let g = c.index_mut.result.now in
    let last : length groups ≡ i + 1 = omega (arith, c.if-count-eq0.false, ap length c.as_slice-count.ensures.value) in
    let low : i < length groups = omega (arith, last) in
    let seen : c.index.result.now ≡ g = c.index.ensures ∙ get_or_default groups i c.index.result.now g low ∙ sym c.index_mut.ensures.value in
    let same : g.key ≡ pair.key = ap (λ (x : Group). x.key) (sym seen) ∙ c.is_same.ensures.0 c.if-is_same.true in
    let words : c.push.new.self ≡ g.words ++ pair.word ∷ [] = c.in_ok-push.ensures.ok ∙ ap (λ (w : Text). g.words ++ w ∷ []) c.in_ok-clone.ensures.cases in
    let cut = cut_last groups i last g c.index_mut.ensures.value in
    let longer = group_of g.key (g.words ++ pair.word ∷ []) in
    let more = λ (gs : List Group). AreGrouped (λ (x : Pair). Contains (done ++ pair ∷ []) x) gs in
    subst (λ (ws : List Text). more (set groups i (group_of g.key ws))) (sym words) (subst more (sym (set_last groups i last longer)) (word_added done pair up groups are (take i groups) g cut same))

pub returns : goal.returns
returns c done are up =
    let pair = c.args.pair.now in
    let groups = c.args.groups.now.items in
    let i = length c.as_slice-count.result.now - 1 in
    let g = c.index.result.now in
    let last : length groups ≡ i + 1 = omega (arith, c.if-count-eq0.false, ap length c.as_slice-count.ensures.value) in
    let cut = cut_last groups i last g c.index.ensures in
    let not : g.key ≢ pair.key = λ e. both_ways _ c.if-is_same.false (c.is_same.ensures.1 e) in
    on_ok c.add_group-2.result
    (λ e. subst (λ (gs : List Group). AreGrouped (λ (x : Pair). Contains (done ++ pair ∷ []) x) gs) (sym e) (next_pushed done pair up groups are (take i groups) g cut not)) c.add_group-2.ensures
