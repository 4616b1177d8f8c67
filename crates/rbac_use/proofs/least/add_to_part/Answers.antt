use Rattle.std.proofs.Common.{◌≡◌, ◌≢◌, ◌<◌, ◌+◌, ◌++◌, ◌∷◌, ◌∙◌, [], List, ap, arith, length, set, subst, sym, take, ◌-◌}
use Rattle.std.proofs.lemmas.Bool.{both_ways}
use Rattle.std.proofs.lemmas.List.{get_or_default, nil_from_length}
use Rattle.rbac_terms.specs.Text.{Text}
use Rattle.rbac_terms.specs.declared.matching.Rule.{Rule}
use Rattle.rbac_terms.proofs.Cases.{on_ok}
use Rattle.rbac_use.specs.LeastRules.{ArePartsOf, part_of, rule_of}
use Rattle.rbac_use.specs.declared.least.NamespaceRules.{NamespaceRules}
use Rattle.rbac_use.proofs.Parts.{first_pushed, next_pushed, part_longer}
use Rattle.rbac_use.proofs.Pushed.{cut_last, set_last}
use Rattle.rbac_use.proofs.least.add_to_part.Goals as goal

pub returns-then-count-eq0 : goal.returns-then-count-eq0
returns-then-count-eq0 c done g here rule are up =
    let parts = c.args.parts.now.items in
    let none : parts ≡ [] = nil_from_length parts (omega (arith, c.if-count-eq0.true, ap length c.as_slice-count.ensures.value)) in
    let named : g.key.namespace ≢ [] = λ e. c.requires (sym here ∙ e) in
    on_ok c.add_part.result
    (λ e. subst (ArePartsOf (done ++ g ∷ [])) (ap (λ (n : Text). parts ++ part_of n (rule_of g ∷ []) ∷ []) here ∙ ap (λ (r : Rule). parts ++ part_of c.args.namespace.now (r ∷ []) ∷ []) rule ∙ sym e) (first_pushed done g parts are named none)) c.add_part.ensures

pub returns-then-is_same : goal.returns-then-is_same
returns-then-is_same c done g here rule are up =
    let parts = c.args.parts.now.items in
    let i = length c.as_slice-count.result.now - 1 in
    let part = c.index_mut.result.now in
    let last : length parts ≡ i + 1 = omega (arith, c.if-count-eq0.false, ap length c.as_slice-count.ensures.value) in
    let low : i < length parts = omega (arith, last) in
    let seen : c.index.result.now ≡ part = c.index.ensures ∙ get_or_default parts i c.index.result.now part low ∙ sym c.index_mut.ensures.value in
    let own : part.namespace ≡ g.key.namespace = ap (λ (x : NamespaceRules). x.namespace) (sym seen) ∙ c.is_same.ensures.0 c.if-is_same.true ∙ sym here in
    let named : g.key.namespace ≢ [] = λ e. c.requires (sym here ∙ e) in
    let rules : c.push.new.self ≡ part.rules ++ rule_of g ∷ [] = c.in_ok-push.ensures.ok ∙ ap (λ (r : Rule). part.rules ++ r ∷ []) (sym rule) in
    let cut = cut_last parts i last part c.index_mut.ensures.value in
    let longer = part_of part.namespace (part.rules ++ rule_of g ∷ []) in
    subst (λ (rs : List Rule). ArePartsOf (done ++ g ∷ []) (set parts i (part_of part.namespace rs))) (sym rules)
    (subst (ArePartsOf (done ++ g ∷ [])) (sym (set_last parts i last longer)) (part_longer done g parts are named (take i parts) part cut own))

pub returns : goal.returns
returns c done g here rule are up =
    let parts = c.args.parts.now.items in
    let i = length c.as_slice-count.result.now - 1 in
    let part = c.index.result.now in
    let last : length parts ≡ i + 1 = omega (arith, c.if-count-eq0.false, ap length c.as_slice-count.ensures.value) in
    let cut = cut_last parts i last part c.index.ensures in
    let named : g.key.namespace ≢ [] = λ e. c.requires (sym here ∙ e) in
    let not : part.namespace ≢ g.key.namespace = λ e. both_ways _ c.if-is_same.false (c.is_same.ensures.1 (e ∙ here)) in
    on_ok c.add_part-2.result
    (λ e. subst (ArePartsOf (done ++ g ∷ [])) (ap (λ (n : Text). parts ++ part_of n (rule_of g ∷ []) ∷ []) here ∙ ap (λ (r : Rule). parts ++ part_of c.args.namespace.now (r ∷ []) ∷ []) rule ∙ sym e) (next_pushed done g parts are named up (take i parts) part cut not)) c.add_part-2.ensures
