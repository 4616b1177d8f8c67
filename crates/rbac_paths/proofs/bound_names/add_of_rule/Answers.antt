use Rattle.std.proofs.Common.{◌≡◌, ◌∙◌, ◌++◌, [], List, Contains, ap, arith, subst, sym}
use Rattle.std.proofs.lemmas.List.Elements.{same_from_all_zip}
use Rattle.rbac_terms.specs.Text.{Text}
use Rattle.rbac_paths.specs.BoundNames.{BindsNamed}
use Rattle.rbac_paths.specs.SharedWords.{AddsWhere}
use Rattle.rbac_paths.proofs.BoundNames.{binds_named, binds_none}
use Rattle.rbac_paths.proofs.WordsAdded.{adds_all, adds_none, adds_same}
use Rattle.rbac_paths.proofs.bound_names.add_of_rule.Goals as goal

pub returns-then-is_empty : goal.returns-then-is_empty
returns-then-is_empty c =
    adds_none (BindsNamed c.args.rule.now) (λ name b. (let none : c.args.rule.now.resource_names ≡ [] = c.is_empty.ensures.0 c.if-is_empty.true in absurd (let has = subst (λ (ws : List Text). Contains ws name) none b.1 in omega (arith, has.1)))) c.args.names.now.items

pub returns-in_ok-extend_with_clones : goal.returns-in_ok-extend_with_clones
returns-in_ok-extend_with_clones c =
    let rule = c.args.rule.now in
    let old = c.args.names.now.items in
    let added = c.in_ok-extend_with_clones.ensures.items in
    let names : added.0 ≡ rule.resource_names = same_from_all_zip _ c.as_slice.result.now added.0 added.2 (λ x y same. same) ∙ c.as_slice.ensures in
    let new : c.extend_with_clones.new.self.items ≡ old ++ rule.resource_names = added.1 ∙ ap (λ (ws : List Text). old ++ ws) names in
    subst (λ (ws : List Text). AddsWhere (BindsNamed rule) old ws) (sym new)
    (adds_same (Contains rule.resource_names) (BindsNamed rule) (binds_named c.args.rows.now c.requires rule (c.matches_some.ensures.0 c.if-matches_some.true)) old (old ++ rule.resource_names) (adds_all rule.resource_names old))

pub returns-else-matches_some : goal.returns-else-matches_some
returns-else-matches_some c =
    adds_none (BindsNamed c.args.rule.now) (binds_none c.args.rows.now c.requires c.args.rule.now (λ any. (let both = c.matches_some.ensures.1 any in let not = c.if-matches_some.false in cc))) c.args.names.now.items
