use Rattle.std.proofs.Common.{◌≡◌, ◌++◌, ◌∙◌, ap, subst}
use Rattle.std.specs.Prelude.{Contains, codes}
use Rattle.rbac_terms.specs.Text.{Text, slash, IsCutAtFirst}
use Rattle.rbac_terms.proofs.Cases.{on_ok}
use Rattle.rbac_lint.specs.Candidates.{IsOfEach}
use Rattle.rbac_lint.proofs.Looked.{adds_fewer, of_each_one, no_of_each}
use Rattle.rbac_lint.proofs.candidates.add_of_each.Goals as goal

pub returns-in_default : goal.returns-in_default
returns-in_default c = no_of_each c.args.lists.now c.args.word.now c.args.candidates.now (subst (λ (t : Text). ¬ Contains t slash) c.as_bytes.ensures c.in_default.ensures)

pub returns : goal.returns
returns c =
    let w = c.args.word.now in
    let prefix = c.in-Some.field-0-0.now in
    let rest = c.in-Some.subresource.now in
    let word = c.push_slice.new.self in
    let is : word ≡ codes "*/" ++ rest = c.in_ok-push_slice.ensures.ok ∙ ap (λ (t : Text). t ++ rest) (c.in_ok-of_each.ensures ∙ c.as_slice.ensures) in
    let cut : IsCutAtFirst w slash prefix rest = subst (λ (t : Text). IsCutAtFirst t slash prefix rest) c.as_bytes.ensures c.in-Some.ensures in
    on_ok c.add_under.result
    (λ a. adds_fewer c.args.lists.now (λ u. u ≡ word) (IsOfEach w) c.args.candidates.now c.add_under.new.self (of_each_one w prefix rest word cut is) a)
    c.add_under.ensures
