use Rattle.std.proofs.Common.{◌+◌, ◌∙◌, ap, arith, subst, sym}
use Rattle.std.specs.Prelude.{Some}
use Rattle.std.proofs.lemmas.Bool.{both_ways}
use Rattle.std.proofs.lemmas.Option.{slice_get-get_or}
use Rattle.rbac_terms.specs.Targets.{What}
use Rattle.rbac_reaches.specs.Reaches.{IsReachBelow}
use Rattle.rbac_reaches.proofs.ReachLemmas.{reach_one, reach_skip}
use Rattle.rbac_reaches.proofs.StemLemmas.{named_matches, unnamed_fails, unnamed_at}
use Rattle.rbac_reaches.proofs.matches.push_named.Goals as goal

pub push-requires-clause-ascending : goal.push-requires-clause-ascending
push-requires-clause-ascending c =
    let r = c.args.rule.now in
    let ts = c.args.targets.now in
    let t = c.index-targets-at.result in
    let there = slice_get-get_or ts c.loop-at.at t (omega (arith, c.loop-at-test.true, c.requires.within.1)) ∙ ap (λ (x : What). Some x) (sym c.index-targets-at.is) in
    let here = named_matches r ts c.args.start c.args.end c.loop-at.at t c.requires.by_name c.loop-at.invariant.2 c.loop-at-test.true there (rw c.name.ensures.name at (c.has_name.ensures.0 c.if-has_name.true)) in
    (reach_one r ts c.loop-at.at c.loop-at.spans here c.loop-at.invariant.0).ascending

pub loop-at-preserved-then-has_name : goal.loop-at-preserved-then-has_name
loop-at-preserved-then-has_name c =
    let r = c.args.rule.now in
    let ts = c.args.targets.now in
    let t = c.index-targets-at.result in
    let there = slice_get-get_or ts c.loop-at.at t (omega (arith, c.loop-at-test.true, c.requires.within.1)) ∙ ap (λ (x : What). Some x) (sym c.index-targets-at.is) in
    let here = named_matches r ts c.args.start c.args.end c.loop-at.at t c.requires.by_name c.loop-at.invariant.2 c.loop-at-test.true there (rw c.name.ensures.name at (c.has_name.ensures.0 c.if-has_name.true)) in
    let told = reach_one r ts c.loop-at.at c.loop-at.spans here c.loop-at.invariant.0 in
    (subst (IsReachBelow r ts (c.loop-at.at + 1)) (sym c.in_ok-push.ensures) told, omega (arith, c.loop-at-test.true), omega (arith, c.loop-at.invariant.2))

pub next_named-at-requires-clause-unnamed : goal.next_named-at-requires-clause-unnamed
next_named-at-requires-clause-unnamed c =
    let t = c.index-targets-at.result in
    let there = slice_get-get_or c.args.targets.now c.loop-at.at t (omega (arith, c.loop-at-test.true, c.requires.within.1)) ∙ ap (λ (x : What). Some x) (sym c.index-targets-at.is) in
    unnamed_at c.args.rule.now.resource_names c.args.targets.now c.loop-at.at t there (λ has. both_ways _ c.if-has_name.false (c.has_name.ensures.1 (rw (← c.name.ensures.name) at has)))

pub loop-at-preserved : goal.loop-at-preserved
loop-at-preserved c =
    let none = unnamed_fails c.args.rule.now c.args.targets.now c.args.start c.args.end c.loop-at.at c.next_named-at.result c.requires.by_name c.loop-at.invariant.2 c.next_named-at.ensures.within.1 c.next_named-at.ensures.none in
    (reach_skip c.args.rule.now c.args.targets.now c.loop-at.at c.next_named-at.result c.loop-at.spans (omega (arith, c.next_named-at.ensures.within.0)) none c.loop-at.invariant.0, c.next_named-at.ensures.within.1, omega (arith, c.next_named-at.ensures.within.0, c.loop-at.invariant.2))
