use Rattle.std.proofs.Common.{arith, sym, subst}
use Rattle.std.proofs.lemmas.Bool.{both_ways}
use Rattle.rbac_terms.proofs.Cases.{on_ok}
use Rattle.rbac_reaches.specs.Reaches.{IsReachBelow}
use Rattle.rbac_reaches.proofs.ReachLemmas.{fails_here, matches_here, reach_skip, reach_up_to}
use Rattle.rbac_reaches.proofs.matches.push_whole.Goals as goal

pub push-requires-clause-ascending : goal.push-requires-clause-ascending
push-requires-clause-ascending c =
    let r = c.args.rule.now in
    let ts = c.args.targets.now in
    let first = matches_here r ts c.args.start c.index-targets-start.result (omega (arith, c.requires.within.0, c.requires.within.1)) c.index-targets-start.is (c.matches.ensures.0 c.if-matches.true) in
    (reach_up_to r ts c.args.start c.args.end c.args.spans.now (omega (arith, c.requires.within.0)) (λ n low high. (c.requires.whole n low high).1 first) c.requires.below).ascending

pub returns-then-matches : goal.returns-then-matches
returns-then-matches c =
    let r = c.args.rule.now in
    let ts = c.args.targets.now in
    let first = matches_here r ts c.args.start c.index-targets-start.result (omega (arith, c.requires.within.0, c.requires.within.1)) c.index-targets-start.is (c.matches.ensures.0 c.if-matches.true) in
    let told = reach_up_to r ts c.args.start c.args.end c.args.spans.now (omega (arith, c.requires.within.0)) (λ n low high. (c.requires.whole n low high).1 first) c.requires.below in
    on_ok c.push.result (λ is. subst (IsReachBelow r ts c.args.end) (sym is) told) c.push.ensures

pub returns : goal.returns
returns c =
    let r = c.args.rule.now in
    let ts = c.args.targets.now in
    let fails = fails_here r ts c.args.start c.index-targets-start.result (omega (arith, c.requires.within.0, c.requires.within.1)) c.index-targets-start.is (λ ok. both_ways _ c.if-matches.false (c.matches.ensures.1 ok)) in
    reach_skip r ts c.args.start c.args.end c.args.spans.now (omega (arith, c.requires.within.0)) (λ n low high m. fails ((c.requires.whole n low high).0 m)) c.requires.below
