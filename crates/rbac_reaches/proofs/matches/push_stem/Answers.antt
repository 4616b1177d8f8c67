use Rattle.std.proofs.Common.{◌∙◌, ap, arith, rules, sym}
use Rattle.std.specs.Prelude.{Some}
use Rattle.std.proofs.lemmas.Bool.{both_ways}
use Rattle.std.proofs.lemmas.Option.{slice_get-get_or}
use Rattle.rbac_terms.specs.Targets.{What}
use Rattle.rbac_reaches.proofs.ReachLemmas.{reach_skip}
use Rattle.rbac_reaches.proofs.StemLemmas.{by_name, none_of_stem, whole_unnamed, whole_url}
use Rattle.rbac_reaches.proofs.matches.push_stem.Goals as goal
use Rattle.rbac_reaches.proofs.matches.push_stem.Goals.{then-is_url-via-then-is_url, then-is_url-via-else-is_url+then-is_nameless}

pub push_whole-requires-clause-whole : goal.push_whole-requires-clause-whole
push_whole-requires-clause-whole c =
    let ts = c.args.targets.now in
    let t = c.index-targets-start.result in
    let there = slice_get-get_or ts c.args.start t (omega (arith, c.requires.stem.some, c.requires.stem.within)) ∙ ap (λ (x : What). Some x) (sym c.index-targets-start.is) in
    elim c.then-is_url.branch [
      | then-is_url-via-then-is_url w ↦ whole_url c.args.rule.now ts c.args.start c.args.end t there c.requires.stem w.if-is_url.ensures
      | then-is_url-via-else-is_url+then-is_nameless w ↦ whole_unnamed c.args.rule.now ts c.args.start c.args.end t there c.requires.stem w.if-is_url.ensures (w.is_nameless.ensures.0 w.if-is_nameless.true)
    ]

pub returns : goal.returns
returns c =
    let ts = c.args.targets.now in
    let t = c.index-targets-start.result in
    let there = slice_get-get_or ts c.args.start t (omega (arith, c.requires.stem.some, c.requires.stem.within)) ∙ ap (λ (x : What). Some x) (sym c.index-targets-start.is) in
    let none = none_of_stem c.args.rule.now ts c.args.start c.args.end t there c.requires.stem c.if-is_url.ensures (λ ok. both_ways _ c.if-matches_stem.false (c.matches_stem.ensures.1 ok)) in
    reach_skip c.args.rule.now ts c.args.start c.args.end c.args.spans.now (omega (arith, c.requires.stem.some)) none c.requires.below

pub push_named-requires-clause-by_name : goal.push_named-requires-clause-by_name
push_named-requires-clause-by_name c =
    let ts = c.args.targets.now in
    let t = c.index-targets-start.result in
    let there = slice_get-get_or ts c.args.start t (omega (arith, c.requires.stem.some, c.requires.stem.within)) ∙ ap (λ (x : What). Some x) (sym c.index-targets-start.is) in
    by_name c.args.rule.now ts c.args.start c.args.end t there c.requires.stem c.if-is_url.ensures (c.matches_stem.ensures.0 c.if-matches_stem.true) (search rules)
