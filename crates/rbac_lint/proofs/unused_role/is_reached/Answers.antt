use Rattle.std.proofs.Common.{arith, refl}
use Rattle.std.specs.Prelude.{slice_index_or}
use Rattle.std.proofs.lemmas.Bool.{both_ways}
use Rattle.std.proofs.lemmas.Option.{slice_get-get_or, slice_get_within}
use Rattle.rbac_terms.proofs.Reading.{contains_read}
use Rattle.rbac_lint.proofs.Flags.{reached_here, none_reaches_more, none_reaches}
use Rattle.rbac_lint.proofs.unused_role.is_reached.Goals as goal

pub reaches-requires : goal.reaches-requires
reaches-requires c =
    let places = c.args.gatherers.now in
    let i = c.loop-from.from-index in
    let g = c.requires.sound (slice_index_or places i 0) (contains_read places i (slice_index_or places i 0) (slice_get-get_or places i 0 c.loop-from-test.true)) in
    slice_get_within c.args.policy.now.held.cluster_roles (slice_index_or places i 0) g.0 g.1

pub returns-then-reaches : goal.returns-then-reaches
returns-then-reaches c =
    let places = c.args.gatherers.now in
    let i = c.loop-from.from-index in
    let j = slice_index_or places i 0 in (
      λ t. reached_here c.args.policy.now.held places j c.args.place c.reaches.result c.requires (contains_read places i j (slice_get-get_or places i 0 c.loop-from-test.true)) c.reaches.ensures.reaches c.if-reaches.true,
      λ w. refl,
    )

pub loop-from-preserved : goal.loop-from-preserved
loop-from-preserved c =
    let places = c.args.gatherers.now in
    let i = c.loop-from.from-index in
    none_reaches_more c.args.policy.now.held places i (slice_index_or places i 0) c.args.place (slice_get-get_or places i 0 c.loop-from-test.true) c.loop-from.invariant
    (λ r at m. both_ways _ c.if-reaches.false ((c.reaches.ensures.reaches r at).1 m))

pub returns : goal.returns
returns c =
    (λ t. cc, λ w. absurd (none_reaches c.args.policy.now.held c.args.gatherers.now c.args.place c.loop-from.from-index (omega arith) c.requires c.loop-from.invariant w))
