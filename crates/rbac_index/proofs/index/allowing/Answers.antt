use Rattle.std.proofs.Common.{◌≡◌, sym, ◌<◌, take, length, get_or, slice_get, refl, subst, arith}
use Rattle.std.specs.Prelude.{Some}
use Rattle.std.specs.List.Sorted.{IsStrictlyIncreasing}
use Rattle.std.proofs.Math.Seq.{take-length}
use Rattle.std.proofs.lemmas.Bool.{both_ways}
use Rattle.std.proofs.lemmas.List.Elements.{All-push, All-get_or}
use Rattle.std.proofs.lemmas.Option.{slice_get_read}
use Rattle.rbac_index.specs.HolderViews.{requested_of}
use Rattle.rbac_index.specs.Indexed.{HaveNumbers, numbers_by}
use Rattle.rbac_index.proofs.IndexLemmas.{skipped, added}
use Rattle.rbac_index.proofs.index.allowing.Goals as goal
use Rattle.rbac_index.proofs.index.allowing.Goals.{then-allows_requested+in_ok-push_numbers, else-allows_requested}

pub bounds-rules-at : goal.bounds-rules-at
bounds-rules-at c = All-get_or (λ k. k < length c.args.rules.now) c.args.places.now c.loop-at.at-index 0 c.loop-at-test.true c.requires.rules

pub push_numbers-requires : goal.push_numbers-requires
push_numbers-requires c =
    let rules = c.args.rules.now in
    let starts = c.args.starts.now in
    let at = get_or c.args.places.now c.loop-at.at-index 0 in
    let in_range : at < length rules = All-get_or (λ k. k < length rules) c.args.places.now c.loop-at.at-index 0 c.loop-at-test.true c.requires.rules in
    subst (HaveNumbers starts) (sym c.index-rules-at.is) (All-get_or (HaveNumbers starts) rules at c.index-rules-at.result in_range c.requires.numbers)

pub loop-at-preserved : goal.loop-at-preserved
loop-at-preserved c =
    let rules = c.args.rules.now in
    let starts = c.args.starts.now in
    let places = c.args.places.now in
    let i = c.loop-at.at-index in
    let at = get_or places i 0 in
    let rule = c.index-rules-at.result in
    let in_range : at < length rules = All-get_or (λ k. k < length rules) places i 0 c.loop-at-test.true c.requires.rules in
    let read : slice_get rules at ≡ Some rule = slice_get_read rules (length rules) at rule refl in_range c.index-rules-at.is in
    elim c.if-allows_requested.branch [
      | then-allows_requested+in_ok-push_numbers w ↦
          rw (w.lists-is, w.in_ok-push_numbers.ensures.added) (
            All-push IsStrictlyIncreasing c.loop-at.lists.items (numbers_by starts rule) c.loop-at.invariant.0 w.in_ok-push_numbers.ensures.ascending,
            λ n. added rules starts places c.args.verb.now (requested_of c.args.requested) i c.loop-at-test.true c.loop-at.lists.items n rule read (c.loop-at.invariant.1 n) (c.allows_requested.ensures.0 w.if-allows_requested.true) (numbers_by starts rule) refl,
          )
      | else-allows_requested w ↦
          rw w.lists-is (c.loop-at.invariant.0, λ n. skipped rules starts places c.args.verb.now (requested_of c.args.requested) i c.loop-at-test.true c.loop-at.lists.items n rule read (c.loop-at.invariant.1 n) (λ allows. both_ways _ w.if-allows_requested.false (c.allows_requested.ensures.1 allows)))
    ]

pub returns-clause-exact : goal.returns-clause-exact
returns-clause-exact c =
    let at : c.loop-at.at-index ≡ length c.args.places.now = omega arith in
    let all : take c.loop-at.at-index c.args.places.now ≡ c.args.places.now = rw at (take-length c.args.places.now) in
    λ n. rw (← all) (c.loop-at.invariant.1 n)
