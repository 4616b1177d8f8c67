use Rattle.std.proofs.Common.{◌≡◌, length, slice_get, sym, subst, refl, ℕ}
use Rattle.std.specs.Prelude.{Some, Option}
use Rattle.std.proofs.lemmas.Bool.{both_ways}
use Rattle.std.proofs.lemmas.Option.{slice_get_read}
use Rattle.rbac_terms.specs.Text.{Text, BeginsWith}
use Rattle.rbac_lint.specs.Prefixes.{LinksTo}
use Rattle.rbac_lint.proofs.Linked.{leads_on, steps_fall, place_within, shorter_within}
use Rattle.rbac_lint.proofs.prefixes.longest_from.Goals as goal

pub returns-then-begins_with-clause-leads : goal.returns-then-begins_with-clause-leads
returns-then-begins_with-clause-leads c =
    subst (λ (o : Option ℕ). LinksTo c.args.prefixes.now (length c.args.prefixes.now) c.args.text.now o) c.in-Some.is c.loop-next.invariant.0

pub loop-next-smaller : goal.loop-next-smaller
loop-next-smaller c =
    let prefixes = c.args.prefixes.now in
    let p = c.in-Some.place in
    let f = c.index-prefixes-place.result in
    let lt = place_within c.loop-next.next p (length prefixes) c.in-Some.is c.loop-next.invariant.1 in
    steps_fall prefixes p f c.loop-next.next c.requires.linked (slice_get_read prefixes (length prefixes) p f refl lt c.index-prefixes-place.is) c.in-Some.is

pub loop-next-preserved : goal.loop-next-preserved
loop-next-preserved c =
    let prefixes = c.args.prefixes.now in
    let text = c.args.text.now in
    let p = c.in-Some.place in
    let f = c.index-prefixes-place.result in
    let lt = place_within c.loop-next.next p (length prefixes) c.in-Some.is c.loop-next.invariant.1 in
    let here : slice_get prefixes p ≡ Some f = slice_get_read prefixes (length prefixes) p f refl lt c.index-prefixes-place.is in (
      leads_on prefixes p f (length prefixes) text c.requires.linked here
          (λ b. both_ways _ c.if-begins_with.false (c.begins_with.ensures.1 (subst (λ (t : Text). BeginsWith text t) (sym c.as_bytes.ensures) b)))
          (subst (λ (o : Option ℕ). LinksTo prefixes (length prefixes) text o) c.in-Some.is c.loop-next.invariant.0),
      shorter_within prefixes p f c.requires.linked here,
    )

pub returns-clause-leads : goal.returns-clause-leads
returns-clause-leads c =
    subst (λ (o : Option ℕ). LinksTo c.args.prefixes.now (length c.args.prefixes.now) c.args.text.now o) c.in_default.is c.loop-next.invariant.0
