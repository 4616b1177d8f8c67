use Rattle.std.proofs.Common.{length, refl, subst, ℕ}
use Rattle.std.specs.Prelude.{Option}
use Rattle.std.proofs.lemmas.Option.{slice_get_read}
use Rattle.rbac_lint.proofs.Linked.{steps_fall, place_within}
use Rattle.rbac_lint.proofs.Looked.{HasPrefixes, prefixes_start, prefixes_more, prefixes_all}
use Rattle.rbac_lint.proofs.candidates.add_prefixes.Goals as goal

pub loop-next-init : goal.loop-next-init
loop-next-init c =
    prefixes_start c.args.prefixes.now c.args.text.now c.args.candidates.now c.last_up_to-next.result c.last_up_to-next.ensures.leads c.last_up_to-next.ensures.within

pub loop-next-smaller : goal.loop-next-smaller
loop-next-smaller c =
    let prefixes = c.args.prefixes.now in
    let p = c.in-Some.place in
    let f = c.index-prefixes-place.result in
    let lt = place_within c.loop-next.next p (length prefixes) c.in-Some.is c.loop-next.invariant.within in
    steps_fall prefixes p f c.loop-next.next c.requires.linked (slice_get_read prefixes (length prefixes) p f refl lt c.index-prefixes-place.is) c.in-Some.is

pub loop-next-preserved : goal.loop-next-preserved
loop-next-preserved c =
    let prefixes = c.args.prefixes.now in
    let p = c.in-Some.place in
    let f = c.index-prefixes-place.result in
    let lt = place_within c.loop-next.next p (length prefixes) c.in-Some.is c.loop-next.invariant.within in
    prefixes_more prefixes c.args.text.now c.args.candidates.now c.loop-next.candidates c.add.new.self p f c.as_slice.result c.requires
    (slice_get_read prefixes (length prefixes) p f refl lt c.index-prefixes-place.is) c.as_slice.ensures c.in_ok-add.ensures
    (subst (λ (o : Option ℕ). HasPrefixes prefixes c.args.text.now c.args.candidates.now c.loop-next.candidates o) c.in-Some.is c.loop-next.invariant)

pub returns : goal.returns
returns c = prefixes_all c.args.prefixes.now c.args.text.now c.args.candidates.now c.loop-next.candidates c.loop-next.next c.in_default.is c.loop-next.invariant
