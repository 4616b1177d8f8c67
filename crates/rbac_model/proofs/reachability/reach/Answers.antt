use Rattle.std.proofs.Common.{◌≡◌, ◌∙◌, sym, refl, inl, inr, [], length}
use Rattle.std.proofs.lemmas.List.Elements.{same_from_all_zip}
use Rattle.std.proofs.lemmas.List.{get_or_default}
use Rattle.rbac_model.proofs.Closing.{led_within}
use Rattle.rbac_model.proofs.Searched.{started, stepped, reached_all, fewer}
use Rattle.rbac_model.proofs.reachability.reach.Goals as goal

pub loop-at-init : goal.loop-at-init
loop-at-init c =
    let e = c.in_ok-seen.ensures.cases in
    let f = c.in_ok-done.ensures.cases in
    let copied : c.in_ok-seen.seen ≡ c.index-graph-from.result = sym e.3 ∙ same_from_all_zip _ e.0.words.items e.1.words.items e.4.0 (λ x y h. h) ∙ e.2 in
    let ends : c.in_ok-done.done ≡ c.args.ends.now = sym f.3 ∙ same_from_all_zip _ f.0.words.items f.1.words.items f.4.0 (λ x y h. h) ∙ f.2 in
    started c.args.graph.now c.args.from c.in_ok-seen.seen c.in_ok-done.done
    (copied ∙ c.index-graph-from.is ∙ get_or_default c.args.graph.now c.args.from c.index-graph-from.result [] c.requires.from)
    (rw ends c.requires.ends)

pub take-requires : goal.take-requires
take-requires c = led_within c.args.graph.now c.requires.graph c.args.from c.in-Some.at (c.loop-at.invariant.sound c.in-Some.at c.in-Some.ensures.0)

pub loop-at-preserved : goal.loop-at-preserved
loop-at-preserved c =
    stepped c.args.graph.now c.args.from c.args.closed.now c.loop-at.seen c.loop-at.done c.in-Some.at c.take.new.seen c.take.new.done
    c.requires.full c.in-Some.ensures.0 c.in_ok-take.ensures.seen c.in_ok-take.ensures.done c.loop-at.invariant

pub loop-at-smaller : goal.loop-at-smaller
loop-at-smaller c =
    fewer c.loop-at.done c.take.new.done (λ k m. (c.in_ok-take.ensures.done k).1 (inl (inl m))) (length c.args.graph.now) c.in-Some.at
    (led_within c.args.graph.now c.requires.graph c.args.from c.in-Some.at (c.loop-at.invariant.sound c.in-Some.at c.in-Some.ensures.0))
    c.in-Some.ensures.1
    ((c.in_ok-take.ensures.done c.in-Some.at).1 (inl (inr refl)))

pub returns : goal.returns
returns c = reached_all c.args.graph.now c.args.from c.loop-at.seen c.loop-at.done c.requires.graph c.loop-at.invariant c.in_default.ensures
