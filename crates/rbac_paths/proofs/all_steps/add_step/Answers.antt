use Rattle.std.proofs.Common.{◌++◌, ◌∷◌, [], ◌∙◌, List, ap, refl, sym, append_assoc, append-nil}
use Rattle.rbac_terms.specs.Text.{Text}
use Rattle.rbac_paths.specs.Powers.{PowerView}
use Rattle.rbac_paths.proofs.AllPowers.{all_powers, powers_in, with_grants}
use Rattle.rbac_paths.proofs.all_steps.add_step.Goals as goal

pub loop-power-preserved : goal.loop-power-preserved
loop-power-preserved c =
    let all = c.loop-power.all.items in
    ap (λ (xs : List PowerView). xs ++ powers_in c.next.new.self) c.in_ok-push.ensures.items ∙ append_assoc all (c.in-Some.power ∷ []) (powers_in c.next.new.self)
    ∙ sym (ap (λ (es : List (Text × PowerView)). all ++ powers_in es) c.in-Some.ensures.steps) ∙ c.loop-power.invariant

pub returns : goal.returns
returns c =
    let found = c.in_ok-found.found in
    let all = c.loop-power.all.items in
    let own = powers_in found.entries in
    let gives = c.into_iter-power-iterator.ensures.into_iter_gives in
    record {
      added = (
        own,
        all_powers c.args.policy.now c.in_ok-found.ensures.policy c.args.step found gives.5 c.in_ok-found.ensures.found,
        with_grants c.args.policy.now c.in_ok-found.ensures.policy c.args.step found gives.5 c.in_ok-found.ensures.found,
        sym (append-nil all) ∙ sym (ap (λ (es : List (Text × PowerView)). all ++ powers_in es) c.in-None.ensures.steps.0) ∙ c.loop-power.invariant
            ∙ ap (λ (es : List (Text × PowerView)). c.args.all.now.items ++ powers_in es) gives.0,
      );
      policy = c.in_ok-found.ensures.policy;
    }
