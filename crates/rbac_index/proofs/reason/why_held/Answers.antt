use Rattle.std.proofs.Common.{◌≡◌, refl, slice_get, arith}
use Rattle.std.specs.Prelude.{Some}
use Rattle.std.proofs.lemmas.Option.{slice_get_read, slice_get_within}
use Rattle.rbac_model.specs.Sources.{grant_of}
use Rattle.rbac_index.specs.HolderViews.{holder_shown, requested_of}
use Rattle.rbac_index.specs.Requested.{ThisTarget}
use Rattle.rbac_terms.specs.declared.scope.Scope.TheVariants.{Namespace}
use Rattle.rbac_index.proofs.ReasonLemmas.{some_allows, why_of_holder, shown_binding}
use Rattle.rbac_index.proofs.reason.why_held.Goals as goal

pub returns-in_err-binding-clause-first : goal.returns-in_err-binding-clause-first
returns-in_err-binding-clause-first c =
    let past = rw c.bindings-bindings.ensures.bindings at c.in_err-binding.ensures.lookup in
    rw c.from_residual.ensures (λ n by. absurd (omega (arith, past.3, slice_get_within c.args.policy.now.held.bindings c.args.holder.binding_place by.0.0.binding by.0.2)))

pub returns-in_err-binding-clause-held : goal.returns-in_err-binding-clause-held
returns-in_err-binding-clause-held c = λ namespace target same holder.
    let past = rw c.bindings-bindings.ensures.bindings at c.in_err-binding.ensures.lookup in
    absurd (omega (arith, past.3, slice_get_within c.args.policy.now.held.bindings c.args.holder.binding_place c.args.holder.binding.now holder.0))

pub returns-in_err-binding-clause-listed : goal.returns-in_err-binding-clause-listed
returns-in_err-binding-clause-listed c = λ asked holder.
    let past = rw c.bindings-bindings.ensures.bindings at c.in_err-binding.ensures.lookup in
    absurd (omega (arith, past.3, slice_get_within c.args.policy.now.held.bindings c.args.holder.binding_place c.args.holder.binding.now holder.0))

pub returns-in_err-no-clause-held : goal.returns-in_err-no-clause-held
returns-in_err-no-clause-held c = λ namespace target same holder.
    absurd (some_allows c.args.policy.now c.bindings-bindings.ensures.policy (Namespace namespace) c.args.verb.now (ThisTarget target) c.args.holder.principal.now c.args.holder.binding_place c.args.holder.subject_place holder.1 (rw same at c.in_err-no.ensures))

pub returns-in_err-no-clause-listed : goal.returns-in_err-no-clause-listed
returns-in_err-no-clause-listed c = λ asked holder.
    absurd (some_allows c.args.policy.now c.bindings-bindings.ensures.policy asked c.args.verb.now (requested_of c.args.requested) c.args.holder.principal.now c.args.holder.binding_place c.args.holder.subject_place holder.1 c.in_err-no.ensures)

pub grant-grant-requires : goal.grant-grant-requires
grant-grant-requires c = let by = c.in_ok-no.ensures.0.0 in slice_get_within c.args.policy.now.grants c.in_ok-no.no by.0 by.1

pub returns-clause-first : goal.returns-clause-first
returns-clause-first c =
    let found = rw c.bindings-bindings.ensures.bindings at c.in_ok-binding.ensures.lookup in
    let there : slice_get c.args.policy.now.held.bindings c.args.holder.binding_place ≡ Some c.in_ok-binding.binding.now = slice_get_read _ _ _ _ refl found.3.0 found.1 in
    record {
      number = c.in_ok-no.no;
      grant = grant_of c.grant-grant.result;
      granted = c.grant-grant.ensures.grant;
      first = c.in_ok-no.ensures;
      shown = (shown_binding c.args.policy.now c.args.verb.now (requested_of c.args.requested) c.args.holder.binding_place c.in_ok-no.no c.in_ok-binding.binding.now (grant_of c.grant-grant.result) there c.in_ok-no.ensures c.grant-grant.ensures.grant, refl, refl);
      subject = refl;
    }

pub returns-clause-held : goal.returns-clause-held
returns-clause-held c = λ namespace target same holder.
    let found = rw c.bindings-bindings.ensures.bindings at c.in_ok-binding.ensures.lookup in
    let there : slice_get c.args.policy.now.held.bindings c.args.holder.binding_place ≡ Some c.in_ok-binding.binding.now = slice_get_read _ _ _ _ refl found.3.0 found.1 in (
      grant_of c.grant-grant.result,
      why_of_holder c.args.policy.now c.bindings-bindings.ensures.policy namespace c.args.verb.now target (holder_shown c.args.holder) holder c.in_ok-no.no (grant_of c.grant-grant.result) (rw same at c.in_ok-no.ensures) c.grant-grant.ensures.grant,
      (shown_binding c.args.policy.now c.args.verb.now (requested_of c.args.requested) c.args.holder.binding_place c.in_ok-no.no c.in_ok-binding.binding.now (grant_of c.grant-grant.result) there c.in_ok-no.ensures c.grant-grant.ensures.grant, refl, refl),
    )

pub returns-clause-listed : goal.returns-clause-listed
returns-clause-listed c = λ asked holder.
    let found = rw c.bindings-bindings.ensures.bindings at c.in_ok-binding.ensures.lookup in
    let there : slice_get c.args.policy.now.held.bindings c.args.holder.binding_place ≡ Some c.in_ok-binding.binding.now = slice_get_read _ _ _ _ refl found.3.0 found.1 in (
      grant_of c.grant-grant.result,
      (c.in_ok-no.no, c.in_ok-no.ensures, c.grant-grant.ensures.grant),
      (shown_binding c.args.policy.now c.args.verb.now (requested_of c.args.requested) c.args.holder.binding_place c.in_ok-no.no c.in_ok-binding.binding.now (grant_of c.grant-grant.result) there c.in_ok-no.ensures c.grant-grant.ensures.grant, refl, refl),
      refl,
    )
