-- The powers list exactly who can take which step.
use Rattle.std.proofs.Common.{◌≡◌, ◌∙◌, ℕ, List, Option, Some, None, Any, Contains, slice_get, refl, sym, ap, subst, arith}
use Rattle.std.proofs.lemmas.Option.{slice_get_within, slice_get-get_or, get_or_from_slice_get}
use Rattle.rbac_terms.specs.Text.{Text}
use Rattle.rbac_terms.specs.Targets.{Resource}
use Rattle.rbac_terms.specs.Principals.{Who}
use Rattle.rbac_model.specs.Policies.{BindingNames, GrantView, IsPolicy, Live, PolicyView}
use Rattle.rbac_model.proofs.GrantNumbers.{grant_allows, some_grant}
use Rattle.rbac_model.proofs.OwnWords.{any_from}
use Rattle.rbac_model.specs.Holders.{IsKeyFor, HasKey}
use Rattle.rbac_model.proofs.KeyNames.{key_names, naming_key}
use Rattle.rbac_paths.specs.Powers.{GivesStep, PowerView}
use Rattle.rbac_paths.specs.Steps.{AllowsIn, AllowsRow, CountsIn, StepRowView, asked_in, table}
use Rattle.rbac_steps.specs.Steps.{steps}
use Rattle.rbac_paths.specs.Telling.{CanTake, AlsoHoldsIn, TellAll}
use Rattle.rbac_steps.specs.declared.steps.Step.{Step}
use Rattle.rbac_steps.specs.declared.steps.Step.TheVariants.{Impersonate, Token, Run, Exec, Secrets, Nodes, Bind, Escalate, Certificates, Webhooks, ApiServices, Bootstrap, Volumes, Namespaces}
use Rattle.rbac_paths.proofs.AllSteps.{ArePowersTo, each_power}
use Rattle.rbac_paths.proofs.Counting.{counts_live, live_counts}

pub in_steps : (step : Step) → Contains steps step
in_steps Impersonate = (0, omega arith, refl)
in_steps Token = (1, omega arith, refl)
in_steps Run = (2, omega arith, refl)
in_steps Exec = (3, omega arith, refl)
in_steps Secrets = (4, omega arith, refl)
in_steps Nodes = (5, omega arith, refl)
in_steps Bind = (6, omega arith, refl)
in_steps Escalate = (7, omega arith, refl)
in_steps Certificates = (8, omega arith, refl)
in_steps Webhooks = (9, omega arith, refl)
in_steps ApiServices = (10, omega arith, refl)
in_steps Bootstrap = (11, omega arith, refl)
in_steps Volumes = (12, omega arith, refl)
in_steps Namespaces = (13, omega arith, refl)

-- if a binding is live for a request of a row, the row counts for the binding, and a power by the
-- binding holds where the request is made
counts_there : (own : Option Text) (r : StepRowView) (namespace text name : Text) → Live own (asked_in r.counts namespace) (Resource r.group text name) → CountsIn r own × AlsoHoldsIn own namespace
counts_there None r namespace text name live = (tt, tt)
counts_there (Some own) r namespace text name live = live_counts r.counts own namespace r.group text name live

-- if a row counts for a binding, and a power by the binding holds there, the binding is live for
-- the row's requests there
live_there : (own : Option Text) (r : StepRowView) (namespace text name : Text) → AlsoHoldsIn own namespace → CountsIn r own → Live own (asked_in r.counts namespace) (Resource r.group text name)
live_there None r namespace text name holds counts = tt
live_there (Some own) r namespace text name holds counts = counts_live r.counts own namespace r.group text name counts holds

-- a grant gives a principal the step by one of its keys, and a power by the grant's binding holds
-- there
pub record GivesSomebody (p : PolicyView) (who : Who) (step : Step) (namespace : Text) : Type 0 where
  pub place : ℕ
  pub grant : GrantView
  pub key : Text
  pub here : slice_get p.grants place ≡ Some grant
  pub gives : GivesStep step grant
  pub has : HasKey grant.binding key
  pub holds : AlsoHoldsIn grant.binding.namespace namespace
  pub theirs : IsKeyFor who key

-- if a principal can take a step, some grant gives it the step
pub given : (p : PolicyView) → IsPolicy p → (who : Who) (step : Step) (namespace : Text) → CanTake p who step namespace → GivesSomebody p who step namespace
given p ok who step namespace c =
    let row = c.row in
    let asked = asked_in row.counts namespace in
    let t = Resource row.group c.text c.name in
    let by = some_grant p.held p.grants who asked c.verb t ok.0 ok.1 c.allowed in
    let g = by.1 in
    let there = counts_there g.binding.namespace row namespace c.text c.name by.4.0 in
    let named = by.4.1 in
    let key = naming_key named.1 g.binding.namespace who named.4 in
    let allows : AllowsRow row g.rule.rule = record { verb = c.verb; text = c.text; name = c.name; of_verbs = c.of_verbs; of_resources = c.of_resources; named = c.named; allows = by.4.2 } in
    record {
      place = by.0;
      grant = g;
      key = key.0;
      here = slice_get-get_or p.grants by.0 g by.2 ∙ ap (λ (v : GrantView). Some v) by.3;
      gives = any_from (λ r. (r.step ≡ step) × AllowsIn g.binding.namespace g.rule.rule r) table row c.of_table (c.of_step, (there.0, allows));
      has = (named.0, named.1, named.2, named.3, key.1);
      holds = there.1;
      theirs = key.2;
    }

module _ (p : PolicyView) (ok : IsPolicy p) (xs : List PowerView) (to : ArePowersTo p steps xs) (who : Who) (step : Step) (namespace : Text) where
  pub told : CanTake p who step namespace → Any (λ x. (x.step ≡ step) × AlsoHoldsIn x.grant.binding.namespace namespace × IsKeyFor who x.who) xs
  told c =
      let by = given p ok who step namespace c in
      let x = to.grants step (in_steps step) by.place by.grant by.key by.here by.gives by.has in
      (x.0, x.1, x.2, x.3, (x.4.0, subst (λ (o : Option Text). AlsoHoldsIn o namespace) (sym x.4.2) by.holds, subst (λ (k : Text). IsKeyFor who k) (sym x.4.1) by.theirs))

  pub taken : Any (λ x. (x.step ≡ step) × AlsoHoldsIn x.grant.binding.namespace namespace × IsKeyFor who x.who) xs → CanTake p who step namespace
  taken a =
      let x = a.1 in
      let power = each_power p steps xs to.powers x (a.0, a.2, a.3) in
      let g = x.grant in
      let n = power.grant.0 in
      let first = power.grant.1 in
      let has = first.holds.1 in
      let gives = first.holds.2 in
      let row = gives.1 in
      let allows = gives.4.1.1 in
      let t = Resource row.group allows.text allows.name in
      let asked = asked_in row.counts namespace in
      let named : BindingNames g.binding who = (has.0, has.1, has.2, has.3, key_names has.1 g.binding.namespace who x.who has.4 a.4.2) in
      let live = live_there g.binding.namespace row namespace allows.text allows.name a.4.1 gives.4.1.0 in
      record {
        row = row;
        verb = allows.verb;
        text = allows.text;
        name = allows.name;
        of_table = (gives.0, gives.2, gives.3);
        of_step = gives.4.0 ∙ a.4.0;
        of_verbs = allows.of_verbs;
        of_resources = allows.of_resources;
        named = allows.named;
        allowed = grant_allows p ok who asked allows.verb t (n, g, slice_get_within p.grants n g first.here, get_or_from_slice_get p.grants n g g first.here, (live, named, allows.allows));
      }

pub tell_all : (p : PolicyView) → IsPolicy p → (xs : List PowerView) → ArePowersTo p steps xs → TellAll p xs
tell_all p ok xs to who step namespace = (told p ok xs to who step namespace, taken p ok xs to who step namespace)
