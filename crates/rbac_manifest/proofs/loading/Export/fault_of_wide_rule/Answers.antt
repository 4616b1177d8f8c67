use Rattle.std.proofs.Common.{◌≡◌, ◌≢◌, MatchOption, Option, Some, subst, refl}
use Rattle.std.proofs.lemmas.Result.{IfOk-weaker}
use Rattle.rbac_universe.specs.declared.fault.UniverseFault.{UniverseFault}
use Rattle.rbac_universe.specs.declared.fault.UniverseFault.TheVariants.{NoMemory}
use Rattle.rbac_universe.specs.Sets.{HasUniverseFault}
use Rattle.rbac_lists.specs.Meant.{lists_meant}
use Rattle.rbac_manifest.specs.Load.{LoadedView}
use Rattle.rbac_manifest.proofs.loading.Export.fault_of_wide_rule.Goals as goal

pub returns-clause-fault : goal.returns-clause-fault
returns-clause-fault c =
    let namespaces = c.self.inside.namespaces.items in
    let accounts = c.self.inside.accounts.items in
    let Is : LoadedView → Type 0 = λ l. lists_meant l.policy.held l.catalogue namespaces accounts c.self.inside.documents.items ≡ l.lists in
    let is : Is c.args.self.now = subst Is c.self.view_is refl in
    let found = IfOk-weaker c.fault_of_wide_rule.result _
    (λ found. MatchOption found (Unit {0}) (HasUniverseFault (lists_meant c.objects.result.now c.catalogue.result.now namespaces accounts c.as_slice-given.result.now)))
    (λ found fault. fault namespaces accounts) c.fault_of_wide_rule.ensures.fault in
    rw (← is) (rw (c.objects.ensures.held, c.policy.ensures, c.catalogue.ensures, c.as_slice-given.ensures.value) at found)

no_memory : (P : Type 0) (found : Option UniverseFault) → MatchOption found P (λ fault. fault ≢ NoMemory) → found ≢ Some NoMemory
no_memory P found told lacks = subst (λ (o : Option UniverseFault). MatchOption o P (λ fault. fault ≢ NoMemory)) lacks told refl

pub returns-clause-memory : goal.returns-clause-memory
returns-clause-memory c = IfOk-weaker c.fault_of_wide_rule.result _ (λ found. found ≢ Some NoMemory) (λ found told. no_memory _ found told) c.fault_of_wide_rule.ensures.none
