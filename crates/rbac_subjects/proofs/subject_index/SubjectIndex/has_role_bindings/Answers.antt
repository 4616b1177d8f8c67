use Rattle.std.proofs.Common.{IsTrue, List, arith, ltb, ◌↔◌, Any, subst, ◌≡◌}
use Rattle.std.specs.Prelude.{Some}
use Rattle.std.proofs.lemmas.Bool.Decides.{nat_tests}
use Rattle.rbac_terms.specs.declared.granting.Binding.{Binding}
use Rattle.rbac_subjects.proofs.LivingLemmas.{some_between}
use Rattle.rbac_subjects.proofs.subject_index.SubjectIndex.has_role_bindings.Goals as goal

pub returns-clause-has : goal.returns-clause-has
returns-clause-has c =
    let r = c.of_namespace-from.result in
    let found = some_between c.bindings.result.now c.args.namespace.now r.0 r.1 c.of_namespace-from.ensures.within c.of_namespace-from.ensures.between in
    let told : IsTrue (ltb r.0 r.1) ↔ Any (λ b. b.namespace ≡ Some c.args.namespace.now) c.bindings.result.now = (λ t. found.0 (grind (arith, nat_tests)), λ a. let lt = found.1 a in grind (arith, nat_tests)) in
    rw (← c.self.view_is) (subst (λ (bs : List Binding). IsTrue (ltb r.0 r.1) ↔ Any (λ b. b.namespace ≡ Some c.args.namespace.now) bs) c.bindings.ensures.bindings told)
