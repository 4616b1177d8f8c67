use Rattle.std.proofs.Common.{◌≡◌, List, Option, Bor, ap, sym, ◌∙◌, subst}
use Rattle.std.specs.Option.{option_copied}
use Rattle.rbac_terms.specs.Text.{Text}
use Rattle.rbac_terms.specs.declared.granting.Binding.{Binding}
use Rattle.rbac_terms.proofs.Cases.{on_ok}
use Rattle.rbac_terms.specs.declared.matching.Rule.{Rule}
use Rattle.rbac_diff.specs.StandIns.{AreStandInRules}
use Rattle.rbac_diff.specs.Finding.{Finds}
use Rattle.rbac_diff.proofs.Bindings.{IsByPrincipal, principal_finds}
use Rattle.rbac_diff.proofs.finding.add_of_principal.Goals as goal

pub rules_of-requires : goal.rules_of-requires
rules_of-requires c = λ e. c.requires.somewhere (sym (c.as_ref-namespace.ensures.value ∙ ap (λ (b : Binding). b.namespace) c.binding.ensures) ∙ e)

pub returns : goal.returns
returns c =
    let before = c.args.asked.now in
    let after = c.args.after.now in
    let who = c.args.principal.now in
    let own = option_copied c.as_ref-namespace.result in
    let x = c.args.origin.now in
    let named : own ≡ x.binding.namespace = c.as_ref-namespace.ensures.value ∙ ap (λ (b : Binding). b.namespace) c.binding.ensures in
    let rules : AreStandInRules before who own c.as_slice.result.now = subst (λ (rs : List (Bor Rule)). AreStandInRules before who own rs) (sym c.as_slice.ensures.value) (c.in_ok-others.ensures c.requires.alone) in
    on_ok c.add_of_grants.result (λ h. subst (λ (o : Option Text). Finds (IsByPrincipal before after c.args.place o x who) x c.args.findings.now c.add_of_grants.new.findings) named
    (principal_finds before after c.args.place own x who c.as_slice.result.now c.args.findings.now c.add_of_grants.new.findings rules h))
    c.add_of_grants.ensures
