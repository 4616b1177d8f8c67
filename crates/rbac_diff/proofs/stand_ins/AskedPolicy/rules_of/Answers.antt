use Rattle.std.proofs.Common.{◌≡◌, List, length, subst, Bor}
use Rattle.std.specs.Prelude.{Option}
use Rattle.std.specs.Option.{option_copied}
use Rattle.rbac_terms.specs.Principals.{Who}
use Rattle.rbac_terms.specs.declared.matching.Rule.{Rule}
use Rattle.rbac_model.specs.Policies.{PolicyView}
use Rattle.rbac_diff.specs.Covering.{stand_ins}
use Rattle.rbac_diff.specs.StandIns.{AddsRules, one_or_two}
use Rattle.rbac_diff.proofs.BoundRules.{asked_in, rules_of_one, rules_of_two}
use Rattle.rbac_diff.proofs.stand_ins.AskedPolicy.rules_of.Goals as goal

pub returns-in_default : goal.returns-in_default
returns-in_default c = λ given.
    let policy = c.args.self.now in
    let who = c.args.principal.now in
    let first = c.stand_ins.result.0.now in
    let asked = c.unwrap_or-namespace.result.now in
    let rules = c.add_rules.new.rules.items in
    let stands = subst (λ (o : Option (Bor Who)). one_or_two first (option_copied o) ≡ stand_ins who) c.in_default.is (c.stand_ins.ensures given) in
    let added = subst (λ (p : PolicyView). AddsRules p first asked (length p.grants) c.new-rules.result.items rules) c.self.view_is c.in_ok-add_rules.ensures in
    rules_of_one policy (option_copied c.args.namespace) asked (asked_in c.args.namespace _ c.unwrap_or-namespace.result c.unwrap_or-namespace.ensures c.self.invariant.2) c.requires who first rules stands
    (subst (λ (l : List (Bor Rule)). AddsRules policy first asked (length policy.grants) l rules) c.new-rules.ensures.items added)

pub returns : goal.returns
returns c = λ given.
    let policy = c.args.self.now in
    let who = c.args.principal.now in
    let first = c.stand_ins.result.0.now in
    let second = c.in-Some.second.now in
    let asked = c.unwrap_or-namespace.result.now in
    let mid = c.add_rules.new.rules.items in
    let rules = c.add_rules-2.new.rules.items in
    let stands = subst (λ (o : Option (Bor Who)). one_or_two first (option_copied o) ≡ stand_ins who) c.in-Some.is (c.stand_ins.ensures given) in
    let added = subst (λ (p : PolicyView). AddsRules p first asked (length p.grants) c.new-rules.result.items mid) c.self.view_is c.in_ok-add_rules.ensures in
    let more = subst (λ (p : PolicyView). AddsRules p second asked (length p.grants) mid rules) c.self.view_is c.in_ok-add_rules-2.ensures in
    rules_of_two policy (option_copied c.args.namespace) asked (asked_in c.args.namespace _ c.unwrap_or-namespace.result c.unwrap_or-namespace.ensures c.self.invariant.2) c.requires who first second mid rules stands
    (subst (λ (l : List (Bor Rule)). AddsRules policy first asked (length policy.grants) l mid) c.new-rules.ensures.items added) more
