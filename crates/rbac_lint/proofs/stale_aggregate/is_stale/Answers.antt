use Rattle.std.proofs.Common.{List, subst}
use Rattle.std.proofs.lemmas.Bool.{both_ways}
use Rattle.std.proofs.lemmas.Option.{slice_get_within}
use Rattle.std.proofs.Common.{Bor, ◌↔◌, IsTrue}
use Rattle.std.specs.Prelude.{Contains}
use Rattle.rbac_terms.specs.declared.matching.Rule.{Rule}
use Rattle.rbac_lint.specs.Findings.{HasSameRules}
use Rattle.rbac_lint.specs.Gathering.{rules_at}
use Rattle.rbac_lint.proofs.StaleRules.{plain_not_stale, empty_not_stale, stale_iff}
use Rattle.rbac_lint.proofs.stale_aggregate.is_stale.Goals as goal

pub returns-then-is_none : goal.returns-then-is_none
returns-then-is_none c = (λ t. cc, λ s. absurd (plain_not_stale c.args.policy.now.held c.args.role.now c.is_none.result c.is_none.ensures c.if-is_none.true s))

pub gathered_rules-requires : goal.gathered_rules-requires
gathered_rules-requires c = slice_get_within c.args.policy.now.held.cluster_roles c.args.place c.args.role.now c.requires

pub returns-then-not-has_rules : goal.returns-then-not-has_rules
returns-then-not-has_rules c =
    (λ t. cc, λ s. absurd (empty_not_stale c.args.policy.now.held c.args.role.now (λ some. both_ways _ c.if-not-has_rules.true (c.has_rules.ensures.1 some)) s))

pub returns : goal.returns
returns c =
    let h = c.args.policy.now.held in
    let r = c.args.role.now in
    let same = c.in_ok-same.same in
    let P : List (Bor Rule) → Type 0 = λ ws. IsTrue same ↔ HasSameRules (rules_at ws) (Contains (rules_at c.as_slice-2.result.now)) in
    let Q : List (Bor Rule) → Type 0 = λ gs. IsTrue same ↔ HasSameRules (rules_at c.in_ok-written.written.items) (Contains (rules_at gs)) in
    let R : List Rule → Type 0 = λ rs. IsTrue same ↔ HasSameRules rs (Contains (rules_at c.in_ok-gathered.gathered.items)) in
    stale_iff h r c.is_none.result same (rules_at c.in_ok-gathered.gathered.items) c.is_none.ensures c.if-is_none.false (c.has_rules.ensures.0 c.if-not-has_rules.false)
    (c.in_ok-gathered.ensures r c.requires)
    (subst R c.in_ok-written.ensures (subst Q c.as_slice-2.ensures.value (subst P c.as_slice.ensures.value c.in_ok-same.ensures)))
