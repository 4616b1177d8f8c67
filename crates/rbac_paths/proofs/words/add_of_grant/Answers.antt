use Rattle.std.proofs.Common.{◌∙◌, Any, List, subst, sym}
use Rattle.std.proofs.lemmas.Option.{same_Some}
use Rattle.rbac_terms.proofs.Cases.{on_ok}
use Rattle.rbac_model.specs.Policies.{GrantView}
use Rattle.rbac_model.specs.Sources.{grant_of}
use Rattle.rbac_paths.specs.Having.{HoldingView}
use Rattle.rbac_paths.specs.SharedWords.{GrantTakesWord, LetsWord, StepTakesWord}
use Rattle.rbac_paths.specs.Takeovers.{AreTakeovers}
use Rattle.rbac_paths.specs.declared.takeover.Takeover.{Takeover}
use Rattle.rbac_paths.proofs.RuleTakeovers.{rule_of_grant}
use Rattle.rbac_paths.proofs.Takeovers.{same_words}
use Rattle.rbac_paths.proofs.WordsAdded.{adds_same}
use Rattle.rbac_paths.proofs.words.add_of_grant.Goals as goal

pub returns : goal.returns
returns c steps have =
    let p = c.args.policy.now in
    let h = c.by-held.result in
    let g = grant_of c.grant.result in
    let there = c.grant.ensures.grant in
    let place = c.place.result in
    let sourced = rule_of_grant p.held place g (c.place.ensures.grant ∙ there) in
    let ts = c.of_grant.result.now in
    let are : AreTakeovers steps g.rule.rule ts = subst (λ (xs : List Takeover). AreTakeovers steps g.rule.rule xs) (sym c.of_grant.ensures) (have place.role place.rule g.rule sourced) in
    let same = same_words steps g.rule.rule ts are g.binding.namespace in
    on_ok c.add_of_takeovers.result
    (adds_same (λ w. Any (λ t. LetsWord t h.home h.rule w) ts) (λ w. GrantTakesWord p steps w c.args.no)
    (λ w. (
      λ a. (g, there, (same w).0 (subst (λ (v : HoldingView). Any (λ t. LetsWord t v.home v.rule w) ts) c.by-held.ensures a)),
      λ t. subst (λ (v : HoldingView). Any (λ t. LetsWord t v.home v.rule w) ts) (sym c.by-held.ensures)
          ((same w).1 (subst (λ (v : GrantView). Any (StepTakesWord v.binding.namespace v.rule.rule w) steps) (same_Some t.0 g (sym t.1 ∙ there)) t.2)),
    )) c.args.words.now c.add_of_takeovers.new.words)
    c.add_of_takeovers.ensures
