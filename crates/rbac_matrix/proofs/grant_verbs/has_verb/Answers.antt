use Rattle.std.proofs.Common.{◌≡◌, ◌∙◌, arith, subst, sym}
use Rattle.std.specs.Prelude.{Some, slice_get}
use Rattle.std.proofs.lemmas.Option.{same_Some}
use Rattle.rbac_terms.specs.Matching.{VerbOk}
use Rattle.rbac_model.specs.Policies.{GrantView}
use Rattle.rbac_matrix.specs.GrantVerbs.{AreVerbsOfGrant}
use Rattle.rbac_terms.proofs.Reading.{read_some}
use Rattle.rbac_matrix.proofs.grant_verbs.has_verb.Goals as goal

pub returns-then-line-lt-MOST_VERBS : goal.returns-then-line-lt-MOST_VERBS
returns-then-line-lt-MOST_VERBS c =
    let p = c.args.index.now in
    let u = c.args.universe.now in
    let told = c.in-Some.told.now in
    let a = c.in-Some.ensures.lookup in
    let tells : AreVerbsOfGrant p u told = subst (AreVerbsOfGrant p u) (sym (a.3.1 told)) (c.requires.kept c.args.nth told a.3.0) in
    let g = read_some p.grants c.args.no c.requires.within in
    let here : slice_get p.grants told.no ≡ Some g.0 = rw c.if-told-no.true g.1 in
    let bits = tells g.0 here c.args.line.verb_place c.args.line.verb.now (omega (arith, c.if-line-lt-MOST_VERBS.true)) c.requires.verb in (
      λ has. (g.0, g.1, bits.0 (c.has_bit.ensures.0 has)),
      λ w. c.has_bit.ensures.1 (bits.1 (subst (λ (x : GrantView). VerbOk x.rule.rule c.args.line.verb.now) (same_Some w.0 g.0 (sym w.1 ∙ g.1)) w.2)),
    )
