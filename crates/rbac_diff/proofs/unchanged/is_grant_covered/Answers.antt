use Rattle.std.proofs.Common.{◌∙◌}
use Rattle.rbac_model.specs.Sources.{grant_of}
use Rattle.rbac_diff.proofs.PairedRoles.{pair_covers}
use Rattle.rbac_diff.proofs.Results.{ok_weaker}
use Rattle.rbac_diff.proofs.unchanged.is_grant_covered.Goals as goal

pub returns-then-have_rule : goal.returns-then-have_rule
returns-then-have_rule c = λ t.
    let mine = c.place.ensures.binding in
    let theirs = c.place-2.ensures.binding in
    record {
      mine = mine.0;
      theirs = theirs.0;
      read = mine.1;
      at = theirs.1;
      covers = pair_covers c.args.own.now.held c.args.other.now.held c.args.covered.now c.requires.covered c.place.result c.place-2.result mine.0 theirs.0
          (c.have_rule.ensures.rule c.if-have_rule.true) (c.have_rule.ensures.role c.if-have_rule.true) (c.place.ensures.grant ∙ mine.1) (c.place-2.ensures.grant ∙ theirs.1);
      own_place = c.place.result.binding;
      own_of = mine;
      place = c.place-2.result.binding;
      of = theirs;
    }

pub returns : goal.returns
returns c = ok_weaker _ _ c.covers_rule.result (λ is covers t. record {
  mine = grant_of c.grant-2.result;
  theirs = grant_of c.grant.result;
  read = c.grant-2.ensures.grant;
  at = c.grant.ensures.grant;
  covers = covers t;
  own_place = c.grant-2.result.binding_place;
  own_of = c.grant-2.ensures.binding;
  place = c.grant.result.binding_place;
  of = c.grant.ensures.binding;
}) c.covers_rule.ensures
