use Rattle.std.proofs.Common.{sym, subst}
use Rattle.rbac_terms.specs.Text.{Text}
use Rattle.rbac_terms.specs.Matching.{EndsInStar, IsBeforeStars}
use Rattle.rbac_terms.proofs.Texts.{IsBeforeStars-one, ends}
use Rattle.rbac_reaches.proofs.WildcardLemmas.{adds_none, adds_one}
use Rattle.rbac_reaches.proofs.url_prefixes.push_prefix.Goals as goal

pub returns-in_default : goal.returns-in_default
returns-in_default c =
    let word = c.args.word.now in
    adds_none IsBeforeStars word c.args.prefixes.now.items (λ p is. c.in_default.ensures (subst EndsInStar (sym c.as_bytes.ensures) (ends word p is.0 is.1)))

pub returns : goal.returns
returns c =
    let word = c.args.word.now in
    let part = c.in_ok-from_slice.field-0 in
    let is = subst (λ (q : Text). IsBeforeStars word q) (sym c.in_ok-from_slice.ensures) (subst (λ (w : Text). IsBeforeStars w c.in-Some.prefix.now) c.as_bytes.ensures c.in-Some.ensures) in
    rw c.in_ok-push.ensures.items (adds_one IsBeforeStars word part c.args.prefixes.now.items is (λ p other. IsBeforeStars-one word part p is other))
