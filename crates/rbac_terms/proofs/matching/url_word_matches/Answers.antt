use Rattle.std.proofs.Common.{drop, length, sym, arith}
use Rattle.std.proofs.lemmas.List.{append-nil}
use Rattle.std.proofs.lemmas.Slice.Eq.{slice_eq-Decides, starts_is}
use Rattle.std.proofs.lemmas.Bool.Decides.{Decides-eqb}
use Rattle.std.proofs.lemmas.Bool.{both_ways}
use Rattle.rbac_terms.proofs.Texts.{UrlWordMatches-iff, UrlWordMatches-none}
use Rattle.rbac_terms.proofs.matching.url_word_matches.Goals as goal

pub returns-in_default : goal.returns-in_default
returns-in_default c = (
  λ h. cc,
  λ m. let word = c.args.word.now in
      absurd (UrlWordMatches-none word c.args.path.now word 0
      (λ e. both_ways _ c.if-eq.false ((slice_eq-Decides Decides-eqb _ _ _ c.eq.ensures).1 e))
      (sym (append-nil word)) c.in_default.ensures (omega arith) m),
)

pub returns : goal.returns
returns c =
    let path = c.args.path.now in
    let prefix = c.in-Some.prefix.now in
    let begins = starts_is Decides-eqb path prefix _ c.starts_with.ensures.value in
    UrlWordMatches-iff c.args.word.now path prefix _
    (λ e. both_ways _ c.if-eq.false ((slice_eq-Decides Decides-eqb _ _ _ c.eq.ensures).1 e))
    c.in-Some.ensures
    (λ h. (drop (length prefix) path, begins.0 h), λ b. begins.1 b.0 b.1)
