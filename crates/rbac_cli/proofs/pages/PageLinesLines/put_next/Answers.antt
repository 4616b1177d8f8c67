use Rattle.std.proofs.Common.{◌∙◌, ◌<◌, Bool, ap, arith, rules, subst, sym}
use Rattle.std.specs.Prelude.{None}
use Rattle.rbac_cli.specs.PageLeft.{IsPageOpen}
use Rattle.rbac_cli.specs.RowsLeft.{is_every, most_left}
use Rattle.rbac_cli.specs.ShownTokens.{last_line}
use Rattle.rbac_cli.specs.declared.pages.PageLines.{PageLines}
use Rattle.rbac_cli.proofs.PageLemmas.{ends, full, goes_on, not_full, of_last, stops}
use Rattle.rbac_cli.proofs.pages.PageLinesLines.put_next.Goals as goal

pub returns : goal.returns
returns c =
    let page = c.args.self.now in
    let some = not_full page.limit (sym c.eq.ensures ∙ c.if-eq.false) in
    let fewer : most_left c.next.new.self < most_left page.left = search rules in
    rw (c.if-self.false, c.one_less-self.ensures, c.in_ok-put_line.ensures) (
      (c.next.ensures.going, c.in_ok-renew.ensures),
      omega (arith, fewer),
      λ text left. goes_on page text left c.next.new.self c.in-Some.row c.in-Some.ensures.gives c.renew.new.self some c.next.ensures.every,
    )

pub returns-in_default : goal.returns-in_default
returns-in_default c =
    let page = c.args.self.now in
    let last = c.put_last in
    of_last last.result page last.new.self last.new.line.items (last_line (is_every c.next.new.self) None) c.if-self.false (ap (λ (p : PageLines). p.has_ended) last.ensures.ended)
    (subst IsPageOpen (sym last.ensures.ended) (c.next.ensures.going, c.requires.going.1)) last.ensures.more last.ensures.line (λ text h. ends page text h c.in_default.ensures.gives)

pub returns-then-eq : goal.returns-then-eq
returns-then-eq c =
    let page = c.args.self.now in
    let last = c.put_last-then-eq in
    let none = full page.limit (sym c.eq.ensures ∙ c.if-eq.true) in
    of_last last.result page last.new.self last.new.line.items (last_line (is_every c.next.new.self) page.last) c.if-self.false (ap (λ (p : PageLines). p.has_ended) last.ensures.ended)
    (subst IsPageOpen (sym last.ensures.ended) (c.next.ensures.going, c.requires.going.1)) last.ensures.more last.ensures.line
    (λ text h. stops page text h c.next.new.self c.in-Some.row c.in-Some.ensures.gives none ∙ ap (λ (e : Bool). last_line e page.last) (sym c.next.ensures.every))
