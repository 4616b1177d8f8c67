use Rattle.std.proofs.Common.{◌∙◌, sym}
use Rattle.std.specs.Prelude.{codes}
use Rattle.std.proofs.lemmas.Slice.Eq.{bytes_eq-Decides}
use Rattle.clap.specs.Words.{found_of, rows_of}
use Rattle.rbac_command.proofs.Actions.{the_other, can_i_line, diff_line, least_line, lint_line, matrix_line, paths_line, rules_line, unused_line, who_can_line}
use Rattle.rbac_command.proofs.read.action_of.Goals as goal

pub returns-then-eq : goal.returns-then-eq
returns-then-eq c =
    matrix_line c.args.name.now (rows_of (found_of c.args.matches.now)) _ c.matrix.result
    ((bytes_eq-Decides c.args.name.now (codes "matrix")).0 (sym c.eq.ensures ∙ c.if-eq.true)) c.matrix_line_of.ensures.options
    c.matrix_line_of.ensures.after c.matrix_line_of.ensures.limit c.matrix.ensures

pub returns-then-eq-2 : goal.returns-then-eq-2
returns-then-eq-2 c =
    who_can_line c.args.name.now (rows_of (found_of c.args.matches.now)) _ c.who_can.result
    ((bytes_eq-Decides c.args.name.now (codes "who-can")).0 (sym c.eq-2.ensures ∙ c.if-eq-2.true)) c.who_can_line_of.ensures c.who_can.ensures.answer

pub returns-then-eq-3 : goal.returns-then-eq-3
returns-then-eq-3 c =
    rules_line c.args.name.now (rows_of (found_of c.args.matches.now)) _ c.rules.result
    ((bytes_eq-Decides c.args.name.now (codes "rules")).0 (sym c.eq-3.ensures ∙ c.if-eq-3.true)) c.rules_line_of.ensures c.rules.ensures.answer

pub returns-then-eq-4 : goal.returns-then-eq-4
returns-then-eq-4 c = (bytes_eq-Decides c.args.name.now (codes "universe")).0 (sym c.eq-4.ensures ∙ c.if-eq-4.true)

pub returns-then-eq-5 : goal.returns-then-eq-5
returns-then-eq-5 c =
    lint_line c.args.name.now (rows_of (found_of c.args.matches.now)) _ c.lint.result
    ((bytes_eq-Decides c.args.name.now (codes "lint")).0 (sym c.eq-5.ensures ∙ c.if-eq-5.true)) c.lint_line_of.ensures c.lint.ensures.answer

pub returns-then-eq-6 : goal.returns-then-eq-6
returns-then-eq-6 c = (bytes_eq-Decides c.args.name.now (codes "powers")).0 (sym c.eq-6.ensures ∙ c.if-eq-6.true)

pub returns-then-eq-7 : goal.returns-then-eq-7
returns-then-eq-7 c =
    paths_line c.args.name.now (rows_of (found_of c.args.matches.now)) _ c.paths.result
    ((bytes_eq-Decides c.args.name.now (codes "paths")).0 (sym c.eq-7.ensures ∙ c.if-eq-7.true)) c.paths_line_of.ensures c.paths.ensures.answer

pub returns-then-eq-8 : goal.returns-then-eq-8
returns-then-eq-8 c =
    diff_line c.args.name.now (rows_of (found_of c.args.matches.now)) _ c.diff.result
    ((bytes_eq-Decides c.args.name.now (codes "diff")).0 (sym c.eq-8.ensures ∙ c.if-eq-8.true)) c.diff_line_of.ensures c.diff.ensures

pub returns-then-eq-9 : goal.returns-then-eq-9
returns-then-eq-9 c =
    unused_line c.args.name.now (rows_of (found_of c.args.matches.now)) _ c.unused.result
    ((bytes_eq-Decides c.args.name.now (codes "unused")).0 (sym c.eq-9.ensures ∙ c.if-eq-9.true)) c.unused_line_of.ensures c.unused.ensures

pub returns-then-eq-10 : goal.returns-then-eq-10
returns-then-eq-10 c =
    least_line c.args.name.now (rows_of (found_of c.args.matches.now)) _ c.least.result
    ((bytes_eq-Decides c.args.name.now (codes "least")).0 (sym c.eq-10.ensures ∙ c.if-eq-10.true)) c.least_line_of.ensures c.least.ensures.answer

pub returns : goal.returns
returns c =
    can_i_line c.args.name.now (rows_of (found_of c.args.matches.now)) _ c.can_i.result
    (the_other c.args.name.now c.eq.result c.eq-2.result c.eq-3.result c.eq-4.result c.eq-5.result c.eq-6.result c.eq-7.result c.eq-8.result c.eq-9.result c.eq-10.result c.requires c.eq.ensures c.if-eq.false
    c.eq-2.ensures c.if-eq-2.false c.eq-3.ensures c.if-eq-3.false c.eq-4.ensures c.if-eq-4.false c.eq-5.ensures c.if-eq-5.false c.eq-6.ensures c.if-eq-6.false
    c.eq-7.ensures c.if-eq-7.false c.eq-8.ensures c.if-eq-8.false c.eq-9.ensures c.if-eq-9.false c.eq-10.ensures c.if-eq-10.false)
    c.line_of.ensures c.can_i.ensures.answer
