use Rattle.std.proofs.Common.{Bor, List, ℕ, subst, arith}
use Rattle.rbac_lint.proofs.Looked.{Narrows, narrows_start, narrows_more, narrowed, narrowed_none, last_ascends}
use Rattle.rbac_lint.proofs.redundant_rule.first_of.Goals as goal

pub loop-listed-init : goal.loop-listed-init
loop-listed-init c = narrows_start c.args.rules.now c.args.place c.args.rule.now c.args.candidates c.requires.here c.requires.complete

pub first_listed-first-requires-clause-ascending : goal.first_listed-first-requires-clause-ascending
first_listed-first-requires-clause-ascending c =
    last_ascends c.args.rules.now c.args.place c.pop.new.self.items c.in-Some.listed c.loop-listed.first
    (subst (λ (ls : List (Bor (List ℕ))). Narrows c.args.rules.now c.args.place ls c.loop-listed.first) c.in-Some.ensures.items c.loop-listed.invariant)

pub loop-listed-preserved : goal.loop-listed-preserved
loop-listed-preserved c =
    narrows_more c.args.rules.now c.args.place c.pop.new.self.items c.in-Some.listed c.loop-listed.first c.first_listed-first.result
    (subst (λ (ls : List (Bor (List ℕ))). Narrows c.args.rules.now c.args.place ls c.loop-listed.first) c.in-Some.ensures.items c.loop-listed.invariant)
    c.first_listed-first.ensures

pub returns-then-first-rules-clause-least : goal.returns-then-first-rules-clause-least
returns-then-first-rules-clause-least c =
    narrowed c.args.rules.now c.args.place c.loop-listed.first c.loop-listed.candidates.lists.items (omega (arith, c.in_default.ensures.cases.0)) c.loop-listed.invariant (omega arith)

pub returns-clause-least : goal.returns-clause-least
returns-clause-least c =
    narrowed_none c.args.rules.now c.args.place c.loop-listed.first c.loop-listed.candidates.lists.items (omega (arith, c.in_default.ensures.cases.0)) c.loop-listed.invariant (omega arith)
