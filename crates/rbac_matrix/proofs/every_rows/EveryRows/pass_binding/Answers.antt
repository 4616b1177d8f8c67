use Rattle.std.proofs.Common.{ℕ, ◌∙◌, ◌+◌, arith, ap, inr, refl}
use Rattle.std.specs.Prelude.{Some}
use Rattle.rbac_matrix.proofs.EveryLemmas.{passes_below, passes_own}
use Rattle.rbac_matrix.proofs.OnceEveryLemmas.{begins_first}
use Rattle.rbac_matrix.proofs.OnceLemmas.{mixed_way}
use Rattle.rbac_matrix.proofs.every_rows.EveryRows.pass_binding.Goals as goal

pub pass-requires-clause-going : goal.pass-requires-clause-going
pass-requires-clause-going c =
    let low = begins_first c.args.self.now.rows.index.now c.args.no c.args.self.now.binding c.args.self.now.upto c.requires.binding in
    let high = passes_own c.args.self.now.rows.index.now c.args.no c.after_binding-binding.result.0 c.after_binding-binding.result.1 c.after_binding-binding.ensures in
    (c.args.self.now.upto, omega arith, c.requires.going.way)

pub returns-clause-place : goal.returns-clause-place
returns-clause-place c =
    let h = c.after_binding-binding.ensures in
    let b = c.requires.binding in
    let same = (b.own c.args.no h.at h.of).0 ((b.own c.args.no c.args.self.now.binding b.of).1 refl) in
    (c.pass.ensures.place.0, c.pass.ensures.place.1, h.is ∙ ap (λ (n : ℕ). n + 1) same, c.pass.ensures.place.2)

pub returns-clause-going : goal.returns-clause-going
returns-clause-going c = record {
  way = mixed_way c.pass.new.self (Some c.pass.new.self.at) c.after_binding-binding.result.1 c.pass.ensures.way;
  below = rw c.pass.ensures.same.index (passes_below c.args.self.now.rows.index.now c.args.no c.after_binding-binding.result.0 c.after_binding-binding.result.1 c.after_binding-binding.ensures);
  within = inr (rw (c.pass.ensures.place.1, c.pass.ensures.same.universe) c.requires.within);
}
