use Rattle.std.proofs.Common.{◌<◌, arith, length, inl, inr, refl}
use Rattle.rbac_terms.proofs.Cases.{on_ok}
use Rattle.rbac_model.proofs.Closing.{one_alike, one_full}
use Rattle.rbac_model.proofs.reachability.close_at.Goals as goal

pub returns-clause-alike : goal.returns-clause-alike
returns-clause-alike c =
    let l : c.args.at < length c.args.graph.now.items = omega (arith, c.len.ensures) in
    on_ok c.insert.result (λ more. one_alike c.args.graph.now.items c.args.at c.in_ok-row.row l (rw c.as_slice.ensures.value at c.in_ok-row.ensures)) c.insert.ensures

pub returns-clause-full : goal.returns-clause-full
returns-clause-full c =
    let l : c.args.at < length c.args.graph.now.items = omega (arith, c.len.ensures) in
    on_ok c.insert.result (one_full c.args.graph.now.items c.args.at c.in_ok-row.row l (rw c.as_slice.ensures.value at c.in_ok-row.ensures) c.args.closed.now c.insert.new.self c.requires.full) c.insert.ensures

pub returns-clause-kept : goal.returns-clause-kept
returns-clause-kept c = on_ok c.insert.result (λ more k has. (more k).1 (inl has)) c.insert.ensures

pub returns-clause-closed : goal.returns-clause-closed
returns-clause-closed c = on_ok c.insert.result (λ more l. (more c.args.at).1 (inr refl)) c.insert.ensures
