use Rattle.std.proofs.Common.{◌≡◌, ◌∙◌, ◌↔◌, ◌⊎◌, ℕ, List, [], get_or, inl, inr, sym, subst}
use Rattle.std.proofs.lemmas.List.{get_or_default}
use Rattle.rbac_terms.proofs.Cases.{on_ok}
use Rattle.rbac_model.specs.Graphs.{HasPlace}
use Rattle.rbac_model.proofs.reachability.take.Goals as goal

pub returns-then-has-clause-seen : goal.returns-then-has-clause-seen
returns-then-has-clause-seen c =
    let read : c.index-graph-at.result ≡ get_or c.args.graph.now c.args.at [] = c.index-graph-at.is ∙ get_or_default c.args.graph.now c.args.at c.index-graph-at.result [] c.requires in
    on_ok c.add-then-has.result (λ more. subst (λ (row : List ℕ). (k : ℕ) → HasPlace c.add.new.self k ↔ (HasPlace c.args.seen.now k ⊎ HasPlace row k)) read c.in_ok-add.ensures) c.add-then-has.ensures

pub returns-clause-seen : goal.returns-clause-seen
returns-clause-seen c =
    let read : c.index-graph-at.result ≡ get_or c.args.graph.now c.args.at [] = c.index-graph-at.is ∙ get_or_default c.args.graph.now c.args.at c.index-graph-at.result [] c.requires in
    subst (λ (row : List ℕ). (k : ℕ) → HasPlace c.add.new.self k ↔ (HasPlace c.args.seen.now k ⊎ HasPlace row k)) read c.in_ok-add.ensures

pub returns-then-has-clause-done : goal.returns-then-has-clause-done
returns-then-has-clause-done c =
    let read : c.index-graph-at.result ≡ get_or c.args.graph.now c.args.at [] = c.index-graph-at.is ∙ get_or_default c.args.graph.now c.args.at c.index-graph-at.result [] c.requires in
    on_ok c.add-then-has.result (λ more k.
    let M : List ℕ → Type 0 = λ row. HasPlace row k in (
      λ m. elim ((more k).0 m) [
        | inl v ↦ inl ((c.in_ok-insert.ensures k).0 v)
        | inr v ↦ inr (c.has.ensures.0 c.if-has.true, subst M read v)
      ],
      λ w. (more k).1 (elim w [
        | inl v ↦ inl ((c.in_ok-insert.ensures k).1 v)
        | inr v ↦ inr (subst M (sym read) v.1)
      ]),
    )) c.add-then-has.ensures
