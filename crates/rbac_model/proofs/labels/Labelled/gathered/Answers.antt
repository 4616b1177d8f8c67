use Rattle.std.proofs.Common.{◌≡◌, ◌+◌, ◌++◌, ◌∷◌, [], ℕ, Bool, true, not, Some, None, Any, length, ap, arith, take}
use Rattle.std.specs.Prelude.{Option, MatchOption, is_some}
use Rattle.std.proofs.lemmas.List.{take_all}
use Rattle.rbac_terms.specs.Selecting.{Selects}
use Rattle.rbac_model.proofs.Stairs.{take_read}
use Rattle.rbac_model.proofs.LabelSets.{with_nobody, with_either, with_added, with_all, any_push, any_take, none_any}
use Rattle.rbac_model.proofs.labels.Labelled.gathered.Goals as goal

pub loop-selector-init : goal.loop-selector-init
loop-selector-init c = rw c.new-places.ensures (with_nobody c.args.self.now (λ ls. Any (λ s. Selects s ls) []) (λ ls. none_any (λ s. Selects s ls)))

pub loop-selector-preserved : goal.loop-selector-preserved
loop-selector-preserved c =
    let items = c.as_slice-selector-items.result.now in
    let vs = c.args.selectors.now in
    let i = c.loop-selector.selector-index in
    let x = c.selector-item.result in
    let roles = c.args.self.now in
    let more : take (i + 1) vs ≡ take i vs ++ x ∷ [] = rw c.as_slice-selector-items.ensures at (take_read items i x c.loop-selector-test.true c.selector-item.is) in
    rw more (with_either roles (λ ls. Any (λ s. Selects s ls) (take i vs)) (Selects x) (λ ls. Any (λ s. Selects s ls) (take i vs ++ x ∷ []))
    c.loop-selector.places c.add.new.self (with_added roles (Selects x) c.loop-selector.places c.in_ok-selected.field-0 c.add.new.self c.in_ok-add.ensures c.in_ok-selected.ensures)
    c.loop-selector.invariant (λ ls. any_push (λ s. Selects s ls) (take i vs) x))

none_outside : {A : Type 0} (B : ℕ → Type 0) (o : Option ℕ) (b : Bool) → is_some o ≡ not b → b ≡ true → MatchOption o A B → A
none_outside B None b e t m = m
none_outside B (Some k) b e t m = let no = rw t at e in cc

pub returns-then-is_none : goal.returns-then-is_none
returns-then-is_none c =
    let vs = c.args.selectors.now in
    let i = c.loop-selector.selector-index in
    let all = none_outside _ c.first_outside.result c.is_none.result c.is_none.ensures c.if-is_none.true c.first_outside.ensures in
    with_all c.args.self.now (λ ls. Any (λ s. Selects s ls) (take i vs)) (λ ls. Any (λ s. Selects s ls) vs) c.loop-selector.places
    (rw (← c.self.view_is) (λ k l. all k l ((c.self.invariant.0 k).1 l))) c.loop-selector.invariant (λ ls. any_take (λ s. Selects s ls) i vs)

pub returns : goal.returns
returns c =
    let all : take c.loop-selector.selector-index c.args.selectors.now ≡ c.args.selectors.now =
    take_all c.loop-selector.selector-index c.args.selectors.now (omega (arith, c.loop-selector-test.false, ap length c.as_slice-selector-items.ensures)) in
    rw all at c.loop-selector.invariant
