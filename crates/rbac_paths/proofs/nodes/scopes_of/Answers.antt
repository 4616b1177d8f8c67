use Rattle.std.proofs.Common.{◌≡◌, ◌∙◌, ◌+◌, [], Bor, List, None, Option, map, subst, sym, take}
use Rattle.std.specs.Option.{option_copied, option_eq}
use Rattle.std.specs.Str.{bytes_eq}
use Rattle.std.proofs.lemmas.Bool.{not-false}
use Rattle.std.proofs.lemmas.List.{take_all}
use Rattle.rbac_terms.specs.Text.{Text}
use Rattle.rbac_terms.specs.declared.granting.Binding.{Binding}
use Rattle.rbac_model.proofs.Stairs.{take_read}
use Rattle.rbac_paths.specs.AddingNodes.{filled_namespace}
use Rattle.rbac_paths.proofs.Scopes.{AreScopesOf, all_scopes, same_option, scopes_none, scopes_pushed, scopes_same}
use Rattle.rbac_paths.proofs.nodes.scopes_of.Goals as goal
use Rattle.rbac_paths.proofs.nodes.scopes_of.Goals.{then-ne+in_ok-push, else-ne}

abbrev copied : Option (Bor Text) → Option Text
copied scope = option_copied scope

pub loop-binding-init : goal.loop-binding-init
loop-binding-init c = subst (λ (xs : List (Option (Bor Text))). AreScopesOf [] (map copied xs) None) (sym c.in_ok-scopes.ensures.items) scopes_none

pub loop-binding-preserved : goal.loop-binding-preserved
loop-binding-preserved c =
    let items = c.bindings-binding-items.result.now in
    let i = c.loop-binding.binding-index in
    let b = c.binding-item.result in
    let own : copied c.scope_of-scope.result ≡ filled_namespace b.namespace = c.scope_of-scope.ensures in
    let passed = take_read items i b c.loop-binding-test.true c.binding-item.is in
    elim c.if-ne.branch [
      | then-ne+in_ok-push w ↦ rw (w.last-is, w.scopes-is)
          (scopes_pushed copied (take i items) (take (i + 1) items) b c.loop-binding.scopes.items w.push.new.self.items c.loop-binding.last c.scope_of-scope.result
          passed w.in_ok-push.ensures.items own c.loop-binding.invariant)
      | else-ne w ↦ (let same = same_option c.scope_of-scope.result c.loop-binding.last (not-false (option_eq (λ x y. bytes_eq x.now y.now) c.scope_of-scope.result c.loop-binding.last) (sym c.ne.ensures ∙ w.if-ne.false)) in
          rw (w.last-is, w.scopes-is)
          (subst (λ (bs : List Binding). AreScopesOf bs (map copied c.loop-binding.scopes.items) (copied c.loop-binding.last)) (sym passed)
          (scopes_same (take i items) b (map copied c.loop-binding.scopes.items) (copied c.loop-binding.last) c.loop-binding.invariant (sym own ∙ same))))
    ]

pub returns : goal.returns
returns c =
    let items = c.bindings-binding-items.result.now in
    let ss = map copied c.loop-binding.scopes.items in
    let last = copied c.loop-binding.last in
    all_scopes c.args.policy.now ss last
    (subst (λ (bs : List Binding). AreScopesOf bs ss last)
    (take_all c.loop-binding.binding-index items c.loop-binding-test.false ∙ c.bindings-binding-items.ensures.bindings) c.loop-binding.invariant)
