use Rattle.std.proofs.Common.{◌≡◌, ◌∙◌, Contains, ap, false, subst, sym, take, true}
use Rattle.rbac_terms.specs.Text.{Text}
use Rattle.rbac_model.specs.Policies.{Held}
use Rattle.rbac_paths.specs.AddingNodes.{IsBoundRole}
use Rattle.rbac_paths.proofs.NodesAdded.{adds_all, adds_more, adds_none}
use Rattle.rbac_paths.proofs.Scopes.{bound, is_own, still_there, unnamed}
use Rattle.rbac_paths.proofs.nodes.add_roles.Goals as goal
use Rattle.rbac_paths.proofs.nodes.add_roles.Goals.{then-is_among+in_ok-add_role, else-is_among}

pub loop-role-init : goal.loop-role-init
loop-role-init c = adds_none (IsBoundRole c.args.policy.now c.args.names.now) c.args.nodes.now

pub loop-role-preserved : goal.loop-role-preserved
loop-role-preserved c =
    let p = c.args.policy.now in
    let names = c.args.names.now in
    let items = c.roles-role-items.result.now in
    let i = c.loop-role.role-index in
    let role = c.role-item.result in
    let old = c.loop-role.nodes in
    let told = c.is_among.ensures in
    let name : c.as_bytes.result.now ≡ role.name = c.as_bytes.ensures in
    elim c.if-is_among.branch [
      | then-is_among+in_ok-add_role w ↦ rw w.nodes-is
          (adds_more (IsBoundRole p names) items i role c.args.nodes.now old w.add_role.new.nodes c.loop-role-test.true c.role-item.is c.loop-role.invariant
          (bound p names role old w.add_role.new.nodes
          (still_there (IsBoundRole p names) (is_own p names) p (take i items) c.args.nodes.now old c.requires.scopes c.loop-role.invariant role.namespace)
          (subst (λ (t : Text). Contains names t) name (told.0 w.if-is_among.true)) w.in_ok-add_role.ensures))
      | else-is_among w ↦ rw w.nodes-is
          (adds_more (IsBoundRole p names) items i role c.args.nodes.now old old c.loop-role-test.true c.role-item.is c.loop-role.invariant
          (unnamed p names role old (λ has. (let both : true ≡ false = sym (told.1 (subst (λ (t : Text). Contains names t) (sym name) has)) ∙ w.if-is_among.false in cc))))
    ]

pub returns : goal.returns
returns c = record {
  added = adds_all (IsBoundRole c.args.policy.now c.args.names.now) c.roles-role-items.result.now c.args.policy.now.held.roles c.loop-role.role-index c.args.nodes.now c.loop-role.nodes
      c.loop-role-test.false (c.roles-role-items.ensures.roles ∙ ap (λ (h : Held). h.roles) c.objects.ensures.held) c.loop-role.invariant;
  policy = c.objects.ensures.policy;
}
