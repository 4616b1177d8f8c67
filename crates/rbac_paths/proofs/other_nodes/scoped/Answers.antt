use Rattle.std.proofs.Common.{List, None, subst, sym}
use Rattle.std.proofs.lemmas.Result.{IfOk-weaker}
use Rattle.rbac_paths.specs.Having.{HoldingView}
use Rattle.rbac_paths.specs.Joints.{AreOverOthers, AreScoped}
use Rattle.rbac_paths.specs.Nodes.{EverythingIn}
use Rattle.rbac_steps.specs.declared.steps.Step.{Step}
use Rattle.rbac_paths.proofs.InScopes.{scoped_few, scoped_none}
use Rattle.rbac_paths.proofs.Others.{about_node}
use Rattle.rbac_paths.proofs.Untold.{has_all}
use Rattle.rbac_paths.proofs.other_nodes.scoped.Goals as goal

pub returns-then-has_all : goal.returns-then-has_all
returns-then-has_all c p x decide =
    let steps = c.args.steps.now in
    let hs = c.args.holdings.now in
    let all = has_all p x hs steps (EverythingIn None) (about_node p steps x hs decide (EverythingIn None) tt) None (c.has_all.ensures.0 c.if-has_all.true) in
    subst (λ (few : List HoldingView). AreScoped p steps x few) (sym c.new.ensures.items) (scoped_none p steps x hs decide all)

pub returns : goal.returns
returns c p x decide =
    let hs = c.args.holdings.now in
    IfOk-weaker c.over_others.result _ (λ few. AreScoped p c.args.steps.now x few.items)
    (λ few are. scoped_few p c.args.steps.now x hs decide few.items (subst (λ (ss : List Step). AreOverOthers ss hs few.items) c.requires are)) c.over_others.ensures
