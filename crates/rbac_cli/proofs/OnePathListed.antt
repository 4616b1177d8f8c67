-- The lines of one path are lines of all paths.
use Rattle.std.proofs.Common.{◌≡◌, ◌∙◌, ◌++◌, ◌∷◌, [], List, All, Any, Contains, Some, ap, inl, inr, subst, sym}
use Rattle.std.proofs.lemmas.List.Elements.{All-nil}
use Rattle.rbac_model.proofs.OwnWords.{any_from}
use Rattle.rbac_terms.specs.Text.{Text}
use Rattle.rbac_terms.specs.Principals.{Who}
use Rattle.rbac_paths.specs.Nodes.{NodeView, Somebody}
use Rattle.rbac_paths.specs.OnePath.{Connects, IsPathTo, IsTo}
use Rattle.rbac_paths.specs.Paths.{PathView}
use Rattle.rbac_question.specs.declared.path_end.PathEnd.{PathEnd}
use Rattle.rbac_cli.specs.Agreement.{PathAgrees}
use Rattle.rbac_cli.specs.Out.{paths_status, paths_text}
use Rattle.rbac_cli.specs.declared.outcome.Status.{Status}
use Rattle.rbac_cli.specs.declared.outcome.Status.TheVariants.{One, Zero}

some_path : (to : PathEnd) (earlier : List PathView) (end : PathView) → paths_status (Some to) (earlier ++ end ∷ []) ≡ One → ⊥
some_path to [] end e = cc
some_path to (x ∷ earlier) end e = cc

module _ (to : PathEnd) (paths : List PathView) where
  abbrev Leads : PathView → Type 0
  Leads x = IsTo to.what to.namespace x.node

  pub agrees : (all path : List PathView) (text other : Text) (ending : Status) (who : Who) → all ≡ paths → text ≡ paths_text all → IsPathTo (Somebody who) to.what to.namespace paths path
      → other ≡ paths_text path → ending ≡ paths_status (Some to) path → PathAgrees to text other ending
  agrees all path text other ending who same e (inl (none, without)) f z = record {
    paths = paths;
    lines_of_paths = e ∙ ap paths_text same;
    path = path;
    lines_of_path = f;
    listed = subst (All (Contains paths)) (sym none) (All-nil (Contains paths));
    status = (λ one. without, λ not. z ∙ ap (paths_status (Some to)) none);
    none = λ one. f ∙ ap paths_text none;
  }
  agrees all path text other ending who same e (inr c) f z =
      let never : ending ≡ One → ⊥ = λ one. some_path to c.earlier c.end (ap (paths_status (Some to)) (sym c.ends) ∙ sym z ∙ one) in
      record {
        paths = paths;
        lines_of_paths = e ∙ ap paths_text same;
        path = path;
        lines_of_path = f;
        listed = c.listed;
        status = (λ one. absurd (never one), λ not. absurd (not (any_from Leads paths c.end c.is.listed c.is.is)));
        none = λ one. absurd (never one);
      }
