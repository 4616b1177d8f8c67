-- A holding takes over a node by a row exactly if it counts for the row's requests in the node's
-- namespace, and its rule allows one of them for a node with this name.
use Rattle.std.proofs.Common.{◌≡◌, ◌↔◌, ◌++◌, ◌∷◌, [], None, Option, Some, Any, List, arith, inl, inr, refl, subst}
use Rattle.rbac_terms.specs.Text.{Text}
use Rattle.rbac_terms.specs.Targets.{Resource}
use Rattle.rbac_model.proofs.LabelSets.{any_push}
use Rattle.rbac_model.specs.Policies.{Live}
use Rattle.rbac_paths.specs.Asked.{AllowsAsked, AllowsAskedRow, AllowsRowFor, AreAskedFor, AskedRowView, RowAsks}
use Rattle.rbac_paths.specs.Having.{HoldingView}
use Rattle.rbac_paths.specs.Nodes.{NodeView}
use Rattle.rbac_paths.specs.Steps.{StepRowView, asked_in}
use Rattle.rbac_paths.specs.Taking.{IsOver, RowTakes}

-- a binding that is live for a resource is live for every resource there
live_for : (home : Option Text) (asked group text name : Text) → Live home asked (Resource group text name) → (t n : Text) → Live home asked (Resource group t n)
live_for None asked group text name live t n = tt
live_for (Some own) asked group text name live t n = live

module _ (row : StepRowView) (y : NodeView) (namespace own : Text) (one : (n o : Text) → IsOver row.over row.counts y n o ↔ ((n ≡ namespace) × (o ≡ own))) where
  pub asked_takes : (h : HoldingView) → AllowsAsked row namespace own h ↔ RowTakes row h.home h.rule y
  asked_takes h = (
    λ a. record {
      namespace = namespace;
      own = own;
      verb = a.1.verb;
      text = a.1.text;
      name = a.1.name;
      over = (one namespace own).1 (refl, refl);
      of_verbs = a.1.of_verbs;
      of_resources = a.1.of_resources;
      named = a.1.named;
      live = a.0 a.1.text a.1.name;
      allows = a.1.allows;
    },
    λ w. (let same = (one w.namespace w.own).0 w.over in (
      live_for h.home (asked_in row.counts namespace) row.group w.text w.name (subst (λ (n : Text). Live h.home (asked_in row.counts n) (Resource row.group w.text w.name)) same.0 w.live),
      subst (λ (o : Text). AllowsRowFor row o h.rule) same.1 (record {
        verb = w.verb;
        text = w.text;
        name = w.name;
        of_verbs = w.of_verbs;
        of_resources = w.of_resources;
        named = w.named;
        allows = w.allows;
      }),
    )),
  )

  pub some_asked : (hs : List HoldingView) → Any (AllowsAsked row namespace own) hs ↔ Any (λ h. RowTakes row h.home h.rule y) hs
  some_asked hs = (λ a. (a.0, a.1, a.2, a.3, (asked_takes a.1).0 a.4), λ a. (a.0, a.1, a.2, a.3, (asked_takes a.1).1 a.4))

-- no holding takes over a node by a row that can't take over the node
pub none_asked : (row : StepRowView) (y : NodeView) → ((n o : Text) → ¬ IsOver row.over row.counts y n o) → (h : HoldingView) → ¬ RowTakes row h.home h.rule y
none_asked row y none h w = none w.namespace w.own w.over

-- ---- row by row

pub asked_none : (y : NodeView) → AreAskedFor [] y []
asked_none y h = (λ a. absurd (let low = a.2 in omega (arith, low)), λ a. absurd (let low = a.2 in omega (arith, low)))

module _ (y : NodeView) (rows : List StepRowView) (row : StepRowView) (asked : List AskedRowView) where
  pub asked_more : (a : AskedRowView) → AreAskedFor rows y asked → ((h : HoldingView) → AllowsAskedRow h a ↔ RowTakes row h.home h.rule y) → AreAskedFor (rows ++ row ∷ []) y (asked ++ a ∷ [])
  asked_more a are one h =
      let here = any_push (AllowsAskedRow h) asked a in
      let there = any_push (λ r. RowTakes r h.home h.rule y) rows row in (
        λ t. elim (here.0 t) [ inl old ↦ there.1 (inl ((are h).0 old)) | inr new ↦ there.1 (inr ((one h).0 new)) ],
        λ t. elim (there.0 t) [ inl old ↦ here.1 (inl ((are h).1 old)) | inr new ↦ here.1 (inr ((one h).1 new)) ],
      )

  pub asked_same : AreAskedFor rows y asked → (o : Option AskedRowView) → RowAsks row y o → ((a : AskedRowView) → ¬ (o ≡ Some a)) → AreAskedFor (rows ++ row ∷ []) y asked
  asked_same are (Some a) is none h = absurd (none a refl)
  asked_same are None is none h =
      let there = any_push (λ r. RowTakes r h.home h.rule y) rows row in (
        λ t. there.1 (inl ((are h).0 t)),
        λ t. elim (there.0 t) [ inl old ↦ (are h).1 old | inr new ↦ absurd (is h new) ],
      )
