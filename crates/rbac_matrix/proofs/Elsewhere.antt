-- what a ClusterRoleBinding allows in a namespace, it allows in the whole cluster
use Rattle.std.proofs.Common.{◌≡◌, List, [], ◌∷◌, Bool, true, false, Contains, ap, ◌∙◌, refl, inl, inr, arith, subst}
use Rattle.std.specs.Prelude.{Option, Some, None, filter, not}
use Rattle.rbac_terms.specs.Text.{Text}
use Rattle.rbac_terms.specs.Targets.{What, Resource, Url}
use Rattle.rbac_terms.specs.Keys.{namespace_at}
use Rattle.rbac_model.specs.Policies.{Held, Grants, IsFirst, Live}
use Rattle.rbac_model.specs.Universes.{UniverseView, RowView, IsMatrix, cell_key}
use Rattle.rbac_universe.proofs.Flattened.{here, in_cons, there}
use Rattle.rbac_matrix.specs.Every.{IsEvery}
use Rattle.rbac_matrix.specs.Once.{RepeatsStandElsewhere, everywhere, is_repeat, repeats_at, without_repeats}

-- a binding that is live in the empty namespace is a ClusterRoleBinding, so it is live in each
-- namespace
live_everywhere : (own : Option Text) (namespace : Text) (t : What) → Live own [] t → Live own namespace t
live_everywhere None namespace t live = tt
live_everywhere (Some own) namespace (Resource group text name) live = absurd (live.0 refl)
live_everywhere (Some own) namespace (Url path) live = absurd live

live_nowhere : (own : Option Text) (t : What) → own ≡ None → Live own [] t
live_nowhere None t e = tt
live_nowhere (Some own) t e = cc

repeats_none : (namespace : Text) (own : Option Text) → repeats_at namespace own ≡ true → own ≡ None
repeats_none namespace None e = refl
repeats_none [] (Some own) e = cc
repeats_none (c ∷ namespace) (Some own) e = cc

at_nowhere : (t : What) → namespace_at [] t ≡ []
at_nowhere (Resource group text name) = refl
at_nowhere (Url path) = refl

once_everywhere : (row : RowView) → is_repeat (everywhere row) ≡ false
once_everywhere row = rw (at_nowhere row.cell.target.0) refl

kept_there : {X : Type 0} (p : X → Bool) (y : X) (xs : List X) (x : X) (b : Bool) → p y ≡ b → Contains (filter p xs) x → Contains (filter p (y ∷ xs)) x
kept_there p y xs x true e w = rw e (there y (filter p xs) x w)
kept_there p y xs x false e w = rw e w

in_kept : {X : Type 0} (p : X → Bool) (xs : List X) (x : X) → Contains xs x → p x ≡ true → Contains (filter p xs) x
in_kept p [] x w e = absurd (omega (arith, w.1))
in_kept p (y ∷ xs) x w e = elim (in_cons y xs x w) [
  | inl same ↦ rw (ap p same ∙ e) (subst (λ z. Contains (y ∷ filter p xs) z) same (here y (filter p xs)))
  | inr v ↦ kept_there p y xs x (p y) refl (in_kept p xs x v e)
]

module _ (h : Held) (row : RowView) (e : is_repeat row ≡ true) where
  binding_none : row.binding.namespace ≡ None
  binding_none = repeats_none (cell_key row.cell).namespace row.binding.namespace e

  grants_everywhere : Grants h row.binding row.cell.who row.cell.namespace row.cell.verb row.cell.target.0 → Grants h row.binding row.cell.who [] row.cell.verb row.cell.target.0
  grants_everywhere grants = (live_nowhere row.binding.namespace row.cell.target.0 binding_none, grants.1, grants.2)

  first_everywhere : IsFirst h row.cell.who row.cell.namespace row.cell.verb row.cell.target.0 row.binding → IsFirst h row.cell.who [] row.cell.verb row.cell.target.0 row.binding
  first_everywhere first = (
    first.0,
    record {
      here = first.1.here;
      holds = grants_everywhere first.1.holds;
      none_before = λ k b lt at grants. first.1.none_before k b lt at (live_everywhere b.namespace row.cell.namespace row.cell.target.0 grants.0, grants.1, grants.2);
    },
  )

stands : (rows : List RowView) (row : RowView) → Contains rows (everywhere row) → Contains (without_repeats rows) (everywhere row)
stands rows row w = in_kept (λ r. not (is_repeat r)) rows (everywhere row) w (rw (once_everywhere row) refl)

pub in_matrix : (held : Held) (u : UniverseView) (rows : List RowView) → IsMatrix held u rows → RepeatsStandElsewhere u rows
in_matrix held u rows is cluster row w e =
    let r = (is.exact row).0 w in
    stands rows row ((is.exact (everywhere row)).1 ((r.0.0, cluster, r.0.2, r.0.3), inr refl, first_everywhere held row e r.2))

pub in_every : (held : Held) (u : UniverseView) (rows : List RowView) → IsEvery held u rows → RepeatsStandElsewhere u rows
in_every held u rows is cluster row w e =
    let r = (is.exact row).0 w in
    stands rows row ((is.exact (everywhere row)).1 ((r.0.0, cluster, r.0.2, r.0.3), inr refl, r.2, grants_everywhere held row e r.3))
