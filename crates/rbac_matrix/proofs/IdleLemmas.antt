-- lines of a principal whose grants are live nowhere, or not in a namespace
use Rattle.std.proofs.Common.{◌≡◌, ℕ, ◌+◌, ◌<◌, List, [], length, length-append, arith, ◌∷◌, ◌++◌, drop, map, refl, ap, ◌∙◌, sym, append_assoc, subst}
use Rattle.std.specs.List.{flat_map}
use Rattle.std.proofs.lemmas.Grind.{flat_map-append}
use Rattle.rbac_terms.specs.Text.{Text}
use Rattle.rbac_model.specs.Policies.{Held, PolicyView, IsPolicy}
use Rattle.rbac_model.specs.Universes.{UniverseView, Cell}
use Rattle.rbac_subjects.specs.Bound.{IsNamedBy}
use Rattle.rbac_matrix.specs.Cells.{AreRowsOf}
use Rattle.rbac_matrix.specs.Cursors.{IsBoundOn, IsCursorAt}
use Rattle.rbac_matrix.specs.Lines.{IsLineAt, LineView, line, line_cells_from, lines_from, namespace_lines, onward, place, verb_lines}
use Rattle.rbac_matrix.specs.Metering.{Skips}
use Rattle.rbac_matrix.specs.declared.line.Place.{Place}
use Rattle.rbac_matrix.proofs.RowLemmas.{rows_append}
use Rattle.rbac_matrix.proofs.LineLemmas.{no_cursors}
use Rattle.rbac_matrix.proofs.LinesLemmas.{lines_of_principal, namespaces_at, verbs_at}
use Rattle.rbac_matrix.proofs.WalkLemmas.{cursor_bound}

cursor_named : (p : PolicyView) (l : LineView) (k : ℕ) → IsCursorAt p l k → IsNamedBy p l.who k
cursor_named p l k c = (c.grant, c.at, c.is.1)

-- whether a grant is bound doesn't depend on the verb
pub bound_alike : (p : PolicyView) (l : LineView) (verb : Text) (k : ℕ) → IsBoundOn p (line l.who l.namespace verb) k → IsBoundOn p l k
unfolding IsBoundOn
bound_alike p l verb k b = b

-- lists of lines without rows
module _ (h : Held) (u : UniverseView) where
  abbrev pub Rowless : List LineView → Type 0
  Rowless ls = AreRowsOf h (flat_map (line_cells_from u 0) ls) []

  pub rowless_both : (ls ms : List LineView) → Rowless ls → Rowless ms → Rowless (ls ++ ms)
  rowless_both ls ms p q = subst (λ (cs : List Cell). AreRowsOf h cs []) (sym (flat_map-append (line_cells_from u 0) ls ms))
      (rows_append h (flat_map (line_cells_from u 0) ls) (flat_map (line_cells_from u 0) ms) [] [] p q)

  rowless_map : {X : Type 0} (f : X → LineView) → ((x : X) → AreRowsOf h (line_cells_from u 0 (f x)) []) → (xs : List X) → Rowless (map f xs)
  rowless_map f none [] = refl
  rowless_map f none (x ∷ xs) = rows_append h (line_cells_from u 0 (f x)) (flat_map (line_cells_from u 0) (map f xs)) [] [] (none x) (rowless_map f none xs)

  rowless_flat : {X : Type 0} (f : X → List LineView) → ((x : X) → Rowless (f x)) → (xs : List X) → Rowless (flat_map f xs)
  rowless_flat f none [] = refl
  rowless_flat f none (x ∷ xs) = rowless_both (f x) (flat_map f xs) (none x) (rowless_flat f none xs)

  rowless_onward : {X : Type 0} (f g : X → List LineView) → ((x : X) → Rowless (f x)) → ((x : X) → Rowless (g x)) → (xs : List X) → Rowless (onward f g xs)
  rowless_onward f g first whole [] = refl
  rowless_onward f g first whole (x ∷ xs) = rowless_both (f x) (flat_map g xs) (first x) (rowless_flat g whole xs)

-- the lines that are passed where a namespace or a principal is skipped
module _ (u : UniverseView) (at : Place) (l : LineView) (here : IsLineAt u at l) where
  pub namespace_over : lines_from u at ≡ verb_lines u l.who at.verb l.namespace ++ lines_from u (place at.principal (at.namespace + 1) 0)
  namespace_over =
      lines_of_principal u at.principal at.namespace at.verb l.who here.principal
      ∙ ap (λ (ls : List LineView). ls ++ lines_from u (place (at.principal + 1) 0 0)) (namespaces_at u l.who at.namespace at.verb l.namespace here.namespace)
      ∙ append_assoc (verb_lines u l.who at.verb l.namespace) (namespace_lines u (at.namespace + 1) 0 l.who) (lines_from u (place (at.principal + 1) 0 0))
      ∙ ap (λ (ls : List LineView). verb_lines u l.who at.verb l.namespace ++ ls) (sym (lines_of_principal u at.principal (at.namespace + 1) 0 l.who here.principal))

  principal_over : lines_from u at ≡ namespace_lines u at.namespace at.verb l.who ++ lines_from u (place (at.principal + 1) 0 0)
  principal_over = lines_of_principal u at.principal at.namespace at.verb l.who here.principal

  some_verbs : 0 < length (verb_lines u l.who at.verb l.namespace)
  some_verbs = let e = ap length (verbs_at u l.who l.namespace at.verb l.verb here.verb) in omega arith

  -- at least one line is passed
  pub fewer_after_namespace : length (lines_from u (place at.principal (at.namespace + 1) 0)) < length (lines_from u at)
  fewer_after_namespace = omega (arith, some_verbs, ap length namespace_over, length-append (verb_lines u l.who at.verb l.namespace) (lines_from u (place at.principal (at.namespace + 1) 0)))

  pub fewer_after_principal : length (lines_from u (place (at.principal + 1) 0 0)) < length (lines_from u at)
  fewer_after_principal =
      let e = ap length (namespaces_at u l.who at.namespace at.verb l.namespace here.namespace) in
      omega (arith, some_verbs, e, ap length principal_over, length-append (verb_lines u l.who at.verb l.namespace) (namespace_lines u (at.namespace + 1) 0 l.who), length-append (namespace_lines u at.namespace at.verb l.who) (lines_from u (place (at.principal + 1) 0 0)))

  module _ (p : PolicyView) (policy : IsPolicy p) where
    -- if no grant of the principal may be live in the namespace, its lines there have no rows
    pub skips_namespace : ((k : ℕ) → IsBoundOn p l k → ⊥) → Skips p.held u at (place at.principal (at.namespace + 1) 0)
    skips_namespace idle = record {
      between = verb_lines u l.who at.verb l.namespace;
      whole = namespace_over;
      none = rowless_map p.held u (line l.who l.namespace) (λ verb. no_cursors p u (line l.who l.namespace verb) policy (λ k c. idle k (bound_alike p l verb k (cursor_bound p (line l.who l.namespace verb) k c)))) (drop at.verb u.verbs);
    }

    -- if no binding names the principal, its lines have no rows
    pub skips_principal : ((k : ℕ) → IsNamedBy p l.who k → ⊥) → Skips p.held u at (place (at.principal + 1) 0 0)
    skips_principal unnamed =
        let verbs : (v : ℕ) (ns : Text) → Rowless p.held u (verb_lines u l.who v ns) = λ v ns.
        rowless_map p.held u (line l.who ns) (λ verb. no_cursors p u (line l.who ns verb) policy (λ k c. unnamed k (cursor_named p (line l.who ns verb) k c))) (drop v u.verbs) in
        record {
          between = namespace_lines u at.namespace at.verb l.who;
          whole = principal_over;
          none = rowless_onward p.held u (verb_lines u l.who at.verb) (verb_lines u l.who 0) (verbs at.verb) (verbs 0) (drop at.namespace u.namespaces);
        }
