-- requests determine the list of their rows, and the rows of more requests follow
use Rattle.std.proofs.Common.{◌≡◌, ℕ, List, [], ◌∷◌, ◌++◌, Contains, inl, inr, sym, ap, ap₂, ◌∙◌, refl, arith, subst}
use Rattle.std.specs.Prelude.{slice_get}
use Rattle.std.proofs.lemmas.Bool.{cases_eq, cases_lt}
use Rattle.std.proofs.lemmas.Option.{same_Some}
use Rattle.rbac_terms.specs.Text.{Text}
use Rattle.rbac_terms.specs.declared.granting.Binding.{Binding}
use Rattle.rbac_model.specs.Lists.{IsFirstAt, by_name, IsAscendingBy}
use Rattle.rbac_model.specs.Policies.{Held, Grants}
use Rattle.rbac_model.specs.Universes.{Cell, RowView}
use Rattle.rbac_model.proofs.NamePlaces.{total}
use Rattle.rbac_universe.proofs.Flattened.{in_cons, here, there}
use Rattle.std.proofs.lemmas.List.Kept.{AllPairs-cons}
use Rattle.std.proofs.lemmas.Cmp.{tied_itself}
use Rattle.std.proofs.Common.{length, get_or, Less, suc}
use Rattle.std.proofs.lemmas.List.Elements.{Contains-get_or}
use Rattle.rbac_matrix.specs.Cells.{HasRow, AreRowsOf}

-- the first element with a property is one element
first_one : {X : Type 0} (P : X → Type 0) (xs : List X) (i j : ℕ) (x y : X) → IsFirstAt P xs i x → IsFirstAt P xs j y → x ≡ y
first_one P xs i j x y f g = elim (cases_lt i j) [
  | inl l ↦ absurd (g.none_before i x l f.here f.holds)
  | inr ge ↦ elim (cases_eq i j) [
    | inl e ↦ same_Some x y (sym f.here ∙ ap (slice_get xs) e ∙ g.here)
    | inr ne ↦ absurd (f.none_before j y (omega arith) g.here g.holds)
  ]
]

abbrev pub row_at : Cell → Binding → RowView
row_at c b = record { cell = c; binding = b }

module _ (h : Held) where
  one_binding : (c : Cell) (a b : Binding) → HasRow h c a → HasRow h c b → a ≡ b
  one_binding c a b p q = first_one (λ d. Grants h d c.who c.namespace c.verb c.target.0) h.bindings p.1.0 q.1.0 a b p.1.1 q.1.1

  pub rows_one : (cs : List Cell) (rs ss : List RowView) → AreRowsOf h cs rs → AreRowsOf h cs ss → rs ≡ ss
  rows_one [] rs ss p q = p ∙ sym q
  rows_one (c ∷ cs) rs ss (inl p) (inl q) =
      p.4 ∙ ap₂ (λ (b : Binding) (l : List RowView). row_at c b ∷ l) (one_binding c p.0 q.0 p.2 q.2) (rows_one cs p.1 q.1 p.3 q.3) ∙ sym q.4
  rows_one (c ∷ cs) rs ss (inl p) (inr q) = absurd (q.0 p.0 p.2)
  rows_one (c ∷ cs) rs ss (inr p) (inl q) = absurd (p.0 q.0 q.2)
  rows_one (c ∷ cs) rs ss (inr p) (inr q) = rows_one cs rs ss p.1 q.1

  pub rows_append : (cs ds : List Cell) (rs ss : List RowView) → AreRowsOf h cs rs → AreRowsOf h ds ss → AreRowsOf h (cs ++ ds) (rs ++ ss)
  rows_append [] ds rs ss p q = rw p q
  rows_append (c ∷ cs) ds rs ss (inl p) q = inl (p.0, p.1 ++ ss, p.2, rows_append cs ds p.1 ss p.3 q, ap (λ (l : List RowView). l ++ ss) p.4)
  rows_append (c ∷ cs) ds rs ss (inr p) q = inr (p.0, rows_append cs ds rs ss p.1 q)

  pub rows_split : (cs ds : List Cell) (rows : List RowView) → AreRowsOf h (cs ++ ds) rows → (rs : List RowView) × (ss : List RowView) × AreRowsOf h cs rs × AreRowsOf h ds ss × (rows ≡ rs ++ ss)
  rows_split [] ds rows p = ([], rows, refl, p, refl)
  rows_split (c ∷ cs) ds rows (inl p) =
      let r = rows_split cs ds p.1 p.3 in
      (row_at c p.0 ∷ r.0, r.1, inl (p.0, r.0, p.2, r.2, refl), r.3, p.4 ∙ ap (λ (l : List RowView). row_at c p.0 ∷ l) r.4)
  rows_split (c ∷ cs) ds rows (inr p) =
      let r = rows_split cs ds rows p.1 in
      (r.0, r.1, inr (p.0, r.2), r.3, r.4)

  -- which rows the requests have
  pub rows_sound : (cs : List Cell) (rows : List RowView) → AreRowsOf h cs rows → (r : RowView) → Contains rows r → Contains cs r.cell × HasRow h r.cell r.binding
  rows_sound [] rows p r w = let l = w.1 in absurd (omega (arith, ap length p))
  rows_sound (c ∷ cs) rows (inl p) r w = elim (in_cons (row_at c p.0) p.1 r (subst (λ (l : List RowView). Contains l r) p.4 w)) [
    | inl e ↦ subst (λ (x : RowView). Contains (c ∷ cs) x.cell × HasRow h x.cell x.binding) e (here c cs, p.2)
    | inr v ↦ let rest = rows_sound cs p.1 p.3 r v in (there c cs r.cell rest.0, rest.1)
  ]
  rows_sound (c ∷ cs) rows (inr p) r w = let rest = rows_sound cs rows p.1 r w in (there c cs r.cell rest.0, rest.1)

  pub rows_complete : (cs : List Cell) (rows : List RowView) → AreRowsOf h cs rows → (r : RowView) → Contains cs r.cell → HasRow h r.cell r.binding → Contains rows r
  rows_complete [] rows p r w has = absurd (omega (arith, w.1))
  rows_complete (c ∷ cs) rows (inl p) r w has = subst (λ (l : List RowView). Contains l r) (sym p.4) (elim (in_cons c cs r.cell w) [
    | inl e ↦
        let same : p.0 ≡ r.binding = one_binding r.cell p.0 r.binding (subst (λ (x : Cell). HasRow h x p.0) e p.2) has in
        let row : row_at c p.0 ≡ r = ap₂ (λ (x : Cell) (b : Binding). row_at x b) e same in
        (0, omega arith, row)
    | inr v ↦ there (row_at c p.0) p.1 r (rows_complete cs p.1 p.3 r v has)
  ])
  rows_complete (c ∷ cs) rows (inr p) r w has = elim (in_cons c cs r.cell w) [
    | inl e ↦ absurd (p.0 r.binding (subst (λ (x : Cell). HasRow h x r.binding) (sym e) has))
    | inr v ↦ rows_complete cs rows p.1 r v has
  ]

-- ascending lists
module _ {X : Type 0} (name : X → List Text) where
  pub not_below_itself : (x : X) → by_name name x x ≡ Less → ⊥
  not_below_itself x e = let f = tied_itself (total name) x in cc

  pub tail_ascends : (x : X) (xs : List X) → IsAscendingBy name (x ∷ xs) → IsAscendingBy name xs
  tail_ascends x xs up i j d lt l = up (suc i) (suc j) d (omega arith) (omega arith)

  pub head_below : (x : X) (xs : List X) (y : X) → IsAscendingBy name (x ∷ xs) → Contains xs y → by_name name x y ≡ Less
  head_below x xs y up w = rw w.2 at (up 0 (suc w.0) y (omega arith) (omega (arith, w.1)))

-- rows of requests in the order of some name
module _ (h : Held) (name : Cell → List Text) where
  abbrev row_name : RowView → List Text
  row_name r = name r.cell

  pub rows_ascend : (cs : List Cell) (rows : List RowView) → AreRowsOf h cs rows → IsAscendingBy name cs → IsAscendingBy row_name rows
  rows_ascend [] rows p up = rw p (λ i j d lt l. absurd (omega arith))
  rows_ascend (c ∷ cs) rows (inl p) up = rw p.4 (
      AllPairs-cons (λ a b. by_name row_name a b ≡ Less) (row_at c p.0) p.1
      (λ k d l. head_below name c cs (get_or p.1 k d).cell up (rows_sound h cs p.1 p.3 (get_or p.1 k d) (Contains-get_or p.1 k d l)).0)
      (rows_ascend cs p.1 p.3 (tail_ascends name c cs up))
      )
  rows_ascend (c ∷ cs) rows (inr p) up = rows_ascend cs rows p.1 (tail_ascends name c cs up)

  -- ascending rows that are exactly the rows of the requests are the list of their rows
  pub rows_from : (cs : List Cell) (rows : List RowView) → IsAscendingBy name cs → IsAscendingBy row_name rows
      → ((r : RowView) → Contains rows r → Contains cs r.cell × HasRow h r.cell r.binding)
      → ((r : RowView) → Contains cs r.cell → HasRow h r.cell r.binding → Contains rows r) → AreRowsOf h cs rows
  rows_from [] [] up vp f g = refl
  rows_from [] (r ∷ rows) up vp f g = absurd (omega (arith, (f r (here r rows)).0.1))
  rows_from (c ∷ cs) [] up vp f g = inr (
    λ b has. absurd (omega (arith, (g (row_at c b) (here c cs) has).1)),
    rows_from cs [] (tail_ascends name c cs up) vp (λ r w. absurd (omega (arith, w.1))) (λ r w has. g r (there c cs r.cell w) has),
  )
  rows_from (c ∷ cs) (r ∷ rows) up vp f g = elim (in_cons c cs r.cell (f r (here r rows)).0) [
    | inl e ↦ inl (
      r.binding,
      rows,
      subst (λ (x : Cell). HasRow h x r.binding) (sym e) (f r (here r rows)).1,
      rows_from cs rows (tail_ascends name c cs up) (tail_ascends row_name r rows vp)
          (λ x w.
          let p = f x (there r rows x w) in (
            elim (in_cons c cs x.cell p.0) [
              | inl q ↦ absurd (not_below_itself name r.cell (subst (λ (y : Cell). by_name name r.cell y ≡ Less) (sym q ∙ e) (head_below row_name r rows x vp w)))
              | inr v ↦ v
            ],
            p.1,
          ))
          (λ x w has. elim (in_cons r rows x (g x (there c cs x.cell w) has)) [
            | inl q ↦ absurd (not_below_itself name c (subst (λ (y : Cell). by_name name c y ≡ Less) (sym (ap (λ (y : RowView). y.cell) q) ∙ sym e) (head_below name c cs x.cell up w)))
            | inr v ↦ v
          ]),
      ap (λ (x : Cell). row_at x r.binding ∷ rows) (sym e),
    )
    | inr w ↦
        let below = head_below name c cs r.cell up w in
        inr (
          λ b has. elim (in_cons r rows (row_at c b) (g (row_at c b) (here c cs) has)) [
            | inl q ↦ not_below_itself name c (subst (λ (y : Cell). by_name name c y ≡ Less) (ap (λ (y : RowView). y.cell) q) below)
            | inr v ↦ not_below_itself name c ((total name).trans c r.cell c below (head_below row_name r rows (row_at c b) vp v))
          ],
          rows_from cs (r ∷ rows) (tail_ascends name c cs up) vp
              (λ x v.
              let p = f x v in (
                elim (in_cons c cs x.cell p.0) [
                  | inl q ↦ absurd (elim (in_cons r rows x v) [
                    | inl s ↦ not_below_itself name c (subst (λ (y : Cell). by_name name c y ≡ Less) (ap (λ (y : RowView). y.cell) s ∙ sym q) below)
                    | inr s ↦ not_below_itself name c (subst (λ (y : Cell). by_name name c y ≡ Less) (sym q) ((total name).trans c r.cell x.cell below (head_below row_name r rows x vp s)))
                  ])
                  | inr u ↦ u
                ],
                p.1,
              ))
              (λ x v has. g x (there c cs x.cell v) has),
        )
  ]
