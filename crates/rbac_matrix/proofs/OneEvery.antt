-- the rows of every granting binding are the granted pairs of requests and bindings; they exist,
-- and are one list
use Rattle.std.proofs.Common.{◌≡◌, ℕ, ◌<◌, List, [], ◌∷◌, ◌++◌, length, get_or, Contains, Less, ap, ap₂, ◌∙◌, refl, arith, subst, inl, inr}
use Rattle.std.specs.Ordering.{ordering_then}
use Rattle.std.specs.Cmp.Lexicographic.{slice_cmp}
use Rattle.std.proofs.lemmas.Cmp.{tied_itself}
use Rattle.std.proofs.lemmas.List.Elements.{Contains-get_or}
use Rattle.rbac_terms.specs.Text.{Text, text_cmp}
use Rattle.rbac_terms.specs.declared.granting.Binding.{Binding}
use Rattle.rbac_model.specs.Lists.{by_name, IsAscendingBy}
use Rattle.rbac_model.specs.Policies.{Held, IsHeld, PolicyView, IsPolicy, GrantView, SourcedRule, AreGrantsOf, AreRulesFor, binding_name}
use Rattle.rbac_model.specs.Universes.{UniverseView, IsUniverse, Cell, RowView, IsCellOf, Fits}
use Rattle.rbac_model.proofs.NamePlaces.{total}
use Rattle.rbac_model.proofs.OneList.{one_list}
use Rattle.rbac_universe.proofs.Flattened.{contains_flat, contains_map, flat_contains, in_cons, map_contains, pairs_flat, pairs_map}
use Rattle.rbac_matrix.specs.Cells.{cells_of}
use Rattle.rbac_matrix.specs.Every.{IsEvery, every_name}
use Rattle.rbac_matrix.specs.Pairs.{AreThose, IsGranted, cell_pairs, pair_of, pairs_of}
use Rattle.rbac_matrix.specs.Starting.{cell_name}
use Rattle.rbac_model.proofs.Decided.{both, either, is_nil, is_true}
use Rattle.rbac_matrix.proofs.Decided.{Decided, grants}
use Rattle.rbac_matrix.proofs.Orders.{cmp_append, first_less, first_tied}
use Rattle.rbac_matrix.proofs.Product.{cells_ascend, cells_in, in_cells, key_texts}
use Rattle.rbac_matrix.proofs.ThoseLemmas.{some_those, those_ascend, those_complete, those_sound}

pub one_every : (h : Held) (u : UniverseView) (rows others : List RowView) → IsEvery h u rows → IsEvery h u others → rows ≡ others
one_every h u rows others m n =
    one_list every_name rows others m.ordered n.ordered (λ r w. (n.exact r).1 ((m.exact r).0 w)) (λ r w. (m.exact r).1 ((n.exact r).0 w))

-- ---- the pairs, and their order

pub in_pairs : (bs : List Binding) (cs : List Cell) (r : RowView) → Contains (pairs_of bs cs) r → Contains cs r.cell × Contains bs r.binding
in_pairs bs cs r w =
    let c = contains_flat (cell_pairs bs) cs r w in
    let b = contains_map (pair_of c.0) bs r c.2 in
    (subst (λ (x : RowView). Contains cs x.cell) b.2 c.1, subst (λ (x : RowView). Contains bs x.binding) b.2 b.1)

pub pairs_in : (bs : List Binding) (cs : List Cell) (r : RowView) → Contains cs r.cell → Contains bs r.binding → Contains (pairs_of bs cs) r
pairs_in bs cs r w v = flat_contains (cell_pairs bs) cs r.cell r w (map_contains (pair_of r.cell) bs r.binding v)

-- pairs are in order of the texts of their request, then of the texts of their binding
abbrev pub pair_name : RowView → List Text
pair_name r = cell_name r.cell ++ binding_name r.binding

name_parts : (a b : RowView) → by_name pair_name a b ≡ ordering_then (by_name cell_name a.cell b.cell) (by_name binding_name a.binding b.binding)
name_parts a b = cmp_append (cell_name a.cell) (cell_name b.cell) refl (binding_name a.binding) (binding_name b.binding)

by_cell : (a b : RowView) → by_name cell_name a.cell b.cell ≡ Less → by_name pair_name a b ≡ Less
by_cell a b less = name_parts a b ∙ first_less (by_name cell_name a.cell b.cell) (by_name binding_name a.binding b.binding) less

by_binding : (c : Cell) (a b : Binding) → by_name binding_name a b ≡ Less → by_name pair_name (pair_of c a) (pair_of c b) ≡ Less
by_binding c a b less =
    name_parts (pair_of c a) (pair_of c b) ∙ first_tied (by_name cell_name c c) (by_name binding_name a b) (tied_itself (total cell_name) c) ∙ less

pub pairs_ascend : (bs : List Binding) (cs : List Cell) → IsAscendingBy binding_name bs → IsAscendingBy cell_name cs → IsAscendingBy pair_name (pairs_of bs cs)
pairs_ascend bs cs up across =
    pairs_flat (λ (a b : RowView). by_name pair_name a b ≡ Less) (λ (c d : Cell). by_name cell_name c d ≡ Less) (cell_pairs bs) cs
    (λ c w. pairs_map (λ (a b : RowView). by_name pair_name a b ≡ Less) (pair_of c) bs (λ i j d lt l. by_binding c (get_or bs i d) (get_or bs j d) (up i j d lt l)))
    (λ c d p q less a b x y.
    let of = contains_map (pair_of c) bs a x in
    let other = contains_map (pair_of d) bs b y in
    let first : c ≡ a.cell = ap (λ (r : RowView). r.cell) of.2 in
    let second : d ≡ b.cell = ap (λ (r : RowView). r.cell) other.2 in
    by_cell a b (subst (λ (z : Cell). by_name cell_name z b.cell ≡ Less) first (subst (λ (z : Cell). by_name cell_name c z ≡ Less) second less)))
    across

module _ (h : Held) (u : UniverseView) (held : IsHeld h) (is : IsUniverse u) where
  abbrev pairs : List RowView
  pairs = pairs_of h.bindings (cells_of u)

  in_order : IsAscendingBy pair_name pairs
  in_order = pairs_ascend h.bindings (cells_of u) held.bindings (cells_ascend u is)

  -- if a row's request fits, the row has the same texts in both orders
  same_name : (r : RowView) → IsCellOf u r.cell → Fits r.cell → every_name r ≡ pair_name r
  same_name r of fits = ap (λ (ts : List Text). ts ++ binding_name r.binding) (key_texts u r.cell is of fits)

  same_order : (rows : List RowView) → ((r : RowView) → Contains rows r → IsCellOf u r.cell × Fits r.cell) → (i j : ℕ) (d : RowView) → i < j → j < length rows
      → by_name every_name (get_or rows i d) (get_or rows j d) ≡ by_name pair_name (get_or rows i d) (get_or rows j d)
  same_order rows fit i j d lt l =
      let a = fit (get_or rows i d) (Contains-get_or rows i d (omega arith)) in
      let b = fit (get_or rows j d) (Contains-get_or rows j d (omega arith)) in
      ap₂ (λ (x y : List Text). slice_cmp text_cmp x y) (same_name (get_or rows i d) a.0 a.1) (same_name (get_or rows j d) b.0 b.1)

  pub is_every : (rows : List RowView) → AreThose (IsGranted h) pairs rows → IsEvery h u rows
  is_every rows are =
      let sound = those_sound (IsGranted h) pairs rows are in
      let fit : (r : RowView) → Contains rows r → IsCellOf u r.cell × Fits r.cell = λ r w. let s = sound r w in (in_cells u r.cell (in_pairs h.bindings (cells_of u) r s.0).0, s.1.0) in
      let up = those_ascend (IsGranted h) pair_name pairs rows are in_order in
      record {
        ordered = λ i j d lt l. same_order rows fit i j d lt l ∙ up i j d lt l;
        exact = λ r. (
          λ w. let s = sound r w in let p = in_pairs h.bindings (cells_of u) r s.0 in (in_cells u r.cell p.0, s.1.0, p.1, s.1.1),
          λ row. those_complete (IsGranted h) pairs rows are r (pairs_in h.bindings (cells_of u) r (cells_in u r.cell row.0) row.2) (row.1, row.3),
        );
      }

-- ---- the rows exist

rules_of_each : (h : Held) (bs : List Binding) (gs : List GrantView) → AreGrantsOf h bs gs → (b : Binding) → Contains bs b → (rules : List SourcedRule) × AreRulesFor h b rules
rules_of_each h [] gs are b w = absurd (omega (arith, w.1))
rules_of_each h (c ∷ bs) gs are b w = elim (in_cons c bs b w) [
  | inl e ↦ (are.0, subst (λ (x : Binding). AreRulesFor h x are.0) e are.2)
  | inr v ↦ rules_of_each h bs are.1 are.3 b v
]

pub decided_pair : (p : PolicyView) → IsPolicy p → (r : RowView) → Contains p.held.bindings r.binding → Decided (IsGranted p.held r)
decided_pair p policy r w =
    let rules = rules_of_each p.held p.held.bindings p.grants policy.1 r.binding w in
    both (either (is_true r.cell.target.1) (is_nil r.cell.namespace)) (grants p.held policy.0 r.cell.who r.cell.namespace r.cell.verb r.cell.target.0 r.binding rules.0 rules.1)

pub some_pairs : (p : PolicyView) → IsPolicy p → (u : UniverseView) → IsUniverse u → (rows : List RowView) × AreThose (IsGranted p.held) (pairs_of p.held.bindings (cells_of u)) rows
some_pairs p policy u is =
    some_those (IsGranted p.held) (pairs_of p.held.bindings (cells_of u)) (λ r w. decided_pair p policy r (in_pairs p.held.bindings (cells_of u) r w).1)

pub some_every : (p : PolicyView) → IsPolicy p → (u : UniverseView) → IsUniverse u → (rows : List RowView) × IsEvery p.held u rows
some_every p policy u is = let rows = some_pairs p policy u is in (rows.0, is_every p.held u policy.0 is rows.0 rows.1)
