-- the requests of a universe: which they are, and in what order
use Rattle.std.proofs.Common.{◌≡◌, List, [], ◌∷◌, Contains, get_or, inl, inr, Less, Equal, Ordering, sym, ap, ◌∙◌, refl, subst, true, false, Bool}
use Rattle.std.specs.Ordering.{ordering_then}
use Rattle.std.specs.Cmp.Lexicographic.{slice_cmp}
use Rattle.std.proofs.lemmas.Cmp.{nat_list_cmp_total, tied_itself}
use Rattle.rbac_terms.specs.Text.{Text, text_cmp}
use Rattle.rbac_terms.specs.Principals.{Who, who_key}
use Rattle.rbac_terms.specs.Targets.{What, Resource, Url}
use Rattle.rbac_terms.specs.Keys.{texts}
use Rattle.rbac_terms.proofs.Orderings.{less_alone}
use Rattle.rbac_model.specs.Lists.{by_name, IsAscendingBy}
use Rattle.rbac_model.specs.Universes.{UniverseView, IsUniverse, Listed, Cell, IsCellOf, Fits, cell_key, target_texts}
use Rattle.rbac_universe.proofs.Flattened.{contains_map, map_contains, contains_flat, flat_contains, pairs_map, pairs_flat}
use Rattle.rbac_matrix.specs.Cells.{cell_at, line_cells, namespace_cells, principal_cells, cells_of}
use Rattle.rbac_matrix.specs.Starting.{cell_name}
use Rattle.rbac_matrix.proofs.Orders.{first_less}

-- if a request fits, its key has the texts by which the request is in order
named : (u : UniverseView) (who : Who) (namespace verb : Text) (t : What) (b : Bool) → IsUniverse u → Contains u.targets (t, b) → Fits (cell_at who namespace verb (t, b)) → texts (cell_key (cell_at who namespace verb (t, b))) ≡ cell_name (cell_at who namespace verb (t, b))
named u who namespace verb (Resource group text name) b is w fits = refl
named u who namespace verb (Url path) true is w fits = absurd (is.urls path w)
named u who namespace verb (Url path) false is w (inl e) = cc
named u who namespace verb (Url path) false is w (inr e) = ap (λ (n : Text). who_key who ∷ n ∷ verb ∷ [] ∷ path ∷ [] ∷ []) (sym e)

pub key_texts : (u : UniverseView) (c : Cell) → IsUniverse u → IsCellOf u c → Fits c → texts (cell_key c) ≡ cell_name c
key_texts u c is w fits = named u c.who c.namespace c.verb c.target.0 c.target.1 is w.3 fits

-- the order of texts, text by text
less_first : (o p : Ordering) → ordering_then o Equal ≡ Less → ordering_then o p ≡ Less
less_first o p e = first_less o p (less_alone o e)

after_same : (x y : Text) (xs ys : List Text) → x ≡ y → slice_cmp text_cmp xs ys ≡ Less → slice_cmp text_cmp (x ∷ xs) (y ∷ ys) ≡ Less
after_same x y xs ys e less = rw (← e) (ap (λ o. ordering_then o (slice_cmp text_cmp xs ys)) (tied_itself nat_list_cmp_total x) ∙ less)

abbrev after_namespace : Cell → List Text
after_namespace c = c.verb ∷ target_texts c.target

abbrev after_who : Cell → List Text
after_who c = c.namespace ∷ after_namespace c

abbrev IsBelow : Cell → Cell → Type 0
IsBelow a b = by_name cell_name a b ≡ Less

by_who : (a b : Cell) → by_name (λ who. who_key who ∷ []) a.who b.who ≡ Less → IsBelow a b
by_who a b less = less_first (text_cmp (who_key a.who) (who_key b.who)) (slice_cmp text_cmp (after_who a) (after_who b)) less

by_namespace : (a b : Cell) → a.who ≡ b.who → by_name (λ n. n ∷ []) a.namespace b.namespace ≡ Less → IsBelow a b
by_namespace a b same less =
    after_same (who_key a.who) (who_key b.who) (after_who a) (after_who b) (ap who_key same)
    (less_first (text_cmp a.namespace b.namespace) (slice_cmp text_cmp (after_namespace a) (after_namespace b)) less)

by_verb : (a b : Cell) → a.who ≡ b.who → a.namespace ≡ b.namespace → by_name (λ v. v ∷ []) a.verb b.verb ≡ Less → IsBelow a b
by_verb a b same there less =
    after_same (who_key a.who) (who_key b.who) (after_who a) (after_who b) (ap who_key same)
    (after_same a.namespace b.namespace (after_namespace a) (after_namespace b) there
    (less_first (text_cmp a.verb b.verb) (slice_cmp text_cmp (target_texts a.target) (target_texts b.target)) less))

by_target : (who : Who) (namespace verb : Text) (t v : Listed) → by_name target_texts t v ≡ Less → IsBelow (cell_at who namespace verb t) (cell_at who namespace verb v)
by_target who namespace verb t v less =
    let a = cell_at who namespace verb t in
    let b = cell_at who namespace verb v in
    after_same (who_key who) (who_key who) (after_who a) (after_who b) refl
    (after_same namespace namespace (after_namespace a) (after_namespace b) refl
    (after_same verb verb (target_texts t) (target_texts v) refl less))

module _ (u : UniverseView) where
  -- which requests they are
  pub in_line : (who : Who) (n v : Text) (c : Cell) → Contains (line_cells u who n v) c → (c.who ≡ who) × (c.namespace ≡ n) × (c.verb ≡ v) × Contains u.targets c.target
  in_line who n v c w =
      let r = contains_map (cell_at who n v) u.targets c w in (
        ap (λ (x : Cell). x.who) (sym r.2),
        ap (λ (x : Cell). x.namespace) (sym r.2),
        ap (λ (x : Cell). x.verb) (sym r.2),
        subst (λ (x : Cell). Contains u.targets x.target) r.2 r.1,
      )

  pub in_namespace : (who : Who) (n : Text) (c : Cell) → Contains (namespace_cells u who n) c → (c.who ≡ who) × (c.namespace ≡ n) × Contains u.verbs c.verb × Contains u.targets c.target
  in_namespace who n c w =
      let r = contains_flat (line_cells u who n) u.verbs c w in
      let of = in_line who n r.0 c r.2 in
      (of.0, of.1, subst (λ (v : Text). Contains u.verbs v) (sym of.2) r.1, of.3)

  pub in_principal : (who : Who) (c : Cell) → Contains (principal_cells u who) c → (c.who ≡ who) × Contains u.namespaces c.namespace × Contains u.verbs c.verb × Contains u.targets c.target
  in_principal who c w =
      let r = contains_flat (namespace_cells u who) u.namespaces c w in
      let of = in_namespace who r.0 c r.2 in
      (of.0, subst (λ (n : Text). Contains u.namespaces n) (sym of.1) r.1, of.2, of.3)

  pub in_cells : (c : Cell) → Contains (cells_of u) c → IsCellOf u c
  in_cells c w =
      let r = contains_flat (principal_cells u) u.principals c w in
      let of = in_principal r.0 c r.2 in
      (subst (λ (who : Who). Contains u.principals who) (sym of.0) r.1, of.1, of.2, of.3)

  pub cells_in : (c : Cell) → IsCellOf u c → Contains (cells_of u) c
  cells_in c w =
      flat_contains (principal_cells u) u.principals c.who c w.0
      (flat_contains (namespace_cells u c.who) u.namespaces c.namespace c w.1
      (flat_contains (line_cells u c.who c.namespace) u.verbs c.verb c w.2 (map_contains (cell_at c.who c.namespace c.verb) u.targets c.target w.3)))

  -- in which order they are
  module _ (is : IsUniverse u) where
    line_ascends : (who : Who) (n v : Text) → IsAscendingBy cell_name (line_cells u who n v)
    line_ascends who n v = pairs_map IsBelow (cell_at who n v) u.targets (λ i j d lt l. by_target who n v (get_or u.targets i d) (get_or u.targets j d) (is.targets i j d lt l))

    namespace_ascends : (who : Who) (n : Text) → IsAscendingBy cell_name (namespace_cells u who n)
    namespace_ascends who n = pairs_flat IsBelow (λ v w. by_name (λ (x : Text). x ∷ []) v w ≡ Less) (line_cells u who n) u.verbs
        (λ v w. line_ascends who n v)
        (λ v w p q less a b x y.
        let of = in_line who n v a x in
        let other = in_line who n w b y in
        by_verb a b (of.0 ∙ sym other.0) (of.1 ∙ sym other.1) (rw (of.2, other.2) less))
        is.verbs

    principal_ascends : (who : Who) → IsAscendingBy cell_name (principal_cells u who)
    principal_ascends who = pairs_flat IsBelow (λ n m. by_name (λ (x : Text). x ∷ []) n m ≡ Less) (namespace_cells u who) u.namespaces
        (λ n w. namespace_ascends who n)
        (λ n m p q less a b x y.
        let of = in_namespace who n a x in
        let other = in_namespace who m b y in
        by_namespace a b (of.0 ∙ sym other.0) (rw (of.1, other.1) less))
        is.namespaces

    pub cells_ascend : IsAscendingBy cell_name (cells_of u)
    cells_ascend = pairs_flat IsBelow (λ p q. by_name (λ (who : Who). who_key who ∷ []) p q ≡ Less) (principal_cells u) u.principals
        (λ who w. principal_ascends who)
        (λ p q v w less a b x y.
        let of = in_principal p a x in
        let other = in_principal q b y in
        by_who a b (rw (of.0, other.0) less))
        is.principals
