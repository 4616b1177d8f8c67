-- bindings are in order of namespaces, the ClusterRoleBindings first
use Rattle.std.proofs.Common.{◌≡◌, ℕ, ◌<◌, ◌≤◌, List, [], ◌∷◌, length, get_or, ap, sym, ◌∙◌, refl, inl, inr, arith, ◌↔◌, Any, Bool, true, false}
use Rattle.std.specs.Prelude.{Option, Some, None, slice_get, is_none}
use Rattle.std.specs.Cmp.Lexicographic.{slice_cmp}
use Rattle.std.specs.Ordering.{ordering_index, is_lt, is_le}
use Rattle.std.specs.List.Sorted.{IsPartitionedBy, IsPartitionPoint}
use Rattle.std.specs.declared.cmp.Ordering.{Ordering}
use Rattle.std.specs.declared.cmp.Ordering.TheVariants.{Less, Equal, Greater}
use Rattle.std.proofs.lemmas.Bool.{cases_eq, cases_lt}
use Rattle.std.proofs.lemmas.Cmp.{nat_list_cmp_total, alike_right, tied_itself}
use Rattle.std.proofs.lemmas.Map.Lookups.{exact_bytes}
use Rattle.std.proofs.lemmas.Option.{slice_get_within, get_or_from_slice_get, slice_get-get_or}
use Rattle.rbac_terms.specs.Text.{Text, text_cmp}
use Rattle.rbac_terms.specs.declared.granting.Binding.{Binding}
use Rattle.rbac_terms.proofs.Cases.{by_ordering}
use Rattle.rbac_terms.proofs.Reading.{read_some}
use Rattle.rbac_terms.proofs.Orderings.{then_less, lt_back, le_back, between_is}
use Rattle.rbac_model.specs.Lists.{IsAscendingBy}
use Rattle.rbac_model.specs.Policies.{binding_name, binding_name_at}
use Rattle.rbac_subjects.specs.Living.{namespace_cmp}

-- before a ClusterRoleBinding stand ClusterRoleBindings alone
none_before : (m n : Option Text) (a b : Text) → slice_cmp text_cmp (binding_name_at m a) (binding_name_at n b) ≡ Less → is_none n ≡ true → is_none m ≡ true
none_before None n a b l e = refl
none_before (Some x) None a b l e = cc
none_before (Some x) (Some y) a b l e = cc

index_at_most : (o : Ordering) → ordering_index o ≤ 2
index_at_most Less = omega arith
index_at_most Equal = omega arith
index_at_most Greater = omega arith

-- what is less stands no higher to a third
index_rises : (x y z : Text) → text_cmp x y ≡ Less → ordering_index (text_cmp x z) ≤ ordering_index (text_cmp y z)
index_rises x y z l =
    by_ordering (text_cmp y z)
    (λ e. let p : ordering_index (text_cmp x z) ≡ 0 = ap ordering_index (nat_list_cmp_total.trans x y z l e) in omega arith)
    (λ e. let p : ordering_index (text_cmp x z) ≡ 0 = ap ordering_index (sym (alike_right nat_list_cmp_total y z x e) ∙ l) in omega arith)
    (λ e. let p : ordering_index (text_cmp y z) ≡ 2 = ap ordering_index e in omega (arith, index_at_most (text_cmp x z)))

namespaces_rise : (m n : Option Text) (a b asked : Text) → slice_cmp text_cmp (binding_name_at m a) (binding_name_at n b) ≡ Less → ordering_index (namespace_cmp m asked) ≤ ordering_index (namespace_cmp n asked)
namespaces_rise None n a b asked l = omega arith
namespaces_rise (Some x) None a b asked l = cc
namespaces_rise (Some x) (Some y) a b asked l = elim (then_less (text_cmp x y) (slice_cmp text_cmp (a ∷ []) (b ∷ [])) l) [
  | inl e ↦ index_rises x y asked e
  | inr e ↦ let same : x ≡ y = exact_bytes x y e in rw same (omega arith)
]

is_asked : (m : Option Text) (asked : Text) → namespace_cmp m asked ≡ Equal → m ≡ Some asked
is_asked None asked e = cc
is_asked (Some x) asked e = ap (λ (t : Text). Some t) (exact_bytes x asked e)

is_none_none : (m : Option Text) → is_none m ≡ true → m ≡ None
is_none_none None e = refl
is_none_none (Some x) e = cc

module _ (xs : List Binding) (up : IsAscendingBy binding_name xs) where
  pub parted_by_kind : IsPartitionedBy (λ (b : Binding). is_none b.namespace) xs
  parted_by_kind i j d le lt e = elim (cases_eq i j) [
    | inl same ↦ rw same e
    | inr ne ↦ none_before (get_or xs i d).namespace (get_or xs j d).namespace (get_or xs i d).name (get_or xs j d).name (up i j d (omega arith) lt) e
  ]

  module _ (asked : Text) where
    rises : (i j : ℕ) (d : Binding) → i ≤ j → j < length xs → ordering_index (namespace_cmp (get_or xs i d).namespace asked) ≤ ordering_index (namespace_cmp (get_or xs j d).namespace asked)
    rises i j d le lt = elim (cases_eq i j) [
      | inl same ↦ rw same (omega arith)
      | inr ne ↦ namespaces_rise (get_or xs i d).namespace (get_or xs j d).namespace (get_or xs i d).name (get_or xs j d).name asked (up i j d (omega arith) lt)
    ]

    pub parted_before : IsPartitionedBy (λ (b : Binding). is_lt (namespace_cmp b.namespace asked)) xs
    parted_before i j d le lt e = lt_back (namespace_cmp (get_or xs i d).namespace asked) (namespace_cmp (get_or xs j d).namespace asked) (rises i j d le lt) e

    pub parted_upto : IsPartitionedBy (λ (b : Binding). is_le (namespace_cmp b.namespace asked)) xs
    parted_upto i j d le lt e = le_back (namespace_cmp (get_or xs i d).namespace asked) (namespace_cmp (get_or xs j d).namespace asked) (rises i j d le lt) e

  -- a binding of a lesser namespace comes before
  pub earlier_namespace : (i j : ℕ) (b c : Binding) (x y : Text) → slice_get xs i ≡ Some b → slice_get xs j ≡ Some c → b.namespace ≡ Some x → c.namespace ≡ Some y → text_cmp x y ≡ Less → i < j
  earlier_namespace i j b c x y mine theirs first second less = elim (cases_lt i j) [
    | inl lt ↦ lt
    | inr ge ↦
        let rise = rises y j i b ge (slice_get_within xs i b mine) in
        let low : ordering_index (namespace_cmp (get_or xs i b).namespace y) ≡ 0 = ap (λ (a : Binding). ordering_index (namespace_cmp a.namespace y)) (get_or_from_slice_get xs i b b mine) ∙ ap (λ (o : Option Text). ordering_index (namespace_cmp o y)) first ∙ ap ordering_index less in
        let tied : ordering_index (namespace_cmp (get_or xs j b).namespace y) ≡ 1 = ap (λ (a : Binding). ordering_index (namespace_cmp a.namespace y)) (get_or_from_slice_get xs j c b theirs) ∙ ap (λ (o : Option Text). ordering_index (namespace_cmp o y)) second ∙ ap ordering_index (tied_itself nat_list_cmp_total y) in
        absurd (omega (arith, rise, low, tied))
  ]

-- on which side of a point a binding stands
module _ (xs : List Binding) (p : Binding → Bool) (point : ℕ) (parted : IsPartitionPoint (λ b. p b ≡ true) (λ b. p b ≡ false) xs point) (at : ℕ) (b : Binding) (there : slice_get xs at ≡ Some b) where
  before_point : at < point → p b ≡ true
  before_point lt = rw (get_or_from_slice_get xs at b b there) at (parted.0 at b (omega arith) lt)

  past_point : point ≤ at → p b ≡ false
  past_point le = rw (get_or_from_slice_get xs at b b there) at (parted.1 at b le (slice_get_within xs at b there))

  point_past : p b ≡ true → at < point
  point_past e = elim (cases_lt at point) [ inl l ↦ l | inr l ↦ let f = past_point l in cc ]

  point_before : p b ≡ false → point ≤ at
  point_before e = elim (cases_lt at point) [ inl l ↦ (let f = before_point l in cc) | inr l ↦ l ]

pub cluster_first : (xs : List Binding) (point : ℕ) → IsPartitionPoint (λ (b : Binding). is_none b.namespace ≡ true) (λ (b : Binding). is_none b.namespace ≡ false) xs point → (at : ℕ) (b : Binding) → slice_get xs at ≡ Some b → (at < point) ↔ (b.namespace ≡ None)
cluster_first xs point parted at b there = (
  λ l. is_none_none b.namespace (before_point xs (λ c. is_none c.namespace) point parted at b there l),
  λ e. point_past xs (λ c. is_none c.namespace) point parted at b there (ap is_none e),
)

lt_less : (o : Ordering) → is_lt o ≡ true → o ≡ Less
lt_less Less e = refl
lt_less Equal e = cc
lt_less Greater e = cc

pub before_first : (xs : List Binding) (asked : Text) (first : ℕ) → IsPartitionPoint (λ (b : Binding). is_lt (namespace_cmp b.namespace asked) ≡ true) (λ (b : Binding). is_lt (namespace_cmp b.namespace asked) ≡ false) xs first
    → (at : ℕ) (b : Binding) → slice_get xs at ≡ Some b → (at < first) ↔ (namespace_cmp b.namespace asked ≡ Less)
before_first xs asked first before at b there =
    let lt : Binding → Bool = λ c. is_lt (namespace_cmp c.namespace asked) in
    (λ l. lt_less (namespace_cmp b.namespace asked) (before_point xs lt first before at b there l), λ e. point_past xs lt first before at b there (ap is_lt e))

not_less : (o : Ordering) → (o ≡ Less → ⊥) → is_lt o ≡ false
not_less Less f = absurd (f refl)
not_less Equal f = refl
not_less Greater f = refl

pub between_points : (xs : List Binding) (asked : Text) (first last : ℕ)
    → ((at : ℕ) (b : Binding) → slice_get xs at ≡ Some b → (at < first) ↔ (namespace_cmp b.namespace asked ≡ Less))
    → IsPartitionPoint (λ (b : Binding). is_le (namespace_cmp b.namespace asked) ≡ true) (λ (b : Binding). is_le (namespace_cmp b.namespace asked) ≡ false) xs last
    → (at : ℕ) (b : Binding) → slice_get xs at ≡ Some b → ((first ≤ at) × (at < last)) ↔ (b.namespace ≡ Some asked)
between_points xs asked first last before upto at b there =
    let le : Binding → Bool = λ c. is_le (namespace_cmp c.namespace asked) in (
      λ within. is_asked b.namespace asked (between_is (namespace_cmp b.namespace asked) (not_less (namespace_cmp b.namespace asked) (λ less. (let low = (before at b there).1 less in omega (arith, low, within.0)))) (before_point xs le last upto at b there within.1)),
      λ e.
          let tied : namespace_cmp b.namespace asked ≡ Equal = ap (λ (m : Option Text). namespace_cmp m asked) e ∙ tied_itself nat_list_cmp_total asked in (
            elim (cases_lt at first) [ inl low ↦ (let less = (before at b there).0 low in absurd (cc (less, tied))) | inr high ↦ high ],
            point_past xs le last upto at b there (ap is_le tied),
          ),
    )

-- some binding is in a namespace where its range isn't empty
pub some_between : (xs : List Binding) (namespace : Text) (first last : ℕ) → last ≤ length xs → ((at : ℕ) (b : Binding) → slice_get xs at ≡ Some b → ((first ≤ at) × (at < last)) ↔ (b.namespace ≡ Some namespace)) → (first < last) ↔ Any (λ b. b.namespace ≡ Some namespace) xs
some_between xs namespace first last within between = (
  λ lt.
      let b = read_some xs first (omega (arith, lt, within)) in
      (first, b.0, slice_get_within xs first b.0 b.1, get_or_from_slice_get xs first b.0 b.0 b.1, (between first b.0 b.1).0 (omega arith, lt)),
  λ a.
      let there : slice_get xs a.0 ≡ Some a.1 = slice_get-get_or xs a.0 a.1 a.2 ∙ ap (λ (b : Binding). Some b) a.3 in
      let in_range = (between a.0 a.1 there).1 a.4 in
      omega (arith, in_range.0, in_range.1),
)
