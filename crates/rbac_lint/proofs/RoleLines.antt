-- the roles of an export in order
use Rattle.std.proofs.Common.{◌≡◌, ℕ, ◌<◌, ◌+◌, ◌-◌, inl, inr, List, [], ◌∷◌, ◌++◌, get_or, length, map, sym, ap, ◌∙◌, refl, arith, zero, suc}
use Rattle.std.specs.Prelude.{Some, Contains, slice_get, option_map}
use Rattle.std.specs.Cmp.Lexicographic.{slice_cmp}
use Rattle.std.specs.declared.cmp.Ordering.TheVariants.{Less}
use Rattle.std.proofs.lemmas.List.{length-append, length-map, get_or-map}
use Rattle.std.proofs.lemmas.Option.{slice_get-map, slice_get-get_or, slice_get_within, same_Some}
use Rattle.std.proofs.lemmas.Bool.{cases_lt}
use Rattle.rbac_terms.specs.Text.{Text, text_cmp}
use Rattle.rbac_terms.specs.declared.granting.Role.{Role}
use Rattle.rbac_terms.specs.declared.granting.ClusterRole.{ClusterRole}
use Rattle.rbac_model.specs.Lists.{by_name, IsAscendingBy}
use Rattle.rbac_model.specs.Policies.{Held, IsHeld, Source, InRole, InClusterRole, role_name, cluster_role_name}
use Rattle.rbac_lint.specs.Lines.{object_texts}
use Rattle.rbac_lint.specs.Roles.{roles_in, source_object}
use Rattle.rbac_lint.proofs.Exact.{all_pairs_append}

-- the texts by which roles are ordered
abbrev pub source_texts : Source → List Text
source_texts s = object_texts (source_object s)

module _ {X : Type 0} where
  pub slice_get-left : (xs ys : List X) (i : ℕ) (x : X) → slice_get xs i ≡ Some x → slice_get (xs ++ ys) i ≡ Some x
  slice_get-left [] ys i x e = cc
  slice_get-left (y ∷ xs) ys zero x e = e
  slice_get-left (y ∷ xs) ys (suc i) x e = slice_get-left xs ys i x e

  pub slice_get-right : (xs ys : List X) (i : ℕ) (x : X) → slice_get ys i ≡ Some x → slice_get (xs ++ ys) (length xs + i) ≡ Some x
  slice_get-right [] ys i x e = let n : 0 + i ≡ i = omega arith in ap (slice_get ys) n ∙ e
  slice_get-right (y ∷ xs) ys i x e =
      let n : length (y ∷ xs) + i ≡ suc (length xs + i) = omega arith in
      ap (slice_get (y ∷ (xs ++ ys))) n ∙ slice_get-right xs ys i x e

-- the role at a place of each kind
pub cluster_role_there : (h : Held) (i : ℕ) (r : ClusterRole) → slice_get h.cluster_roles i ≡ Some r → slice_get (roles_in h) i ≡ Some (InClusterRole r)
cluster_role_there h i r e =
    slice_get-left (map (λ r. InClusterRole r) h.cluster_roles) (map (λ r. InRole r) h.roles) i (InClusterRole r)
    (slice_get-map (λ r. InClusterRole r) h.cluster_roles i ∙ ap (option_map (λ r. InClusterRole r)) e)

pub role_there : (h : Held) (i k : ℕ) (r : Role) → i ≡ length h.cluster_roles + k → slice_get h.roles k ≡ Some r → slice_get (roles_in h) i ≡ Some (InRole r)
role_there h i k r n e =
    let same : i ≡ length (map (λ r. InClusterRole r) h.cluster_roles) + k = omega (arith, n, length-map h.cluster_roles (λ r. InClusterRole r)) in
    ap (slice_get (roles_in h)) same
    ∙ slice_get-right (map (λ r. InClusterRole r) h.cluster_roles) (map (λ r. InRole r) h.roles) k (InRole r)
    (slice_get-map (λ r. InRole r) h.roles k ∙ ap (option_map (λ r. InRole r)) e)

pub roles_length : (h : Held) → length (roles_in h) ≡ length h.cluster_roles + length h.roles
roles_length h =
    omega (arith, length-append (map (λ r. InClusterRole r) h.cluster_roles) (map (λ r. InRole r) h.roles), length-map h.cluster_roles (λ r. InClusterRole r), length-map h.roles (λ r. InRole r))

-- the element at a place
pub there : {X : Type 0} (xs : List X) (j : ℕ) → j < length xs → (x : X) × (slice_get xs j ≡ Some x)
there [] j l = absurd (omega (arith, l))
there (x ∷ xs) j l = (get_or (x ∷ xs) j x, slice_get-get_or (x ∷ xs) j x l)

-- a cluster role among all roles stands at the same place among its kind
pub cluster_role_at : (h : Held) (k : ℕ) (r : ClusterRole) → slice_get (roles_in h) k ≡ Some (InClusterRole r) → slice_get h.cluster_roles k ≡ Some r
cluster_role_at h k r e = elim (cases_lt k (length h.cluster_roles)) [
  | inl lt ↦
      let c = there h.cluster_roles k lt in
      let both : InClusterRole c.0 ≡ InClusterRole r = same_Some (InClusterRole c.0) (InClusterRole r) (sym (cluster_role_there h k c.0 c.1) ∙ e) in
      let same : c.0 ≡ r = cc in
      c.1 ∙ ap (λ (v : ClusterRole). Some v) same
  | inr le ↦ elim (cases_lt (k - length h.cluster_roles) (length h.roles)) [
    | inl lt ↦
        let s = there h.roles (k - length h.cluster_roles) lt in
        let both : InRole s.0 ≡ InClusterRole r = same_Some (InRole s.0) (InClusterRole r) (sym (role_there h k (k - length h.cluster_roles) s.0 (omega (arith, le)) s.1) ∙ e) in
        absurd cc
    | inr past ↦ absurd (omega (arith, le, past, slice_get_within (roles_in h) k (InClusterRole r) e, roles_length h))
  ]
]

-- an ascending list, mapped
mapped_up : {X : Type 0} (f : X → Source) (name : X → List Text) → ((x : X) → source_texts (f x) ≡ name x) → (xs : List X) → IsAscendingBy name xs → IsAscendingBy source_texts (map f xs)
mapped_up f name same [] up = λ i j d lt l. absurd (omega (arith, l))
mapped_up f name same (x ∷ xs) up = λ i j d lt l.
    let n : length (map f (x ∷ xs)) ≡ length (x ∷ xs) = length-map (x ∷ xs) f in
    let li : i < length (x ∷ xs) = omega (arith, lt, l, n) in
    let lj : j < length (x ∷ xs) = omega (arith, l, n) in
    let a = get_or-map f (x ∷ xs) i x d li in
    let b = get_or-map f (x ∷ xs) j x d lj in
    ap (λ t. by_name source_texts t (get_or (map f (x ∷ xs)) j d)) a
    ∙ ap (λ t. by_name source_texts (f (get_or (x ∷ xs) i x)) t) b
    ∙ ap (λ t. slice_cmp text_cmp t (source_texts (f (get_or (x ∷ xs) j x)))) (same (get_or (x ∷ xs) i x))
    ∙ ap (λ t. slice_cmp text_cmp (name (get_or (x ∷ xs) i x)) t) (same (get_or (x ∷ xs) j x))
    ∙ up i j x lt lj

contains_map : {X : Type 0} (f : X → Source) (xs : List X) (y : Source) → Contains (map f xs) y → (x : X) × (y ≡ f x)
contains_map f [] y w = absurd (omega (arith, w.1))
contains_map f (x ∷ xs) y w =
    (get_or (x ∷ xs) w.0 x, sym w.2 ∙ get_or-map f (x ∷ xs) w.0 x y (omega (arith, w.1, length-map (x ∷ xs) f)))

cluster_first : (c : ClusterRole) (r : Role) (x y : Source) → x ≡ InClusterRole c → y ≡ InRole r → by_name source_texts x y ≡ Less
cluster_first c r x y e f = ap (λ s. by_name source_texts s y) e ∙ ap (λ s. by_name source_texts (InClusterRole c) s) f ∙ refl

pub roles_ascend : (h : Held) → IsHeld h → IsAscendingBy source_texts (roles_in h)
roles_ascend h held =
    all_pairs_append (λ x y. by_name source_texts x y ≡ Less) (map (λ r. InClusterRole r) h.cluster_roles) (map (λ r. InRole r) h.roles)
    (mapped_up (λ r. InClusterRole r) cluster_role_name (λ r. refl) h.cluster_roles held.cluster_roles)
    (mapped_up (λ r. InRole r) role_name (λ r. refl) h.roles held.roles)
    (λ x y a b.
    let c = contains_map (λ r. InClusterRole r) h.cluster_roles x a in
    let r = contains_map (λ r. InRole r) h.roles y b in
    cluster_first c.0 r.0 x y c.1 r.1)
