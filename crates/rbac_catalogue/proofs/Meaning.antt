-- a type word means one resource
use Rattle.std.proofs.Common.{◌≡◌, inl, inr, List, Any, sym, ap, subst, refl, ◌∙◌, Less, Equal}
use Rattle.std.specs.Prelude.{Option, Some, None, Result, Ok, Err, IfOk}
use Rattle.std.specs.Ordering.{ordering_reverse}
use Rattle.std.specs.declared.alloc.AllocError.{AllocError}
use Rattle.std.proofs.lemmas.Map.Lookups.{exact_bytes, exact_pairs}
use Rattle.rbac_terms.specs.Text.{Text, text_cmp}
use Rattle.rbac_terms.proofs.Texts.{IsCutAtFirst-one, IsCutAtFirst-prefix, IsCutAtFirst-contains}
use Rattle.rbac_terms.proofs.Cases.{by_ordering}
use Rattle.rbac_catalogue.specs.declared.entry.Entry.{Entry}
use Rattle.rbac_catalogue.specs.declared.lookup.Found.{Found}
use Rattle.rbac_catalogue.specs.Lookups.{dot, resource_cmp, IsNamedInGroup, IsLeastOf, IsMeantIn, IsWordAndGroup, IsFound, IsOnlyFound}
use Rattle.rbac_catalogue.proofs.Least.{resource_cmp_total}

exact_resources : (f g : Found) → resource_cmp f g ≡ Equal → f ≡ g
exact_resources f g e =
    let make : Text × Text → Found = λ p. record { group = p.0; resource = p.1 } in
    ap make (exact_pairs text_cmp text_cmp exact_bytes exact_bytes (f.group, f.resource) (g.group, g.resource) e)

module _ (entries : List Entry) where
  not_before : (P : Entry → Type 0) (f g : Found) → IsLeastOf P entries f → IsLeastOf P entries g → ¬ (resource_cmp f g ≡ Less)
  not_before P f g l m = λ h. let (k, e, lt, at, here) = l.listed in
      m.none_before (k, e, lt, at, (here.0, subst (λ r. resource_cmp r g ≡ Less) (sym here.1) h))

  least_one : (P : Entry → Type 0) (f g : Found) → IsLeastOf P entries f → IsLeastOf P entries g → f ≡ g
  least_one P f g l m = by_ordering (resource_cmp f g)
      (λ h. absurd (not_before P f g l m h))
      (λ h. exact_resources f g h)
      (λ h. absurd (not_before P g f m l (resource_cmp_total.antisymm g f ∙ ap ordering_reverse h)))

  some_named : (P : Entry → Type 0) (f : Found) → IsLeastOf P entries f → Any P entries
  some_named P f l = let (k, e, lt, at, here) = l.listed in (k, e, lt, at, here.0)

  meant_one : (group : Option Text) (word : Text) (f g : Found) → IsMeantIn entries group word f → IsMeantIn entries group word g → f ≡ g
  meant_one group word f g (inl l) (inl m) = least_one (IsNamedInGroup group word) f g l m
  meant_one group word f g (inl l) (inr m) = absurd (m.0 (some_named (IsNamedInGroup group word) f l))
  meant_one group word f g (inr l) (inl m) = absurd (l.0 (some_named (IsNamedInGroup group word) g m))
  meant_one group word f g (inr l) (inr m) = l.1 ∙ sym m.1

  same_parts : (typed : Text) (v w : Text) (g h : Option Text) → IsWordAndGroup typed v g → IsWordAndGroup typed w h → (v ≡ w) × (g ≡ h)
  same_parts typed v w None None a b = (sym a.0 ∙ b.0, refl)
  same_parts typed v w None (Some h) a b = absurd (a.1 (IsCutAtFirst-contains typed w h dot b))
  same_parts typed v w (Some g) None a b = absurd (b.1 (IsCutAtFirst-contains typed v g dot a))
  same_parts typed v w (Some g) (Some h) a b = (IsCutAtFirst-prefix typed v w g h dot a b, ap (λ t. Some t) (IsCutAtFirst-one typed v w g h dot a b))

  pub found_one : (typed : Text) (f : Found) → IsFound entries typed f → IsOnlyFound entries typed f
  unfolding IsFound
  found_one typed f (word, group, reads, means) other (w, g, r, m) =
      let same = same_parts typed w word g group r reads in
      meant_one group word other f (subst (λ x. IsMeantIn entries x word other) same.1 (subst (λ x. IsMeantIn entries g x other) same.0 m)) means

  pub only_one : (typed : Text) (r : Result Found AllocError) → IfOk r (IsFound entries typed) → IfOk r (IsOnlyFound entries typed)
  only_one typed (Ok f) h = found_one typed f h
  only_one typed (Err e) h = tt
