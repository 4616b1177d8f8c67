-- The part of a resource text before its subresource is one text.
use Rattle.std.proofs.Common.{◌≡◌, ◌≢◌, ◌∙◌, [], ◌∷◌, inl, inr, subst, sym}
use Rattle.rbac_terms.specs.Text.{Text, slash, star}
use Rattle.rbac_terms.proofs.Texts.{IsCutAtFirst-contains, IsCutAtFirst-prefix}
use Rattle.rbac_near.specs.Near.{IsBeforeSubresource, IsOfResource}

one_part : (text a b : Text) → IsBeforeSubresource text a → IsBeforeSubresource text b → a ≡ b
one_part text a b (inl x) (inl y) = IsCutAtFirst-prefix text a b x.0 y.0 slash x.1 y.1
one_part text a b (inl x) (inr y) = absurd (y.0 (IsCutAtFirst-contains text a x.0 slash x.1))
one_part text a b (inr x) (inl y) = absurd (x.0 (IsCutAtFirst-contains text b y.0 slash y.1))
one_part text a b (inr x) (inr y) = x.1 ∙ sym y.1

module _ (text word part : Text) (of : IsBeforeSubresource text part) where
  -- the same part before both, which is of one resource
  pub of_resource : (other : Text) → IsBeforeSubresource word other → (part ≢ []) × (part ≢ star ∷ []) → part ≡ other → IsOfResource text word
  unfolding IsOfResource
  of_resource other own one same = (part, of, subst (λ (t : Text). IsBeforeSubresource word t) (sym same) own, one.0, one.1)

  -- the part of a word's resource is of one resource
  pub one_resource : IsOfResource text word → (part ≢ []) × (part ≢ star ∷ [])
  unfolding IsOfResource
  one_resource h = subst (λ (t : Text). (t ≢ []) × (t ≢ star ∷ [])) (sym (one_part text part h.0 of h.1)) (h.3, h.4)

  -- and it stands before both
  pub same_part : (other : Text) → IsBeforeSubresource word other → IsOfResource text word → part ≡ other
  unfolding IsOfResource
  same_part other own h = one_part text part h.0 of h.1 ∙ one_part word h.0 other h.2 own
