-- rules that share words with a rule
use Rattle.std.proofs.Common.{◌≡◌, ◌∙◌, ◌+◌, ◌<◌, ◌⊎◌, ◌↔◌, ◌++◌, ◌∷◌, [], ℕ, List, Any, Bor, Contains, ap, get_or, inl, inr, length, map, option_map, refl, slice_get, subst, sym, take}
use Rattle.std.specs.Prelude.{None, Option, Some}
use Rattle.std.specs.Option.{option_copied}
use Rattle.std.proofs.lemmas.Option.{get_or_from_slice_get, same_Some, slice_get-get_or, slice_get-map, slice_get_within}
use Rattle.rbac_terms.specs.Text.{Text}
use Rattle.rbac_terms.specs.declared.matching.Rule.{Rule}
use Rattle.rbac_model.proofs.LabelSets.{any_push}
use Rattle.rbac_model.specs.OwnWords.{AllowsUrlWord}
use Rattle.rbac_model.proofs.OwnWords.{any_from}
use Rattle.rbac_model.proofs.Stairs.{take_read}
use Rattle.rbac_covering.specs.Covering.{AllowsGroup, AllowsVerb}
use Rattle.rbac_diff.specs.Covering.{CoversTarget, CoversWords}
use Rattle.rbac_diff.specs.Finding.{FoundChanges, IsOfRule, IsMissing, SearchFinds}
use Rattle.rbac_diff.specs.Permissions.{OnResource, OnUrl, PermissionView, Permits, Permitted}
use Rattle.rbac_diff.specs.Sharing.{AreSharing, AllowsResourceWord, SharesResource, SharesWords}
use Rattle.rbac_diff.specs.declared.finding.Search.{Search}
use Rattle.rbac_diff.proofs.OneStar.{covers-one_star}
use Rattle.rbac_diff.proofs.Searching.{finds_same}

shares_target : (own : Option Text) (held r : Rule) (t : Permitted) → Permits own r t → CoversTarget held t → SharesResource held r ⊎ Any (AllowsUrlWord held) r.urls
unfolding AllowsGroup AllowsResourceWord
shares_target own held r (OnResource namespace group resource name) h covers = inl (any_from (AllowsResourceWord held) r.resources resource h.2 covers.1, any_from (AllowsGroup held) r.groups group h.1 covers.0)
shares_target own held r (OnUrl url) h covers =
    let w = h.1.1 in
    inr (any_from (AllowsUrlWord held) r.urls w (h.1.0, h.1.2, h.1.3) ((covers-one_star held w).1 (subst (λ (u : Text). CoversTarget held (OnUrl u)) (sym h.1.4) covers)))

-- what covers a permission of the rule shares words with it
covering_shares : (own : Option Text) (held r : Rule) (p : PermissionView) → Contains r.verbs p.verb → Permits own r p.target → CoversWords p.verb p.target held → SharesWords held r
unfolding AllowsVerb
covering_shares own held r p verb target covers = (any_from (AllowsVerb held) r.verbs p.verb verb covers.0, shares_target own held r p.target target covers.1)

-- rule after rule
module _ (r : Rule) (rules : List (Bor Rule)) (i : ℕ) (held : Bor Rule) (low : i < length rules) (read : held ≡ get_or rules i held) (near : List (Bor Rule)) (are : AreSharing (take i rules) r near) where
  next : take (i + 1) rules ≡ take i rules ++ held ∷ []
  next = take_read rules i held low read

  pub sharing_more : AreSharing (take (i + 1) rules) r (near ++ held ∷ [])
  sharing_more own p verb target =
      let P : Bor Rule → Type 0 = λ h. CoversWords p.verb p.target h.now in
      rw next (
        λ a. elim ((any_push P near held).0 a) [ inl b ↦ (any_push P (take i rules) held).1 (inl ((are own p verb target).0 b)) | inr c ↦ (any_push P (take i rules) held).1 (inr c) ],
        λ a. elim ((any_push P (take i rules) held).0 a) [ inl b ↦ (any_push P near held).1 (inl ((are own p verb target).1 b)) | inr c ↦ (any_push P near held).1 (inr c) ],
      )

  pub sharing_same : (SharesWords held.now r → ⊥) → AreSharing (take (i + 1) rules) r near
  sharing_same other own p verb target =
      let P : Bor Rule → Type 0 = λ h. CoversWords p.verb p.target h.now in
      rw next (
        λ a. (any_push P (take i rules) held).1 (inl ((are own p verb target).0 a)),
        λ a. elim ((any_push P (take i rules) held).0 a) [ inl b ↦ (are own p verb target).1 b | inr c ↦ absurd (other (covering_shares own held.now r p verb target c)) ],
      )

-- a search among the rules that share words finds what one among all does
pub narrowed : (s n : Search) (r : Rule) (a b : FoundChanges) → n.origin ≡ s.origin → n.principal ≡ s.principal → n.namespace ≡ s.namespace → AreSharing s.others.now r n.others.now → SearchFinds n (IsOfRule n r) a b → SearchFinds s (IsOfRule s r) a b
narrowed s n r a b origin principal namespace are f =
    let missing : (p : PermissionView) → IsOfRule s r p → IsMissing n.others.now p ↔ IsMissing s.others.now p = λ p by. (
      λ m. record { asked = m.asked; missing = λ h. m.missing ((are (option_copied s.namespace) p by.0 by.1).1 h) },
      λ m. record { asked = m.asked; missing = λ h. m.missing ((are (option_copied s.namespace) p by.0 by.1).0 h) },
    ) in
    finds_same (λ p. (p.principal ≡ s.principal.now) × IsOfRule s r p × IsMissing n.others.now p) (λ p. (p.principal ≡ s.principal.now) × IsOfRule s r p × IsMissing s.others.now p) s.origin.now a b
    (λ p. (λ h. (h.0, h.1, (missing p h.1).0 h.2), λ h. (h.0, h.1, (missing p h.1).1 h.2))) (rw (← origin, ← principal, ← namespace) f)

-- a property of rules that are lent
mapped_read : (o : Option (Bor Rule)) (y : Rule) → option_map (λ (r : Bor Rule). r.now) o ≡ Some y → (r : Bor Rule) × (o ≡ Some r) × (r.now ≡ y)
mapped_read None y e = absurd (cc e)
mapped_read (Some r) y e = (r, refl, same_Some r.now y e)

module _ (P : Rule → Type 0) (xs : List (Bor Rule)) where
  pub any_lent : Any P (map (λ r. r.now) xs) ↔ Any (λ r. P r.now) xs
  any_lent = (
    λ a.
        let there : slice_get (map (λ (r : Bor Rule). r.now) xs) a.0 ≡ Some a.1 = slice_get-get_or (map (λ (r : Bor Rule). r.now) xs) a.0 a.1 a.2 ∙ ap (λ (r : Rule). Some r) a.3 in
        let r = mapped_read (slice_get xs a.0) a.1 (sym (slice_get-map (λ (r : Bor Rule). r.now) xs a.0) ∙ there) in
        (a.0, r.0, slice_get_within xs a.0 r.0 r.1, get_or_from_slice_get xs a.0 r.0 r.0 r.1, subst P (sym r.2) a.4),
    λ a.
        let there : slice_get xs a.0 ≡ Some a.1 = slice_get-get_or xs a.0 a.1 a.2 ∙ ap (λ (r : Bor Rule). Some r) a.3 in
        let read : slice_get (map (λ (r : Bor Rule). r.now) xs) a.0 ≡ Some a.1.now = slice_get-map (λ (r : Bor Rule). r.now) xs a.0 ∙ ap (option_map (λ (r : Bor Rule). r.now)) there in
        (a.0, a.1.now, slice_get_within (map (λ (r : Bor Rule). r.now) xs) a.0 a.1.now read, get_or_from_slice_get (map (λ (r : Bor Rule). r.now) xs) a.0 a.1.now a.1.now read, a.4),
  )
