-- a URL word with one star at its end, where it has several, matches the same paths and has the same sample
use Rattle.std.proofs.Common.{◌≡◌, ℕ, [], ◌∷◌, ◌++◌, ◌⊎◌, ◌↔◌, length, replicate, inl, inr, sym, ap, ap₂, ◌∙◌, refl, subst, zero, suc, eqb, true}
use Rattle.std.proofs.lemmas.Bool.{cond-true, cond-false, and_parts, and_from, eqb-true, false_from_ne_true}
use Rattle.rbac_terms.specs.Text.{Text, star}
use Rattle.rbac_terms.specs.Matching.{UrlWordMatches, EndsInStar}
use Rattle.rbac_terms.proofs.Texts.{one_more_star}
use Rattle.rbac_terms.specs.declared.matching.Rule.{Rule}
use Rattle.rbac_model.specs.OwnWords.{AllowsUrlWord, GivesPath, IsUrlSample, sample_prefix}
use Rattle.rbac_model.proofs.UrlSamples.{Unstarred, unstarred, no_stars, starred_sample, prefix_of_match, IsUrlSample-one}
use Rattle.rbac_diff.specs.Covering.{CoversTarget}
use Rattle.rbac_diff.specs.Permissions.{OnUrl, are_stars, one_star}

-- so many stars are nothing but stars, and the other way round
are_stars-replicate : (k : ℕ) → are_stars (replicate k star) ≡ true
are_stars-replicate zero = refl
are_stars-replicate (suc k) = and_from (eqb star star) (are_stars (replicate k star)) refl (are_stars-replicate k)

stars_only : (w : Text) → are_stars w ≡ true → w ≡ replicate (length w) star
stars_only [] e = refl
stars_only (c ∷ w) e =
    let both = and_parts (eqb c star) (are_stars w) e in
    ap₂ (λ (d : ℕ) (t : Text). d ∷ t) (eqb-true c star both.0) (stars_only w both.1)

front_stars : (q r : Text) → are_stars (q ++ r) ≡ true → are_stars q ≡ true
front_stars [] r e = refl
front_stars (c ∷ q) r e =
    let both = and_parts (eqb c star) (are_stars (q ++ r)) e in
    and_from (eqb c star) (are_stars q) both.0 (front_stars q r both.1)

-- a text that ends in no star isn't stars
not_stars : (c : ℕ) (q : Text) → (EndsInStar (c ∷ q) → ⊥) → are_stars (c ∷ q) ≡ true → ⊥
not_stars c q none e = none (replicate (length q) star, stars_only (c ∷ q) e ∙ one_more_star [] (length q))

ends_later : (c : ℕ) (q : Text) → (EndsInStar (c ∷ q) → ⊥) → EndsInStar q → ⊥
ends_later c q none b = none (c ∷ b.0, ap (λ (t : Text). c ∷ t) b.1)

one_star-plain : (q : Text) → (EndsInStar q → ⊥) → one_star q ≡ q
one_star-plain [] none = refl
one_star-plain (c ∷ q) none =
    cond-false (are_stars (c ∷ q)) (star ∷ []) (c ∷ one_star q) (false_from_ne_true (are_stars (c ∷ q)) (not_stars c q none)) ∙ ap (λ (t : Text). c ∷ t) (one_star-plain q (ends_later c q none))

one_star-starred : (q : Text) (k : ℕ) → (EndsInStar q → ⊥) → one_star (q ++ replicate (suc k) star) ≡ q ++ star ∷ []
one_star-starred [] k none = cond-true (are_stars (replicate (suc k) star)) (star ∷ []) (star ∷ one_star (replicate k star)) (are_stars-replicate (suc k))
one_star-starred (c ∷ q) k none =
    let w : Text = q ++ replicate (suc k) star in
    cond-false (are_stars (c ∷ w)) (star ∷ []) (c ∷ one_star w) (false_from_ne_true (are_stars (c ∷ w)) (λ e. not_stars c q none (front_stars (c ∷ q) (replicate (suc k) star) e)))
    ∙ ap (λ (t : Text). c ∷ t) (one_star-starred q k (ends_later c q none))

-- the word itself, or the same prefix with one star in place of some
one_star_of : (w q : Text) (k : ℕ) → w ≡ q ++ replicate k star → (EndsInStar q → ⊥) → (one_star w ≡ w) ⊎ ((j : ℕ) × (w ≡ q ++ replicate (suc j) star) × (one_star w ≡ q ++ replicate 1 star))
one_star_of w q zero e none = let same = no_stars w q e in inl (ap one_star same ∙ one_star-plain q none ∙ sym same)
one_star_of w q (suc j) e none = inr (j, e, ap one_star e ∙ one_star-starred q j none)

pub one_star-sample : (w x : Text) → IsUrlSample (one_star w) x → IsUrlSample w x
one_star-sample w x is =
    let u : Unstarred w = unstarred w in
    elim (one_star_of w u.prefix u.stars u.is u.none) [
      | inl same ↦ subst (λ (t : Text). IsUrlSample t x) same is
      | inr s ↦
          let end : Text = sample_prefix u.prefix ++ star ∷ [] in
          let same : x ≡ end = IsUrlSample-one (one_star w) x end is (starred_sample (one_star w) u.prefix 0 s.2 u.none) in
          subst (IsUrlSample w) (sym same) (starred_sample w u.prefix s.0 s.1 u.none)
    ]

pub one_star-matches : (w x : Text) → UrlWordMatches w x → UrlWordMatches (one_star w) x
one_star-matches w x m =
    let u : Unstarred w = unstarred w in
    elim (one_star_of w u.prefix u.stars u.is u.none) [
      | inl same ↦ subst (λ (t : Text). UrlWordMatches t x) (sym same) m
      | inr s ↦ inr (u.prefix, 0, s.2, u.none, prefix_of_match w x u.prefix s.0 s.1 u.none m)
    ]

pub sample-one_star : (w x : Text) → IsUrlSample w x → IsUrlSample (one_star w) x
sample-one_star w x is =
    let u : Unstarred w = unstarred w in
    elim (one_star_of w u.prefix u.stars u.is u.none) [
      | inl same ↦ subst (λ (t : Text). IsUrlSample t x) (sym same) is
      | inr s ↦
          let end : Text = sample_prefix u.prefix ++ star ∷ [] in
          let same : x ≡ end = IsUrlSample-one w x end is (starred_sample w u.prefix s.0 s.1 u.none) in
          subst (IsUrlSample (one_star w)) (sym same) (starred_sample (one_star w) u.prefix 0 s.2 u.none)
    ]

-- so it is allowed where the word is, and gives a path where the word does
pub covers-one_star : (r : Rule) (w : Text) → (AllowsUrlWord r w ↔ CoversTarget r (OnUrl (one_star w)))
unfolding AllowsUrlWord
covers-one_star r w = (λ h x is. h x (one_star-sample w x is), λ h x is. h x (sample-one_star w x is))

pub gives-one_star : (w : Text) → (GivesPath w ↔ GivesPath (one_star w))
unfolding GivesPath
gives-one_star w = (λ g. (g.0, sample-one_star w g.0 g.1, g.2), λ g. (g.0, one_star-sample w g.0 g.1, g.2))
