-- URL words taken as texts: a word has one sample, and what matches the sample matches all that the word matches
use Rattle.std.proofs.Common.{◌≡◌, ◌≢◌, ℕ, ◌+◌, ◌≤◌, [], ◌∷◌, ◌++◌, take, drop, length, replicate, inl, inr, sym, ap, ◌∙◌, refl, subst, arith, zero, suc, append_assoc, add-one}
use Rattle.std.specs.Prelude.{codes}
use Rattle.std.proofs.lemmas.Bool.{cases_eq}
use Rattle.std.proofs.lemmas.List.{same_from_push, append-nil, take-append-le, take-append-drop, length-append}
use Rattle.std.proofs.Math.Seq.{take-append_seam}
use Rattle.rbac_terms.specs.Text.{Text, star, slash, BeginsWith}
use Rattle.rbac_terms.specs.Targets.{IsPath}
use Rattle.rbac_terms.specs.Matching.{UrlWordMatches, EndsInStar}
use Rattle.rbac_terms.proofs.Texts.{one_more_star, same_prefix, shorter}
use Rattle.rbac_model.specs.OwnWords.{IsUrlSample, sample_prefix}

pub BeginsWith-through : (x f q : Text) → BeginsWith x f → BeginsWith f q → BeginsWith x q
BeginsWith-through x f q a b = (b.0 ++ a.0, a.1 ∙ ap (λ t. t ++ a.0) b.1 ∙ append_assoc q b.0 a.0)

-- what begins with a text that is no longer than a prefix of it
within_prefix : (f q rest back : Text) → length q ≤ length f → f ++ back ≡ q ++ rest → BeginsWith f q
within_prefix f q rest back l e =
    let cut : take (length q) f ≡ q = sym (take-append-le (length q) f back l) ∙ ap (λ t. take (length q) t) e ∙ take-append_seam q rest in
    (drop (length q) f, sym (take-append-drop (length q) f) ∙ ap (λ t. t ++ drop (length q) f) cut)

-- a text that ends in no star and begins f and a star, begins f; and so with more stars
below_star : (f q rest : Text) → (EndsInStar q → ⊥) → f ++ star ∷ [] ≡ q ++ rest → BeginsWith f q
below_star f q [] none e = absurd (none (f, sym (append-nil q) ∙ sym e))
below_star f q (c ∷ rest) none e = within_prefix f q (c ∷ rest) (star ∷ []) (omega (arith, ap length e, length-append f (star ∷ []), length-append q (c ∷ rest))) e

pub below_stars : (f q rest : Text) (k : ℕ) → (EndsInStar q → ⊥) → f ++ replicate k star ≡ q ++ rest → BeginsWith f q
below_stars f q rest zero none e = (rest, sym (append-nil f) ∙ e)
below_stars f q rest (suc k) none e =
    let b : BeginsWith (f ++ replicate k star) q = below_star (f ++ replicate k star) q rest none (sym (one_more_star f k) ∙ e) in
    below_stars f q b.0 k none b.1

-- a word ends in stars, and the prefix begins with what stands before them
abbrev pub ReachesBelow : Text → Text → Type 0
ReachesBelow w prefix = (q : Text) × (k : ℕ) × (w ≡ q ++ replicate (k + 1) star) × (EndsInStar q → ⊥) × BeginsWith prefix q

pub reaches_matches : (w f rest : Text) → ReachesBelow w f → UrlWordMatches w (f ++ rest)
reaches_matches w f rest b = inr (b.0, b.1, b.2, b.3, BeginsWith-through (f ++ rest) f b.0 (rest, refl) b.4)

pub matches_reaches : (w f : Text) (k : ℕ) → (EndsInStar f → ⊥) → UrlWordMatches w (f ++ replicate (suc k) star) → ReachesBelow w f
matches_reaches w f k none (inl e) = (f, k, e ∙ ap (λ n. f ++ replicate n star) (sym (add-one k)), none, ([], sym (append-nil f)))
matches_reaches w f k none (inr b) = (b.0, b.1, b.2, b.3, below_stars f b.0 b.4.0 (suc k) b.3 b.4.1)

-- a word that allows a prefix with a star allows all that begins with the prefix
UrlWordMatches-below : (u f x : Text) → (EndsInStar f → ⊥) → UrlWordMatches u (f ++ star ∷ []) → BeginsWith x f → UrlWordMatches u x
UrlWordMatches-below u f x none m b =
    let r : ReachesBelow u f = matches_reaches u f 0 none m in
    inr (r.0, r.1, r.2, r.3, BeginsWith-through x f r.0 b r.4)

-- the prefix of a sample ends in no star, and is a path where what begins with the word's prefix is one
one_byte : (c : ℕ) → c ≢ star → EndsInStar (c ∷ []) → ⊥
one_byte c ne b = ne (same_from_push [] b.0 c star b.1).1

pub slash_no_star : EndsInStar (codes "/") → ⊥
slash_no_star b = one_byte slash (omega arith) b

sample_prefix-none : (q : Text) → (EndsInStar q → ⊥) → EndsInStar (sample_prefix q) → ⊥
sample_prefix-none [] none b = slash_no_star b
sample_prefix-none (c ∷ q) none b = none b

sample_prefix-begins : (q x : Text) → IsPath x → BeginsWith x q → BeginsWith x (sample_prefix q)
sample_prefix-begins [] x p b = p
sample_prefix-begins (c ∷ q) x p b = b

path_from : (q x : Text) → IsPath x → BeginsWith x q → IsPath (sample_prefix q)
path_from [] x p b = ([], refl)
path_from (c ∷ q) x p b = let same : c ≡ slash = cc (p.1, b.1) in (q, ap (λ d. d ∷ q) same)

pub IsPath-more : (f rest : Text) → IsPath f → IsPath (f ++ rest)
IsPath-more f rest p = BeginsWith-through (f ++ rest) f (codes "/") (rest, refl) p

-- a text and its stars
pub ends : (w q : Text) (k : ℕ) → w ≡ q ++ replicate (k + 1) star → EndsInStar w
ends w q k e = (q ++ replicate k star, e ∙ ap (λ n. q ++ replicate n star) (add-one k) ∙ one_more_star q k)

pub no_stars : (w q : Text) → w ≡ q ++ replicate 0 star → w ≡ q
no_stars w q e = e ∙ append-nil q

-- a word has one sample
pub IsUrlSample-one : (w x y : Text) → IsUrlSample w x → IsUrlSample w y → x ≡ y
IsUrlSample-one w x y (inl a) (inl b) = a.1 ∙ sym b.1
IsUrlSample-one w x y (inl a) (inr b) = absurd (a.0 (ends w b.0 b.1 b.2))
IsUrlSample-one w x y (inr a) (inl b) = absurd (b.0 (ends w a.0 a.1 a.2))
IsUrlSample-one w x y (inr a) (inr b) =
    a.4 ∙ ap (λ q. sample_prefix q ++ star ∷ []) (same_prefix a.0 b.0 (a.1 + 1) (b.1 + 1) a.3 b.3 (sym a.2 ∙ b.2)) ∙ sym b.4

-- each word is a prefix and stars
pub record Unstarred (w : Text) : Type 0 where
  pub prefix : Text
  pub stars : ℕ
  pub is : w ≡ prefix ++ replicate stars star
  pub none : EndsInStar prefix → ⊥

longer : (c d : ℕ) (q : Text) → EndsInStar (c ∷ d ∷ q) → EndsInStar (d ∷ q)
longer c d q b = shorter c d q b.0 b.1

grown : (c : ℕ) (w q : Text) (k : ℕ) → w ≡ q ++ replicate k star → (EndsInStar q → ⊥) → Unstarred (c ∷ w)
grown c w (d ∷ q) k e none = record { prefix = c ∷ d ∷ q; stars = k; is = ap (λ t. c ∷ t) e; none = λ b. none (longer c d q b) }
grown c w [] k e none =
    elim (cases_eq c star) [
      | inl same ↦ record { prefix = []; stars = suc k; is = ap (λ t. c ∷ t) e ∙ ap (λ d. d ∷ replicate k star) same; none = none }
      | inr other ↦ record { prefix = c ∷ []; stars = k; is = ap (λ t. c ∷ t) e; none = one_byte c other }
    ]

pub unstarred : (w : Text) → Unstarred w
unstarred [] = record { prefix = []; stars = 0; is = refl; none = λ b. absurd (omega (arith, ap length b.1, length-append b.0 (star ∷ []))) }
unstarred (c ∷ w) = let u : Unstarred w = unstarred w in grown c w u.prefix u.stars u.is u.none

-- a word that matches a path has a sample that is one, and what allows the sample allows the path
pub record Through (w x : Text) : Type 0 where
  pub sample : Text
  pub is : IsUrlSample w sample
  pub path : IsPath sample
  pub through : (u : Text) → UrlWordMatches u sample → UrlWordMatches u x

pub prefix_of_match : (w x q : Text) (k : ℕ) → w ≡ q ++ replicate (suc k) star → (EndsInStar q → ⊥) → UrlWordMatches w x → BeginsWith x q
prefix_of_match w x q k e none (inl m) = (replicate (suc k) star, sym m ∙ e)
prefix_of_match w x q k e none (inr b) =
    let same : b.0 ≡ q = same_prefix b.0 q (b.1 + 1) (suc k) b.3 none (sym b.2 ∙ e) in
    let P : Text → Type 0 = λ t. BeginsWith x t in subst P same b.4

plain_match : (w x : Text) → (EndsInStar w → ⊥) → UrlWordMatches w x → w ≡ x
plain_match w x none (inl m) = m
plain_match w x none (inr b) = absurd (none (ends w b.0 b.1 b.2))

-- the sample of a word without stars, and with some
pub plain_sample : (w p : Text) → w ≡ p ++ replicate 0 star → (EndsInStar p → ⊥) → IsUrlSample w w
plain_sample w p e none = let P : Text → Type 0 = λ t. EndsInStar t → ⊥ in inl (subst P (sym (no_stars w p e)) none, refl)

pub starred_sample : (w p : Text) (k : ℕ) → w ≡ p ++ replicate (suc k) star → (EndsInStar p → ⊥) → IsUrlSample w (sample_prefix p ++ star ∷ [])
starred_sample w p k e none = inr (p, k, e ∙ ap (λ n. p ++ replicate n star) (sym (add-one k)), none, refl)

through_from : (w x q : Text) (k : ℕ) → w ≡ q ++ replicate k star → (EndsInStar q → ⊥) → IsPath x → UrlWordMatches w x → Through w x
through_from w x q zero e none p m =
    let still = plain_sample w q e none in
    let P : Text → Type 0 = λ t. EndsInStar t → ⊥ in
    let same : w ≡ x = plain_match w x (subst P (sym (no_stars w q e)) none) m in
    record { sample = w; is = still; path = subst IsPath (sym same) p; through = λ u h. (let Q : Text → Type 0 = λ t. UrlWordMatches u t in subst Q same h) }
through_from w x q (suc k) e none p m =
    let b : BeginsWith x q = prefix_of_match w x q k e none m in
    record {
      sample = sample_prefix q ++ star ∷ [];
      is = starred_sample w q k e none;
      path = IsPath-more (sample_prefix q) (star ∷ []) (path_from q x p b);
      through = λ u h. UrlWordMatches-below u (sample_prefix q) x (sample_prefix-none q none) h (sample_prefix-begins q x p b);
    }

pub sample-through : (w x : Text) → IsPath x → UrlWordMatches w x → Through w x
sample-through w x p m = let u : Unstarred w = unstarred w in through_from w x u.prefix u.stars u.is u.none p m
