-- how texts are cut: at their first slash, and before their trailing stars
use Rattle.std.proofs.Common.{◌≡◌, ◌≢◌, ℕ, ◌+◌, ◌<◌, [], ◌∷◌, ◌++◌, length, take, drop, get_or, Contains, replicate, sym, ap, ◌∙◌, refl, arith, append_assoc, suc, zero, add-one, ◌↔◌, inl, inr, Bool, IsTrue, Decides, subst, ◌≤◌, MatchOption, Bor}
use Rattle.std.specs.Prelude.{Option, Some, None}
use Rattle.std.proofs.lemmas.List.{same_from_push, replicate_more, append-nil, drop_more, take-append-drop, get_or_at, get_or_default, get_or-take, length-take, length-append, length-replicate}
use Rattle.rbac_terms.specs.Text.{Text, star, slash, IsCutAtFirst, BeginsWith}
use Rattle.rbac_terms.specs.Matching.{EndsInStar, IsBeforeStars, FollowsFirstSlash, UrlWordMatches}

-- a text is what stands before a place, the byte there and the rest
pub cut_at : (x : Text) (i d : ℕ) → i < length x → x ≡ take i x ++ get_or x i d ∷ drop (i + 1) x
cut_at x i d h = sym (take-append-drop i x) ∙ ap (λ r. take i x ++ r) (drop_more x i d h)

-- a byte of a text's rest is a byte of the text
pub in_rest : (m : Text) (x b : ℕ) → Contains m b → Contains (x ∷ m) b
in_rest m x b w = (suc w.0, omega arith, w.2)

-- what follows the first of a byte is one text
same_after_first : (m n s t : Text) (b : ℕ) → (Contains m b → ⊥) → (Contains n b → ⊥) → m ++ b ∷ s ≡ n ++ b ∷ t → s ≡ t
same_after_first [] [] s t b f g e = cc
same_after_first [] (y ∷ n) s t b f g e = let same : y ≡ b = cc in absurd (g (0, omega arith, same))
same_after_first (x ∷ m) [] s t b f g e = let same : x ≡ b = cc in absurd (f (0, omega arith, same))
same_after_first (x ∷ m) (y ∷ n) s t b f g e = same_after_first m n s t b (λ w. f (in_rest m x b w)) (λ w. g (in_rest n y b w)) (cc)

-- and so is what stands before it
same_before_first : (m n s t : Text) (b : ℕ) → (Contains m b → ⊥) → (Contains n b → ⊥) → m ++ b ∷ s ≡ n ++ b ∷ t → m ≡ n
same_before_first [] [] s t b f g e = refl
same_before_first [] (y ∷ n) s t b f g e = let same : y ≡ b = cc in absurd (g (0, omega arith, same))
same_before_first (x ∷ m) [] s t b f g e = let same : x ≡ b = cc in absurd (f (0, omega arith, same))
same_before_first (x ∷ m) (y ∷ n) s t b f g e =
    let heads : x ≡ y = cc in
    let rest : m ≡ n = same_before_first m n s t b (λ w. f (in_rest m x b w)) (λ w. g (in_rest n y b w)) (cc) in cc

-- the byte itself is there
pub byte_within : (m s : Text) (b : ℕ) → Contains (m ++ b ∷ s) b
byte_within m s b = (length m, omega (arith, length-append m (b ∷ s)), get_or_at m b s b (length m) refl)

-- what stands before the first of a byte hasn't it
none_before : (x : Text) (i b : ℕ) → i < length x → ((k : ℕ) → k < i → get_or x k 0 ≡ b → ⊥) → Contains (take i x) b → ⊥
none_before x i b h before w =
    let l : w.0 < i = omega (arith, length-take i x, w.1) in
    before w.0 l (get_or_default x w.0 0 b (omega arith) ∙ sym (get_or-take i x w.0 b l) ∙ w.2)

pub IsCutAtFirst-one : (x m n s t : Text) (b : ℕ) → IsCutAtFirst x b m s → IsCutAtFirst x b n t → s ≡ t
IsCutAtFirst-one x m n s t b f g = same_after_first m n s t b f.1 g.1 (sym f.0 ∙ g.0)

pub IsCutAtFirst-prefix : (x m n s t : Text) (b : ℕ) → IsCutAtFirst x b m s → IsCutAtFirst x b n t → m ≡ n
IsCutAtFirst-prefix x m n s t b f g = same_before_first m n s t b f.1 g.1 (sym f.0 ∙ g.0)

pub IsCutAtFirst-contains : (x m s : Text) (b : ℕ) → IsCutAtFirst x b m s → Contains x b
IsCutAtFirst-contains x m s b f = rw f.0 (byte_within m s b)

pub IsCutAtFirst-at : (x : Text) (i b : ℕ) → (i < length x) × (get_or x i 0 ≡ b) × ((k : ℕ) → k < i → get_or x k 0 ≡ b → ⊥) → IsCutAtFirst x b (take i x) (drop (i + 1) x)
IsCutAtFirst-at x i b h = (cut_at x i 0 h.0 ∙ ap (λ c. take i x ++ c ∷ drop (i + 1) x) h.1, none_before x i b h.0 h.2)

-- a star at the end of a text of two bytes and more ends the text without its first byte
pub shorter : (c d : ℕ) (q r : Text) → c ∷ d ∷ q ≡ r ++ star ∷ [] → EndsInStar (d ∷ q)
shorter c d q [] e = cc
shorter c d q (x ∷ r) e = let rest : d ∷ q ≡ r ++ star ∷ [] = cc in (r, rest)

-- one more star at the end
pub one_more_star : (p : Text) (k : ℕ) → p ++ replicate (suc k) star ≡ (p ++ replicate k star) ++ star ∷ []
one_more_star p k = sym (append_assoc p (replicate k star) (star ∷ []) ∙ ap (λ r. p ++ r) (replicate_more k star ∙ ap (λ n. replicate n star) (add-one k)))

-- a text without its trailing stars is one text
pub same_prefix : (p q : Text) (j k : ℕ) → (EndsInStar p → ⊥) → (EndsInStar q → ⊥) → p ++ replicate j star ≡ q ++ replicate k star → p ≡ q
same_prefix p q zero zero a b e = sym (append-nil p) ∙ e ∙ append-nil q
same_prefix p q zero (suc k) a b e = absurd (a (q ++ replicate k star, sym (append-nil p) ∙ e ∙ one_more_star q k))
same_prefix p q (suc j) zero a b e = absurd (b (p ++ replicate j star, sym (append-nil q) ∙ sym e ∙ one_more_star p j))
same_prefix p q (suc j) (suc k) a b e = same_prefix p q j k a b (same_from_push (p ++ replicate j star) (q ++ replicate k star) star star (sym (one_more_star p j) ∙ e ∙ one_more_star q k)).0

-- the stars move from the end of the prefix to those that were taken off
pub star_off : (w p before : Text) (last k : ℕ) → w ≡ p ++ replicate k star → p ≡ before ++ last ∷ [] → last ≡ star → w ≡ before ++ replicate (suc k) star
star_off w p before last k e f g = e ∙ ap (λ q. q ++ replicate k star) (f ∙ ap (λ b. before ++ b ∷ []) g) ∙ append_assoc before (star ∷ []) (replicate k star)

-- what decides ≡ of two rests decides which one follows the first slash
pub FollowsFirstSlash-iff : (x m found rest : Text) (r : Bool) → IsCutAtFirst x slash m found → Decides r (found ≡ rest) → IsTrue r ↔ FollowsFirstSlash x rest
FollowsFirstSlash-iff x m found rest r a d = (
  λ h. let P : Text → Type 0 = λ t. FollowsFirstSlash x t in subst P (d.0 h) (m, a),
  λ b. d.1 (IsCutAtFirst-one x m b.0 found rest slash a b.1),
)

-- a word with stars at its end ends in a star
pub ends : (w q : Text) (k : ℕ) → w ≡ q ++ replicate (k + 1) star → EndsInStar w
ends w q k e = (q ++ replicate k star, e ∙ ap (λ n. q ++ replicate n star) (add-one k) ∙ one_more_star q k)

-- what comes before the stars is one text
pub IsBeforeStars-one : (w p q : Text) → IsBeforeStars w p → IsBeforeStars w q → p ≡ q
IsBeforeStars-one w p q a b = same_prefix p q (a.0 + 1) (b.0 + 1) a.2 b.2 (sym a.1 ∙ b.1)

-- one star more before those that were taken off
pub IsBeforeStars-more : (w p shorter : Text) (k : ℕ) → w ≡ p ++ replicate (k + 1) star → p ≡ shorter ++ star ∷ [] → w ≡ shorter ++ replicate (k + 1 + 1) star
IsBeforeStars-more w p shorter k e f = star_off w p shorter star (k + 1) e f refl ∙ ap (λ n. shorter ++ replicate n star) (sym (add-one (k + 1)))

-- what a URL word says where it is not the path: it ends in stars, and the path begins with the rest
pub UrlWordMatches-iff : (w x p : Text) (r : Bool) → w ≢ x → IsBeforeStars w p → (IsTrue r ↔ BeginsWith x p) → IsTrue r ↔ UrlWordMatches w x
UrlWordMatches-iff w x p r ne is i = (
  λ h. inr (p, is.0, is.1, is.2, i.0 h),
  λ m. elim m [
    | inl a ↦ absurd (ne a)
    | inr b ↦ let same : b.0 ≡ p = IsBeforeStars-one w b.0 p (b.1, b.2, b.3) is in i.1 (b.4.0, b.4.1 ∙ ap (λ q. q ++ b.4.0) same)
  ],
)

pub UrlWordMatches-none : (w x p : Text) (k : ℕ) → w ≢ x → w ≡ p ++ replicate k star → (EndsInStar p → ⊥) → length w ≤ length p → UrlWordMatches w x → ⊥
UrlWordMatches-none w x p k ne e none l m =
    elim m [
      | inl a ↦ ne a
      | inr b ↦ let same : b.0 ≡ p = same_prefix b.0 p (b.1 + 1) k b.3 none (sym b.2 ∙ e) in
          omega (arith, ap length b.2, length-append b.0 (replicate (b.1 + 1) star), length-replicate (b.1 + 1) star, ap length same)
    ]

pub without_star_is : (text back : Text) (r : Option (Bor Text)) → back ≡ star ∷ [] → MatchOption r ((prefix : Text) → text ≢ prefix ++ back) (λ x. text ≡ x.now ++ back) → MatchOption r (EndsInStar text → ⊥) (λ x. text ≡ x.now ++ star ∷ [])
without_star_is text back None e h = λ b. h b.0 (b.1 ∙ ap (λ t. b.0 ++ t) (sym e))
without_star_is text back (Some x) e h = h ∙ ap (λ t. x.now ++ t) e

pub after_prefix_is : (text prefix : Text) (r : Option (Bor Text)) → MatchOption r ((rest : Text) → text ≢ prefix ++ rest) (λ x. text ≡ prefix ++ x.now) → MatchOption r (BeginsWith text prefix → ⊥) (λ x. text ≡ prefix ++ x.now)
after_prefix_is text prefix None h = λ b. h b.0 b.1
after_prefix_is text prefix (Some x) h = h
