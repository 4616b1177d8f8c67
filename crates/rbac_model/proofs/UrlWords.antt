-- what the tests of URL words say
use Rattle.std.proofs.Common.{◌≡◌, ◌≢◌, ℕ, ◌+◌, ◌⊎◌, List, [], ◌∷◌, ◌++◌, length, replicate, inl, inr, sym, ap, ◌∙◌, refl, subst, arith, zero, suc, add-one, ◌↔◌, Any, All, MatchOption, Bor}
use Rattle.std.specs.Prelude.{codes, Option, Some, None}
use Rattle.std.proofs.lemmas.List.{length-append}
use Rattle.std.proofs.lemmas.List.Elements.{All-cons, All-nil}
use Rattle.rbac_terms.specs.Text.{Text, star, slash, BeginsWith}
use Rattle.rbac_terms.specs.Matching.{UrlWordMatches, EndsInStar}
use Rattle.rbac_terms.specs.declared.matching.Rule.{Rule}
use Rattle.rbac_terms.specs.Targets.{IsPath}
use Rattle.rbac_model.proofs.UrlSamples.{reaches_matches, matches_reaches, slash_no_star, IsPath-more, IsUrlSample-one, Unstarred, unstarred, plain_sample, starred_sample}
use Rattle.rbac_model.specs.OwnWords.{AllowsUrlWord, GivesPath, IsStars, IsUrlSample, MatchesEachPath}

IsPath-less : (c : ℕ) (q rest : Text) → IsPath ((c ∷ q) ++ rest) → IsPath (c ∷ q)
IsPath-less c q rest p = let same : c ≡ slash = cc (p.1) in (q, ap (λ d. d ∷ q) same)

-- but stars is so many stars
replicate_stars : (t : Text) → All (λ b. b ≡ star) t → t ≡ replicate (length t) star
replicate_stars [] all = refl
replicate_stars (c ∷ t) all =
    let here : c ≡ star = all 0 star (omega arith) in
    let rest : All (λ b. b ≡ star) t = λ k d l. all (suc k) d (omega (arith, l)) in
    ap (λ d. d ∷ t) here ∙ ap (λ r. star ∷ r) (replicate_stars t rest)

all_stars : (k : ℕ) → All (λ b. b ≡ star) (replicate k star)
all_stars zero = All-nil (λ b. b ≡ star)
all_stars (suc k) = All-cons (λ b. b ≡ star) star (replicate k star) refl (all_stars k)

nonempty_length : (t : Text) → t ≢ [] → (k : ℕ) × (length t ≡ suc k)
nonempty_length [] ne = absurd (ne refl)
nonempty_length (c ∷ t) ne = (length t, refl)

stars_of : (t : Text) → IsStars t → (k : ℕ) × (t ≡ replicate (suc k) star)
stars_of t s = let n = nonempty_length t s.0 in (n.0, replicate_stars t s.1 ∙ ap (λ k. replicate k star) n.1)

IsStars-replicate : (t : Text) (k : ℕ) → t ≡ replicate (suc k) star → IsStars t
IsStars-replicate t k e =
    let P : Text → Type 0 = λ s. IsStars s in
    subst P (sym e) (λ n. cc, all_stars (suc k))

-- the sample of stars
stars_sample : (w : Text) → IsStars w → IsUrlSample w (codes "/*")
stars_sample w s = let n = stars_of w s in starred_sample w [] n.0 n.1 (λ b. absurd (omega (arith, ap length b.1, length-append b.0 (star ∷ []))))

-- a path, or stars, have a sample that is a path; and nothing else has
path_gives : (w p : Text) (k : ℕ) → w ≡ p ++ replicate k star → (EndsInStar p → ⊥) → IsPath w → GivesPath w
unfolding GivesPath
path_gives w p zero e none h = (w, plain_sample w p e none, h)
path_gives w [] (suc k) e none h = absurd (let same : star ≡ slash = cc (e, h.1) in omega (arith, same))
path_gives w (c ∷ p) (suc k) e none h =
    ((c ∷ p) ++ star ∷ [], starred_sample w (c ∷ p) k e none, IsPath-more (c ∷ p) (star ∷ []) (IsPath-less c p (replicate (suc k) star) (subst IsPath e h)))

gives_path : (w x : Text) → IsUrlSample w x → IsPath x → IsPath w ⊎ IsStars w
gives_path w x (inl a) p = inl (subst IsPath a.1 p)
gives_path w x (inr ([], k, e, none, same)) p = inr (IsStars-replicate w k (e ∙ ap (λ n. replicate n star) (add-one k)))
gives_path w x (inr (c ∷ q, k, e, none, same)) p =
    inl (subst IsPath (sym e) (IsPath-more (c ∷ q) (replicate (k + 1) star) (IsPath-less c q (star ∷ []) (subst IsPath same p))))

pub GivesPath-path : (w : Text) → IsPath w → GivesPath w
GivesPath-path w h = let u : Unstarred w = unstarred w in path_gives w u.prefix u.stars u.is u.none h

pub GivesPath-stars : (w : Text) → IsStars w → GivesPath w
unfolding GivesPath
GivesPath-stars w s = (codes "/*", stars_sample w s, (star ∷ [], refl))

pub GivesPath-only : (w : Text) → GivesPath w → IsPath w ⊎ IsStars w
unfolding GivesPath
GivesPath-only w g = gives_path w g.0 g.1 g.2

-- a rule allows a word by its one sample
AllowsUrlWord-sample : (r : Rule) (w y : Text) → IsUrlSample w y → (Any (λ u. UrlWordMatches u y) r.urls ↔ AllowsUrlWord r w)
unfolding AllowsUrlWord
AllowsUrlWord-sample r w y is = (
  λ h x s. (let P : Text → Type 0 = λ t. Any (λ u. UrlWordMatches u t) r.urls in subst P (IsUrlSample-one w y x is s) h),
  λ all. all y is,
)

any_else : (P Q : Text → Type 0) (us : List Text) → ((u : Text) → P u → Q u) → Any P us → Any Q us
any_else P Q us f h = (h.0, h.1, h.2, h.3, f h.1 h.4)

pub AllowsUrlWord-stars : (r : Rule) (w : Text) → IsStars w → (Any MatchesEachPath r.urls ↔ AllowsUrlWord r w)
unfolding MatchesEachPath
AllowsUrlWord-stars r w s = AllowsUrlWord-sample r w (codes "/*") (stars_sample w s)

word_allowed : (r : Rule) (w p : Text) (k : ℕ) → w ≡ p ++ replicate k star → (EndsInStar p → ⊥) → (IsStars w → ⊥) → (Any (λ u. UrlWordMatches u w) r.urls ↔ AllowsUrlWord r w)
word_allowed r w p zero e none other = AllowsUrlWord-sample r w w (plain_sample w p e none)
word_allowed r w [] (suc k) e none other = absurd (other (IsStars-replicate w k e))
word_allowed r w (c ∷ p) (suc k) e none other =
    let both = AllowsUrlWord-sample r w ((c ∷ p) ++ star ∷ []) (starred_sample w (c ∷ p) k e none) in
    let all : Text → Type 0 = λ u. UrlWordMatches u w in
    let one : Text → Type 0 = λ u. UrlWordMatches u ((c ∷ p) ++ star ∷ []) in (
      λ m. both.0 (any_else all one r.urls (λ u g. reaches_matches u (c ∷ p) (star ∷ []) (matches_reaches u (c ∷ p) k none (let P : Text → Type 0 = λ t. UrlWordMatches u t in subst P e g))) m),
      λ g. any_else one all r.urls (λ u g. (let P : Text → Type 0 = λ t. UrlWordMatches u t in subst P (sym e) (reaches_matches u (c ∷ p) (replicate (suc k) star) (matches_reaches u (c ∷ p) 0 none g)))) (both.1 g),
    )

pub AllowsUrlWord-other : (r : Rule) (w : Text) → (IsStars w → ⊥) → (Any (λ u. UrlWordMatches u w) r.urls ↔ AllowsUrlWord r w)
AllowsUrlWord-other r w other = let u : Unstarred w = unstarred w in word_allowed r w u.prefix u.stars u.is u.none other

-- a word matches each path where it is stars, or stars behind a slash
slash_stars : (rest : Text) → IsStars rest → UrlWordMatches (slash ∷ rest) (codes "/*")
slash_stars rest s = let n = stars_of rest s in inr (codes "/", n.0, ap (λ t. slash ∷ t) n.1 ∙ ap (λ k. slash ∷ replicate k star) (sym (add-one n.0)), slash_no_star, (star ∷ [], refl))

stars_behind : (rest q : Text) (k : ℕ) → slash ∷ rest ≡ q ++ replicate (suc k) star → (EndsInStar q → ⊥) → BeginsWith (codes "/*") q → IsStars rest
stars_behind rest [] k e none b = absurd (let same : slash ≡ star = cc (e) in omega (arith, same))
stars_behind rest (c ∷ []) k e none b = IsStars-replicate rest k (cc)
stars_behind rest (c ∷ d ∷ []) k e none b =
    absurd (none (c ∷ [], ap (λ x. c ∷ x ∷ []) (let same : d ≡ star = cc (b.1) in same)))
stars_behind rest (c ∷ d ∷ x ∷ q) k e none b = absurd (omega (arith, ap length b.1, length-append (c ∷ d ∷ x ∷ q) b.0))

pub MatchesEachPath-slash : (w rest : Text) → w ≡ slash ∷ rest → (IsStars rest ↔ MatchesEachPath w)
unfolding MatchesEachPath
MatchesEachPath-slash w rest e = (
  λ s. (let P : Text → Type 0 = λ t. UrlWordMatches t (codes "/*") in subst P (sym e) (slash_stars rest s)),
  λ m. elim m [
    | inl same ↦ IsStars-replicate rest 0 (cc)
    | inr b ↦ stars_behind rest b.0 b.1 (sym e ∙ b.2 ∙ ap (λ n. b.0 ++ replicate n star) (add-one b.1)) b.3 b.4
  ],
)

stars_alone : (w q : Text) (k : ℕ) → (IsPath w → ⊥) → w ≡ q ++ replicate (suc k) star → BeginsWith (codes "/*") q → IsStars w
stars_alone w [] k path e b = IsStars-replicate w k e
stars_alone w (c ∷ q) k path e b =
    let same : c ≡ slash = cc (b.1) in
    absurd (path (q ++ replicate (suc k) star, e ∙ ap (λ d. d ∷ q ++ replicate (suc k) star) same))

pub MatchesEachPath-else : (w : Text) → (IsPath w → ⊥) → (IsStars w ↔ MatchesEachPath w)
unfolding MatchesEachPath
MatchesEachPath-else w path = (
  λ s. (let n = stars_of w s in inr ([], n.0, n.1 ∙ ap (λ k. replicate k star) (sym (add-one n.0)), (λ b. absurd (omega (arith, ap length b.1, length-append b.0 (star ∷ [])))), (codes "/*", refl))),
  λ m. elim m [
    | inl same ↦ absurd (path (star ∷ [], same))
    | inr b ↦ stars_alone w b.0 b.1 path (b.2 ∙ ap (λ n. b.0 ++ replicate n star) (add-one b.1)) b.4
  ],
)

pub after_slash_is : (text prefix : Text) (r : Option (Bor Text)) → prefix ≡ codes "/" → MatchOption r ((rest : Text) → text ≢ prefix ++ rest) (λ x. text ≡ prefix ++ x.now) → MatchOption r (IsPath text → ⊥) (λ x. text ≡ codes "/" ++ x.now)
after_slash_is text prefix None e h = λ b. h b.0 (b.1 ∙ ap (λ t. t ++ b.0) (sym e))
after_slash_is text prefix (Some x) e h = h ∙ ap (λ t. t ++ x.now) e
