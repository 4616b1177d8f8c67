-- what matches a path, taken as a text, is the path itself, or has a prefix with which it begins
use Rattle.std.proofs.Common.{◌≡◌, ◌+◌, ◌⊎◌, [], ◌∷◌, replicate, inl, inr, ap, ◌∙◌, subst, arith, add-one}
use Rattle.rbac_terms.specs.Text.{Text, star, slash, BeginsWith}
use Rattle.rbac_terms.specs.Targets.{IsPath}
use Rattle.rbac_terms.specs.Matching.{UrlWordMatches, IsBeforeStars}
use Rattle.rbac_model.specs.OwnWords.{IsUrlSample}
use Rattle.rbac_model.proofs.UrlSamples.{BeginsWith-through, ReachesBelow, matches_reaches}

begins_with : (u w q : Text) → ReachesBelow u q → BeginsWith w q → (prefix : Text) × IsBeforeStars u prefix × BeginsWith w prefix
begins_with u w q r b = (r.0, (r.1, r.2, r.3), BeginsWith-through w q r.0 b r.4)

pub UrlWordMatches-begins : (u w x : Text) → IsPath w → IsUrlSample w x → UrlWordMatches u x → (u ≡ w) ⊎ ((prefix : Text) × IsBeforeStars u prefix × BeginsWith w prefix)
UrlWordMatches-begins u w x path (inl a) (inl e) = inl (e ∙ a.1)
UrlWordMatches-begins u w x path (inl a) (inr b) = inr (b.0, (b.1, b.2, b.3), subst (λ (t : Text). BeginsWith t b.0) a.1 b.4)
UrlWordMatches-begins u w x path (inr ([], k, e, none, same)) m =
    absurd (let stars : w ≡ star ∷ replicate k star = e ∙ ap (λ n. replicate n star) (add-one k) in let slashed : star ≡ slash = cc (stars, path.1) in omega (arith, slashed))
UrlWordMatches-begins u w x path (inr (c ∷ q, k, e, none, same)) m =
    let reaches = matches_reaches u (c ∷ q) 0 none (subst (λ (t : Text). UrlWordMatches u t) same m) in
    inr (begins_with u w (c ∷ q) reaches (replicate (k + 1) star, e))
