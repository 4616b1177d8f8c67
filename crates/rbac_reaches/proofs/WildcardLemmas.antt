-- what words with wildcards match, by what the wildcards stand for
use Rattle.std.proofs.Common.{◌≡◌, ◌≢◌, ℕ, ◌+◌, ◌<◌, ◌⊎◌, inl, inr, List, [], ◌∷◌, ◌++◌, get_or, length, take, drop, sym, ap, ◌∙◌, refl, subst, arith, Any, Contains, ◌↔◌, Bool, true, IsTrue, add-one}
use Rattle.std.specs.Prelude.{nat_eq}
use Rattle.std.specs.List.{dedup, starts_with}
use Rattle.std.specs.List.Sorted.{IsSorted, IsPermutation}
use Rattle.std.proofs.lemmas.List.{length_push, get_or_push}
use Rattle.std.proofs.lemmas.List.Elements.{Contains-push, Contains-push_cases, Contains-append_left}
use Rattle.std.proofs.lemmas.List.Sorted.{Contains-permutation, IsPermutation-sym}
use Rattle.std.proofs.lemmas.Slice.Eq.{starts_is}
use Rattle.std.proofs.lemmas.Bool.Decides.{Decides-eqb}
use Rattle.std.proofs.Math.Seq.{take-suc}
use Rattle.rbac_terms.specs.Text.{Text, BeginsWith, IsCutAtFirst, slash, text_cmp}
use Rattle.rbac_terms.specs.Matching.{WordMatches, ResourceWordMatches, UrlWordMatches, FollowsFirstSlash, IsBeforeStars}
use Rattle.rbac_terms.proofs.Reading.{any_pushed, any_kept}
use Rattle.rbac_terms.proofs.Texts.{IsCutAtFirst-one, IsCutAtFirst-contains}
use Rattle.rbac_model.proofs.OwnWords.{any_weaker}
use Rattle.rbac_reaches.specs.Wildcards.{ArePartsOf, AddsPart, AreSubresources, AreUrlPrefixes, IsForEvery}
use Rattle.rbac_reaches.proofs.PrefixLemmas.{any_of, dedup_apart, dedup_begins, sorted_rises}

-- ---- the parts of words, word by word

any_last : {X : Type 0} (P : X → Type 0) (xs : List X) (x : X) → P x → Any P (xs ++ x ∷ [])
any_last P xs x h = (length xs, x, omega (arith, length_push xs x), get_or_push xs x x (length xs) refl, h)

module _ (IsPart : Text → Text → Type 0) where
  -- the parts of one word more
  pub parts_more : (words old new : List Text) (i : ℕ) (w : Text) → i < length words → w ≡ get_or words i w → ArePartsOf IsPart (take i words) old → AddsPart IsPart w old new → ArePartsOf IsPart (take (i + 1) words) new
  parts_more words old new i w lt is are adds p =
      let some = λ (v : Text). IsPart v p in
      let e : take (i + 1) words ≡ take i words ++ w ∷ [] = ap (λ n. take n words) (add-one i) ∙ take-suc words i w lt ∙ ap (λ (x : Text). take i words ++ x ∷ []) (sym is) in
      rw e (
        λ c. elim ((adds p).0 c) [
          | inl o ↦ any_kept some (take i words) w ((are p).0 o)
          | inr n ↦ any_last some (take i words) w n
        ],
        λ a. (adds p).1 (elim (any_pushed some (take i words) w a) [ inl o ↦ inl ((are p).1 o) | inr n ↦ inr n ]),
      )

  pub adds_none : (w : Text) (old : List Text) → ((p : Text) → ¬ IsPart w p) → AddsPart IsPart w old old
  adds_none w old none p = (λ c. inl c, λ e. elim e [ inl c ↦ c | inr n ↦ absurd (none p n) ])

  -- a word has one part at most
  pub adds_one : (w part : Text) (old : List Text) → IsPart w part → ((p : Text) → IsPart w p → part ≡ p) → AddsPart IsPart w old (old ++ part ∷ [])
  adds_one w part old is one p = (
    λ c. elim (Contains-push_cases old part p c) [ inl o ↦ inl o | inr e ↦ inr (subst (IsPart w) e is) ],
    λ e. elim e [
      | inl o ↦ Contains-append_left old (part ∷ []) p o
      | inr n ↦ subst (Contains (old ++ part ∷ [])) (one p n) (Contains-push old part)
    ],
  )

-- ---- what the words match

-- whether a text begins with another one is a test
pub begins_iff : (x p : Text) → (starts_with nat_eq x p ≡ true) ↔ BeginsWith x p
begins_iff x p = let begins = starts_is Decides-eqb x p (starts_with nat_eq x p) refl in (λ h. (drop (length p) x, begins.0 h), λ b. begins.1 b.0 b.1)

-- some word has a part that Q is true of, exactly if Q is true of some part
any_part : (IsPart : Text → Text → Type 0) (Q : Text → Type 0) (words parts : List Text) → ArePartsOf IsPart words parts → Any Q parts ↔ Any (λ w. (p : Text) × IsPart w p × Q p) words
any_part IsPart Q words parts are = (
  λ (k, p, lt, at, h). any_weaker (λ w. IsPart w p) (λ w. (q : Text) × IsPart w q × Q q) words (λ w is. (p, is, h)) ((are p).0 (k, lt, at)),
  λ (k, w, lt, at, (p, is, h)). let c = (are p).1 (k, w, lt, at, is) in (c.0, p, c.1, c.2, h),
)

-- a text is matched as it is written, or by its subresource
pub resource_looked_up : (words subresources : List Text) (x : Text) (P Q : Type 0) → AreSubresources words subresources → (P ↔ Any (λ w. WordMatches w x) words) → (Q ↔ Any (λ s. (s ≢ []) × FollowsFirstSlash x s) subresources)
    → (P ⊎ Q) ↔ Any (λ w. ResourceWordMatches w x) words
resource_looked_up words subresources x P Q are p q =
    let parts = any_part IsForEvery (λ s. (s ≢ []) × FollowsFirstSlash x s) words subresources are.exact in (
      λ e. elim e [
        | inl h ↦ any_weaker (λ w. WordMatches w x) (λ w. ResourceWordMatches w x) words (λ w m. inl m) (p.0 h)
        | inr h ↦ any_weaker _ (λ w. ResourceWordMatches w x) words (λ w m. inr (m.0, m.1, m.2.0, m.2.1)) (parts.0 (q.0 h))
      ],
      λ (k, w, lt, at, m). elim m [
        | inl h ↦ inl (p.1 (k, w, lt, at, h))
        | inr h ↦ inr (q.1 (parts.1 (k, w, lt, at, (h.0, h.1, (h.2, h.3)))))
      ],
    )

-- a path is matched as it is written, or by a prefix
pub url_looked_up : (words prefixes : List Text) (x : Text) (P Q : Type 0) → AreUrlPrefixes words prefixes → (P ↔ Contains words x) → (Q ↔ Any (BeginsWith x) prefixes) → (P ⊎ Q) ↔ Any (λ w. UrlWordMatches w x) words
url_looked_up words prefixes x P Q are p q = (
  λ e. elim e [
    | inl h ↦ let c = p.0 h in (c.0, x, c.1, c.2, inl refl)
    | inr h ↦ any_weaker _ (λ w. UrlWordMatches w x) words (λ w m. inr (m.0, m.1.0, m.1.1, m.1.2, m.2)) ((are.exact x).0 (q.0 h))
  ],
  λ (k, w, lt, at, m). elim m [
    | inl same ↦ inl (p.1 (subst (Contains words) same (k, lt, at)))
    | inr h ↦ inr (q.1 ((are.exact x).1 (k, w, lt, at, (h.0, (h.1, h.2, h.3), h.4))))
  ],
)

-- sorting moves parts, and a prefix that begins with another one tells nothing more
pub prefixes_from : (words all sorted : List Text) → ArePartsOf IsBeforeStars words all → IsPermutation all sorted → IsSorted text_cmp sorted → AreUrlPrefixes words (dedup (starts_with nat_eq) sorted)
prefixes_from words all sorted are moved up = record {
  apart = dedup_apart (starts_with nat_eq) begins_iff sorted (sorted_rises sorted up);
  exact = λ x.
      let parts = any_part IsBeforeStars (BeginsWith x) words all are in
      let begins = dedup_begins (starts_with nat_eq) begins_iff x sorted in (
        λ a. parts.0 (any_of (BeginsWith x) sorted all (λ y. Contains-permutation sorted all y (IsPermutation-sym all sorted moved)) (begins.0 a)),
        λ a. begins.1 (any_of (BeginsWith x) all sorted (λ y. Contains-permutation all sorted y moved) (parts.1 a)),
      );
}

pub subresources_from : (words all sorted : List Text) → ArePartsOf IsForEvery words all → IsPermutation all sorted → IsSorted text_cmp sorted → AreSubresources words sorted
subresources_from words all sorted are moved up = record {
  sorted = up;
  exact = λ p. (
    λ c. (are p).0 (Contains-permutation sorted all p (IsPermutation-sym all sorted moved) c),
    λ a. Contains-permutation all sorted p moved ((are p).1 a),
  );
}

-- ---- the subresource of a text

module _ (sorted : List Text) (x m rest : Text) (cut : IsCutAtFirst x slash m rest) where
  pub follows_among : (r : Bool) → rest ≢ [] → (IsTrue r ↔ Contains sorted rest) → IsTrue r ↔ Any (λ s. (s ≢ []) × FollowsFirstSlash x s) sorted
  follows_among r some among = (
    λ h. let c = among.0 h in (c.0, rest, c.1, c.2, (some, (m, cut))),
    λ (k, s, lt, at, (ne, (n, other))). among.1 (subst (Contains sorted) (IsCutAtFirst-one x n m s rest slash other cut) (k, lt, at)),
  )

  pub follows_nothing : rest ≡ [] → Any (λ s. (s ≢ []) × FollowsFirstSlash x s) sorted → ⊥
  follows_nothing none (k, s, lt, at, (ne, (n, other))) = ne (IsCutAtFirst-one x n m s rest slash other cut ∙ none)

pub follows_never : (sorted : List Text) (x : Text) → ¬ Contains x slash → Any (λ s. (s ≢ []) × FollowsFirstSlash x s) sorted → ⊥
follows_never sorted x none (k, s, lt, at, (ne, (m, cut))) = none (IsCutAtFirst-contains x m s slash cut)
