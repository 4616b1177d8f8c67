-- The group of a group version, by where its first slash stands.
use Rattle.std.proofs.Common.{◌||◌, ◌≡◌, ◌≢◌, ℕ, ◌<◌, ◌==◌, Bool, true, false, List, [], ◌∷◌, ◌++◌, Option, Some, None, cond, length, Contains, refl, ap, arith, suc, zero, inl, inr, ◌⊎◌, get_or}
use Rattle.std.proofs.lemmas.Bool.{cases_Bool}
use Rattle.std.proofs.lemmas.Bool.Decides.{nat_tests}
use Rattle.std.specs.List.{onto_first, list_any}
use Rattle.rbac_terms.specs.Text.{Text, slash, IsCutAtFirst}
use Rattle.json_fields.specs.Fields.{is_empty}
use Rattle.rbac_manifest.specs.ApiList.{parts, group_by, group_of}

-- a text that isn't empty and has no slash
abbrev IsPart : Text → Type 0
IsPart t = (t ≢ []) × (¬ Contains t slash)

no_slash_first : (b : ℕ) (t : Text) → ¬ Contains (b ∷ t) slash → (b == slash) ≡ false
no_slash_first b t lacks = let other : b ≢ slash = λ e. lacks (0, omega arith, e) in grind (arith, nat_tests)

no_slash_behind : (b : ℕ) (t : Text) → ¬ Contains (b ∷ t) slash → ¬ Contains t slash
no_slash_behind b t lacks w = lacks (suc w.0, omega arith, w.2)

-- a text without a slash is one part
parts-one : (t : Text) → ¬ Contains t slash → parts t ≡ t ∷ []
parts-one [] lacks = refl
parts-one (b ∷ t) lacks = rw (no_slash_first b t lacks, parts-one t (no_slash_behind b t lacks)) refl

-- what stands before the first slash is the first part
parts-cut : (prefix rest : Text) → ¬ Contains prefix slash → parts (prefix ++ slash ∷ rest) ≡ prefix ∷ parts rest
parts-cut [] rest lacks = refl
parts-cut (b ∷ prefix) rest lacks = rw (no_slash_first b prefix lacks, parts-cut prefix rest (no_slash_behind b prefix lacks)) refl

-- there is always a part
some_part : (t : Text) → (first : Text) × (others : List Text) × (parts t ≡ first ∷ others)
some_part [] = ([], [], refl)
some_part (b ∷ t) =
    let behind = some_part t in
    elim (b == slash) as (λ x. (first : Text) × (others : List Text) × (cond x ([] ∷ parts t) (onto_first b (parts t)) ≡ first ∷ others)) [
      | true ↦ ([], parts t, refl)
      | false ↦ (b ∷ behind.0, behind.1, ap (onto_first b) behind.2)
    ]

-- a text has at least two parts
abbrev TwoParts : Text → Type 0
TwoParts t = (first second : Text) × (others : List Text) × (parts t ≡ first ∷ second ∷ others)

lacks_more : (b : ℕ) (t : Text) → (b == slash) ≡ false → ¬ Contains t slash → ¬ Contains (b ∷ t) slash
lacks_more b t other lacks w = elim w.0 as (λ k. k < length (b ∷ t) → get_or (b ∷ t) k slash ≡ slash → ⊥) [
  | zero ↦ λ _ e. grind (arith, nat_tests)
  | suc k ↦ λ l e. lacks (k, omega arith, e)
] w.1 w.2

-- a text has no slash, or at least two parts
slash_or_not : (t : Text) → (¬ Contains t slash) ⊎ TwoParts t
slash_or_not [] = inl (λ w. omega (arith, w.1))
slash_or_not (b ∷ t) = elim (cases_Bool (b == slash)) [
  | inl is ↦ let behind = some_part t in inr ([], behind.0, behind.1, rw (is, behind.2) refl)
  | inr other ↦ elim (slash_or_not t) [
    | inl lacks ↦ inl (lacks_more b t other lacks)
    | inr two ↦ inr (b ∷ two.0, two.1, two.2, rw (other, two.3) refl)
  ]
]

not_empty : (t : Text) → t ≢ [] → is_empty t ≡ false
not_empty [] there = absurd (there refl)
not_empty (b ∷ t) there = grind (arith, nat_tests)

-- a part alone is the version
pub group_of-alone : (t : Text) → IsPart t → Some [] ≡ group_of t
unfolding group_of
group_of-alone t part = rw (parts-one t part.1, not_empty t part.0) refl

-- what has no slash is else empty
pub group_of-nothing : (t : Text) → (IsPart t → ⊥) → ¬ Contains t slash → None ≡ group_of t
unfolding group_of
group_of-nothing [] bad lacks = refl
group_of-nothing (b ∷ t) bad lacks = absurd (bad (λ e. cc, lacks))

-- a part that follows the first slash is the version, and what stands before it the group
pub group_of-cut : (t group version : Text) → IsCutAtFirst t slash group version → IsPart group → IsPart version → Some group ≡ group_of t
unfolding group_of
group_of-cut t group version cut named part = rw (cut.0, parts-cut group version cut.1, parts-one version part.1, not_empty group named.0, not_empty version part.0) refl

either_way : (x : Bool) (o : Option Text) → o ≡ cond x o o
either_way true o = refl
either_way false o = refl

no_version : (group version : Text) → (IsPart version → ⊥) → None ≡ cond (list_any is_empty (group ∷ parts version)) None (group_by (group ∷ parts version))
no_version group [] bad = elim (is_empty group) as (λ x. None ≡ cond (x || true) None (Some group)) [ true ↦ refl | false ↦ refl ]
no_version group (b ∷ version) bad = elim (slash_or_not (b ∷ version)) [
  | inl none ↦ absurd (bad (λ e. cc, none))
  | inr two ↦ rw two.3 (either_way _ None)
]

-- other texts with a slash name no group
pub group_of-bad : (t group version : Text) → IsCutAtFirst t slash group version → (IsPart group → IsPart version → ⊥) → None ≡ group_of t
unfolding group_of
group_of-bad t [] version cut bad = rw cut.0 refl
group_of-bad t (b ∷ group) version cut bad = rw (cut.0, parts-cut (b ∷ group) version cut.1) (no_version (b ∷ group) version (bad (λ e. cc, cut.1)))
