-- What is printed as any, and what by its name; and what stands before a tab.
use Rattle.std.proofs.Common.{◌≡◌, ◌≢◌, ℕ, [], ◌∷◌, ◌++◌, refl, sym, ap, ◌∙◌, arith, Option, Some, None, codes, Contains, append_assoc}
use Rattle.std.specs.Str.{bytes_eq}
use Rattle.std.proofs.lemmas.Bool.Decides.{not_from_Decides}
use Rattle.std.proofs.lemmas.Slice.Eq.{bytes_eq-Decides}
use Rattle.rbac_terms.specs.Text.{Text, star}
use Rattle.rbac_terms.proofs.Cases.{by_bool}
use Rattle.rbac_terms.proofs.Texts.{IsCutAtFirst-one, IsCutAtFirst-prefix}
use Rattle.rbac_text.specs.Choice.{choice_text, choice_and_tab}
use Rattle.rbac_text.specs.Field.{field_text, code_text}
use Rattle.rbac_text.specs.Row.{tab, field_and_tab}
use Rattle.rbac_text.proofs.Unlike.{field_text-one, field_text-no_code, field_text-no_tab, code_text-no_tab, first_is}

-- a choice is any, what is called `*`, or another text
data Choice (a : Option Text) : Type 0 where
  Whatever : a ≡ None → choice_text a ≡ codes "*" → Choice a
  Starred : a ≡ Some (codes "*") → choice_text a ≡ code_text star → Choice a
  Named : (t : Text) → a ≡ Some t → t ≢ codes "*" → choice_text a ≡ field_text t → Choice a

choice : (a : Option Text) → Choice a
choice None = Whatever refl refl
choice (Some t) =
    let decides = bytes_eq-Decides t (codes "*") in
    by_bool (bytes_eq t (codes "*"))
    (λ is. Starred (ap (λ (x : Text). Some x) (decides.0 is)) (rw is refl))
    (λ isn. Named t refl (not_from_Decides (bytes_eq t (codes "*")) decides isn) (rw isn refl))

-- a star is neither a code nor a dash
star_differs_from_code : (c : ℕ) → codes "*" ≢ code_text c
star_differs_from_code c e = let bad : 42 ∷ [] ≡ code_text c = e in omega (arith, first_is 42 92 [] _ bad)

named_differs : (t : Text) → t ≢ codes "*" → field_text t ≢ codes "*"
named_differs t ne e = ne (field_text-one t (codes "*") e)

same_choice : (a b : Option Text) → Choice a → Choice b → choice_text a ≡ choice_text b → a ≡ b
same_choice a b (Whatever i u) (Whatever j v) e = i ∙ sym j
same_choice a b (Whatever i u) (Starred j v) e = absurd (star_differs_from_code star (sym u ∙ e ∙ v))
same_choice a b (Whatever i u) (Named t j n v) e = absurd (named_differs t n (sym v ∙ sym e ∙ u))
same_choice a b (Starred i u) (Whatever j v) e = absurd (star_differs_from_code star (sym v ∙ sym e ∙ u))
same_choice a b (Starred i u) (Starred j v) e = i ∙ sym j
same_choice a b (Starred i u) (Named t j n v) e = absurd (field_text-no_code t star (λ x. omega (arith, x)) refl (sym v ∙ sym e ∙ u))
same_choice a b (Named t i n u) (Whatever j v) e = absurd (named_differs t n (sym u ∙ e ∙ v))
same_choice a b (Named t i n u) (Starred j v) e = absurd (field_text-no_code t star (λ x. omega (arith, x)) refl (sym u ∙ e ∙ v))
same_choice a b (Named t i n u) (Named s j m v) e = i ∙ ap (λ (x : Text). Some x) (field_text-one t s (sym u ∙ e ∙ v)) ∙ sym j

pub choice_text-one : (a b : Option Text) → choice_text a ≡ choice_text b → a ≡ b
choice_text-one a b e = same_choice a b (choice a) (choice b) e

-- only the empty name is printed as the empty field
empty_choice : (a : Option Text) → Choice a → a ≢ Some [] → choice_text a ≢ field_text []
empty_choice a (Whatever i u) ne e = omega (arith, first_is 42 45 [] [] (sym u ∙ e))
empty_choice a (Starred i u) ne e = field_text-no_code [] star (λ x. omega (arith, x)) refl (sym e ∙ u)
empty_choice a (Named t i n u) ne e = ne (i ∙ ap (λ (x : Text). Some x) (field_text-one t [] (sym u ∙ e)))

-- ---- fields and the tabs after them

plain_choice : (a : Option Text) → Choice a → ¬ Contains (choice_text a) tab
plain_choice a (Whatever i u) has = field_text-no_tab (codes "*") (rw u at has)
plain_choice a (Starred i u) has = code_text-no_tab star (omega arith) (rw u at has)
plain_choice a (Named t i n u) has = field_text-no_tab t (rw u at has)

choice_text-no_tab : (a : Option Text) → ¬ Contains (choice_text a) tab
choice_text-no_tab a = plain_choice a (choice a)

-- what stands before a tab is one text, if it has no tab, and so is what follows
before_tab : (a b r s : Text) → ¬ Contains a tab → ¬ Contains b tab → (a ++ tab ∷ []) ++ r ≡ (b ++ tab ∷ []) ++ s → (a ≡ b) × (r ≡ s)
before_tab a b r s plain also_plain e =
    let same : a ++ tab ∷ r ≡ b ++ tab ∷ s = sym (append_assoc a (tab ∷ []) r) ∙ e ∙ append_assoc b (tab ∷ []) s in (
      IsCutAtFirst-prefix (a ++ tab ∷ r) a b r s tab (refl, plain) (same, also_plain),
      IsCutAtFirst-one (a ++ tab ∷ r) a b r s tab (refl, plain) (same, also_plain),
    )

pub field-one : (a b r s : Text) → field_and_tab a ++ r ≡ field_and_tab b ++ s → (a ≡ b) × (r ≡ s)
field-one a b r s e =
    let cut = before_tab (field_text a) (field_text b) r s (field_text-no_tab a) (field_text-no_tab b) e in
    (field_text-one a b cut.0, cut.1)

pub choice-one : (a b : Option Text) (r s : Text) → choice_and_tab a ++ r ≡ choice_and_tab b ++ s → (a ≡ b) × (r ≡ s)
choice-one a b r s e =
    let cut = before_tab (choice_text a) (choice_text b) r s (choice_text-no_tab a) (choice_text-no_tab b) e in
    (choice_text-one a b cut.0, cut.1)

-- a namespace that isn't the empty one is printed otherwise than that of a URL
pub namespace_tells : (a : Option Text) (r s : Text) → a ≢ Some [] → choice_and_tab a ++ r ≢ field_and_tab [] ++ s
namespace_tells a r s ne e =
    empty_choice a (choice a) ne (before_tab (choice_text a) (field_text []) r s (choice_text-no_tab a) (field_text-no_tab []) e).0
