-- What the lines of a `diff` tell of what is gained.
use Rattle.std.proofs.Common.{◌≡◌, ◌↔◌, List, [], ◌∷◌, ◌++◌, All, Contains, arith, ap, sym, subst, refl, ◌∙◌, map, codes, inl, inr}
use Rattle.std.specs.Prelude.{◌==◌, Option, Some, None}
use Rattle.std.specs.Str.{bytes_eq}
use Rattle.std.proofs.lemmas.List.{append_assoc}
use Rattle.std.proofs.lemmas.List.Elements.{All-nil, All-cons, All-append, All-weaker, All-head, All-tail, All-contains, All-contains_itself, Contains-append_left, Contains-append_cases}
use Rattle.std.proofs.lemmas.List.Splits.{slice_split_at}
use Rattle.rbac_terms.specs.Text.{Text, BeginsWith, star}
use Rattle.rbac_terms.specs.Principals.{who_key}
use Rattle.rbac_terms.proofs.Cases.{by_bool}
use Rattle.rbac_text.specs.Field.{code_text}
use Rattle.rbac_text.specs.Row.{tab, newline, field_and_tab, binding_scope, binding_text}
use Rattle.rbac_text.proofs.Unlike.{first_is}
use Rattle.rbac_universe.proofs.Flattened.{contains_map, map_contains}
use Rattle.rbac_universe.proofs.OneMore.{as_any}
use Rattle.rbac_model.specs.Policies.{PolicyView}
use Rattle.rbac_diff.specs.Permissions.{PermissionView, Permitted, OnResource, OnUrl}
use Rattle.rbac_text.specs.Choice.{choice_text, choice_and_tab}
use Rattle.rbac_diff.specs.Texts.{namespace_text, target_text, permission_text}
use Rattle.rbac_diff.specs.Changes.{ChangeView, AreChanges, NoneGained}
use Rattle.rbac_diff.specs.Lines.{sign, change_text}
use Rattle.rbac_diff.specs.declared.change.ChangeKind.{ChangeKind}
use Rattle.rbac_diff.specs.declared.change.ChangeKind.TheVariants.{Gained, Lost}
use Rattle.rbac_cli.specs.Out.{changes_text}
use Rattle.rbac_cli.specs.PlusLines.{HasPlusLine}
use Rattle.rbac_cli.specs.TextLines.{lines_in}
use Rattle.rbac_cli.proofs.LinesLemmas.{IsInline, and_tab, field_inline, fields_inline}

-- ---- no newline stands in a change but at its end

star_inline : All IsInline (codes "*")
star_inline = All-cons IsInline 42 [] refl (All-nil IsInline)

coded_star_inline : All IsInline (code_text star)
coded_star_inline = All-cons IsInline 92 (120 ∷ 50 ∷ 97 ∷ []) refl (All-cons IsInline 120 (50 ∷ 97 ∷ []) refl (All-cons IsInline 50 (97 ∷ []) refl (All-cons IsInline 97 [] refl (All-nil IsInline))))

choice_inline : (o : Option Text) → All IsInline (choice_text o)
choice_inline None = star_inline
choice_inline (Some t) = by_bool (bytes_eq t (codes "*")) (λ is. rw is coded_star_inline) (λ isn. rw isn (field_inline t))

choices_inline : (o : Option Text) → All IsInline (choice_and_tab o)
choices_inline o = and_tab (choice_text o) (choice_inline o)

namespace_inline : (t : Permitted) → All IsInline (namespace_text t)
namespace_inline (OnResource namespace group resource name) = choices_inline namespace
namespace_inline (OnUrl url) = fields_inline []

target_inline : (t : Permitted) → All IsInline (target_text t)
target_inline (OnResource namespace group resource name) =
    All-append IsInline (field_and_tab group ++ field_and_tab resource) (choice_and_tab name)
    (All-append IsInline (field_and_tab group) (field_and_tab resource) (fields_inline group) (fields_inline resource)) (choices_inline name)
target_inline (OnUrl url) =
    All-append IsInline (field_and_tab [] ++ field_and_tab url) (field_and_tab [])
    (All-append IsInline (field_and_tab []) (field_and_tab url) (fields_inline []) (fields_inline url)) (fields_inline [])

permission_inline : (p : PermissionView) → All IsInline (permission_text p)
permission_inline p =
    let who = field_and_tab (who_key p.principal) in
    let namespace = namespace_text p.target in
    let verb = field_and_tab p.verb in
    All-append IsInline ((who ++ namespace) ++ verb) (target_text p.target)
    (All-append IsInline (who ++ namespace) verb (All-append IsInline who namespace (fields_inline (who_key p.principal)) (namespace_inline p.target)) (fields_inline p.verb))
    (target_inline p.target)

-- the line of a change without its newline
abbrev body : ChangeView → Text
body x = sign x.kind ∷ tab ∷ x.permission ++ binding_text x.binding

sign_inline : (k : ChangeKind) → IsInline (sign k)
sign_inline Gained = refl
sign_inline Lost = refl

body_inline : (x : ChangeView) → All IsInline x.permission → All IsInline (body x)
body_inline x all =
    All-cons IsInline (sign x.kind) (tab ∷ x.permission ++ binding_text x.binding) (sign_inline x.kind) (All-cons IsInline tab (x.permission ++ binding_text x.binding) refl
    (All-append IsInline x.permission (binding_text x.binding) all (field_inline (binding_scope x.binding.namespace ++ x.binding.name))))

-- ---- so the lines are those of the changes

text_is : (x : ChangeView) (rest : Text) → change_text x ++ rest ≡ body x ++ newline ∷ rest
text_is x rest = ap (λ (t : Text). sign x.kind ∷ tab ∷ t) (append_assoc (x.permission ++ binding_text x.binding) (newline ∷ []) rest)

lines_of : (xs : List ChangeView) → All (λ x. All IsInline (body x)) xs → lines_in (changes_text xs) ≡ map body xs ++ [] ∷ []
lines_of [] all = refl
lines_of (x ∷ xs) all =
    ap lines_in (text_is x (changes_text xs))
    ∙ slice_split_at (λ b. b == newline) (body x) newline (changes_text xs) (All-head (λ y. All IsInline (body y)) x xs all) refl
    ∙ ap (λ l. body x ∷ l) (lines_of xs (All-tail (λ y. All IsInline (body y)) x xs all))

gained_by_sign : (k : ChangeKind) (r s : Text) → sign k ∷ r ≡ 43 ∷ s → k ≡ Gained
gained_by_sign Gained r s e = refl
gained_by_sign Lost r s e = let bad = first_is 45 43 r s e in absurd (omega (arith, bad))

begins : (x : ChangeView) → x.kind ≡ Gained → BeginsWith (body x) (codes "+")
begins x e = (tab ∷ x.permission ++ binding_text x.binding, ap (λ (k : ChangeKind). sign k ∷ tab ∷ x.permission ++ binding_text x.binding) e)

pub plus_lines : (before after : PolicyView) (xs : List ChangeView) → AreChanges before after xs → (¬ HasPlusLine (changes_text xs)) ↔ NoneGained xs
plus_lines before after xs are =
    let inline : All (λ x. All IsInline (body x)) xs =
    All-weaker (Contains xs) (λ x. All IsInline (body x))
    (λ x among. let p = (are.exact x).0 among in body_inline x (subst (All IsInline) (sym p.1) (permission_inline p.0))) xs (All-contains_itself xs) in
    let same = lines_of xs inline in (
      λ none (k, x, lt, at, gained).
          let line = Contains-append_left (map body xs) ([] ∷ []) (body x) (map_contains body xs x (k, lt, at)) in
          none (as_any (λ l. BeginsWith l (codes "+")) (lines_in (changes_text xs)) (body x) (subst (λ (ls : List Text). Contains ls (body x)) (sym same) line) (begins x gained)),
      λ none (k, line, lt, at, plus).
          elim (Contains-append_cases (map body xs) ([] ∷ []) line (subst (λ (ls : List Text). Contains ls line) same (k, lt, at))) [
            | inl is ↦ let (x, among, e) = contains_map body xs line is in
                none (as_any (λ y. y.kind ≡ Gained) xs x among (gained_by_sign x.kind _ plus.0 (e ∙ plus.1)))
            | inr last ↦ let empty : line ≡ [] = All-contains (λ l. l ≡ []) ([] ∷ []) line (All-cons (λ l. l ≡ []) [] [] refl (All-nil (λ l. l ≡ []))) last in
                let bad : [] ≡ 43 ∷ plus.0 = sym empty ∙ plus.1 in cc
          ],
    )
