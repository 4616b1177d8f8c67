-- which of two lines stands before the other, by their objects and by their places
use Rattle.std.proofs.Common.{◌≡◌, ℕ, ◌<◌, ◌+◌, inl, inr, List, [], ◌∷◌, get_or, sym, ap, ◌∙◌, refl, arith}
use Rattle.std.specs.Prelude.{Option, Some, None, slice_get, unwrap_or}
use Rattle.std.specs.declared.cmp.Ordering.TheVariants.{Less}
use Rattle.std.specs.Cmp.Lexicographic.{slice_cmp}
use Rattle.std.proofs.lemmas.Option.{slice_get_within, get_or_from_slice_get}
use Rattle.rbac_terms.specs.Text.{Text, text_cmp}
use Rattle.rbac_terms.specs.declared.granting.Binding.{Binding}
use Rattle.rbac_model.specs.Lists.{by_name, IsAscendingBy}
use Rattle.rbac_model.specs.Policies.{binding_name, binding_name_at}
use Rattle.rbac_lint.specs.declared.finding.Finding.{Finding}
use Rattle.rbac_lint.specs.Lines.{Line, ObjectName, object_texts, place_key, IsLineBefore, AddsLines, OfFirst}
use Rattle.rbac_lint.specs.Roles.{binding_object, binding_kind}
use Rattle.rbac_lint.proofs.Exact.{AddsLines-more}

later_place : (a b : Line) → a.code ≡ b.code → a.object ≡ b.object → place_key a.place < place_key b.place → IsLineBefore a b
later_place a b e o l = inr (e, inr (ap object_texts o, inl l))

-- ascending names, place by place
pub ascends : {X : Type 0} (name : X → List Text) (xs : List X) (k i : ℕ) (z y : X) → IsAscendingBy name xs → k < i → slice_get xs k ≡ Some z → slice_get xs i ≡ Some y → by_name name z y ≡ Less
ascends name xs k i z y up l f g =
    let below = up k i z l (slice_get_within xs i y g) in
    let first : get_or xs k z ≡ z = get_or_from_slice_get xs k z z f in
    let second : get_or xs i z ≡ y = get_or_from_slice_get xs i y z g in
    sym (ap (λ t. by_name name t (get_or xs i z)) first ∙ ap (λ t. by_name name z t) second) ∙ below

-- the lines of one element of a list have one code, and name it
pub record Names {X : Type 0} (name : X → List Text) (P : X → Line → Type 0) (code : ℕ) : Type 0 where
  pub code_is : (y : X) (x : Line) → P y x → x.code ≡ code
  pub object_is : (y : X) (x : Line) → P y x → object_texts x.object ≡ name y

-- and so the lines of one element after another are in order, where names ascend
module _ {X : Type 0} (name : X → List Text) (P : X → Line → Type 0) (code : ℕ) (names : Names name P code) where
  named_before : (z y : X) (a b : Line) → by_name name z y ≡ Less → P z a → P y b → IsLineBefore a b
  named_before z y a b l p q =
      inr (
        names.code_is z a p ∙ sym (names.code_is y b q),
        inl (ap (λ t. slice_cmp text_cmp t (object_texts b.object)) (names.object_is z a p) ∙ ap (λ t. slice_cmp text_cmp (name z) t) (names.object_is y b q) ∙ l),
      )

  pub AddsLines-next : (xs : List X) (i : ℕ) (y : X) (old mid new : List Finding) → IsAscendingBy name xs → slice_get xs i ≡ Some y → AddsLines (OfFirst (λ k z. P z) xs i) old mid → AddsLines (P y) mid new → AddsLines (OfFirst (λ k z. P z) xs (i + 1)) old new
  AddsLines-next xs i y old mid new up here p q =
      AddsLines-more (λ k z. P z) xs i y old mid new here p q
      (λ k z a b l e f g. named_before z y a b (ascends name xs k i z y up l e here) f g)

-- the lines of one place of an object have one code, and name the object and the place
pub record Places {X : Type 0} (P : ℕ → X → Line → Type 0) (code : ℕ) (object : ObjectName) : Type 0 where
  pub code_is : (k : ℕ) (y : X) (x : Line) → P k y x → x.code ≡ code
  pub object_is : (k : ℕ) (y : X) (x : Line) → P k y x → x.object ≡ object
  pub place_is : (k : ℕ) (y : X) (x : Line) → P k y x → x.place ≡ Some k

module _ {X : Type 0} (P : ℕ → X → Line → Type 0) (code : ℕ) (object : ObjectName) (places : Places P code object) where
  pub AddsLines-next_place : (xs : List X) (i : ℕ) (y : X) (old mid new : List Finding) → slice_get xs i ≡ Some y → AddsLines (OfFirst P xs i) old mid → AddsLines (P i y) mid new → AddsLines (OfFirst P xs (i + 1)) old new
  AddsLines-next_place xs i y old mid new here p q =
      AddsLines-more P xs i y old mid new here p q
      (λ k z a b l e f g. later_place a b (places.code_is k z a f ∙ sym (places.code_is i y b g)) (places.object_is k z a f ∙ sym (places.object_is i y b g))
      (omega (arith, l, ap place_key (places.place_is k z a f), ap place_key (places.place_is i y b g))))

-- a binding's object has its name
texts_of_binding : (namespace : Option Text) (name : Text) → binding_kind namespace ∷ unwrap_or namespace [] ∷ name ∷ [] ≡ binding_name_at namespace name
texts_of_binding None name = refl
texts_of_binding (Some namespace) name = refl

pub binding_object-name : (b : Binding) → object_texts (binding_object b) ≡ binding_name b
binding_object-name b = texts_of_binding b.namespace b.name
