-- Where the lines of a rule stand, and that their places are within the rule's lists.
use Rattle.std.proofs.Common.{arith, ◌≤◌, ◌↔◌, ◌∙◌, ◌≡◌, ℕ, ◌<◌, List, [], ◌∷◌, ◌++◌, Option, Some, None, length, inl, inr, refl, sym, ap, subst}
use Rattle.std.proofs.lemmas.Option.{same_Some, slice_get_within}
use Rattle.rbac_use.specs.Adding.{AddsLines, OfFirst, OfSome, line_at}
use Rattle.rbac_use.specs.Asked.{IsAskedBy}
use Rattle.rbac_use.specs.Rules.{IsGrantLine, IsGroupLine, IsNameLine, IsPermissionLine, IsResourceLine, IsRuleLine, IsUrlLine, IsVerbLine, UseView, grant_use}
use Rattle.rbac_use.specs.Unused.{line_places}
use Rattle.rbac_use.specs.declared.permission.TargetPlaces.TheVariants.{Resource}
use Rattle.rbac_use.specs.Used.{CanBeUsed, IsGrantOf}
use Rattle.rbac_use.specs.declared.request.Request.{Request}
use Rattle.rbac_use.specs.declared.unused.Part.TheVariants.{Rule}
use Rattle.rbac_use.specs.declared.unused.Unused.{Unused}
use Rattle.rbac_model.specs.Policies.{GrantView, IsOfBinding, PolicyView}
use Rattle.rbac_use.proofs.Exact.{lines_append, lines_none, lines_one, lines_same, lines_some}
use Rattle.rbac_use.proofs.Grants.{number_within}
use Rattle.rbac_use.proofs.Places.{StandAt, before_at, before_longer}
use Rattle.rbac_use.proofs.Words.{name_within, resource_words, url_words}

module _ (u : UseView) (verb : ℕ) where
  pub url_stands : (k : ℕ) → StandAt (u.place ∷ 1 ∷ u.number ∷ verb ∷ 0 ∷ k ∷ []) (IsUrlLine u verb k)
  url_stands k x h = ([], ap line_places h.0)

  any_stands : (j k : ℕ) (x : Unused) → IsPermissionLine u verb (Resource j k None) x → line_places x ≡ u.place ∷ 1 ∷ u.number ∷ verb ∷ 1 ∷ j ∷ k ∷ []
  any_stands j k x h = ap line_places h.0

  pub name_stands : (j k l : ℕ) → StandAt (u.place ∷ 1 ∷ u.number ∷ verb ∷ 1 ∷ j ∷ k ∷ l ∷ []) (IsNameLine u verb j k l)
  name_stands j k l x h = ([], ap line_places h.0)

  pub resource_stands : (j k : ℕ) → StandAt (u.place ∷ 1 ∷ u.number ∷ verb ∷ 1 ∷ j ∷ k ∷ []) (IsResourceLine u verb j k)
  resource_stands j k x (inl h) = ([], any_stands j k x h)
  resource_stands j k x (inr (l, h)) = let s = name_stands j k l x h in (l ∷ s.0, s.1)

  pub group_stands : (j : ℕ) → StandAt (u.place ∷ 1 ∷ u.number ∷ verb ∷ 1 ∷ j ∷ []) (IsGroupLine u verb j)
  group_stands j x (k, h) = let s = resource_stands j k x h in (k ∷ s.0, s.1)

pub verb_stands : (u : UseView) (verb : ℕ) → StandAt (u.place ∷ 1 ∷ u.number ∷ verb ∷ []) (IsVerbLine u verb)
verb_stands u verb x (inl (k, h)) = let s = url_stands u verb k x h in (0 ∷ k ∷ s.0, s.1)
verb_stands u verb x (inr (j, h)) = let s = group_stands u verb j x h in (1 ∷ j ∷ s.0, s.1)

pub rule_stands : (u : UseView) → StandAt (u.place ∷ 1 ∷ u.number ∷ []) (IsRuleLine u)
rule_stands u x (inl h) = ([], ap line_places h.0)
rule_stands u x (inr (by, (verb, h))) = let s = verb_stands u verb x h in (verb ∷ s.0, s.1)

-- ---- within the lists

module _ (u : UseView) (verb : ℕ) where
  pub url_within : (k : ℕ) (x : Unused) → IsUrlLine u verb k x → k < length u.rule.urls
  url_within k x h = let w = url_words u.rule h.1.0 verb k h.1.1.1 in slice_get_within u.rule.urls k w.url w.url_at

  pub name_in_rule : (j k l : ℕ) (x : Unused) → IsNameLine u verb j k l x → l < length u.rule.resource_names
  name_in_rule j k l x h = let w = resource_words u.rule h.1.0 verb j k (Some l) h.1.1.1 in name_within u.rule.resource_names l w.names w.names_are

  resource_of : (j k : ℕ) (l : Option ℕ) (x : Unused) → IsPermissionLine u verb (Resource j k l) x → k < length u.rule.resources
  resource_of j k l x h = let w = resource_words u.rule h.1.0 verb j k l h.1.1.1 in slice_get_within u.rule.resources k w.resource w.resource_at

  group_of : (j k : ℕ) (l : Option ℕ) (x : Unused) → IsPermissionLine u verb (Resource j k l) x → j < length u.rule.groups
  group_of j k l x h = let w = resource_words u.rule h.1.0 verb j k l h.1.1.1 in slice_get_within u.rule.groups j w.group w.group_at

  verb_of : (j k : ℕ) (l : Option ℕ) (x : Unused) → IsPermissionLine u verb (Resource j k l) x → verb < length u.rule.verbs
  verb_of j k l x h = let w = resource_words u.rule h.1.0 verb j k l h.1.1.1 in slice_get_within u.rule.verbs verb w.verb w.verb_at

  pub resource_within : (j k : ℕ) (x : Unused) → IsResourceLine u verb j k x → k < length u.rule.resources
  resource_within j k x (inl h) = resource_of j k None x h
  resource_within j k x (inr (l, h)) = resource_of j k (Some l) x h

  pub group_within : (j : ℕ) (x : Unused) → IsGroupLine u verb j x → j < length u.rule.groups
  group_within j x (k, inl h) = group_of j k None x h
  group_within j x (k, inr (l, h)) = group_of j k (Some l) x h

pub verb_within : (u : UseView) (verb : ℕ) (x : Unused) → IsVerbLine u verb x → verb < length u.rule.verbs
verb_within u verb x (inl (k, h)) = let w = url_words u.rule h.1.0 verb k h.1.1.1 in slice_get_within u.rule.verbs verb w.verb w.verb_at
verb_within u verb x (inr (j, (k, inl h))) = verb_of u verb j k None x h
verb_within u verb x (inr (j, (k, inr (l, h)))) = verb_of u verb j k (Some l) x h

-- ---- one after the other

-- the lines for URLs, and then those for resources
pub verb_lines : (u : UseView) (verb : ℕ) (old mid new : List Unused) → AddsLines (OfSome (IsUrlLine u verb)) old mid → AddsLines (OfSome (IsGroupLine u verb)) mid new → AddsLines (IsVerbLine u verb) old new
verb_lines u verb old mid new p q =
    lines_append (OfSome (IsUrlLine u verb)) (OfSome (IsGroupLine u verb)) (IsVerbLine u verb) old mid new p q
    (λ a b h g. (
    let one = url_stands u verb h.0 a h.1 in
    let other = group_stands u verb g.0 b g.1 in
    before_at (u.place ∷ 1 ∷ u.number ∷ verb ∷ []) 0 1 a b (omega arith) (h.0 ∷ one.0, one.1) (g.0 ∷ other.0, other.1)
    ))
    (λ x. (λ h. h, λ h. h))

-- the line for any name, and then those for one
pub resource_lines : (u : UseView) (verb group resource : ℕ) (old mid new : List Unused) → AddsLines (IsPermissionLine u verb (Resource group resource None)) old mid → AddsLines (OfSome (IsNameLine u verb group resource)) mid new → AddsLines (IsResourceLine u verb group resource) old new
resource_lines u verb group resource old mid new p q =
    lines_append (IsPermissionLine u verb (Resource group resource None)) (OfSome (IsNameLine u verb group resource)) (IsResourceLine u verb group resource) old mid new p q
    (λ a b h g. before_longer (u.place ∷ 1 ∷ u.number ∷ verb ∷ 1 ∷ group ∷ resource ∷ []) g.0 a b (any_stands u verb group resource a h) (name_stands u verb group resource g.0 b g.1))
    (λ x. (λ h. h, λ h. h))

-- the permissions of a rule that is used
pub lines_by_verbs : (u : UseView) (old new : List Unused) → IsAskedBy u.asked u.rule → AddsLines (OfSome (IsVerbLine u)) old new → AddsLines (IsRuleLine u) old new
lines_by_verbs u old new by p =
    lines_same (OfSome (IsVerbLine u)) (IsRuleLine u) old new p (λ x. (
      λ h. elim h [ inl a ↦ absurd (a.1.1 by) | inr b ↦ b.1 ],
      λ h. inr (by, h),
    ))

-- a rule that isn't used
pub line_of_rule : (u : UseView) (old new : List Unused) → ¬ IsAskedBy u.asked u.rule → CanBeUsed u.binding u.rule → new ≡ old ++ line_at u.place (Rule u.number) ∷ [] → AddsLines (IsRuleLine u) old new
line_of_rule u old new not can e =
    lines_one (IsRuleLine u) old new (line_at u.place (Rule u.number)) e (inl (refl, (can, not))) (λ y h. elim h [ inl a ↦ a.0 | inr b ↦ absurd (not b.0) ])

pub no_line_of_rule : (u : UseView) (old : List Unused) → ¬ IsAskedBy u.asked u.rule → ¬ CanBeUsed u.binding u.rule → AddsLines (IsRuleLine u) old old
no_line_of_rule u old not cant = lines_none (IsRuleLine u) old (λ x h. elim h [ inl a ↦ cant a.1.0 | inr b ↦ not b.0 ])

-- ---- the lines of grants

pub grant_stands : (p : PolicyView) (place : ℕ) (asked : List Request) (n : ℕ) → StandAt (place ∷ 1 ∷ n ∷ []) (IsGrantLine p place asked n)
grant_stands p place asked n x (g, of, h) = rule_stands (grant_use place asked n g) x h

pub lines_of_grant : (p : PolicyView) (place : ℕ) (asked : List Request) (n : ℕ) (g : GrantView) (old new : List Unused) → IsGrantOf p place n g → AddsLines (IsRuleLine (grant_use place asked n g)) old new → AddsLines (IsGrantLine p place asked n) old new
lines_of_grant p place asked n g old new of q =
    lines_same (IsRuleLine (grant_use place asked n g)) (IsGrantLine p place asked n) old new q (λ x. (
      λ h. subst (λ (v : GrantView). IsRuleLine (grant_use place asked n v) x) (same_Some h.0 g (sym h.1.grant ∙ of.grant)) h.2,
      λ h. (g, of, h),
    ))

module _ (p : PolicyView) (place : ℕ) (asked : List Request) (from end : ℕ) (between : (n at : ℕ) → IsOfBinding p n at → ((from ≤ n) × (n < end)) ↔ (at ≡ place)) where
  pub no_earlier : (old : List Unused) → AddsLines (OfFirst (IsGrantLine p place asked) from) old old
  no_earlier old = lines_none (OfFirst (IsGrantLine p place asked) from) old
      (λ x h. (let within = number_within p place from end between h.0 h.2.0 h.2.1 in omega (arith, h.1, within.0)))

  pub no_later : (i : ℕ) (old new : List Unused) → end ≤ i → AddsLines (OfFirst (IsGrantLine p place asked) i) old new → AddsLines (OfSome (IsGrantLine p place asked)) old new
  no_later i old new le q =
      lines_some (IsGrantLine p place asked) end i old new le (λ k x h. (let within = number_within p place from end between k h.0 h.1 in within.1)) q
