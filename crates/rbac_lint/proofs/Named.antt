-- the lines of each code name their objects and places
use Rattle.std.proofs.Common.{◌≡◌, ℕ, List, [], ◌∷◌, ap, ◌∙◌, sym, refl, inl, inr}
use Rattle.std.specs.Prelude.{Some, codes, unwrap_or}
use Rattle.rbac_terms.specs.Text.{Text, text_cmp}
use Rattle.rbac_terms.specs.declared.matching.Rule.{Rule}
use Rattle.rbac_terms.specs.declared.granting.Binding.{Binding}
use Rattle.rbac_model.specs.Policies.{Held, Source, binding_name, cluster_role_name}
use Rattle.rbac_manifest.specs.Replaced.{replaced_name}
use Rattle.rbac_manifest.specs.declared.replacement.Replaced.{Replaced}
use Rattle.rbac_lint.specs.Replaced.{namespace_if_any, replaced_object, IsReplacedOf}
use Rattle.rbac_lint.specs.declared.finding.Finding.{Finding}
use Rattle.rbac_lint.specs.Lines.{Line, object_texts, AddsLines}
use Rattle.rbac_lint.specs.Roles.{source_object, binding_object}
use Rattle.rbac_lint.specs.Findings.{IsDanglingOf, IsUnusedOf, IsRedundantAt, IsRedundantOf, IsEscalationBy, IsEscalationAt, IsEscalationOf, IsAccountWithoutAt, IsAccountWithoutOf, IsStaleOf, role_line}
use Rattle.rbac_lint.proofs.Exact.{AddsLines-append}
use Rattle.rbac_lint.proofs.Order.{Names, Places, binding_object-name}
use Rattle.rbac_lint.proofs.RoleLines.{source_texts}

pub dangling_names : (h : Held) → Names binding_name (IsDanglingOf h) 1
unfolding IsDanglingOf
dangling_names h = record {
  code_is = λ b x p. ap (λ t. t.code) p.1;
  object_is = λ b x p. ap (λ t. object_texts t.object) p.1 ∙ binding_object-name b;
}

pub unused_names : (h : Held) → Names source_texts (IsUnusedOf h) 2
unfolding IsUnusedOf
unused_names h = record {
  code_is = λ s x p. ap (λ t. t.code) p.1;
  object_is = λ s x p. ap (λ t. object_texts t.object) p.1;
}

pub redundant_places : (s : Source) (rules : List Rule) → Places (λ i (r : Rule). IsRedundantAt s rules i) 3 (source_object s)
unfolding IsRedundantAt
redundant_places s rules = record {
  code_is = λ i r x p. ap (λ t. t.code) p.2;
  object_is = λ i r x p. ap (λ t. t.object) p.2;
  place_is = λ i r x p. ap (λ t. t.place) p.2;
}

pub redundant_names : Names source_texts IsRedundantOf 3
unfolding IsRedundantOf IsRedundantAt
redundant_names = record {
  code_is = λ s x p. ap (λ t. t.code) p.1.3.2;
  object_is = λ s x p. ap (λ t. object_texts t.object) p.1.3.2;
}

-- the verb of an escalation
escalation_line : (s : Source) (i : ℕ) (r : Rule) (x : Line) → IsEscalationAt s i r x → (v : Text) × (x ≡ role_line 4 s (Some i) v)
unfolding IsEscalationAt IsEscalationBy
escalation_line s i r x (inl h) = (codes "bind", h.1)
escalation_line s i r x (inr h) = (codes "escalate", h.1)

pub escalation_places : (s : Source) → Places (IsEscalationAt s) 4 (source_object s)
escalation_places s = record {
  code_is = λ i r x p. ap (λ t. t.code) (escalation_line s i r x p).1;
  object_is = λ i r x p. ap (λ t. t.object) (escalation_line s i r x p).1;
  place_is = λ i r x p. ap (λ t. t.place) (escalation_line s i r x p).1;
}

pub escalation_names : Names source_texts IsEscalationOf 4
unfolding IsEscalationOf
escalation_names = record {
  code_is = λ s x p. ap (λ t. t.code) (escalation_line s p.1.0 p.1.1 x p.1.3).1;
  object_is = λ s x p. ap (λ t. object_texts t.object) (escalation_line s p.1.0 p.1.1 x p.1.3).1;
}

-- bind comes before escalate
pub AddsLines-verbs : (s : Source) (i : ℕ) (r : Rule) (old mid new : List Finding) → AddsLines (IsEscalationBy (codes "bind") s i r) old mid → AddsLines (IsEscalationBy (codes "escalate") s i r) mid new → AddsLines (IsEscalationAt s i r) old new
unfolding IsEscalationAt IsEscalationBy
AddsLines-verbs s i r old mid new p q =
    AddsLines-append (IsEscalationBy (codes "bind") s i r) (IsEscalationBy (codes "escalate") s i r) (IsEscalationAt s i r) old mid new p q
    (λ a b h k. inr (
      ap (λ t. t.code) h.1 ∙ sym (ap (λ t. t.code) k.1),
      inr (
        ap (λ t. object_texts t.object) h.1 ∙ sym (ap (λ t. object_texts t.object) k.1),
        inr (ap (λ t. t.place) h.1 ∙ sym (ap (λ t. t.place) k.1), ap (λ t. text_cmp t b.other) (ap (λ t. t.other) h.1) ∙ ap (λ t. text_cmp (codes "bind") t) (ap (λ t. t.other) k.1)),
      ),
    ))
    (λ x. (λ h. h, λ h. h))

pub account_places : (b : Binding) → Places (IsAccountWithoutAt b) 5 (binding_object b)
unfolding IsAccountWithoutAt
account_places b = record {
  code_is = λ i s x p. ap (λ t. t.code) p.2;
  object_is = λ i s x p. ap (λ t. t.object) p.2;
  place_is = λ i s x p. ap (λ t. t.place) p.2;
}

pub account_names : Names binding_name IsAccountWithoutOf 5
unfolding IsAccountWithoutOf IsAccountWithoutAt
account_names = record {
  code_is = λ b x p. ap (λ t. t.code) p.1.3.2;
  object_is = λ b x p. ap (λ t. object_texts t.object) p.1.3.2 ∙ binding_object-name b;
}

pub stale_names : (h : Held) → Names cluster_role_name (IsStaleOf h) 6
unfolding IsStaleOf
stale_names h = record {
  code_is = λ s x p. ap (λ t. t.code) p.1;
  object_is = λ s x p. ap (λ t. object_texts t.object) p.1;
}

scope_texts : (namespace : Text) → unwrap_or (namespace_if_any namespace) [] ≡ namespace
scope_texts [] = refl
scope_texts (c ∷ namespace) = refl

pub replaced_object-name : (r : Replaced) → object_texts (replaced_object r) ≡ replaced_name r
replaced_object-name r = ap (λ (n : Text). r.kind ∷ n ∷ r.name ∷ []) (scope_texts r.namespace)

pub replaced_names : Names replaced_name IsReplacedOf 7
unfolding IsReplacedOf
replaced_names = record {
  code_is = λ r x p. ap (λ t. t.code) p;
  object_is = λ r x p. ap (λ t. object_texts t.object) p ∙ replaced_object-name r;
}
