-- A question asks for one target, in one namespace.
use Rattle.std.proofs.Common.{◌≡◌, ◌∙◌, Bool, List, ap, sym, subst, inl, inr}
use Rattle.rbac_terms.specs.Text.{Text}
use Rattle.rbac_terms.specs.Targets.{What, Resource}
use Rattle.rbac_catalogue.specs.declared.entry.Entry.{Entry}
use Rattle.rbac_catalogue.specs.declared.lookup.Found.{Found}
use Rattle.rbac_terms.specs.declared.scope.Scope.{Scope}
use Rattle.rbac_catalogue.proofs.Meaning.{found_one}
use Rattle.rbac_question.specs.declared.asked.AskedFor.{AskedFor}
use Rattle.rbac_question.specs.declared.asked.AskedFor.TheVariants.{Url as ForUrl, Resource as ForResource}
use Rattle.rbac_question.specs.declared.command.Question.{Question}
use Rattle.rbac_cli.specs.Meant.{with_subresource, IsTargetMeant, IsNamespaceMeant, IsMeant, IsScopeMeant}
use Rattle.rbac_cli.proofs.Verdicts.{one_namespace}

pub one_target : (entries : List Entry) (asked : AskedFor) (t u : What) → IsTargetMeant entries asked t → IsTargetMeant entries asked u → t ≡ u
one_target entries (ForUrl path) t u m n = m ∙ sym n
one_target entries (ForResource word subresource name) t u (f, is, e) (g, are, d) =
    e ∙ ap (λ (found : Found). Resource found.group (with_subresource found.resource subresource) name) (sym (found_one entries word f is g are)) ∙ sym d

pub one_meant : (entries : List Entry) (q : Question) (t u : What) (n m : Text) → IsMeant entries q t n → IsMeant entries q u m → (t ≡ u) × (n ≡ m)
one_meant entries q t u n m a b = let same = one_target entries q.asked t u a.0 b.0 in (
  same,
  one_namespace entries q u n m (subst (λ x. IsNamespaceMeant entries q x n) same a.1) b.1,
)

pub one_scope : (entries : List Entry) (q : Question) (anywhere : Bool) (target : What) (v w : Scope) → IsScopeMeant entries q anywhere target v → IsScopeMeant entries q anywhere target w → v ≡ w
one_scope entries q anywhere target v w (inl a) (inl b) = a.1 ∙ sym b.1
one_scope entries q anywhere target v w (inl a) (inr b) = absurd (b.0 a.0)
one_scope entries q anywhere target v w (inr a) (inl b) = absurd (a.0 b.0)
one_scope entries q anywhere target v w (inr a) (inr b) = a.1 ∙ sym b.1
