-- TARGET, split at its first slash, begins with a type word.
use Rattle.std.proofs.Common.{◌≡◌, ◌∙◌, ◌∷◌, ◌++◌, ap, sym, subst, inl, inr, codes, Contains}
use Rattle.std.proofs.lemmas.List.{append_assoc}
use Rattle.rbac_terms.specs.Text.{Text, slash}
use Rattle.rbac_terms.specs.Targets.{IsPath}
use Rattle.rbac_question.specs.Asked.{IsAskable, AsksFor, IsTypeAndName, IsTypeWord, LacksType}
use Rattle.rbac_question.specs.declared.asked.AskedFor.TheVariants.{Resource as ForResource}

begins_with_type : (target word name : Text) → ¬ LacksType target → ¬ IsPath target → IsTypeAndName target word name → IsTypeWord word
begins_with_type target word name typed no_path (inl cut) = (
  λ e. no_path (name, cut.0 ∙ ap (λ (w : Text). w ++ slash ∷ name) e),
  λ b. typed (inr (b.0 ++ slash ∷ name, cut.0 ∙ ap (λ (w : Text). w ++ slash ∷ name) b.1 ∙ append_assoc (codes ".") b.0 (slash ∷ name))),
  cut.1,
)
begins_with_type target word name typed no_path (inr whole) = (
  λ e. typed (inl (sym whole.1 ∙ e)),
  λ b. typed (inr (b.0, sym whole.1 ∙ b.1)),
  λ h. whole.0 (subst (λ (w : Text). Contains w slash) whole.1 h),
)

pub type_word : (target word name w : Text) → ¬ LacksType target → ¬ IsPath target → IsTypeAndName target word name → w ≡ word → IsTypeWord w
type_word target word name w typed no_path parts e = rw e (begins_with_type target word name typed no_path parts)

pub asks_for : (target subresource word name w s n : Text) → ¬ LacksType target → ¬ IsPath target → IsTypeAndName target word name
    → w ≡ word → s ≡ subresource → n ≡ name → AsksFor target subresource (ForResource w s n) × IsAskable (ForResource w s n)
asks_for target subresource word name w s n typed no_path parts ew es en =
    ((no_path, rw (ew, en) parts, es), type_word target word name w typed no_path parts ew)
