-- A verdict has one reason: for a yes the first grant that allows, and its first subject that names the principal; for a no the near grants.
use Rattle.std.proofs.Common.{◌≡◌, ◌∙◌, ◌↔◌, ℕ, Bool, true, false, List, ap, refl, sym, subst}
use Rattle.std.specs.List.{flat_map}
use Rattle.rbac_terms.specs.Text.{Text}
use Rattle.rbac_terms.specs.Targets.{What}
use Rattle.rbac_terms.specs.Principals.{Who}
use Rattle.rbac_terms.specs.Granting.{Names}
use Rattle.rbac_model.proofs.Firsts.{one_place, one_first}
use Rattle.rbac_model.specs.Policies.{PolicyView, GrantView, GrantAllows, IsWhy}
use Rattle.rbac_catalogue.specs.declared.entry.Entry.{Entry}
use Rattle.rbac_question.specs.declared.command.Question.{Question}
use Rattle.rbac_text.specs.Why.{why_text}
use Rattle.rbac_near.specs.Near.{RequestView}
use Rattle.rbac_near.specs.NearLines.{near_line}
use Rattle.rbac_near.specs.declared.near.Near.{Near}
use Rattle.rbac_near.proofs.InOrder.{one_near_list}
use Rattle.rbac_cli.specs.Meant.{IsOutside, request_meant}
use Rattle.rbac_cli.specs.Out.{IsWhyText, ComesAfterNo, ComesAfterYes, FollowsNo}
use Rattle.rbac_cli.proofs.OneMeant.{one_meant}

module _ (p : PolicyView) (who : Who) (namespace verb : Text) (t : What) (g k : GrantView) (i j : ℕ) (a : IsWhy p who namespace verb t g i) (b : IsWhy p who namespace verb t k j) where
  one_grant : g ≡ k
  one_grant = one_first (GrantAllows who namespace verb t) p.grants a.grant.0 b.grant.0 g k a.grant.1 b.grant.1

  one_subject : i ≡ j
  one_subject =
      let b_there = subst (λ x. IsWhy p who namespace verb t x j) (sym one_grant) b in
      one_place (λ s. Names s g.binding.namespace who) g.binding.subjects i j a.subject.0 b_there.subject.0 a.subject.1 b_there.subject.1

  one_line : why_text g.binding g.rule.source g.rule.place i ≡ why_text k.binding k.rule.source k.rule.place j
  one_line =
      ap (λ (x : GrantView). why_text x.binding x.rule.source x.rule.place i) one_grant
      ∙ ap (λ (n : ℕ). why_text k.binding k.rule.source k.rule.place n) one_subject

-- two flags that tell whether the same holds are the same
same_truth : (a b : Bool) (P : Type 0) → (a ≡ true) ↔ P → (b ≡ true) ↔ P → a ≡ b
same_truth true true P is are = refl
same_truth true false P is are = sym (are.1 (is.0 refl))
same_truth false true P is are = is.1 (are.0 refl)
same_truth false false P is are = refl

module _ (p : PolicyView) (entries : List Entry) (who : Who) (q : Question) (text other : Text) where
  one_why : IsWhyText p entries who q text → IsWhyText p entries who q other → text ≡ other
  one_why (t, n, meant, (g, i, is, e)) (u, m, means, (k, j, are, d)) =
      let same = one_meant entries q t u n m meant means in
      let here = subst (λ x. IsWhy p who m q.verb x g i) same.0 (subst (λ x. IsWhy p who x q.verb t g i) same.1 is) in
      e ∙ one_line p who m q.verb u g k i j here are ∙ sym d

  follows_one : (request : RequestView) (quiet why_not : Bool) → FollowsNo p request quiet why_not text → FollowsNo p request quiet why_not other → text ≡ other
  follows_one request false true (xs, are, e) (ys, those, d) = e ∙ ap (λ (found : List Near). flat_map (near_line p) found) (one_near_list p request xs ys are those) ∙ sym d
  follows_one request false false a b = a ∙ sym b
  follows_one request true why_not a b = a ∙ sym b

  pub one_lacking : (quiet why_not : Bool) → ComesAfterNo p entries who quiet why_not q text → ComesAfterNo p entries who quiet why_not q other → text ≡ other
  one_lacking quiet why_not (t, n, a, meant, is, follows) (u, m, b, means, has, after) =
      let same = one_meant entries q t u n m meant means in
      let one : a ≡ b = same_truth a b (¬ IsOutside entries q u) (subst (λ x. (a ≡ true) ↔ (¬ IsOutside entries q x)) same.0 is) has in
      let here : FollowsNo p (request_meant who q u m b) quiet why_not text =
      subst (λ x. FollowsNo p (request_meant who q u m x) quiet why_not text) one
      (subst (λ x. FollowsNo p (request_meant who q u x a) quiet why_not text) same.1 (subst (λ x. FollowsNo p (request_meant who q x n a) quiet why_not text) same.0 follows)) in
      follows_one (request_meant who q u m b) quiet why_not here after

  pub one_reason : (quiet why : Bool) → ComesAfterYes p entries who quiet why q text → ComesAfterYes p entries who quiet why q other → text ≡ other
  one_reason false true a b = one_why a b
  one_reason false false a b = a ∙ sym b
  one_reason true why a b = a ∙ sym b
