use Rattle.std.proofs.Common.{inl, inr, Contains, ◌↔◌, ◌⊎◌, ◌≡◌}
use Rattle.std.proofs.lemmas.Bool.{both_ways}
use Rattle.rbac_index.proofs.RuleListLemmas.{pushed_has}
use Rattle.rbac_index.proofs.rule_lists.list_rule.Goals as goal

pub returns-in_ok-push : goal.returns-in_ok-push
returns-in_ok-push c = record {
  words = rw (← c.as_slice.ensures) c.in_ok-list_under_all.ensures;
  urls = λ n.
      let more : Contains c.push.new.self n ↔ (Contains c.args.lists.now.with_urls n ⊎ (n ≡ c.args.no)) = rw c.in_ok-push.ensures.ok (pushed_has c.args.lists.now.with_urls c.args.no n) in (
        λ w. elim (more.0 w) [
          | inl a ↦ inl a
          | inr e ↦ inr (λ none. both_ways _ c.if-not-is_empty.true (c.is_empty.ensures.1 none), e)
        ],
        λ s. more.1 (elim s [ inl a ↦ inl a | inr b ↦ inr b.1 ]),
      );
}

pub returns-else-not-is_empty : goal.returns-else-not-is_empty
returns-else-not-is_empty c = record {
  words = rw (← c.as_slice.ensures) c.in_ok-list_under_all.ensures;
  urls = λ n. (
    λ w. inl w,
    λ s. elim s [ inl a ↦ a | inr b ↦ absurd (b.0 (c.is_empty.ensures.0 c.if-not-is_empty.false)) ],
  );
}
