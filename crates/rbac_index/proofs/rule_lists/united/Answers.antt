use Rattle.std.proofs.Common.{◌≡◌, ◌++◌, ◌∙◌, ℕ, List, ap, eqb, inl, inr, Contains, ◌↔◌, ◌⊎◌}
use Rattle.std.proofs.lemmas.List.Filters.{dedup_is}
use Rattle.std.proofs.lemmas.List.Elements.{Contains-append_left, Contains-append_right, Contains-append_cases}
use Rattle.std.proofs.lemmas.List.Kept.{Contains-dedup_nat, Contains-from_dedup}
use Rattle.std.proofs.lemmas.List.Sorted.{Contains-permutation, IsPermutation-sym}
use Rattle.rbac_index.proofs.rule_lists.united.Goals as goal

three : (a b c : List ℕ) (n : ℕ) → Contains ((a ++ b) ++ c) n ↔ (Contains a n ⊎ (Contains b n ⊎ Contains c n))
three a b c n = (
  λ w. elim (Contains-append_cases (a ++ b) c n w) [
    | inl x ↦ elim (Contains-append_cases a b n x) [ inl y ↦ inl y | inr y ↦ inr (inl y) ]
    | inr x ↦ inr (inr x)
  ],
  λ s. elim s [
    | inl x ↦ Contains-append_left (a ++ b) c n (Contains-append_left a b n x)
    | inr x ↦ elim x [
      | inl y ↦ Contains-append_left (a ++ b) c n (Contains-append_right a b n y)
      | inr y ↦ Contains-append_right (a ++ b) c n y
    ]
  ],
)

pub returns : goal.returns
returns c = λ n.
    let all : c.extend_from_slice-2.new.self.items ≡ (c.args.first.now ++ c.args.second.now) ++ c.args.third.now =
    c.in_ok-extend_from_slice-2.ensures.items ∙ ap (λ (l : List ℕ). l ++ c.args.third.now) (c.in_ok-extend_from_slice.ensures.items ∙ ap (λ (l : List ℕ). l ++ c.args.second.now) c.in_ok-numbers.ensures.items) in
    let sorted = c.sort_unstable.new.self.items in
    let is : c.dedup.new.self.items ≡ _ = dedup_is eqb sorted c.dedup.new.self.items c.dedup.ensures.filtered in
    let same = c.sort_unstable.ensures.permutation in
    let parts : Contains c.extend_from_slice-2.new.self.items n ↔ (Contains c.args.first.now n ⊎ (Contains c.args.second.now n ⊎ Contains c.args.third.now n)) = rw all (three c.args.first.now c.args.second.now c.args.third.now n) in (
      λ h. parts.0 (Contains-permutation _ _ n (IsPermutation-sym _ _ same) (Contains-from_dedup eqb sorted n (rw is at h))),
      λ s. rw is (Contains-dedup_nat sorted n (Contains-permutation _ _ n same (parts.1 s))),
    )
