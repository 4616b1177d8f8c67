-- Sets of rules, ordered by their words, for finding stale aggregates.
use Rattle.std.specs.Prelude.{◌≡◌, ◌↔◌, true, List, [], ◌∷◌, Contains, refl}
use Rattle.std.specs.BTreeSet.{BTreeSet, contains}
use Rattle.std.specs.Cmp.{IsTotalOrder, IsEquivalence, IsPartialOrder}
use Rattle.std.specs.Cmp.{partial_order_from_agreeing_total}
use Rattle.std.specs.Cmp.Lexicographic.{slice_cmp}
use Rattle.std.specs.Ordering.{eq_by_cmp, as_partial_cmp}
use Rattle.std.specs.declared.cmp.Ordering.{Ordering}
use Rattle.std.proofs.lemmas.Cmp.{nat_list_cmp_total, lists_total, eq_by_cmp_equiv}
use Rattle.rbac_terms.specs.Text.{Text, text_cmp}
use Rattle.rbac_terms.specs.declared.matching.Rule.{Rule}

-- a rule as its five lists of words
abbrev pub rule_lists : Rule → List (List Text)
rule_lists r = r.verbs ∷ r.groups ∷ r.resources ∷ r.resource_names ∷ r.urls ∷ []

-- the order of rules as these lists: list by list, each word by word
abbrev pub lists_cmp : List (List Text) → List (List Text) → Ordering
lists_cmp = slice_cmp (slice_cmp text_cmp)

-- this order is total
pub lists_cmp_total : IsTotalOrder lists_cmp
lists_cmp_total = lists_total (lists_total nat_list_cmp_total)

-- being equal in this order is an equivalence
pub lists_cmp_equiv : IsEquivalence (eq_by_cmp lists_cmp)
lists_cmp_equiv = eq_by_cmp_equiv lists_cmp_total

-- this order orders equal rules alike
pub lists_cmp_partial : IsPartialOrder (eq_by_cmp lists_cmp) (as_partial_cmp lists_cmp)
lists_cmp_partial =
    partial_order_from_agreeing_total lists_cmp lists_cmp_total (λ _ _. refl) (λ _ _. refl)

-- the rule is in the set
unfoldable pub IsIn : BTreeSet (List (List Text)) → Rule → Type 0
IsIn set rule = contains lists_cmp set (rule_lists rule) ≡ true

-- these are the rules of the set
unfoldable pub IsSetOf : List Rule → BTreeSet (List (List Text)) → Type 0
IsSetOf rules set = (rule : Rule) → IsIn set rule ↔ Contains rules rule
