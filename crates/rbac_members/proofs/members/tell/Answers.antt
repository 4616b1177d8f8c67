use Rattle.std.proofs.Common.{◌≡◌, ◌∙◌, ℕ, ◌↔◌, ◌⊎◌, Bool, true, false, not, List, Ordering, ap, sym, refl, subst}
use Rattle.std.specs.Prelude.{Contains, IsTrue, MatchBool}
use Rattle.std.specs.BTreeSet.{contains, insert_key}
use Rattle.std.specs.Cmp.{IsTotalOrder}
use Rattle.std.specs.Ordering.{nat_cmp, ordering_then}
use Rattle.std.specs.declared.cmp.Ordering.TheVariants.{Equal}
use Rattle.std.proofs.lemmas.Cmp.{nat_cmp_total, nat_list_cmp_total, on_total, then_total}
use Rattle.std.proofs.lemmas.Map.Lookups.{exact_bytes, exact_pairs, exact_unsigned}
use Rattle.std.proofs.lemmas.Map.Views.{btree_set_contains_iff}
use Rattle.rbac_terms.specs.Text.{Text, text_cmp}
use Rattle.rbac_index.specs.HolderViews.{holder_shown}
use Rattle.rbac_members.specs.Told.{label_of}
use Rattle.rbac_members.proofs.Labels.{inserted}
use Rattle.rbac_members.proofs.members.tell.Goals as goal

-- the order of labels
abbrev by_label : ℕ × Text → ℕ × Text → Ordering
by_label a b = ordering_then (nat_cmp a.0 b.0) (text_cmp a.1 b.1)

label_total : IsTotalOrder by_label
label_total = then_total (on_total (λ (a : ℕ × Text). a.0) nat_cmp_total) (on_total (λ (a : ℕ × Text). a.1) nat_list_cmp_total)

label_exact : (a b : ℕ × Text) → by_label a b ≡ Equal → a ≡ b
label_exact = exact_pairs nat_cmp text_cmp exact_unsigned exact_bytes

turned : (b : Bool) (P : Type 0) → IsTrue b ↔ P → MatchBool (not b) (¬ P) P
turned true P is = is.0 refl
turned false P is = λ p. (let f : false ≡ true = is.1 p in cc)

pub returns-clause-new : goal.returns-clause-new
returns-clause-new c =
    let told = c.args.told.now in
    let label = label_of c.args.every (holder_shown c.args.holder) in
    let has = Contains told.keys label in
    subst (λ (b : Bool). MatchBool b (¬ has) has) (sym (c.in_ok-insert.ensures.added ∙ ap (λ (l : ℕ × Text). not (contains by_label told l)) c.in_ok-label_of.ensures))
    (turned (contains by_label told label) has (btree_set_contains_iff label_total label_exact told label))

pub returns-clause-told : goal.returns-clause-told
returns-clause-told c = λ l.
    let told = c.args.told.now in
    let label = label_of c.args.every (holder_shown c.args.holder) in
    subst (λ (ls : List (ℕ × Text)). Contains ls l ↔ (Contains told.keys l ⊎ (l ≡ label))) (sym (c.in_ok-insert.ensures.keys ∙ ap (insert_key by_label told.keys) c.in_ok-label_of.ensures))
    (inserted by_label label_exact told.keys label l)
