-- A rule takes the words for its object names, or the word for any name.
use Rattle.std.proofs.Common.{◌≡◌, ◌≢◌, ◌↔◌, List, Option, Some, None, Any, Contains, arith, refl, subst, sym}
use Rattle.rbac_terms.specs.Text.{Text}
use Rattle.rbac_terms.specs.declared.matching.Rule.{Rule}
use Rattle.rbac_model.proofs.OwnWords.{any_from}
use Rattle.rbac_paths.specs.SharedWords.{IsWordFor, LetsName, LetsWord}
use Rattle.rbac_paths.specs.declared.takeover.Takeover.{Takeover}
use Rattle.rbac_paths.specs.declared.table.Names.{Names}
use Rattle.rbac_paths.specs.declared.table.Names.TheVariants as names

module _ (rule : Rule) (n : Text) where
  no_other : (kind : Names) → LetsName kind rule None → LetsName kind rule (Some n) → ⊥
  no_other names.None any one = elim one [ ]
  no_other names.Own any one = let low = (subst (λ (ws : List Text). Contains ws n) any one).1 in omega (arith, low)
  no_other names.Any any one = elim one [ ]

  only_own : (kind : Names) → kind ≢ names.Own → LetsName kind rule (Some n) → ⊥
  only_own names.None differ one = elim one [ ]
  only_own names.Own differ one = differ refl
  only_own names.Any differ one = elim one [ ]

module _ (t : Takeover) (home : Option Text) (rule : Rule) where
  pub any_name : LetsName t.names rule None → (w : Text) → IsWordFor t.over t.counts home None w ↔ LetsWord t home rule w
  any_name lets w = (λ word. (None, lets, word), of_any) where
    of_any : LetsWord t home rule w → IsWordFor t.over t.counts home None w
    of_any (None, l, word) = word
    of_any (Some n, l, word) = absurd (no_other rule n t.names lets l)

  pub own_names : t.names ≡ names.Own → (LetsName t.names rule None → ⊥) → (w : Text) → Any (λ n. IsWordFor t.over t.counts home (Some n) w) rule.resource_names ↔ LetsWord t home rule w
  own_names own none w = (by_name, of_name) where
    by_name : Any (λ n. IsWordFor t.over t.counts home (Some n) w) rule.resource_names → LetsWord t home rule w
    by_name (k, n, low, is, word) = (Some n, subst (λ (kind : Names). LetsName kind rule (Some n)) (sym own) (k, low, is), word)

    of_name : LetsWord t home rule w → Any (λ n. IsWordFor t.over t.counts home (Some n) w) rule.resource_names
    of_name (None, l, word) = absurd (none l)
    of_name (Some n, l, word) = any_from (λ n. IsWordFor t.over t.counts home (Some n) w) rule.resource_names n (subst (λ (kind : Names). LetsName kind rule (Some n)) own l) word

  pub no_name : (t.names ≢ names.Own) → (LetsName t.names rule None → ⊥) → (w : Text) → LetsWord t home rule w → ⊥
  no_name differ none w (None, l, word) = none l
  no_name differ none w (Some n, l, word) = only_own rule n t.names differ l
