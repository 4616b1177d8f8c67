-- Words under keys, and the groups of those under the same key.
use Rattle.std.specs.Prelude.{◌≡◌, ◌≢◌, ◌↔◌, List, [], ◌∷◌, All, AllPairs, Any, Contains, codes, refl}
use Rattle.std.specs.Cmp.{IsEquivalence, IsPartialOrder, IsTotalOrder}
use Rattle.std.specs.Cmp.{partial_order_from_agreeing_total}
use Rattle.std.specs.Cmp.Lexicographic.{slice_cmp}
use Rattle.std.specs.Ordering.{as_partial_cmp, eq_by_cmp, ordering_then}
use Rattle.std.specs.declared.cmp.Ordering.{Ordering}
use Rattle.std.specs.declared.cmp.Ordering.TheVariants.{Less}
use Rattle.std.proofs.lemmas.Cmp.{eq_by_cmp_equiv, lists_total, nat_list_cmp_total, on_total, then_total}
use Rattle.rbac_terms.specs.Text.{Text, text_cmp}
use Rattle.rbac_use.specs.declared.grouping.Group.{Group}
use Rattle.rbac_use.specs.declared.grouping.Kind.{Kind}
use Rattle.rbac_use.specs.declared.grouping.Kind.TheVariants.{AnyName, Names, Resources, Urls}
use Rattle.rbac_use.specs.declared.grouping.Pair.{Pair}
use Rattle.rbac_use.specs.declared.grouping.RuleKey.{RuleKey}

-- the word for a kind, by which kinds are ordered
abbrev pub kind_text : Kind → Text
kind_text AnyName = codes "any"
kind_text Names = codes "names"
kind_text Resources = codes "resources"
kind_text Urls = codes "urls"

-- the texts by which keys are ordered
abbrev pub key_texts : RuleKey → List Text
key_texts k = k.namespace ∷ kind_text k.kind ∷ k.group ∷ k.resource ∷ k.words

-- the order of keys: text by text
abbrev pub key_cmp : RuleKey → RuleKey → Ordering
key_cmp a b = slice_cmp text_cmp (key_texts a) (key_texts b)

-- this order is total
pub key_cmp_total : IsTotalOrder key_cmp
key_cmp_total = on_total key_texts (lists_total nat_list_cmp_total)

-- the order of pairs: by key, and then by word
abbrev pub pair_cmp : Pair → Pair → Ordering
pair_cmp a b = ordering_then (key_cmp a.key b.key) (text_cmp a.word b.word)

-- this order is total
pub pair_cmp_total : IsTotalOrder pair_cmp
pair_cmp_total = then_total (on_total (λ p. p.key) key_cmp_total) (on_total (λ p. p.word) nat_list_cmp_total)

-- being equal in this order is an equivalence
pub pair_cmp_equiv : IsEquivalence (eq_by_cmp pair_cmp)
pair_cmp_equiv = eq_by_cmp_equiv pair_cmp_total

-- this order orders equal pairs alike
pub pair_cmp_partial : IsPartialOrder (eq_by_cmp pair_cmp) (as_partial_cmp pair_cmp)
pair_cmp_partial = partial_order_from_agreeing_total pair_cmp pair_cmp_total (λ _ _. refl) (λ _ _. refl)

-- the word under the key
abbrev pub under : RuleKey → Text → Pair
under key word = record { key = key; word = word }

-- the group of these words under the key
abbrev pub group_of : RuleKey → List Text → Group
group_of key words = record { key = key; words = words }

-- a group has the word under the key
abbrev pub HasWord : List Group → RuleKey → Text → Type 0
HasWord groups key word = Any (λ g. (g.key ≡ key) × Contains g.words word) groups

-- some words, each once, in byte order
pub record AreWords (words : List Text) : Type 0 where
  pub some : words ≢ []
  pub ordered : AllPairs (λ a b. text_cmp a b ≡ Less) words

-- each group comes before all later ones, by its key
abbrev pub AreInOrder : List Group → Type 0
AreInOrder groups = AllPairs (λ a b. key_cmp a.key b.key ≡ Less) groups

-- exactly the pairs with the property, in groups: each key once, in order, with all words under it
pub record AreGrouped (P : Pair → Type 0) (groups : List Group) : Type 0 where
  pub ordered : AreInOrder groups
  pub each : All (λ g. AreWords g.words) groups
  pub exact : (key : RuleKey) (word : Text) → HasWord groups key word ↔ P (under key word)
