-- How the rules of a least policy come from requests: verbs under the words of targets, and then the
-- words of targets under verbs.
use Rattle.std.specs.Prelude.{◌≡◌, ◌≢◌, ◌↔◌, Bool, true, false, List, [], ◌∷◌, map}
use Rattle.std.specs.Prelude.{All, AllPairs, Any, Contains, bytes_eq, filter}
use Rattle.std.specs.declared.cmp.Ordering.TheVariants.{Less}
use Rattle.rbac_terms.specs.Text.{Text, text_cmp}
use Rattle.rbac_terms.specs.Targets.{What, Resource, Url}
use Rattle.rbac_terms.specs.declared.matching.Rule.{Rule}
use Rattle.rbac_model.specs.Policies.{PolicyView}
use Rattle.rbac_diff.specs.Requests.{RequestView}
use Rattle.rbac_use.specs.Grouping.{AreInOrder, AreWords, under}
use Rattle.rbac_use.specs.Needs.{IsNeeded}
use Rattle.rbac_use.specs.declared.grouping.Group.{Group}
use Rattle.rbac_use.specs.declared.grouping.Kind.{Kind}
use Rattle.rbac_use.specs.declared.grouping.Kind.TheVariants.{AnyName, Names, Resources, Urls}
use Rattle.rbac_use.specs.declared.grouping.Pair.{Pair}
use Rattle.rbac_use.specs.declared.grouping.RuleKey.{RuleKey}
use Rattle.rbac_use.specs.declared.least.Least.{Least}
use Rattle.rbac_use.specs.declared.least.NamespaceRules.{NamespaceRules}

-- whether a rule with this object name has names
abbrev pub kind_for : Text → Kind
kind_for [] = AnyName
kind_for (c ∷ cs) = Names

-- the words of a target in a namespace, with its object name or without
abbrev pub target_key : Bool → Text → What → RuleKey
target_key names namespace (Url path) = record {
  namespace = [];
  kind = Urls;
  group = [];
  resource = [];
  words = path ∷ [];
}
target_key true namespace (Resource group text name) = record {
  namespace = namespace;
  kind = kind_for name;
  group = group;
  resource = text;
  words = name ∷ [];
}
target_key false namespace (Resource group text name) = record {
  namespace = namespace;
  kind = Resources;
  group = group;
  resource = [];
  words = text ∷ [];
}

-- the words of a request's target
abbrev pub key_of : Bool → RequestView → RuleKey
key_of names r = target_key names r.namespace r.target

-- the verb of a request under the words of its target
abbrev pub pair_of : Bool → RequestView → Pair
pair_of names r = under (key_of names r) r.verb

-- the key with these words in place of its own
abbrev pub with_words : RuleKey → List Text → RuleKey
with_words k words = record {
  namespace = k.namespace;
  kind = k.kind;
  group = k.group;
  resource = k.resource;
  words = words;
}

-- a word of the group's key, under that key with the words of the group
abbrev pub IsTurned : Group → Pair → Type 0
IsTurned g x = Contains g.key.words x.word × (with_words g.key g.words ≡ x.key)

-- the rule for these verbs on a resource with these object names
abbrev pub name_rule : RuleKey → List Text → Rule
name_rule k names = record {
  verbs = k.words;
  groups = k.group ∷ [];
  resources = k.resource ∷ [];
  resource_names = names;
  urls = [];
}

-- the rule for these words of a kind with the verbs of their key
abbrev pub kind_rule : Kind → RuleKey → List Text → Rule
kind_rule AnyName k words = name_rule k []
kind_rule Names k words = name_rule k words
kind_rule Resources k words = record {
  verbs = k.words;
  groups = k.group ∷ [];
  resources = words;
  resource_names = [];
  urls = [];
}
kind_rule Urls k words = record {
  verbs = k.words;
  groups = [];
  resources = [];
  resource_names = [];
  urls = words;
}

-- the rule for the words of a group with the verbs of its key
abbrev pub rule_of : Group → Rule
rule_of g = kind_rule g.key.kind g.key g.words

-- a request that the user needs asks for the word under the key with the verb
abbrev pub IsAsked : PolicyView → List RequestView → Text → Bool → RuleKey → Text → Text → Type 0
IsAsked p log user names key word verb = (r : RequestView) × IsNeeded p log user r
    × (r.verb ≡ verb) × (key_of names r ≡ with_words key (word ∷ []))

-- the words under a key that are asked for with exactly the verbs of the key
pub record HasSameVerbs (asked : RuleKey → Text → Text → Type 0) (g : Group) : Type 0 where
  pub verbs : AreWords g.key.words
  pub words : AreWords g.words
  pub exact : (word : Text) → Contains g.words word
      ↔ ((verb : Text) → Contains g.key.words verb ↔ asked g.key word verb)

-- the group has the word under the key, with the verb
abbrev pub HasVerb : RuleKey → Text → Text → Group → Type 0
HasVerb key word verb g =
    (with_words key g.key.words ≡ g.key) × Contains g.words word × Contains g.key.words verb

-- all that is asked for is in groups of words with the same verbs, each once, in order
pub record AreByVerbs (asked : RuleKey → Text → Text → Type 0) (gs : List Group) : Type 0 where
  pub ordered : AreInOrder gs
  pub each : All (HasSameVerbs asked) gs
  pub all : (key : RuleKey) (word verb : Text) → asked key word verb
      → Any (HasVerb key word verb) gs

-- the rules of the groups in that namespace, or of those without one, in order
abbrev pub rules_in : Text → List Group → List Rule
rules_in namespace groups = map rule_of (filter (λ g. bytes_eq g.key.namespace namespace) groups)

-- these rules of the namespace
abbrev pub part_of : Text → List Rule → NamespaceRules
part_of namespace rules = record { namespace = namespace; rules = rules }

-- the rules of a namespace are those of the groups there, of which there are some
pub record IsPartOf (groups : List Group) (part : NamespaceRules) : Type 0 where
  pub named : part.namespace ≢ []
  pub some : Any (λ g. g.key.namespace ≡ part.namespace) groups
  pub rules : part.rules ≡ rules_in part.namespace groups

-- exactly the rules of the namespaces that the groups have, each namespace once, in byte order
pub record ArePartsOf (groups : List Group) (parts : List NamespaceRules) : Type 0 where
  pub ordered : AllPairs (λ a b. text_cmp a.namespace b.namespace ≡ Less) parts
  pub exact : (part : NamespaceRules) → Contains parts part ↔ IsPartOf groups part

-- the least policy has exactly the rules of these groups: those without a namespace everywhere, and
-- the others in their namespaces
abbrev pub HasRulesOf : List Group → Least → Type 0
HasRulesOf groups l = (l.everywhere ≡ rules_in [] groups) × ArePartsOf groups l.namespaces.items

-- the least policy of the user (own): a rule has the words that the user needs with exactly the same
-- verbs, of one kind, API group and namespace; with names, of one resource
abbrev pub IsLeastOf : PolicyView → List RequestView → Text → Bool → Least → Type 0
IsLeastOf p log user names l = (groups : List Group)
    × AreByVerbs (IsAsked p log user names) groups × HasRulesOf groups l

-- two least policies have the same rules, in the same order
abbrev pub HaveSameRules : Least → Least → Type 0
HaveSameRules a b = (a.everywhere ≡ b.everywhere) × (a.namespaces.items ≡ b.namespaces.items)
