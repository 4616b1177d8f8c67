-- What a question asks for, according to the entries of a catalogue.
use Rattle.std.specs.Prelude.{◌≡◌, ◌⊎◌, Bool, true, false, List, [], ◌∷◌, ◌++◌}
use Rattle.rbac_terms.specs.Text.{Text, slash}
use Rattle.rbac_terms.specs.Principals.{Who}
use Rattle.rbac_terms.specs.Targets.{What, Resource, Url, group_of, text_of}
use Rattle.rbac_terms.specs.declared.scope.Scope.{Scope}
use Rattle.rbac_terms.specs.declared.scope.Scope.TheVariants.{Anywhere, Namespace}
use Rattle.rbac_catalogue.specs.declared.entry.Entry.{Entry}
use Rattle.rbac_catalogue.specs.declared.lookup.Found.{Found}
use Rattle.rbac_catalogue.specs.Lookups.{IsFound}
use Rattle.rbac_catalogue.specs.Catalogue.{IsClusterOnly}
use Rattle.rbac_near.specs.Near.{RequestView}
use Rattle.rbac_index.specs.Requested.{RequestedView, ThisTarget, AnyName}
use Rattle.rbac_paths.specs.Access.{AccessView}
use Rattle.rbac_question.specs.declared.asked.AskedFor.{AskedFor}
use Rattle.rbac_question.specs.declared.asked.AskedFor.TheVariants.{Url as ForUrl}
use Rattle.rbac_question.specs.declared.asked.AskedFor.TheVariants.{Resource as ForResource}
use Rattle.rbac_question.specs.declared.command.Question.{Question}

-- a subresource is written after a slash (Using RBAC Authorization, Referring to resources); an
-- empty one is the same as none (own)
abbrev pub with_subresource : Text → Text → Text
with_subresource resource [] = resource
with_subresource resource (b ∷ bs) = resource ++ slash ∷ b ∷ bs

-- what is asked for: a URL as it is written, or the resource that the type word means (own)
abbrev pub IsTargetMeant : List Entry → AskedFor → What → Type 0
IsTargetMeant entries (ForUrl path) target = target ≡ Url path
IsTargetMeant entries (ForResource word subresource name) target =
    (found : Found) × IsFound entries word found
    × (target ≡ Resource found.group (with_subresource found.resource subresource) name)

-- a target is asked for outside all namespaces: it is cluster-scoped in the catalogue, and
-- `--in-namespace` isn't given (own)
abbrev pub IsOutside : List Entry → Question → What → Type 0
IsOutside entries q target = (q.in_namespace ≡ false)
    × IsClusterOnly entries (group_of target) (text_of target)

-- the namespace of a question: the empty one if the target is asked for outside all namespaces,
-- otherwise the one given (own)
abbrev pub IsNamespaceMeant : List Entry → Question → What → Text → Type 0
IsNamespaceMeant entries q target namespace =
    (IsOutside entries q target × (namespace ≡ []))
    ⊎ ((¬ IsOutside entries q target) × (namespace ≡ q.namespace))

-- what a question asks for, and where
abbrev pub IsMeant : List Entry → Question → What → Text → Type 0
IsMeant entries q target namespace = IsTargetMeant entries q.asked target
    × IsNamespaceMeant entries q target namespace

-- what is asked for by a question that means this target and namespace
abbrev pub access_meant : Question → What → Text → AccessView
access_meant q target namespace =
    record { namespace = namespace; verb = q.verb; target = target }

-- what somebody asks for by a question that means this target and namespace
abbrev pub request_meant : Who → Question → What → Text → Bool → RequestView
request_meant who q target namespace is_namespaced = record {
  who = who;
  namespace = namespace;
  verb = q.verb;
  target = target;
  is_namespaced = is_namespaced;
}

-- what holders are asked for: the target, or with `--any-name` the target whatever its object name
-- (own)
abbrev pub requested_meant : Bool → What → RequestedView
requested_meant true target = AnyName target
requested_meant false target = ThisTarget target

-- where holders may be asked for: with `--anywhere` in any namespace, otherwise in the one given
abbrev pub scope_given : Bool → Text → Scope
scope_given true namespace = Anywhere
scope_given false namespace = Namespace namespace

-- where holders are asked for: in the empty namespace if the target is asked for outside all
-- namespaces, otherwise where the options ask (own)
abbrev pub IsScopeMeant : List Entry → Question → Bool → What → Scope → Type 0
IsScopeMeant entries q anywhere target scope =
    (IsOutside entries q target × (scope ≡ Namespace []))
    ⊎ ((¬ IsOutside entries q target) × (scope ≡ scope_given anywhere q.namespace))
