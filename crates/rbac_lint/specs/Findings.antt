-- What lint finds.
use Rattle.std.specs.Prelude.{◌≡◌, ◌≢◌, ℕ, ◌+◌, ◌<◌, ◌≤◌, ◌⊎◌, ◌↔◌, List, [], Option, Some, None}
use Rattle.std.specs.Prelude.{Any, Contains, codes, decimal, slice_get}
use Rattle.rbac_terms.specs.Text.{Text}
use Rattle.rbac_terms.specs.Matching.{WordMatches, ResourceWordMatches, VerbOk}
use Rattle.rbac_terms.specs.declared.matching.Rule.{Rule}
use Rattle.rbac_terms.specs.declared.granting.ClusterRole.{ClusterRole}
use Rattle.rbac_terms.specs.declared.granting.Binding.{Binding}
use Rattle.rbac_terms.specs.declared.granting.Subject.{Subject}
use Rattle.rbac_terms.specs.declared.granting.Subject.TheVariants.{Account}
use Rattle.rbac_model.specs.Policies.{Held, Source, InRole, InClusterRole, IsPlain, IsRefTo}
use Rattle.rbac_model.specs.Policies.{Reaches}
use Rattle.rbac_covering.specs.Covering.{CoversAll}
use Rattle.rbac_lint.specs.declared.finding.Finding.{Finding}
use Rattle.rbac_lint.specs.Lines.{Line, OfEach, object_text, AreShown}
use Rattle.rbac_manifest.specs.declared.replacement.Replaced.{Replaced}
use Rattle.rbac_lint.specs.Replaced.{IsReplaced}
use Rattle.rbac_model.specs.Places.{rules_of}
use Rattle.rbac_lint.specs.Roles.{roles_in, IsPlainRole, source_object, binding_object}
use Rattle.rbac_lint.specs.Roles.{named_object}

-- a line about a role
abbrev pub role_line : ℕ → Source → Option ℕ → Text → Line
role_line code s place other = record {
  code = code;
  object = source_object s;
  place = place;
  other = other;
}

-- a line about a binding
abbrev pub binding_line : ℕ → Binding → Option ℕ → Text → Line
binding_line code b place other = record {
  code = code;
  object = binding_object b;
  place = place;
  other = other;
}

-- L1: the binding's role isn't among the objects (Using RBAC Authorization, RoleBinding and
-- ClusterRoleBinding)
abbrev pub Dangles : Held → Binding → Type 0
Dangles h b = (s : Source) → ¬ IsRefTo h b.namespace b.role s

-- the line of such a binding, which gives the role that the binding names
unfoldable pub IsDanglingOf : Held → Binding → Line → Type 0
IsDanglingOf h b x = Dangles h b
    × (x ≡ binding_line 1 b None (object_text (named_object b.namespace b.role)))

-- a line of L1
abbrev pub IsDangling : Held → Line → Type 0
IsDangling h = OfEach (λ k b. IsDanglingOf h b) h.bindings

-- a binding names the role
abbrev pub IsNamedByBinding : Held → Source → Type 0
IsNamedByBinding h s = Any (λ b. IsRefTo h b.namespace b.role s) h.bindings

-- a binding names the role, or a cluster role that reaches the role by aggregation
unfoldable pub IsUsed : Held → Source → Type 0
IsUsed h (InRole r) = IsNamedByBinding h (InRole r)
IsUsed h (InClusterRole r) = IsNamedByBinding h (InClusterRole r)
    ⊎ ((c : ClusterRole) × IsNamedByBinding h (InClusterRole c) × Reaches h c r)

-- L2: no binding names the role, and no cluster role that a binding names reaches it by aggregation
-- (own)
unfoldable pub IsUnusedOf : Held → Source → Line → Type 0
IsUnusedOf h s x = (¬ IsUsed h s) × (x ≡ role_line 2 s None [])

-- a line of L2
abbrev pub IsUnused : Held → Line → Type 0
IsUnused h = OfEach (λ k s. IsUnusedOf h s) (roles_in h)

-- L3: another rule of the role covers the rule, and comes before it or isn't covered by it (own)
unfoldable pub MakesRedundantAt : ℕ → Rule → ℕ → Rule → Type 0
MakesRedundantAt i b j a = (j ≢ i) × CoversAll a b × ((j < i) ⊎ (¬ CoversAll b a))

-- the rule at the second place makes the one at the first redundant
abbrev pub MakesRedundant : List Rule → ℕ → ℕ → Type 0
MakesRedundant rules i j = (b : Rule) × (a : Rule) × (slice_get rules i ≡ Some b)
    × (slice_get rules j ≡ Some a) × MakesRedundantAt i b j a

-- the rule at the second place is the first that makes the one at the first place redundant
abbrev pub IsLeastCover : List Rule → ℕ → ℕ → Type 0
IsLeastCover rules i j = MakesRedundant rules i j × ((k : ℕ) → MakesRedundant rules i k → j ≤ k)

-- the line of a redundant rule, which gives the first rule that makes it redundant, counted from 1
-- (own)
unfoldable pub IsRedundantAt : Source → List Rule → ℕ → Line → Type 0
IsRedundantAt s rules i x = (j : ℕ) × IsLeastCover rules i j
    × (x ≡ role_line 3 s (Some i) (decimal (j + 1)))

-- a line about a redundant rule of a plain role
unfoldable pub IsRedundantOf : Source → Line → Type 0
IsRedundantOf s x = IsPlainRole s × OfEach (λ i rule. IsRedundantAt s (rules_of s) i) (rules_of s) x

-- a line of L3
abbrev pub IsRedundant : Held → Line → Type 0
IsRedundant h = OfEach (λ k s. IsRedundantOf s) (roles_in h)

-- the rule is for this API group
abbrev pub MatchesGroup : Rule → Text → Type 0
MatchesGroup r group = Any (λ w. WordMatches w group) r.groups

-- the rule is for this resource
abbrev pub MatchesResource : Rule → Text → Type 0
MatchesResource r text = Any (λ w. ResourceWordMatches w text) r.resources

-- L4: the rule allows the verb on roles or cluster roles, whatever their names (Using RBAC
-- Authorization, Privilege escalation prevention and bootstrapping)
unfoldable pub Escalates : Rule → Text → Type 0
Escalates r verb = VerbOk r verb × MatchesGroup r (codes "rbac.authorization.k8s.io")
    × (MatchesResource r (codes "roles") ⊎ MatchesResource r (codes "clusterroles"))

-- the line of such a rule, which gives the verb
unfoldable pub IsEscalationBy : Text → Source → ℕ → Rule → Line → Type 0
IsEscalationBy verb s i r x = Escalates r verb × (x ≡ role_line 4 s (Some i) verb)

-- a line about a rule, for `bind` or for `escalate`
unfoldable pub IsEscalationAt : Source → ℕ → Rule → Line → Type 0
IsEscalationAt s i r x = IsEscalationBy (codes "bind") s i r x
    ⊎ IsEscalationBy (codes "escalate") s i r x

-- a line about a rule of a plain role
unfoldable pub IsEscalationOf : Source → Line → Type 0
IsEscalationOf s x = IsPlainRole s × OfEach (IsEscalationAt s) (rules_of s) x

-- a line of L4
abbrev pub IsEscalation : Held → Line → Type 0
IsEscalation h = OfEach (λ k s. IsEscalationOf s) (roles_in h)

-- L5: a ServiceAccount subject of a ClusterRoleBinding has no namespace, and so names nobody; the
-- line gives the subject's name (own)
unfoldable pub IsAccountWithoutAt : Binding → ℕ → Subject → Line → Type 0
IsAccountWithoutAt b i s x = (name : Text) × (s ≡ Account None name)
    × (x ≡ binding_line 5 b (Some i) name)

-- a line about such a subject of a ClusterRoleBinding
unfoldable pub IsAccountWithoutOf : Binding → Line → Type 0
IsAccountWithoutOf b x = (b.namespace ≡ None) × OfEach (IsAccountWithoutAt b) b.subjects x

-- a line of L5
abbrev pub IsAccountWithout : Held → Line → Type 0
IsAccountWithout h = OfEach (λ k b. IsAccountWithoutOf b) h.bindings

-- the role gathers the rule: a plain role that it reaches has the rule
unfoldable pub IsGathered : Held → ClusterRole → Rule → Type 0
IsGathered h r rule = (s : ClusterRole) × IsPlain s × Reaches h r s × Contains s.rules rule

-- these rules, as a set, are exactly those with the property
abbrev pub HasSameRules : List Rule → (Rule → Type 0) → Type 0
HasSameRules rules P = (rule : Rule) → Contains rules rule ↔ P rule

-- L6: an aggregated role has written rules, which as a set aren't those that it gathers (own)
unfoldable pub IsStaleRole : Held → ClusterRole → Type 0
IsStaleRole h r = (¬ IsPlain r) × (r.rules ≢ []) × (¬ HasSameRules r.rules (IsGathered h r))

-- the line of such a role
unfoldable pub IsStaleOf : Held → ClusterRole → Line → Type 0
IsStaleOf h r x = IsStaleRole h r × (x ≡ role_line 6 (InClusterRole r) None [])

-- a line of L6
abbrev pub IsStale : Held → Line → Type 0
IsStale h = OfEach (λ k r. IsStaleOf h r) h.cluster_roles

-- everything that lint finds, including L7: an object was given by several documents
abbrev pub IsFinding : Held → List Replaced → Line → Type 0
IsFinding h rs x =
    IsDangling h x
    ⊎ (IsUnused h x
    ⊎ (IsRedundant h x
    ⊎ (IsEscalation h x ⊎ (IsAccountWithout h x ⊎ (IsStale h x ⊎ IsReplaced rs x)))))

-- these are the findings: exactly those lines, in order (own)
abbrev pub AreFindings : Held → List Replaced → List Finding → Type 0
AreFindings h rs found = AreShown (IsFinding h rs) found
