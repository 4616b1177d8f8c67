-- what is loaded is one, and its fault is one; loaded inputs have none. So it is with the policy of objects
use Rattle.std.proofs.Common.{◌≡◌, ℕ, List, Option, Some, None, inl, inr, length, subst, ap, arith, sym, ◌∙◌}
use Rattle.rbac_model.specs.declared.objects.Object.{Object}
use Rattle.rbac_model.specs.Kept.{AreKept}
use Rattle.rbac_model.specs.Policies.{PolicyView, Held, IsHeld, GrantView, AreGrantsOf, OneListOfGrants}
use Rattle.rbac_catalogue.specs.Catalogue.{CatalogueView}
use Rattle.rbac_universe.specs.declared.lists.UniverseLists.{UniverseLists}
use Rattle.rbac_lists.specs.Derived.{principals_of}
use Rattle.rbac_lists.specs.Meant.{lists_meant}
use Rattle.rbac_terms.specs.Text.{Text}
use Rattle.rbac_terms.specs.Principals.{Who}
use Rattle.rbac_model.proofs.OneList.{one_list}
use Rattle.rbac_manifest.specs.declared.replacement.Replaced.{Replaced}
use Rattle.rbac_manifest.specs.Names.{names_given}
use Rattle.rbac_manifest.specs.Replaced.{replaced_name, AreReplaced}
use Rattle.rbac_manifest.specs.declared.fault.LoadFault.{LoadFault}
use Rattle.rbac_manifest.specs.Load.{LoadedView, IsLoaded, HasFault, HasTooManyGrants, document_fault, all_contents}
use Rattle.rbac_manifest.specs.Changed.{IsResolved}
use Rattle.rbac_manifest.specs.Contents.{objects_in, namespaces_in, accounts_in, documents_in}

abbrev pub KeptIsOne : Type 0
KeptIsOne = (os : List Object) (held : Held) (others : Held) → AreKept os held → AreKept os others → held ≡ others

abbrev pub GrantsAreOne : Type 0
GrantsAreOne = (held : Held) → IsHeld held → OneListOfGrants held

not_both : (o : Option LoadFault) (f : LoadFault) → o ≡ None → o ≡ Some f → ⊥
not_both o f a b = cc

pub no_too_many : KeptIsOne → GrantsAreOne → (objects : List Object) (p : PolicyView) (f : LoadFault) → IsResolved objects p → HasTooManyGrants objects f → ⊥
no_too_many kept grants objects p f is w =
    let held : w.1.0 ≡ p.held = kept objects w.1.0 p.held w.1.1 is.kept in
    let P : Held → Type 0 = λ h. AreGrantsOf h h.bindings w.1.2.0 in
    let same = grants p.held is.policy.0 w.1.2.0 p.grants (subst P held w.1.2.1) is.policy.1 in
    omega (arith, ap length same, w.1.2.2, is.few)

resolved : (inputs : List (List ℕ)) (l : LoadedView) → IsLoaded inputs l → IsResolved (objects_in (all_contents inputs)) l.policy
resolved inputs l is = record { kept = is.kept; policy = is.policy; few = is.few }

pub no_fault : KeptIsOne → GrantsAreOne → (inputs : List (List ℕ)) (l : LoadedView) (f : LoadFault) → IsLoaded inputs l → HasFault inputs f → ⊥
no_fault kept grants inputs l f loaded fault = elim fault [
  | inl e ↦ not_both (document_fault inputs) f loaded.accepted e
  | inr w ↦ no_too_many kept grants (objects_in (all_contents inputs)) l.policy f (resolved inputs l loaded) w.1
]

-- what is held, and its grants, determine a policy
policy_of : Held → List GrantView → PolicyView
policy_of held grants = record { held = held; grants = grants }

pub one_policy : KeptIsOne → GrantsAreOne → (objects : List Object) (p q : PolicyView) → IsResolved objects p → IsResolved objects q → p ≡ q
unfolding policy_of
one_policy kept grants objects p q a b =
    let held : p.held ≡ q.held = kept objects p.held q.held a.kept b.kept in
    let P : Held → Type 0 = λ h. AreGrantsOf h h.bindings p.grants in
    let listed : p.grants ≡ q.grants = grants q.held b.policy.0 p.grants q.grants (subst P held a.policy.1) b.policy.1 in
    ap (λ (h : Held). policy_of h p.grants) held ∙ ap (λ (gs : List GrantView). policy_of q.held gs) listed

-- the parts determine what is loaded
same_loaded : (l m : LoadedView) → l.policy ≡ m.policy → l.catalogue ≡ m.catalogue → l.principals ≡ m.principals → l.lists ≡ m.lists
    → l.replaced ≡ m.replaced → l.memberships ≡ m.memberships → l ≡ m
same_loaded l m a b c d e f = λ i. record { policy = a i; catalogue = b i; principals = c i; lists = d i; replaced = e i; memberships = f i }

-- what was replaced is one list
one_replaced : (names : List (List Text)) (a b : List Replaced) → AreReplaced names a → AreReplaced names b → a ≡ b
one_replaced names a b p q = one_list replaced_name a b p.ordered q.ordered (λ r w. (q.exact r).1 ((p.exact r).0 w)) (λ r w. (p.exact r).1 ((q.exact r).0 w))

pub one_load : KeptIsOne → GrantsAreOne → (inputs : List (List ℕ)) (l m : LoadedView) → IsLoaded inputs l → IsLoaded inputs m → l ≡ m
one_load kept grants inputs l m a b =
    let policy : l.policy ≡ m.policy = one_policy kept grants (objects_in (all_contents inputs)) l.policy m.policy (resolved inputs l a) (resolved inputs m b) in
    let found : l.catalogue ≡ m.catalogue = a.catalogue ∙ sym b.catalogue in
    let meant : (h : Held) (c : CatalogueView) → UniverseLists =
    λ h c. lists_meant h c (namespaces_in (all_contents inputs)) (accounts_in (all_contents inputs)) (documents_in (all_contents inputs)) in
    let named : (h : Held) → List Who = λ h. principals_of h (accounts_in (all_contents inputs)) in
    same_loaded l m policy found
    (a.principals ∙ ap (λ (p : PolicyView). named p.held) policy ∙ sym b.principals)
    (a.lists ∙ ap (λ (p : PolicyView). meant p.held l.catalogue) policy ∙ ap (λ (c : CatalogueView). meant m.policy.held c) found ∙ sym b.lists)
    (one_replaced (names_given (objects_in (all_contents inputs)) (namespaces_in (all_contents inputs)) (accounts_in (all_contents inputs))) l.replaced m.replaced a.replaced b.replaced)
    (a.memberships ∙ sym b.memberships)

same_fault : (o : Option LoadFault) (f g : LoadFault) → o ≡ Some f → o ≡ Some g → f ≡ g
same_fault o f g a b = cc

pub one_fault : (inputs : List (List ℕ)) (f g : LoadFault) → HasFault inputs f → HasFault inputs g → f ≡ g
one_fault inputs f g (inl a) (inl b) = same_fault (document_fault inputs) f g a b
one_fault inputs f g (inl a) (inr b) = absurd (not_both (document_fault inputs) f b.0 a)
one_fault inputs f g (inr a) (inl b) = absurd (not_both (document_fault inputs) g a.0 b)
one_fault inputs f g (inr a) (inr b) = a.1.0 ∙ sym b.1.0
