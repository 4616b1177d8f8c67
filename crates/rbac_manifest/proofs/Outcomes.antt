-- the contents of all inputs, and the policy that follows
use Rattle.std.proofs.Common.{◌≡◌, ℕ, List, None, inr, subst, ap}
use Rattle.rbac_model.specs.Kept.{AreKept}
use Rattle.rbac_model.specs.Policies.{PolicyView}
use Rattle.rbac_lists.specs.Derived.{principals_of}
use Rattle.rbac_lists.specs.Meant.{lists_meant}
use Rattle.rbac_manifest.specs.declared.fault.LoadFault.{LoadFault}
use Rattle.rbac_manifest.specs.declared.replacement.Replaced.{Replaced}
use Rattle.rbac_manifest.specs.Names.{names_given}
use Rattle.rbac_manifest.specs.Replaced.{AreReplaced}
use Rattle.rbac_manifest.specs.Contents.{ContentsView, sorted_contents}
use Rattle.rbac_manifest.specs.Load.{LoadedView, IsLoaded, HasFault, HasTooManyGrants, document_fault, all_contents}
use Rattle.rbac_manifest.specs.Changed.{IsResolved}

abbrev pub view_of : ContentsView → PolicyView → List Replaced → LoadedView
view_of g p rs = record { policy = p; catalogue = g.catalogue; principals = principals_of p.held g.accounts; lists = lists_meant p.held g.catalogue g.namespaces g.accounts g.documents; replaced = rs; memberships = g.memberships }

pub loaded : (inputs : List (List ℕ)) (g : ContentsView) (p : PolicyView) (rs : List Replaced)
    → g ≡ sorted_contents (all_contents inputs)
    → document_fault inputs ≡ None
    → IsResolved g.objects p
    → AreReplaced (names_given g.objects g.namespaces g.accounts) rs
    → IsLoaded inputs (view_of g p rs)
unfolding sorted_contents
loaded inputs g p rs e accepted is replaced = record {
  accepted = accepted;
  kept = subst (λ h. AreKept h.objects p.held) e is.kept;
  policy = is.policy;
  few = is.few;
  catalogue = ap (λ h. h.catalogue) e;
  principals = ap (λ h. principals_of p.held h.accounts) e;
  lists = ap (λ h. lists_meant p.held g.catalogue h.namespaces h.accounts h.documents) e;
  replaced = subst (λ h. AreReplaced (names_given h.objects h.namespaces h.accounts) rs) e replaced;
  memberships = ap (λ h. h.memberships) e;
}

pub refused : (inputs : List (List ℕ)) (g : ContentsView)
    → g ≡ sorted_contents (all_contents inputs)
    → document_fault inputs ≡ None
    → (f : LoadFault)
    → HasTooManyGrants g.objects f
    → HasFault inputs f
unfolding sorted_contents
refused inputs g e accepted f many = inr (accepted, subst (λ h. HasTooManyGrants h.objects f) e many)
