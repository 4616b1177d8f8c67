-- the changes tell what is gained
use Rattle.std.proofs.Common.{◌≡◌, ◌↔◌, List, Contains, inl, inr, refl, subst}
use Rattle.rbac_terms.specs.declared.granting.Binding.{Binding}
use Rattle.rbac_model.specs.Policies.{PolicyView, IsPolicy}
use Rattle.rbac_model.proofs.Decided.{allows}
use Rattle.rbac_diff.specs.Permissions.{PermissionView}
use Rattle.rbac_diff.specs.Requests.{RequestView, AllowsNoMore, IsGainedRequest, IsGained}
use Rattle.rbac_diff.specs.Texts.{permission_text}
use Rattle.rbac_diff.specs.Changes.{ChangeView, AreChanges, NoneGained, TellsOf, IsChangeOf}
use Rattle.rbac_diff.specs.declared.change.ChangeKind.{ChangeKind}
use Rattle.rbac_diff.specs.declared.change.ChangeKind.TheVariants.{Gained}
use Rattle.rbac_diff.proofs.Gained.{permission_of_request}
use Rattle.rbac_diff.proofs.Covered.{permission_allows}
use Rattle.rbac_diff.proofs.FirstWith.{first_with}

pub tells_each : (before after : PolicyView) (xs : List ChangeView) (r : RequestView) → IsPolicy before → IsPolicy after → AreChanges before after xs → IsGainedRequest before after r → TellsOf before after xs r
tells_each before after xs r is_before is_after are gained =
    let of = permission_of_request after is_after r gained.request gained.allowed in
    let p : PermissionView = of.0 in
    let first = first_with after is_after p of.1 of.2 of.3 in
    let x : ChangeView = record { kind = Gained; permission = permission_text p; binding = first.0 } in
    let among : Contains xs x = (are.exact x).1 (p, refl, ((r, of.4, gained), first.1)) in
    (among.0, x, among.1, among.2, (refl, (p, refl, ((r, of.4, gained), first.1), of.4, λ other request stands. permission_allows after is_after p of.1 of.2 of.3 other request stands)))

gained_of : (before after : PolicyView) (kind : ChangeKind) (p : PermissionView) (b : Binding) → kind ≡ Gained → IsChangeOf kind before after p b → IsGained before after p
gained_of before after kind p b e is = (subst (λ (k : ChangeKind). IsChangeOf k before after p b) e is).0

pub tells_nothing : (before after : PolicyView) (xs : List ChangeView) → IsPolicy before → IsPolicy after → AreChanges before after xs → NoneGained xs ↔ AllowsNoMore before after
tells_nothing before after xs is_before is_after are = (
  λ none r request allowed. elim (allows before is_before r.who r.namespace r.verb r.target) [
    | inl so ↦ so
    | inr refused ↦
        let t = tells_each before after xs r is_before is_after are (record { request = request; allowed = allowed; refused = refused }) in
        absurd (none (t.0, t.1, t.2, t.3, t.4.0))
  ],
  λ no_more a.
      let x = a.1 in
      let change = (are.exact x).0 (a.0, a.2, a.3) in
      let gained = gained_of before after x.kind change.0 x.binding a.4 change.2 in
      gained.2.refused (no_more gained.0 gained.2.request gained.2.allowed),
)
