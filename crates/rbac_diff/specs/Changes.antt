-- What a change of policies lets people do, and what it takes from them.
use Rattle.std.specs.Prelude.{◌≡◌, ◌↔◌, List, AllPairs, Any, Contains}
use Rattle.std.specs.declared.cmp.Ordering.TheVariants.{Less}
use Rattle.rbac_terms.specs.Text.{Text, text_cmp}
use Rattle.rbac_terms.specs.declared.granting.Binding.{Binding}
use Rattle.rbac_model.specs.Policies.{PolicyView}
use Rattle.rbac_diff.specs.Permissions.{PermissionView, IsFirstWith}
use Rattle.rbac_diff.specs.Requests.{IsGained, AllowsRequest}
use Rattle.rbac_diff.specs.Requests.{StandsFor, RequestView, IsRequest}
use Rattle.rbac_diff.specs.Texts.{permission_text}
use Rattle.rbac_diff.specs.declared.change.ChangeKind.{ChangeKind}
use Rattle.rbac_diff.specs.declared.change.ChangeKind.TheVariants.{Gained, Lost}

-- a change: a permission as it is printed, whether it is gained or lost, and a binding
pub record ChangeView : Type 0 where
  pub kind : ChangeKind
  pub permission : Text
  pub binding : Binding

-- a gained permission, with the first binding of `after` that has it; a lost permission is a gained
-- one with the sides exchanged
abbrev pub IsChangeOf : ChangeKind → PolicyView → PolicyView → PermissionView → Binding → Type 0
IsChangeOf Gained before after p b = IsGained before after p × IsFirstWith after p b
IsChangeOf Lost before after p b = IsGained after before p × IsFirstWith before p b

-- a change from the first policy to the second: a permission that is gained or lost, as it is
-- printed, and its binding
abbrev pub IsChangeBetween : PolicyView → PolicyView → ChangeView → Type 0
IsChangeBetween before after x = (p : PermissionView) × (x.permission ≡ permission_text p)
    × IsChangeOf x.kind before after p x.binding

-- all changes, each once, in order of how their permissions are printed (own)
pub record AreChanges (before after : PolicyView) (xs : List ChangeView) : Type 0 where
  pub ordered : AllPairs (λ x y. text_cmp x.permission y.permission ≡ Less) xs
  pub exact : (x : ChangeView) → Contains xs x ↔ IsChangeBetween before after x

-- with the sides exchanged, a gained permission is lost, and a lost one is gained
abbrev pub exchanged_kind : ChangeKind → ChangeKind
exchanged_kind Gained = Lost
exchanged_kind Lost = Gained

-- a change with the sides exchanged
abbrev pub exchanged : ChangeView → ChangeView
exchanged x = record x { kind = exchanged_kind x.kind }

-- no permission is gained
abbrev pub NoneGained : List ChangeView → Type 0
NoneGained xs = ¬ Any (λ x. x.kind ≡ Gained) xs

-- the changes list a gained request: some change is a gained permission that stands for the
-- request, and only for requests that `after` allows
abbrev pub TellsOf : PolicyView → PolicyView → List ChangeView → RequestView → Type 0
TellsOf before after xs r = Any (λ x. (x.kind ≡ Gained)
    × ((p : PermissionView) × (x.permission ≡ permission_text p)
    × IsChangeOf Gained before after p x.binding × StandsFor p r
    × ((other : RequestView) → IsRequest other → StandsFor p other → AllowsRequest after other))) xs
