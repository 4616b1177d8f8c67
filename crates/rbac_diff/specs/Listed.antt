-- The changes that were found, as a list.
use Rattle.rbac_terms.specs.Text.{Text}
use Rattle.rbac_diff.specs.Changes.{ChangeView}
use Rattle.rbac_terms.specs.declared.granting.Binding.{Binding}
use Rattle.rbac_diff.specs.declared.change.Change.{Change}
use Rattle.rbac_diff.specs.declared.change.ChangeKind.{ChangeKind}

-- the change, as contracts see it
abbrev pub change_of : Change → ChangeView
change_of x = record { kind = x.kind; permission = x.permission; binding = x.binding.now }

-- what was found under a permission's text: whether it is gained or lost, and by which binding
pub record OriginView : Type 0 where
  pub kind : ChangeKind
  pub binding : Binding

-- what was found under a text, as a change
abbrev pub entry_change : Text × OriginView → ChangeView
entry_change e = record { kind = e.1.kind; permission = e.0; binding = e.1.binding }
