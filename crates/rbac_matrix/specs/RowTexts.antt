-- The key and the binding that a row shows.
use Rattle.std.specs.Prelude.{◌≡◌}
use Rattle.rbac_terms.specs.Keys.{KeyTexts}
use Rattle.rbac_model.specs.Universes.{RowView, cell_key}
use Rattle.rbac_matrix.specs.declared.row.Row.{Row}

-- the six texts that a row shows
abbrev pub texts_shown : Row → KeyTexts
texts_shown r = record {
  principal = r.principal.now;
  namespace = r.namespace.now;
  verb = r.verb.now;
  group = r.group.now;
  resource = r.resource.now;
  name = r.name.now;
}

-- `r` shows the row `v` of the matrix: its key and its binding
pub record Shows (r : Row) (v : RowView) : Type 0 where
  pub texts : texts_shown r ≡ cell_key v.cell
  pub binding : r.binding.now ≡ v.binding
