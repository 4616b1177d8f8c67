-- The lines of holders, with and without the reason.
use Rattle.std.specs.Prelude.{◌≡◌, Bool, true, false, List, [], ◌∷◌}
use Rattle.std.specs.List.{flat_map}
use Rattle.rbac_terms.specs.Text.{Text}
use Rattle.rbac_model.specs.Policies.{PolicyView, GrantView}
use Rattle.rbac_model.specs.Holders.{HolderView}
use Rattle.rbac_index.specs.Requested.{RequestedView}
use Rattle.rbac_index.specs.WhyHeld.{IsWhyBy}
use Rattle.rbac_text.specs.Row.{holder_text}
use Rattle.rbac_text.specs.Why.{holder_why_text}

-- the line of a holder: its key and its binding, or with `--why` its key and why it holds the
-- permission by that binding
abbrev pub IsHolderLine : PolicyView → Bool → Text → RequestedView → HolderView → Text → Type 0
IsHolderLine p false verb t x line = line ≡ holder_text x.key x.binding
IsHolderLine p true verb t x line =
    (g : GrantView) × IsWhyBy p verb t x g
    × (line ≡ holder_why_text x.key g.binding g.rule.source g.rule.place x.subject_place)

-- a line for each of these holders, in order
abbrev pub AreHolderLines : PolicyView → Bool → Text → RequestedView → List HolderView → List Text
    → Type 0
AreHolderLines p why verb t [] lines = lines ≡ []
AreHolderLines p why verb t (x ∷ xs) lines =
    (line : Text) × (rest : List Text) × IsHolderLine p why verb t x line
    × AreHolderLines p why verb t xs rest × (lines ≡ line ∷ rest)

-- the lines, one after the other
abbrev pub joined_lines : List Text → Text
joined_lines lines = flat_map (λ line. line) lines
