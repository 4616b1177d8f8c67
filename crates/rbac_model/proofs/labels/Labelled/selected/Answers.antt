use Rattle.std.proofs.Common.{All}
use Rattle.rbac_terms.specs.Selecting.{HasLabel, Meets, Selects}
use Rattle.rbac_model.proofs.LabelSets.{with_both}
use Rattle.rbac_model.proofs.labels.Labelled.selected.Goals as goal

pub returns : goal.returns
returns c =
    let s = c.args.selector.now in
    with_both c.args.self.now (λ own. All (λ label. HasLabel own label.0 label.1) s.labels) (λ own. All (λ r. Meets r own) s.requirements) (Selects s)
    c.in_ok-places.places c.in_ok-meeting_all.field-0 c.keep.new.self c.keep.ensures c.in_ok-places.ensures c.in_ok-meeting_all.ensures (λ ls. (λ h. h, λ h. h))
