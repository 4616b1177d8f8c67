use Rattle.std.proofs.Common.{◌∙◌, sym, ap, length}
use Rattle.std.proofs.lemmas.List.{length-map}
use Rattle.indexmap.specs.IndexMap.{values}
use Rattle.rbac_index.specs.HolderViews.{holder_of}
use Rattle.rbac_index.proofs.holders.Holders.len.Goals as goal

pub returns : goal.returns
returns c =
    let firsts = c.self.inside.firsts in
    c.len.ensures.len ∙ sym (length-map firsts.entries (λ entry. entry.1)) ∙ sym (length-map (values firsts) holder_of) ∙ ap length c.self.view_is
