use Rattle.std.proofs.Common.{◌∙◌, ap}
use Rattle.std.specs.Option.{option_map}
use Rattle.std.proofs.lemmas.Option.{slice_get-map}
use Rattle.indexmap.specs.IndexMap.{values}
use Rattle.rbac_index.specs.HolderViews.{holder_of}
use Rattle.rbac_index.proofs.holders.Holders.get.Goals as goal

pub returns : goal.returns
returns c = rw (← c.self.view_is) (slice_get-map holder_of (values c.self.inside.firsts) c.args.place ∙ ap (option_map holder_of) c.index-first.ensures)
