use Rattle.std.proofs.Common.{◌∙◌, ap, ℕ, List, slice_index}
use Rattle.rbac_reaches.proofs.reach.Reach.place.Goals as goal

pub returns-clause-place : goal.returns-clause-place
returns-clause-place c = c.get.ensures ∙ ap (λ (places : List ℕ). slice_index places c.args.i) (c.deref.ensures ∙ c.self.view_is)
