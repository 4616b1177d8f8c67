use Rattle.rbac_subjects.proofs.TakingLemmas.{live_both}
use Rattle.rbac_subjects.proofs.first_places.take_live.Goals as goal

pub returns : goal.returns
returns c =
    live_both c.args.entries.now c.args.live c.args.key.now c.args.places.now c.take_between.new.places c.take_between-2.new.places
    c.take_between.ensures c.take_between-2.ensures
