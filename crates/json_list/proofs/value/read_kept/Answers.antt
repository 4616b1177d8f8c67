use Rattle.json_list.proofs.Values.{kept_shorter}
use Rattle.json_list.proofs.value.read_kept.Goals as goal

pub returns-clause-shorter : goal.returns-clause-shorter
returns-clause-shorter g c = kept_shorter g.K.Kept.under c.args.kept c.args.depth c.args.reader.now c.value_from.new.reader c.value_from.result c.value_from.ensures.read
