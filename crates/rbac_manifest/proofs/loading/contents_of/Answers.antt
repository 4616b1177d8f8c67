use Rattle.std.proofs.Common.{rules, arith, [], ap}
use Rattle.std.proofs.lemmas.Grind.{common_steps}
use Rattle.rbac_manifest.specs.Load.{all_contents}
use Rattle.rbac_manifest.proofs.ContentsLemmas.{contents_all, contents_first, contents_next}
use Rattle.rbac_manifest.proofs.loading.contents_of.Goals as goal

pub loop-file-init : goal.loop-file-init
loop-file-init c = (search rules, rw c.new-contents.ensures (contents_first (all_contents c.args.inputs.now)))

pub loop-file-preserved : goal.loop-file-preserved
loop-file-preserved c = (grind (arith, common_steps), contents_next c.loop-file.contents c.file_into.new.contents _ c.args.inputs.now c.loop-file.file c.as_bytes.result.now (search rules) (search rules) (search rules) c.loop-file.invariant.1)

pub returns-clause-contents : goal.returns-clause-contents
returns-clause-contents c = contents_all _ _ _ (ap all_contents {y = []} (grind (arith, common_steps))) c.loop-file.invariant.1
