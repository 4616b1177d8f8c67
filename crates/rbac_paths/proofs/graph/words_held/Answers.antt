use Rattle.std.proofs.Common.{Contains}
use Rattle.std.proofs.lemmas.Result.{IfOk-weaker}
use Rattle.rbac_paths.specs.Nodes.{node_of}
use Rattle.rbac_paths.specs.Joints.{TakesByWords}
use Rattle.rbac_paths.proofs.WordsTaken.{takes_by_words}
use Rattle.rbac_paths.proofs.graph.words_held.Goals as goal

pub returns-then-goes_further : goal.returns-then-goes_further
returns-then-goes_further c p decide =
    let x = node_of c.args.node in
    IfOk-weaker c.taken_words.result _ (λ ws. TakesByWords p c.args.steps.now x (λ w. Contains ws w))
    (λ ws exact. takes_by_words p x c.args.holdings.now c.args.steps.now decide (λ who. (c.goes_further.ensures who).0 c.if-goes_further.true) (λ w. Contains ws w) exact) c.taken_words.ensures
