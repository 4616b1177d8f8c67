use Rattle.std.proofs.Common.{rules, List, sym, subst}
use Rattle.std.proofs.lemmas.Fn.{answers_by}
use Rattle.rbac_manifest.specs.Replaced.{AreReplaced}
use Rattle.rbac_manifest.specs.declared.replacement.Replaced.{Replaced}
use Rattle.rbac_manifest.proofs.Replacing.{all_runs}
use Rattle.rbac_manifest.proofs.replacement.several.Goals as goal

pub returns : goal.returns
returns c =
    let P : List Replaced → Type 0 = λ rs. AreReplaced c.args.names.now rs in
    let ended = rw c.in-None.is at c.next.ensures.steps in
    subst P (sym c.loop-same.invariant)
    (all_runs c.args.names.now c.loop-same.yielded c.into_iter-same-iterator.result c.loop-same.same-iterator c.loop-same.yielded_by c.requires
    (cc (c.into_iter-same-iterator.ensures.into_iter_gives))
    (answers_by _ _ (λ f. Unit {0}) (λ f a r h called met. (search rules, tt)) _ tt)
    ended.0)
