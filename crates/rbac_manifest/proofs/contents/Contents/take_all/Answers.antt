use Rattle.std.proofs.Common.{◌∷◌, [], ◌∙◌, sym, ap, map-id}
use Rattle.std.proofs.lemmas.Iterator.Consumers.{YieldsList-end}
use Rattle.std.proofs.lemmas.Iterator.Adapters.{YieldsList-from_vec}
use Rattle.rbac_manifest.specs.Contents.{with_contents}
use Rattle.rbac_manifest.proofs.ContentsLemmas.{contents_none, contents_more}
use Rattle.rbac_manifest.proofs.contents.Contents.take_all.Goals as goal

pub loop-content-init : goal.loop-content-init
loop-content-init c = sym (contents_none c.args.self.now)

pub loop-content-preserved : goal.loop-content-preserved
loop-content-preserved c =
    let one = c.in-Some.content ∷ [] in
    c.in_ok-take.ensures ∙ ap (λ g. with_contents g one) c.loop-content.invariant ∙ contents_more c.args.self.now c.loop-content.yielded one

pub returns : goal.returns
returns c =
    let given = c.args.given.items in
    let gives = c.into_iter-content-iterator.ensures.into_iter_gives in
    let seen = YieldsList-end (YieldsList-from_vec {s = c.into_iter-content-iterator.result} given gives.0 (gives.1 ∙ c.args.given.ok.0))
    c.loop-content.yielded c.loop-content.content-iterator c.loop-content.yielded_by c.next.result c.next.new.self c.in-None.is c.next.ensures.steps in
    c.loop-content.invariant ∙ ap (with_contents c.args.self.now) (sym (map-id c.loop-content.yielded) ∙ seen.0)
