use Rattle.std.proofs.Common.{IsTrue}
use Rattle.std.proofs.lemmas.List.Elements.{All-weaker}
use Rattle.rbac_terms.specs.Targets.{Url, IsProper, is_path}
use Rattle.rbac_universe.proofs.Targets.{begins_path, path_begins}
use Rattle.rbac_universe.proofs.sets.are_proper.Goals as goal

pub returns-then-are_resources : goal.returns-then-are_resources
returns-then-are_resources c =
    let urls = c.args.lists.now.urls in (
      λ t. record {
        resources = rw c.as_slice.ensures at (c.are_resources.ensures.0 c.if-are_resources.true);
        urls = All-weaker (λ path. IsTrue (is_path path)) (λ path. IsProper (Url path)) path_begins urls (rw c.as_slice-then-are_resources.ensures at (c.are_urls.ensures.0 t));
      },
      λ p. c.are_urls.ensures.1 (rw c.as_slice-then-are_resources.ensures (All-weaker (λ path. IsProper (Url path)) (λ path. IsTrue (is_path path)) begins_path urls p.urls)),
    )
