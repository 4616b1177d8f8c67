use Rattle.std.proofs.Common.{Bor, codes}
use Rattle.std.specs.Prelude.{option_map}
use Rattle.json.specs.Print.{quoted}
use Rattle.rbac_terms.specs.Text.{Text}
use Rattle.rbac_document.specs.LeastDocument.{head_text, home_text}
use Rattle.rbac_document.proofs.Pieces.{on_ok, four}
use Rattle.rbac_document.proofs.least.put_head.Goals as goal

pub returns : goal.returns
unfolding head_text
returns c =
    on_ok c.extend_from_slice.result _ _ _ c.extend_from_slice.ensures.items
    (λ last. four c.args.document.now.items (codes "{\"apiVersion\": \"rbac.authorization.k8s.io/v1\", \"kind\": ") (quoted c.args.kind.now) (codes ", \"metadata\": {\"name\": ") (quoted c.args.name.now)
    (home_text (option_map (λ (namespace : Bor Text). namespace.now) c.args.home)) (codes "}") c.put_after.new.document.items c.put_after-2.new.document.items c.put_home.new.document.items _
    c.in_ok-put_after.ensures (rw c.as_bytes.ensures at c.in_ok-put_after-2.ensures) c.in_ok-put_home.ensures last)
