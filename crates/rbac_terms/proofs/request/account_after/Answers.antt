use Rattle.std.proofs.Common.{◌≡◌, ◌∙◌, ◌++◌, ap, append_assoc}
use Rattle.std.specs.Prelude.{codes}
use Rattle.rbac_terms.specs.Text.{Text}
use Rattle.rbac_terms.proofs.request.account_after.Goals as goal

joined : (a b c d e : Text) → a ++ b ++ c ++ d ++ e ≡ a ++ (b ++ c ++ d ++ e)
joined a b c d e =
    ap (λ (t : Text). t ++ d ++ e) (append_assoc a b c) ∙ ap (λ (t : Text). t ++ e) (append_assoc a (b ++ c) d) ∙ append_assoc a (b ++ c ++ d) e

pub returns : goal.returns
returns c =
    rw (c.in_ok-push_slice-5.ensures.ok, c.in_ok-push_slice-4.ensures.ok, c.in_ok-push_slice-3.ensures.ok, c.in_ok-push_slice-2.ensures.ok, c.in_ok-push_slice.ensures.ok, c.in_ok-text.ensures, c.as_bytes-namespace.ensures, c.as_bytes-name.ensures)
    (joined c.args.prefix.now (codes "system:serviceaccount:") c.args.namespace.now (codes ":") c.args.name.now)
