use Rattle.std.proofs.Common.{ap, sym, ◌∙◌}
use Rattle.std.specs.Prelude.{Some}
use Rattle.rbac_terms.specs.Keys.{texts}
use Rattle.rbac_token.proofs.Fields.{fields_more}
use Rattle.rbac_token.proofs.print.put_key.Goals as goal

pub loop-place-preserved : goal.loop-place-preserved
loop-place-preserved c =
    fields_more c.args.printed.now.items c.loop-place.printed.items c.put_next.new.printed.items (texts c.args.key.now) c.loop-place.place c.as_bytes.result.now
    c.loop-place.invariant c.in_ok-put_next.ensures (c.field.ensures ∙ ap Some (sym c.as_bytes.ensures))
