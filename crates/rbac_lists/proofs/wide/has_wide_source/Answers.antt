use Rattle.rbac_lists.specs.Derived.{source_rules}
use Rattle.rbac_lists.proofs.WideLemmas.{any_flag}
use Rattle.rbac_lists.proofs.wide.has_wide_source.Goals as goal

pub returns : goal.returns
returns c =
    rw (c.has_true.ensures, c.as_slice.ensures.value, c.in_ok-put_named.ensures, c.new-widths.ensures.items) (any_flag (source_rules c.args.objects.now))
