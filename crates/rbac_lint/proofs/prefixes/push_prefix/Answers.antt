use Rattle.std.proofs.Common.{◌<◌, List, length, ap, sym, ◌∙◌, subst}
use Rattle.std.specs.Prelude.{IfSome}
use Rattle.rbac_terms.specs.Text.{Text}
use Rattle.rbac_lint.specs.declared.prefixes.Prefix.{Prefix}
use Rattle.rbac_lint.specs.Prefixes.{LinksTo, AreLinkedPrefixes}
use Rattle.rbac_lint.proofs.Linked.{last_leads, puts}
use Rattle.rbac_lint.proofs.prefixes.push_prefix.Goals as goal

pub longest_from-shorter-requires-clause-linked : goal.longest_from-shorter-requires-clause-linked
longest_from-shorter-requires-clause-linked c = subst AreLinkedPrefixes (sym c.as_slice.ensures.value) c.requires.prefixes.linked

pub longest_from-shorter-requires-clause-leads : goal.longest_from-shorter-requires-clause-leads
longest_from-shorter-requires-clause-leads c =
    let last = c.checked_sub-last.result in
    let xs = c.as_slice.result.now in
    subst (λ (t : Text). LinksTo xs (length xs) t last) (sym c.as_bytes.ensures)
    (subst (λ (fs : List Prefix). LinksTo fs (length fs) c.args.text last) (sym c.as_slice.ensures.value)
    (last_leads c.args.prefixes.now.items c.args.text c.len.result last c.requires.prefixes (c.len.ensures ∙ sym c.as_slice.ensures.len ∙ ap length c.as_slice.ensures.value) c.checked_sub-last.ensures c.requires.next))

pub returns : goal.returns
returns c =
    let items = c.args.prefixes.now.items in
    let way = c.longest_from-shorter.result in
    let xs = c.as_slice.result.now in
    let leads = subst (λ (fs : List Prefix). LinksTo fs (length fs) c.args.text way) c.as_slice.ensures.value
    (subst (λ (t : Text). LinksTo xs (length xs) t way) c.as_bytes.ensures c.longest_from-shorter.ensures.leads) in
    puts items c.push.new.self.items c.args.text c.args.places way c.requires.prefixes c.requires.next leads
    (subst (λ (fs : List Prefix). IfSome way (λ i. i < length fs)) c.as_slice.ensures.value c.longest_from-shorter.ensures.within)
    c.in_ok-push.ensures.items
