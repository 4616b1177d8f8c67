use Rattle.std.proofs.Common.{◌≡◌, ◌≤◌, ◌<◌, ◌∙◌, ap, sym, length, arith}
use Rattle.std.specs.Cmp.{Equal-is}
use Rattle.std.specs.Ordering.{is_eq}
use Rattle.rbac_terms.specs.Text.{Text, text_cmp}
use Rattle.rbac_subjects.proofs.KeyedLemmas.{none_at_end, next_here, none_here}
use Rattle.rbac_subjects.proofs.subject_keys.next_under.Goals as goal

pub returns-then-at-entries : goal.returns-then-at-entries
returns-then-at-entries c =
    let end : length c.args.entries.now ≤ c.first_entry-at.result = omega (arith, c.if-at-entries.true) in
    none_at_end c.args.entries.now c.requires c.args.key.now c.args.from c.first_entry-at.result c.first_entry-at.ensures.first end

pub returns-then-is_eq : goal.returns-then-is_eq
returns-then-is_eq c =
    let xs = c.args.entries.now in
    let key = c.args.key.now in
    let at = c.first_entry-at.result in
    let x = c.index-entries-at.result in
    let within : at < length xs = omega (arith, c.first_entry-at.ensures.bound, c.if-at-entries.false) in
    let joined : c.cmp_listed.result ≡ text_cmp x.key key = c.cmp_listed.ensures ∙ ap (λ (t : Text). text_cmp t key) c.as_bytes.ensures in
    next_here xs c.requires key c.args.from at c.first_entry-at.ensures.first x within c.index-entries-at.is ((Equal-is (text_cmp x.key key)).0 (ap is_eq (sym joined) ∙ sym c.is_eq.ensures ∙ c.if-is_eq.true))

pub returns-else-is_eq : goal.returns-else-is_eq
returns-else-is_eq c =
    let xs = c.args.entries.now in
    let key = c.args.key.now in
    let at = c.first_entry-at.result in
    let x = c.index-entries-at.result in
    let within : at < length xs = omega (arith, c.first_entry-at.ensures.bound, c.if-at-entries.false) in
    let joined : c.cmp_listed.result ≡ text_cmp x.key key = c.cmp_listed.ensures ∙ ap (λ (t : Text). text_cmp t key) c.as_bytes.ensures in
    none_here xs c.requires key c.args.from at c.first_entry-at.ensures.first x within c.index-entries-at.is (ap is_eq (sym joined) ∙ sym c.is_eq.ensures ∙ c.if-is_eq.false)
