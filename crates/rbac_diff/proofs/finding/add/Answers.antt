use Rattle.std.proofs.Common.{◌≡◌, refl, true, false, ◌∙◌, ap, subst, rules}
use Rattle.std.specs.BTreeMap.{get}
use Rattle.std.specs.BTreeMap.Entry.{map_with_value}
use Rattle.std.specs.Option.{unwrap_or}
use Rattle.rbac_terms.specs.Text.{text_cmp}
use Rattle.rbac_diff.specs.Permissions.{PermissionView}
use Rattle.rbac_diff.specs.Listed.{OriginView}
use Rattle.rbac_diff.specs.Finding.{FoundChanges, Finds, IsMissing}
use Rattle.rbac_diff.specs.Shown.{permitted_of}
use Rattle.rbac_diff.proofs.Searching.{finds_entry, finds_same, exactly_one}
use Rattle.rbac_diff.proofs.finding.add.Goals as goal

pub returns : goal.returns
returns c =
    let s = c.args.search.now in
    let q : PermissionView = record { principal = s.principal.now; verb = c.args.verb.now; target = permitted_of c.args.target } in
    let missing : IsMissing s.others.now q = record {
      asked = c.if-not-is_asked_for.ensures.0 refl;
      missing = λ h. absurd (let both : false ≡ true = c.if-has_covered.ensures.1 h in cc);
    } in
    let P : PermissionView → Type 0 = λ p. (p.principal ≡ s.principal.now) × ((p.verb ≡ c.args.verb.now) × (p.target ≡ permitted_of c.args.target)) × IsMissing s.others.now p in
    let entry = c.in_ok-findings.field-0 in
    let text = c.in_ok-text.text in
    let old = c.args.findings.now in
    let v = c.or_insert.result.now in
    subst (λ (new : FoundChanges). Finds P s.origin.now old new) (search rules)
    (finds_same (λ p. p ≡ q) P s.origin.now old (map_with_value entry v) (exactly_one s.others.now q missing)
    (finds_entry q s.origin.now v old (map_with_value entry v) text c.in_ok-text.ensures (get text_cmp old text) refl
    (c.or_insert.ensures.value ∙ ap (λ o. unwrap_or o c.in_ok-origin.origin) c.in_ok-findings.ensures.value ∙ ap (λ (x : OriginView). unwrap_or (get text_cmp old text) x) c.in_ok-origin.ensures.cases)
    (c.in_ok-findings.ensures.update.0 v).0))
