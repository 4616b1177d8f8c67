use Rattle.std.proofs.Common.{◌≡◌}
use Rattle.std.proofs.lemmas.Option.{same_Some}
use Rattle.std.proofs.lemmas.Cmp.{nat_list_cmp_total}
use Rattle.rbac_terms.specs.Text.{Text, text_cmp}
use Rattle.rbac_terms.specs.Principals.{who_key}
use Rattle.rbac_matrix.proofs.SearchLemmas.{by_text, gap_absent}
use Rattle.rbac_matrix.proofs.StartLemmas.{start_namespace_gap, start_principal_gap, start_verb_gap}
use Rattle.rbac_matrix.proofs.start.line_place.Goals as goal

pub returns-in-Err-clause-gap : goal.returns-in-Err-clause-gap
returns-in-Err-clause-gap c = rw c.of_principal.ensures (start_principal_gap c.args.universe.now c.args.key.now c.in-Err.place c.in-Err.ensures.gap)

pub returns-in-Err-word_place-clause-gap : goal.returns-in-Err-word_place-clause-gap
returns-in-Err-word_place-clause-gap c =
    let n : c.args.key.now.namespace ≡ c.field.result.now = same_Some c.args.key.now.namespace c.field.result.now c.field.ensures in
    let gap = rw (c.namespaces.ensures.namespaces, ← n) at c.in-Err-word_place.ensures.gap in
    rw c.of_namespace.ensures (start_namespace_gap c.args.universe.now c.args.key.now c.in-Ok.place c.in-Err-word_place.place c.in-Ok.ensures.found gap)

pub returns-in-Err-word_place-2-clause-gap : goal.returns-in-Err-word_place-2-clause-gap
returns-in-Err-word_place-2-clause-gap c =
    let n : c.args.key.now.namespace ≡ c.field.result.now = same_Some c.args.key.now.namespace c.field.result.now c.field.ensures in
    let v : c.args.key.now.verb ≡ c.field-2.result.now = same_Some c.args.key.now.verb c.field-2.result.now c.field-2.ensures in
    let found = rw (c.namespaces.ensures.namespaces, ← n) at c.in-Ok-word_place.ensures.found in
    let gap = rw (c.verbs.ensures.verbs, ← v) at c.in-Err-word_place-2.ensures.gap in
    start_verb_gap c.args.universe.now c.args.key.now c.in-Ok.place c.in-Ok-word_place.place c.in-Err-word_place-2.place c.in-Ok.ensures.found found gap

pub returns-in-Err-clause-absent : goal.returns-in-Err-clause-absent
returns-in-Err-clause-absent c = λ cell of who ns verb.
    gap_absent text_cmp nat_list_cmp_total who_key c.args.universe.now.principals (by_text who_key c.args.universe.now.principals c.principal_place.ensures.universe.principals) c.args.key.now.principal c.in-Err.place c.in-Err.ensures.gap cell.who of.0 who

pub returns-in-Err-word_place-clause-absent : goal.returns-in-Err-word_place-clause-absent
returns-in-Err-word_place-clause-absent c = λ cell of who ns verb.
    let n : c.args.key.now.namespace ≡ c.field.result.now = same_Some c.args.key.now.namespace c.field.result.now c.field.ensures in
    let gap = rw (c.namespaces.ensures.namespaces, ← n) at c.in-Err-word_place.ensures.gap in
    gap_absent text_cmp nat_list_cmp_total (λ (w : Text). w) c.args.universe.now.namespaces (by_text (λ (w : Text). w) c.args.universe.now.namespaces c.principal_place.ensures.universe.namespaces) c.args.key.now.namespace c.in-Err-word_place.place gap cell.namespace of.1 ns

pub returns-in-Err-word_place-2-clause-absent : goal.returns-in-Err-word_place-2-clause-absent
returns-in-Err-word_place-2-clause-absent c = λ cell of who ns verb.
    let v : c.args.key.now.verb ≡ c.field-2.result.now = same_Some c.args.key.now.verb c.field-2.result.now c.field-2.ensures in
    let gap = rw (c.verbs.ensures.verbs, ← v) at c.in-Err-word_place-2.ensures.gap in
    gap_absent text_cmp nat_list_cmp_total (λ (w : Text). w) c.args.universe.now.verbs (by_text (λ (w : Text). w) c.args.universe.now.verbs c.principal_place.ensures.universe.verbs) c.args.key.now.verb c.in-Err-word_place-2.place gap cell.verb of.2 verb

pub returns-clause-found : goal.returns-clause-found
returns-clause-found c =
    let n : c.args.key.now.namespace ≡ c.field.result.now = same_Some c.args.key.now.namespace c.field.result.now c.field.ensures in
    let v : c.args.key.now.verb ≡ c.field-2.result.now = same_Some c.args.key.now.verb c.field-2.result.now c.field-2.ensures in
    record {
      principal = c.in-Ok.ensures.found;
      namespace = rw (c.namespaces.ensures.namespaces, ← n) at c.in-Ok-word_place.ensures.found;
      verb = rw (c.verbs.ensures.verbs, ← v) at c.in-Ok-word_place-2.ensures.found;
    }
