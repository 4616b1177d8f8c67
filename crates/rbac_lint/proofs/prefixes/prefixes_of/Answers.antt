use Rattle.std.proofs.Common.{◌≡◌, ◌++◌, List, ℕ, map, sym, subst, ◌∙◌}
use Rattle.std.proofs.lemmas.List.{append-nil}
use Rattle.rbac_terms.specs.Text.{Text}
use Rattle.rbac_lint.specs.declared.prefixes.Prefix.{Prefix}
use Rattle.rbac_lint.specs.Prefixes.{entry_of, ArePrefixes}
use Rattle.rbac_lint.proofs.Linked.{no_prefixes, is_next, entries_more}
use Rattle.rbac_lint.proofs.prefixes.prefixes_of.Goals as goal

pub loop-text-init : goal.loop-text-init
loop-text-init c =
    let entries = c.args.lists.entries in
    let none = sym c.new-prefixes.ensures.items in (
      subst (λ (fs : List Prefix). map entry_of fs ++ c.into_iter-text-iterator.result ≡ entries) none c.into_iter-text-iterator.ensures.into_iter_gives.0,
      subst ArePrefixes none no_prefixes,
    )

pub push_prefix-requires-clause-prefixes : goal.push_prefix-requires-clause-prefixes
push_prefix-requires-clause-prefixes c = c.loop-text.invariant.1

pub push_prefix-requires-clause-next : goal.push_prefix-requires-clause-next
push_prefix-requires-clause-next c =
    let entries = c.args.lists.entries in
    let prefixes = c.loop-text.prefixes.items in
    is_next prefixes c.in-Some.text c.in-Some.places c.next.new.self entries
    (subst (λ (es : List (Text × List ℕ)). map entry_of prefixes ++ es ≡ entries) c.in-Some.ensures.steps c.loop-text.invariant.0)
    c.into_iter-text-iterator.ensures.into_iter_gives.5

pub loop-text-preserved : goal.loop-text-preserved
loop-text-preserved c =
    let entries = c.args.lists.entries in
    let prefixes = c.loop-text.prefixes.items in
    let put = c.in_ok-push_prefix.ensures in (
      entries_more prefixes c.push_prefix.new.prefixes.items c.in-Some.text c.in-Some.places put.0 c.next.new.self entries put.1
          (subst (λ (es : List (Text × List ℕ)). map entry_of prefixes ++ es ≡ entries) c.in-Some.ensures.steps c.loop-text.invariant.0),
      put.2,
    )

pub returns-clause-prefixes : goal.returns-clause-prefixes
returns-clause-prefixes c = c.loop-text.invariant.1

pub returns-clause-entries : goal.returns-clause-entries
returns-clause-entries c =
    let entries = c.args.lists.entries in
    let prefixes = c.loop-text.prefixes.items in (
      c.into_iter-text-iterator.ensures.into_iter_gives.5,
      sym (append-nil (map entry_of prefixes)) ∙ subst (λ (es : List (Text × List ℕ)). map entry_of prefixes ++ es ≡ entries) c.in-None.ensures.steps.0 c.loop-text.invariant.0,
    )
