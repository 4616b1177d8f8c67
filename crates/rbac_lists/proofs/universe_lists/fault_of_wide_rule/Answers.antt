use Rattle.std.proofs.Common.{◌≡◌, ◌∙◌, sym, true}
use Rattle.rbac_lists.specs.Wide.{has_wide_rule}
use Rattle.rbac_lists.proofs.WideLemmas.{large, bad_url}
use Rattle.rbac_lists.proofs.universe_lists.fault_of_wide_rule.Goals as goal

pub returns-then-are_paths-clause-fault : goal.returns-then-are_paths-clause-fault
returns-then-are_paths-clause-fault c = λ namespaces accounts.
    let wide : has_wide_rule c.args.objects.now c.args.catalogue.now c.args.documents.now ≡ true = sym c.in_ok-has_wide_rule.ensures.wide ∙ c.if-not-branch.false in
    large c.args.objects.now c.args.catalogue.now c.args.documents.now wide namespaces accounts
    (rw c.last_lists-last.ensures.urls at (c.are_paths.ensures.0 c.if-are_paths.true))
    (λ e. let none = c.is_given_empty.ensures.1 (c.last_lists-last.ensures.names ∙ e) in let some = c.if-is_given_empty.false in cc)

pub returns-clause-fault : goal.returns-clause-fault
returns-clause-fault c = λ namespaces accounts.
    bad_url c.args.objects.now c.args.catalogue.now namespaces accounts c.args.documents.now
    (λ paths. let all = c.are_paths.ensures.1 (rw c.last_lists-last.ensures.urls paths) in let not_all = c.if-are_paths.false in cc)
