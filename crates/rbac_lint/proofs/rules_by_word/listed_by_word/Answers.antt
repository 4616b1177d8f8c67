use Rattle.rbac_lint.proofs.rules_by_word.listed_by_word.Goals as goal

pub returns : goal.returns
returns c = record {
  star = c.in_ok-star.ensures;
  verbs = c.in_ok-verbs.ensures;
  groups = c.in_ok-groups.ensures;
  resources = c.in_ok-resources.ensures;
  names = c.in_ok-names.ensures;
  urls = c.in_ok-urls.ensures;
  prefixes = (c.in_ok-by_prefix.by_prefix, c.in_ok-by_prefix.ensures, c.in_ok-prefixes.ensures.entries);
  linked = c.in_ok-prefixes.ensures.prefixes;
}
