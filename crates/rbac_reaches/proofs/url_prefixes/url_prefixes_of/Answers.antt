use Rattle.std.proofs.Common.{rules}
use Rattle.std.specs.Prelude.{nat_eq}
use Rattle.std.specs.List.{starts_with}
use Rattle.std.proofs.lemmas.Fn.{dedup_same}
use Rattle.rbac_reaches.proofs.WildcardLemmas.{prefixes_from}
use Rattle.rbac_reaches.proofs.url_prefixes.url_prefixes_of.Goals as goal

pub returns : goal.returns
returns c =
    let kept = dedup_same _ (starts_with nat_eq) _ (λ x y b f' x' y' k. search rules) _ _ c.dedup_by.ensures.filtered in
    rw kept (prefixes_from c.args.words.now c.in_ok-prefixes.prefixes.items c.sort_unstable.new.self.items c.in_ok-prefixes.ensures c.sort_unstable.ensures.permutation c.sort_unstable.ensures.sorted)
