use Rattle.std.proofs.Common.{take}
use Rattle.rbac_terms.specs.Matching.{IsBeforeStars}
use Rattle.rbac_reaches.specs.Wildcards.{ArePartsOf}
use Rattle.rbac_reaches.proofs.url_prefixes.all_prefixes_of.Given as goal

abbrev pub invariant-loop-word : goal.invariant-loop-word
invariant-loop-word l = ArePartsOf IsBeforeStars (take l.word-index l.words) l.prefixes.items
