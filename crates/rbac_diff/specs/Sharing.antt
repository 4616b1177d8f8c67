-- Rules that share words with a rule: only these can cover a permission of the rule.
use Rattle.std.specs.Prelude.{◌⊎◌, ◌↔◌, List, Option, Any, Contains}
use Rattle.std.proofs.Common.{Bor}
use Rattle.rbac_terms.specs.Text.{Text}
use Rattle.rbac_terms.specs.Matching.{ResourceWordMatches}
use Rattle.rbac_terms.specs.declared.matching.Rule.{Rule}
use Rattle.rbac_model.specs.OwnWords.{AllowsUrlWord}
use Rattle.rbac_covering.specs.Covering.{AllowsGroup, AllowsVerb}
use Rattle.rbac_diff.specs.Covering.{CoversWords}
use Rattle.rbac_diff.specs.Permissions.{PermissionView, Permits}

-- a held rule allows this resource word, taken as a text
unfoldable pub AllowsResourceWord : Rule → Text → Type 0
AllowsResourceWord held text = Any (λ w. ResourceWordMatches w text) held.resources

-- a held rule allows a resource of the rule, and one of its API groups
abbrev pub SharesResource : Rule → Rule → Type 0
SharesResource held r = Any (AllowsResourceWord held) r.resources
    × Any (AllowsGroup held) r.groups

-- a held rule allows a verb of the rule, and one of its resources or URLs
abbrev pub SharesWords : Rule → Rule → Type 0
SharesWords held r = Any (AllowsVerb held) r.verbs
    × (SharesResource held r ⊎ Any (AllowsUrlWord held) r.urls)

-- a rule of `near` covers a permission of the rule exactly if one of all the rules does
abbrev pub AreSharing : List (Bor Rule) → Rule → List (Bor Rule) → Type 0
AreSharing rules r near = (own : Option Text) (p : PermissionView) → Contains r.verbs p.verb
    → Permits own r p.target
    → Any (λ held. CoversWords p.verb p.target held.now) near
    ↔ Any (λ held. CoversWords p.verb p.target held.now) rules
