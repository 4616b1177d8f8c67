-- rules word for word
use Rattle.std.proofs.Common.{◌≡◌, List, ap, ◌∙◌}
use Rattle.rbac_terms.specs.Text.{Text}
use Rattle.rbac_terms.specs.declared.matching.Rule.{Rule}

-- rules of the same five lists are the same
pub same_lists : (a b : Rule) → a.verbs ≡ b.verbs → a.urls ≡ b.urls → a.groups ≡ b.groups → a.resources ≡ b.resources → a.resource_names ≡ b.resource_names → a ≡ b
same_lists a b verbs urls groups resources names =
    let with_verbs : List Text → Rule = λ l. record { verbs = l; groups = a.groups; resources = a.resources; resource_names = a.resource_names; urls = a.urls } in
    let with_groups : List Text → Rule = λ l. record { verbs = b.verbs; groups = l; resources = a.resources; resource_names = a.resource_names; urls = a.urls } in
    let with_resources : List Text → Rule = λ l. record { verbs = b.verbs; groups = b.groups; resources = l; resource_names = a.resource_names; urls = a.urls } in
    let with_names : List Text → Rule = λ l. record { verbs = b.verbs; groups = b.groups; resources = b.resources; resource_names = l; urls = a.urls } in
    let with_urls : List Text → Rule = λ l. record { verbs = b.verbs; groups = b.groups; resources = b.resources; resource_names = b.resource_names; urls = l } in
    ap with_verbs verbs ∙ ap with_groups groups ∙ ap with_resources resources ∙ ap with_names names ∙ ap with_urls urls
