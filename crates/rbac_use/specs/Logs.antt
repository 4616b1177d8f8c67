-- The order of the requests of a log, by their texts (own).
use Rattle.std.specs.Prelude.{List, ◌∷◌, codes, refl}
use Rattle.std.specs.Cmp.{IsEquivalence, IsPartialOrder, IsTotalOrder}
use Rattle.std.specs.Cmp.{partial_order_from_agreeing_total}
use Rattle.std.specs.Cmp.Lexicographic.{slice_cmp}
use Rattle.std.specs.Ordering.{as_partial_cmp, eq_by_cmp}
use Rattle.std.specs.declared.cmp.Ordering.{Ordering}
use Rattle.std.proofs.lemmas.Cmp.{eq_by_cmp_equiv, lists_total, nat_list_cmp_total, on_total}
use Rattle.rbac_terms.specs.Text.{Text, text_cmp}
use Rattle.rbac_terms.specs.Targets.{What, Resource, Url, group_of, name_of, text_of}
use Rattle.rbac_terms.specs.Principals.{given_of, who_key}
use Rattle.rbac_diff.specs.Requests.{RequestView}

-- what a target is
abbrev pub target_kind : What → Text
target_kind (Resource group text name) = codes "resource"
target_kind (Url path) = codes "url"

-- what the target is and its texts, and then the groups that were given
abbrev pub target_texts : RequestView → List Text
target_texts r = target_kind r.target ∷ group_of r.target ∷ text_of r.target ∷ name_of r.target
    ∷ given_of r.who

-- where and with which verb it was asked, and then these
abbrev pub asked_texts : RequestView → List Text
asked_texts r = r.namespace ∷ r.verb ∷ target_texts r

-- the texts of a request: its key, and then these
abbrev pub request_texts : RequestView → List Text
request_texts r = who_key r.who ∷ asked_texts r

-- the order of requests: text by text
abbrev pub request_cmp : RequestView → RequestView → Ordering
request_cmp a b = slice_cmp text_cmp (request_texts a) (request_texts b)

-- this order is total
pub request_cmp_total : IsTotalOrder request_cmp
request_cmp_total = on_total request_texts (lists_total nat_list_cmp_total)

-- being equal in this order is an equivalence
pub request_cmp_equiv : IsEquivalence (eq_by_cmp request_cmp)
request_cmp_equiv = eq_by_cmp_equiv request_cmp_total

-- this order orders equal requests alike
pub request_cmp_partial : IsPartialOrder (eq_by_cmp request_cmp) (as_partial_cmp request_cmp)
request_cmp_partial =
    partial_order_from_agreeing_total request_cmp request_cmp_total (λ _ _. refl) (λ _ _. refl)
