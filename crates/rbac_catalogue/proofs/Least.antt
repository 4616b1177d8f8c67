-- the least of some entries, as more are looked at
use Rattle.std.proofs.Common.{◌≡◌, inl, inr, List, [], ◌∷◌, ◌++◌, Any, refl, MatchOption, Less}
use Rattle.std.specs.Prelude.{Option, Some, None, ⊤}
use Rattle.std.specs.Cmp.{IsTotalOrder}
use Rattle.std.proofs.lemmas.Cmp.{nat_list_cmp_total, then_total, on_total, tied_itself}
use Rattle.std.proofs.lemmas.List.Quantifiers.{Any-push}
use Rattle.rbac_terms.proofs.Reading.{any_pushed, any_kept}
use Rattle.rbac_catalogue.specs.declared.entry.Entry.{Entry}
use Rattle.rbac_catalogue.specs.Lookups.{resource_of, resource_cmp, IsLeastOf}

pub resource_cmp_total : IsTotalOrder resource_cmp
resource_cmp_total = then_total (on_total (λ f. f.group) nat_list_cmp_total) (on_total (λ f. f.resource) nat_list_cmp_total)

not_before_itself : (e : Entry) → ¬ (resource_cmp (resource_of e) (resource_of e) ≡ Less)
not_before_itself e h = let tied = tied_itself resource_cmp_total (resource_of e) in cc

-- what is known once these entries are looked at
abbrev pub IsLeastSoFar : (Entry → Type 0) → List Entry → Option Entry → Type 0
IsLeastSoFar P entries least = MatchOption least (¬ Any P entries) (λ e. IsLeastOf P entries (resource_of e))

-- an entry comes before the one that was the least so far
abbrev pub ComesBefore : Entry → Option Entry → Type 0
ComesBefore e least = MatchOption least ⊤ (λ f. resource_cmp (resource_of e) (resource_of f) ≡ Less)

module _ (P : Entry → Type 0) (xs : List Entry) (x : Entry) where
  pub taken : (least : Option Entry) → IsLeastSoFar P xs least → P x → ComesBefore x least → IsLeastSoFar P (xs ++ x ∷ []) (Some x)
  taken None none h before = record {
    listed = Any-push (λ f. P f × (resource_of f ≡ resource_of x)) xs x (h, refl);
    none_before = λ w. elim (any_pushed (λ f. P f × (resource_cmp (resource_of f) (resource_of x) ≡ Less)) xs x w) [
      | inl v ↦ none (v.0, v.1, v.2, v.3, v.4.0)
      | inr v ↦ not_before_itself x v.1
    ];
  }
  taken (Some e) so_far h before = record {
    listed = Any-push (λ f. P f × (resource_of f ≡ resource_of x)) xs x (h, refl);
    none_before = λ w. elim (any_pushed (λ f. P f × (resource_cmp (resource_of f) (resource_of x) ≡ Less)) xs x w) [
      | inl v ↦ so_far.none_before (v.0, v.1, v.2, v.3, (v.4.0, resource_cmp_total.trans (resource_of v.1) (resource_of x) (resource_of e) v.4.1 before))
      | inr v ↦ not_before_itself x v.1
    ];
  }

  pub stayed : (least : Option Entry) → IsLeastSoFar P xs least → ¬ (P x × ComesBefore x least) → IsLeastSoFar P (xs ++ x ∷ []) least
  stayed None none h = λ w. elim (any_pushed P xs x w) [ inl v ↦ none v | inr v ↦ h (v, tt) ]
  stayed (Some e) so_far h = record {
    listed = any_kept (λ f. P f × (resource_of f ≡ resource_of e)) xs x so_far.listed;
    none_before = λ w. elim (any_pushed (λ f. P f × (resource_cmp (resource_of f) (resource_of e) ≡ Less)) xs x w) [ inl v ↦ so_far.none_before v | inr v ↦ h v ];
  }
