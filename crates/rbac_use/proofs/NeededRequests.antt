-- What a user needs of a log, by the bindings that allow requests.
use Rattle.std.proofs.Common.{◌+◌, ◌++◌, ◌∷◌, [], Bor, append_assoc, replicate, ◌≡◌, ◌↔◌, ℕ, List, Contains, Option, Some, None, IsTrue, false, true, ap, arith, refl, slice_get, subst, sym, ◌∙◌}
use Rattle.std.specs.Option.{is_some}
use Rattle.std.specs.Prelude.{MatchOption}
use Rattle.std.proofs.lemmas.List.{replicate-append-replicate}
use Rattle.std.proofs.lemmas.Option.{same_Some, slice_get_within}
use Rattle.rbac_model.specs.Policies.{GrantAllows, GrantView, IsPolicy, PolicyView}
use Rattle.rbac_model.proofs.BindingPlaces.{of_some_binding}
use Rattle.rbac_model.proofs.GrantNumbers.{any_at, grant_allows, some_grant}
use Rattle.rbac_subjects.specs.Keyed.{AnswersNext}
use Rattle.rbac_terms.specs.Matching.{EndsInStar, IsBeforeStars}
use Rattle.rbac_terms.specs.Text.{Text, star}
use Rattle.rbac_diff.specs.Requests.{AllowsRequest, RequestView}
use Rattle.rbac_use.specs.Needs.{AreNeeded, IsNeeded, MayNeed}
use Rattle.rbac_use.specs.Requests.{log_of}
use Rattle.rbac_use.specs.Used.{IsAllowedAt, IsGrantOf}
use Rattle.rbac_use.specs.declared.request.Request.{Request}
use Rattle.rbac_use.proofs.AskedOf.{in_log, of_log, read_contains}

-- what ends in stars ends in a star
pub star_at_end : (w q : Text) (k : ℕ) → w ≡ q ++ replicate (k + 1) star → EndsInStar w
star_at_end w q k e = (q ++ replicate k star, e ∙ ap (λ (t : Text). q ++ t) (sym (replicate-append-replicate k 1 star)) ∙ sym (append_assoc q (replicate k star) (star ∷ [])))

pub star_by_test : (w : Text) (found : Option (Bor Text)) → MatchOption found (¬ EndsInStar w) (λ before. IsBeforeStars w before.now) → IsTrue (is_some found) ↔ EndsInStar w
star_by_test w (Some before) h = (λ _. star_at_end w before.now h.0 h.1, λ _. refl)
star_by_test w None not = (λ t. absurd (let both : false ≡ true = t in cc), λ e. absurd (not e))

module _ (p : PolicyView) (ok : IsPolicy p) (r : RequestView) where
  -- a policy allows what one of its bindings allows
  pub allowed_at : (at : ℕ) → IsAllowedAt p at r → AllowsRequest p r
  allowed_at at (n, g, of, allows) =
      grant_allows p ok r.who r.namespace r.verb r.target
      (any_at (GrantAllows r.who r.namespace r.verb r.target) p.grants n g of.grant (allows.0.0, allows.0.1, allows.1))

  pub allowing_binding : AllowsRequest p r → (at : ℕ) × IsAllowedAt p at r
  allowing_binding allowed =
      let w = some_grant p.held p.grants r.who r.namespace r.verb r.target ok.0 ok.1 allowed in
      let g = w.1 in
      let here : slice_get p.grants w.0 ≡ Some g = read_contains p.grants g (w.0, w.2, w.3) in
      let at = of_some_binding p ok w.0 (slice_get_within p.grants w.0 g here) in
      let of : IsGrantOf p at.0 w.0 g = record {
        grant = here;
        binding = at.1.2 ∙ ap (λ (v : GrantView). Some v.binding) (same_Some at.1.0 g (sym at.1.1 ∙ here));
      } in
      (at.0, (w.0, g, of, ((w.4.0, w.4.1), w.4.2)))

  -- a search from the first binding decides it
  pub allowed_by_search : (found : Option ℕ) → AnswersNext (λ at. IsAllowedAt p at r) 0 found → IsTrue (is_some found) ↔ AllowsRequest p r
  allowed_by_search (Some at) next = (λ _. allowed_at at next.holds, λ _. refl)
  allowed_by_search None none = (
    λ t. absurd (let both : false ≡ true = t in cc),
    λ allowed. (let at = allowing_binding allowed in absurd (none at.0 (omega arith) at.1)),
  )

-- what is needed of the requests is what is needed of the log
pub needed_of_log : (p : PolicyView) (user : Text) (requests needed : List Request) → AreNeeded p user requests needed → (log : List RequestView) → log_of requests ≡ log → (r : RequestView) → Contains (log_of needed) r ↔ IsNeeded p log user r
needed_of_log p user requests needed are log shown r = (
  λ c.
      (let q = of_log (λ (x : RequestView). x ≡ r) needed (c.0, r, c.1, c.2, refl) in
      let both = (are q.0).0 q.1 in
      let kept = in_log (λ (x : RequestView). x ≡ r) requests q.0 both.0 q.2 in (
        subst (λ (rs : List RequestView). Contains rs r) shown (subst (λ (x : RequestView). Contains (log_of requests) x) kept.4 (kept.0, kept.2, kept.3)),
        subst (MayNeed p user) q.2 both.1,
      )),
  λ h.
      (let c = subst (λ (rs : List RequestView). Contains rs r) (sym shown) h.0 in
      let q = of_log (λ (x : RequestView). x ≡ r) requests (c.0, r, c.1, c.2, refl) in
      let kept = in_log (λ (x : RequestView). x ≡ r) needed q.0 ((are q.0).1 (q.1, subst (MayNeed p user) (sym q.2) h.1)) q.2 in
      subst (λ (x : RequestView). Contains (log_of needed) x) kept.4 (kept.0, kept.2, kept.3)),
)
