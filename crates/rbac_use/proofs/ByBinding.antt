-- A request is added to the lists of the bindings that allow it, one binding after another.
use Rattle.std.proofs.Common.{◌≡◌, ◌∙◌, ◌<◌, ◌≤◌, ◌+◌, ◌++◌, ◌∷◌, [], ℕ, List, ap, arith, get_or, get_or-set_other, get_or-set_same, inl, inr, length, refl, replicate, set, subst, sym}
use Rattle.std.proofs.Math.ListN.{length-set}
use Rattle.std.proofs.lemmas.Bool.{cases_eq, cases_lt}
use Rattle.std.proofs.lemmas.List.{get_or-replicate, length-replicate}
use Rattle.std.proofs.lemmas.Option.{slice_get_within}
use Rattle.rbac_model.specs.Policies.{PolicyView}
use Rattle.rbac_subjects.specs.Keyed.{IsNextOf}
use Rattle.rbac_use.specs.Asked.{AreAskedAt}
use Rattle.rbac_use.specs.ByBinding.{AddsWhere, AreAskedByBinding}
use Rattle.rbac_use.specs.Requests.{request_of}
use Rattle.rbac_use.specs.Used.{IsAllowedAt}
use Rattle.rbac_use.specs.declared.request.Request.{Request}
use Rattle.rbac_use.proofs.AskedOf.{asked_none, asked_one}

module _ (p : PolicyView) (q : Request) where
  -- the binding at that place allows the request
  abbrev pub AllowsIt : ℕ → Type 0
  AllowsIt at = IsAllowedAt p at (request_of q)

  -- it is one of the first, too
  abbrev pub AllowsBefore : ℕ → ℕ → Type 0
  AllowsBefore limit at = (at < limit) × AllowsIt at

  pub is_there : (at : ℕ) → AllowsIt at → at < length p.held.bindings
  is_there at (n, g, own, allows) = slice_get_within p.held.bindings at g.binding own.binding

  -- the bindings before the first place
  pub added_none : (lists : List (List Request)) → AddsWhere (AllowsBefore 0) q lists lists
  added_none lists = record { len = refl; each = λ at low. inr ((λ h. (let under = h.0 in omega (arith, under))), refl) }

  -- the next binding that allows the request
  module _ (from place : ℕ) (next : IsNextOf AllowsIt from place) (old mid : List (List Request)) (adds : AddsWhere (AllowsBefore from) q old mid) where
    pub added_more : place < length mid → AddsWhere (AllowsBefore (place + 1)) q old (set mid place (get_or mid place [] ++ q ∷ []))
    added_more within =
        let more = get_or mid place [] ++ q ∷ [] in record {
          len = length-set mid place more ∙ adds.len;
          each = λ at low. elim (cases_eq at place) [
            | inl same ↦ elim (adds.each at low) [
              | inl one ↦ absurd (let under = one.0.0 in let after = next.after in omega (arith, under, same, after))
              | inr one ↦ inl (
                ((omega (arith, same)), subst AllowsIt (sym same) next.holds),
                subst (λ (k : ℕ). get_or (set mid place more) k [] ≡ get_or mid k [] ++ q ∷ []) (sym same) (get_or-set_same mid place more [] within)
                    ∙ ap (λ (xs : List Request). xs ++ q ∷ []) one.1,
              )
            ]
            | inr other ↦ (let kept = get_or-set_other mid place at more [] other in elim (adds.each at low) [
              | inl one ↦ inl (((let under = one.0.0 in let after = next.after in omega (arith, under, after)), one.0.1), kept ∙ one.1)
              | inr one ↦ inr (
                λ h. elim (cases_lt at from) [
                  | inl under ↦ one.0 (under, h.1)
                  | inr high ↦ next.none_before at high (let under = h.0 in omega (arith, under, other)) h.1
                ],
                kept ∙ one.1,
              )
            ])
          ];
        }

  -- no binding is left that allows the request
  pub added_all : (from : ℕ) → ((at : ℕ) → from ≤ at → ¬ AllowsIt at) → (old new : List (List Request)) → AddsWhere (AllowsBefore from) q old new → AddsWhere AllowsIt q old new
  added_all from none old new adds = record {
    len = adds.len;
    each = λ at low. elim (adds.each at low) [
      | inl one ↦ inl (one.0.1, one.1)
      | inr one ↦ inr (
        λ allowed. elim (cases_lt at from) [
          | inl under ↦ one.0 (under, allowed)
          | inr past ↦ none at past allowed
        ],
        one.1,
      )
    ];
  }

  -- one request more
  pub asked_more : (done : List Request) (old new : List (List Request)) → AreAskedByBinding p done old → AddsWhere AllowsIt q old new → AreAskedByBinding p (done ++ q ∷ []) new
  asked_more done old new are adds = record {
    len = adds.len ∙ are.len;
    each = λ at low.
        let within = subst (λ (n : ℕ). at < n) adds.len low in
        elim (adds.each at within) [
          | inl one ↦ subst (λ (xs : List Request). AreAskedAt p at (done ++ q ∷ []) xs) (sym one.1) (asked_one p at done (get_or old at []) q (are.each at within) one.0)
          | inr one ↦ subst (λ (xs : List Request). AreAskedAt p at (done ++ q ∷ []) xs) (sym one.1) (asked_none p at done (get_or old at []) q (are.each at within) one.0)
        ];
  }

-- no requests
pub asked_nothing : (p : PolicyView) (lists : List (List Request)) → lists ≡ replicate (length p.held.bindings) [] → AreAskedByBinding p [] lists
asked_nothing p lists are =
    let len : length lists ≡ length p.held.bindings = ap length are ∙ length-replicate (length p.held.bindings) [] in
    record {
      len = len;
      each = λ at low.
          let none : get_or lists at [] ≡ [] = ap (λ (ls : List (List Request)). get_or ls at []) are ∙ get_or-replicate (length p.held.bindings) at [] [] (subst (λ (n : ℕ). at < n) len low) in
          subst (λ (xs : List Request). AreAskedAt p at [] xs) (sym none) (λ x. (λ c. absurd (omega (arith, c.1)), λ w. absurd (let under = w.0.1 in omega (arith, under))));
    }
