-- What the requests that a binding allows use is what the log uses.
use Rattle.std.proofs.Common.{get_or, take, ◌++◌, ◌+◌, ◌<◌, ◌≡◌, ◌≢◌, ℕ, ◌↔◌, List, [], ◌∷◌, Option, Some, None, Any, Contains, length, slice_get, inl, inr, refl, sym, ap, subst, arith, ◌∙◌, option_map}
use Rattle.std.proofs.lemmas.List.{take_more}
use Rattle.std.proofs.lemmas.List.Elements.{Contains-append_left, Contains-push, Contains-push_cases}
use Rattle.std.proofs.lemmas.Option.{same_Some, slice_get_read, slice_get-map}
use Rattle.rbac_terms.specs.Text.{Text}
use Rattle.rbac_terms.specs.Targets.{What}
use Rattle.rbac_terms.specs.Granting.{Names}
use Rattle.rbac_terms.specs.Matching.{RuleAllows}
use Rattle.rbac_terms.specs.declared.granting.Binding.{Binding}
use Rattle.rbac_terms.specs.declared.granting.Subject.{Subject}
use Rattle.rbac_terms.specs.declared.matching.Rule.{Rule}
use Rattle.rbac_terms.proofs.Reading.{contains_read}
use Rattle.rbac_model.specs.Policies.{GrantView, PolicyView}
use Rattle.rbac_model.proofs.OwnWords.{any_from}
use Rattle.rbac_diff.specs.Requests.{RequestView}
use Rattle.rbac_use.specs.Asked.{AreAskedAt, HasAskedBy, IsAskedBy}
use Rattle.rbac_use.specs.Requests.{log_of, request_of}
use Rattle.rbac_use.specs.Used.{AllowsThrough, CountsFor, IsAllowedAt, IsGrantOf, IsUsed, IsUsedAt, IsUsedBy}
use Rattle.rbac_use.specs.declared.request.Request.{Request}
use Rattle.rbac_use.proofs.Words.{any_at}

mapped : {A B : Type 0} (f : A → B) (o : Option A) (y : B) → option_map f o ≡ Some y → (x : A) × (o ≡ Some x) × (f x ≡ y)
mapped f None y e = absurd (let both : None ≡ Some y = e in cc)
mapped f (Some x) y e = (x, refl, same_Some (f x) y e)

pub read_contains : {X : Type 0} (xs : List X) (x : X) (c : Contains xs x) → slice_get xs c.0 ≡ Some x
read_contains xs x c = slice_get_read xs (length xs) c.0 x refl c.1 (sym c.2)

module _ (P : RequestView → Type 0) (requests : List Request) where
  -- a request of the log is one that was given
  pub of_log : Any P (log_of requests) → (q : Request) × Contains requests q × P (request_of q)
  of_log w =
      let at : slice_get (log_of requests) w.0 ≡ Some w.1 = read_contains (log_of requests) w.1 (w.0, w.2, w.3) in
      let m = mapped (λ (q : Request). request_of q) (slice_get requests w.0) w.1 (sym (slice_get-map (λ (q : Request). request_of q) requests w.0) ∙ at) in
      (m.0, contains_read requests w.0 m.0 m.1, subst P (sym m.2) w.4)

  pub in_log : (q : Request) → Contains requests q → P (request_of q) → Any P (log_of requests)
  in_log q c h =
      let at : slice_get (log_of requests) c.0 ≡ Some (request_of q) = slice_get-map (λ (x : Request). request_of x) requests c.0 ∙ ap (option_map (λ (x : Request). request_of x)) (read_contains requests q c) in
      any_at P (log_of requests) c.0 (request_of q) at h

first_element : {X : Type 0} (xs : List X) → xs ≢ [] → (x : X) × Contains xs x
first_element [] not = absurd (not refl)
first_element (x ∷ xs) not = (x, (0, omega arith, refl))

module _ (p : PolicyView) (place : ℕ) (requests asked : List Request) (are : AreAskedAt p place requests asked) where
  pub used_some : IsUsedAt p (log_of requests) place → asked ≢ []
  used_some w e =
      let q = of_log (IsAllowedAt p place) requests w in
      let c = (are q.0).1 (q.1, q.2) in
      omega (arith, c.1, ap length e)

  pub some_used : asked ≢ [] → IsUsedAt p (log_of requests) place
  some_used not =
      let q = first_element asked not in
      let h = (are q.0).0 q.1 in
      in_log (IsAllowedAt p place) requests q.0 h.0 h.1

  module _ (namespace : Option Text) (s : Subject) where
    abbrev ByIt : RequestView → Type 0
    ByIt r = Names s namespace r.who × IsAllowedAt p place r

    pub used_by : IsUsedBy p (log_of requests) place namespace s ↔ HasAskedBy asked namespace s
    used_by = (
      λ w. (let q = of_log ByIt requests w in any_from (λ (x : Request). Names s namespace x.who.now) asked q.0 ((are q.0).1 (q.1, q.2.1)) q.2.0),
      λ w. (let h = (are w.1).0 (w.0, w.2, w.3) in in_log ByIt requests w.1 h.0 (w.4, h.1)),
    )

  module _ (n : ℕ) (g : GrantView) (of : IsGrantOf p place n g) (rule : Rule) (within : (v : Text) (t : What) → RuleAllows rule v t → RuleAllows g.rule.rule v t) where
    counts_too : (r : RequestView) → IsAllowedAt p place r → CountsFor g.binding r
    counts_too r (m, h, also, allows) = subst (λ (b : Binding). CountsFor b r) (same_Some h.binding g.binding (sym also.binding ∙ of.binding)) allows.0

    -- a rule that allows no more than the grant's is used exactly if it allows what one of the requests asks for
    pub used : IsUsed (log_of requests) g.binding rule ↔ IsAskedBy asked rule
    used = (
      λ w. (
          let q = of_log (AllowsThrough g.binding rule) requests w in
          let allowed : IsAllowedAt p place (request_of q.0) = (n, g, of, (q.2.0, within q.0.verb.now q.0.target.now q.2.1)) in
          any_from (λ (x : Request). RuleAllows rule x.verb.now x.target.now) asked q.0 ((are q.0).1 (q.1, allowed)) q.2.1
          ),
      λ w. (
          let h = (are w.1).0 (w.0, w.2, w.3) in
          in_log (AllowsThrough g.binding rule) requests w.1 h.0 (counts_too (request_of w.1) h.1, w.4)
          ),
    )

-- ---- one request more

module _ (P : Request → Type 0) (done kept : List Request) (q : Request) (are : (x : Request) → Contains kept x ↔ (Contains done x × P x)) where
  -- it has the property, and is kept, too
  pub kept_one : P q → (x : Request) → Contains (kept ++ q ∷ []) x ↔ (Contains (done ++ q ∷ []) x × P x)
  kept_one has x = (
    λ c. elim (Contains-push_cases kept q x c) [
      | inl h ↦ (let both = (are x).0 h in (Contains-append_left done (q ∷ []) x both.0, both.1))
      | inr e ↦ subst (λ (y : Request). Contains (done ++ q ∷ []) y × P y) e (Contains-push done q, has)
    ],
    λ w. elim (Contains-push_cases done q x w.0) [
      | inl h ↦ Contains-append_left kept (q ∷ []) x ((are x).1 (h, w.1))
      | inr e ↦ subst (λ (y : Request). Contains (kept ++ q ∷ []) y) e (Contains-push kept q)
    ],
  )

  -- it hasn't, and isn't kept
  pub kept_none : (P q → ⊥) → (x : Request) → Contains kept x ↔ (Contains (done ++ q ∷ []) x × P x)
  kept_none not x = (
    λ c. (let both = (are x).0 c in (Contains-append_left done (q ∷ []) x both.0, both.1)),
    λ w. elim (Contains-push_cases done q x w.0) [
      | inl h ↦ (are x).1 (h, w.1)
      | inr e ↦ absurd (not (subst P (sym e) w.1))
    ],
  )

module _ (p : PolicyView) (place : ℕ) (done asked : List Request) (q : Request) (are : AreAskedAt p place done asked) where
  pub asked_one : IsAllowedAt p place (request_of q) → AreAskedAt p place (done ++ q ∷ []) (asked ++ q ∷ [])
  asked_one = kept_one (λ (x : Request). IsAllowedAt p place (request_of x)) done asked q are

  pub asked_none : (IsAllowedAt p place (request_of q) → ⊥) → AreAskedAt p place (done ++ q ∷ []) asked
  asked_none = kept_none (λ (x : Request). IsAllowedAt p place (request_of x)) done asked q are

-- a request more of those that are given
pub one_taken : (requests : List Request) (i : ℕ) (q : Request) → i < length requests → q ≡ get_or requests i q → take (i + 1) requests ≡ take i requests ++ q ∷ []
one_taken requests i q lt is = take_more requests i q lt ∙ ap (λ (x : Request). take i requests ++ x ∷ []) (sym is)
