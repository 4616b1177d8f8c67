-- A log has each of its requests once, and those alone that were added.
use Rattle.std.proofs.Common.{◌≡◌, ◌∙◌, ◌⊎◌, ◌↔◌, ◌<◌, ℕ, List, [], ◌∷◌, Contains, ap, ap₂, arith, ◌++◌, append_assoc, inl, inr, refl, sym, subst, zero, suc, length, get_or}
use Rattle.std.specs.BTreeSet.{insert_key}
use Rattle.std.specs.Cmp.Lexicographic.{slice_cmp}
use Rattle.std.specs.Ordering.{match_ordering}
use Rattle.std.specs.Prelude.{codes}
use Rattle.std.specs.declared.cmp.Ordering.{Ordering}
use Rattle.std.specs.declared.cmp.Ordering.TheVariants.{Less, Equal, Greater}
use Rattle.std.proofs.lemmas.List.{append-nil, append_cancel_left, map-append}
use Rattle.std.proofs.lemmas.Map.Lookups.{exact_bytes}
use Rattle.rbac_terms.proofs.Cases.{by_ordering}
use Rattle.rbac_terms.proofs.Groups.{apart}
use Rattle.rbac_terms.proofs.Orderings.{both_equal}
use Rattle.rbac_terms.specs.Text.{Text, text_cmp}
use Rattle.rbac_terms.specs.Targets.{What, Resource, Url, group_of, name_of, text_of}
use Rattle.rbac_terms.specs.Principals.{Who, AsUser, AsMember, given_of, who_key}
use Rattle.rbac_diff.specs.Requests.{RequestView}
use Rattle.rbac_use.specs.Requests.{log_of, request_of}
use Rattle.rbac_use.specs.declared.request.Request.{Request}
use Rattle.rbac_use.specs.Logs.{request_cmp, request_texts, target_kind}

pub exact_texts : (xs ys : List Text) → slice_cmp text_cmp xs ys ≡ Equal → xs ≡ ys
exact_texts [] [] e = refl
exact_texts [] (y ∷ ys) e = cc
exact_texts (x ∷ xs) [] e = cc
exact_texts (x ∷ xs) (y ∷ ys) e =
    let parts = both_equal (text_cmp x y) (slice_cmp text_cmp xs ys) e in
    let heads : x ≡ y = exact_bytes x y parts.0 in
    let tails : xs ≡ ys = exact_texts xs ys parts.1 in cc

one_who : (a b : Who) → who_key a ≡ who_key b → given_of a ≡ given_of b → a ≡ b
one_who (AsUser m gs) (AsUser n hs) e d = ap₂ (λ (name : Text) (given : List Text). AsUser name given) (append_cancel_left (codes "u:") m n e) d
one_who (AsUser m gs) (AsMember n) e d = absurd (apart m n e)
one_who (AsMember m) (AsUser n hs) e d = absurd (apart n m (sym e))
one_who (AsMember m) (AsMember n) e d = ap (λ (group : Text). AsMember group) (append_cancel_left (codes "g:") m n e)

unlike : codes "url" ≡ codes "resource" → ⊥
unlike e = omega (arith, ap (λ (t : Text). get_or t 0 0) e)

one_target : (s t : What) → target_kind s ≡ target_kind t → group_of s ≡ group_of t → text_of s ≡ text_of t → name_of s ≡ name_of t → s ≡ t
one_target (Resource g x n) (Resource h y m) k a b d = cc
one_target (Url x) (Url y) k a b d = ap (λ (path : Text). Url path) b
one_target (Resource g x n) (Url y) k a b d = absurd (unlike (sym k))
one_target (Url x) (Resource h y m) k a b d = absurd (unlike k)

abbrev request : Who → Text → Text → What → RequestView
request who namespace verb target = record { who = who; namespace = namespace; verb = verb; target = target }

one_request : (a b : RequestView) → request_cmp a b ≡ Equal → a ≡ b
one_request a b e =
    let same : request_texts a ≡ request_texts b = exact_texts (request_texts a) (request_texts b) e in
    let key : who_key a.who ≡ who_key b.who = cc (same) in
    let namespace : a.namespace ≡ b.namespace = cc (same) in
    let verb : a.verb ≡ b.verb = cc (same) in
    let kind : target_kind a.target ≡ target_kind b.target = cc (same) in
    let group : group_of a.target ≡ group_of b.target = cc (same) in
    let text : text_of a.target ≡ text_of b.target = cc (same) in
    let name : name_of a.target ≡ name_of b.target = cc (same) in
    let given : given_of a.who ≡ given_of b.who = cc (same) in
    let who : a.who ≡ b.who = one_who a.who b.who key given in
    let target : a.target ≡ b.target = one_target a.target b.target kind group text name in
    ap₂ (λ (w : Who) (n : Text). request w n a.verb a.target) who namespace ∙ ap₂ (λ (v : Text) (t : What). request b.who b.namespace v t) verb target

-- ---- what a set has once a key is inserted

has_first : (x : RequestView) (xs : List RequestView) → Contains (x ∷ xs) x
has_first x xs = (0, omega arith, refl)

has_later : (x : RequestView) (xs : List RequestView) (q : RequestView) → Contains xs q → Contains (x ∷ xs) q
has_later x xs q c = (suc c.0, omega (arith, c.1), c.2)

split_at : (x : RequestView) (xs : List RequestView) (q : RequestView) (k : ℕ) → k < length (x ∷ xs) → get_or (x ∷ xs) k q ≡ q → (x ≡ q) ⊎ Contains xs q
split_at x xs q zero l e = inl e
split_at x xs q (suc k) l e = inr (k, omega (arith, l), e)

first_or_later : (x : RequestView) (xs : List RequestView) (q : RequestView) → Contains (x ∷ xs) q → (x ≡ q) ⊎ Contains xs q
first_or_later x xs q c = split_at x xs q c.0 c.1 c.2

-- what follows the key's place
abbrev placed : Ordering → RequestView → RequestView → List RequestView → List RequestView
placed o r x xs = match_ordering o (r ∷ x ∷ xs) (x ∷ xs) (x ∷ insert_key request_cmp xs r)

pub inserted : (xs : List RequestView) (r q : RequestView) → Contains (insert_key request_cmp xs r) q ↔ (Contains xs q ⊎ (q ≡ r))
inserted [] r q = (
  λ c. elim (first_or_later r [] q c) [ inl e ↦ inr (sym e) | inr h ↦ inl h ],
  λ w. elim w [ inl h ↦ absurd (omega (arith, h.1)) | inr e ↦ subst (λ (y : RequestView). Contains (r ∷ []) y) (sym e) (has_first r []) ],
)
inserted (x ∷ xs) r q =
    let later = inserted xs r q in
    by_ordering (request_cmp r x)
    (λ o. subst (λ (p : Ordering). Contains (placed p r x xs) q ↔ (Contains (x ∷ xs) q ⊎ (q ≡ r))) (sym o) (
      λ c. elim (first_or_later r (x ∷ xs) q c) [ inl e ↦ inr (sym e) | inr h ↦ inl h ],
      λ w. elim w [ inl h ↦ has_later r (x ∷ xs) q h | inr e ↦ subst (λ (y : RequestView). Contains (r ∷ x ∷ xs) y) (sym e) (has_first r (x ∷ xs)) ],
    ))
    (λ o. subst (λ (p : Ordering). Contains (placed p r x xs) q ↔ (Contains (x ∷ xs) q ⊎ (q ≡ r))) (sym o) (
      λ c. inl c,
      λ w. elim w [ inl h ↦ h | inr e ↦ subst (λ (y : RequestView). Contains (x ∷ xs) y) (sym (e ∙ one_request r x o)) (has_first x xs) ],
    ))
    (λ o. subst (λ (p : Ordering). Contains (placed p r x xs) q ↔ (Contains (x ∷ xs) q ⊎ (q ≡ r))) (sym o) (
      λ c. elim (first_or_later x (insert_key request_cmp xs r) q c) [
        | inl e ↦ inl (subst (λ (y : RequestView). Contains (x ∷ xs) y) e (has_first x xs))
        | inr h ↦ elim (later.0 h) [ inl a ↦ inl (has_later x xs q a) | inr e ↦ inr e ]
      ],
      λ w. elim w [
        | inl h ↦ elim (first_or_later x xs q h) [
          | inl e ↦ subst (λ (y : RequestView). Contains (x ∷ insert_key request_cmp xs r) y) e (has_first x (insert_key request_cmp xs r))
          | inr a ↦ has_later x (insert_key request_cmp xs r) q (later.1 (inl a))
        ]
        | inr e ↦ has_later x (insert_key request_cmp xs r) q (later.1 (inr e))
      ],
    ))

pub added_to : (keys view new : List RequestView) (q : RequestView) → keys ≡ view → new ≡ insert_key request_cmp keys q → (r : RequestView) → Contains new r ↔ (Contains view r ⊎ (r ≡ q))
added_to keys view new q seen put r =
    subst (λ (ks : List RequestView). Contains ks r ↔ (Contains view r ⊎ (r ≡ q))) (sym put)
    (subst (λ (ks : List RequestView). Contains (insert_key request_cmp keys q) r ↔ (Contains ks r ⊎ (r ≡ q))) seen (inserted keys q r))

-- ---- the requests, one after another

pub one_shown : (old new : List Request) (r : Request) (k : RequestView) (it rest all : List RequestView) → new ≡ old ++ r ∷ [] → request_of r ≡ k → it ≡ k ∷ rest → log_of old ++ it ≡ all → log_of new ++ rest ≡ all
one_shown old new r k it rest all pushed is steps before =
    ap (λ (xs : List Request). log_of xs ++ rest) pushed ∙ ap (λ (ks : List RequestView). ks ++ rest) (map-append (λ (x : Request). request_of x) old (r ∷ []))
    ∙ append_assoc (log_of old) (request_of r ∷ []) rest ∙ ap (λ (x : RequestView). log_of old ++ x ∷ rest) is
    ∙ ap (λ (ks : List RequestView). log_of old ++ ks) (sym steps) ∙ before

pub all_shown : (shown : List Request) (it all : List RequestView) → it ≡ [] → log_of shown ++ it ≡ all → log_of shown ≡ all
all_shown shown it all none before = sym (append-nil (log_of shown)) ∙ ap (λ (ks : List RequestView). log_of shown ++ ks) (sym none) ∙ before
