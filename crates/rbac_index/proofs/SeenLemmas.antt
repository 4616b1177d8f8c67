-- holders as they are seen, subject after subject
use Rattle.std.proofs.Common.{◌≡◌, ℕ, ◌+◌, ◌<◌, ◌≤◌, List, [], ◌∷◌, ◌++◌, length, ap, sym, ◌∙◌, refl, subst, Contains, ◌⊎◌, ◌↔◌, inl, inr, arith, slice_get, get_or}
use Rattle.std.specs.Prelude.{Option, Some, Any, AllPairs, unwrap_or}
use Rattle.std.proofs.lemmas.Bool.{cases_order, cases_lt}
use Rattle.std.proofs.lemmas.List.{length-append, get_or_at}
use Rattle.std.proofs.Math.ListN.{get_or-append}
use Rattle.std.proofs.lemmas.List.Elements.{Contains-append_left, Contains-push, Contains-push_cases, Contains-get_or}
use Rattle.std.proofs.lemmas.Option.{slice_get_within}
use Rattle.rbac_terms.specs.Text.{Text}
use Rattle.rbac_model.specs.Policies.{Held, AreRulesFor, SourcedRule}
use Rattle.std.proofs.lemmas.Option.{same_Some}
use Rattle.rbac_terms.specs.Granting.{IsSubjectKey}
use Rattle.rbac_model.specs.Holders.{HolderView, IsBefore}
use Rattle.rbac_terms.specs.declared.granting.Binding.{Binding}
use Rattle.rbac_terms.specs.declared.granting.Subject.{Subject}
use Rattle.rbac_index.specs.Holding.{BringsAt, BringsRuleAt, HoldsThere, IsEarlier, AreSeen}
use Rattle.rbac_index.specs.Requested.{RequestedView, AllowsRequested, target_given}
use Rattle.rbac_terms.specs.declared.scope.Scope.{Scope}
use Rattle.rbac_model.specs.Scopes.{LiveIn}
use Rattle.rbac_index.specs.WhoCan.{HoldsAt}

AllPairs-push : {X : Type 0} (R : X → X → Type 0) (xs : List X) (y : X) → AllPairs R xs → ((x : X) → Contains xs x → R x y) → AllPairs R (xs ++ y ∷ [])
AllPairs-push R xs y up last i j d less within =
    elim (cases_lt j (length xs)) [
      | inl l ↦ rw (get_or-append xs (y ∷ []) d i (omega arith), get_or-append xs (y ∷ []) d j l) (up i j d less l)
      | inr l ↦
          let at : j ≡ length xs = omega (arith, length-append xs (y ∷ [])) in
          rw (get_or-append xs (y ∷ []) d i (omega arith), get_or_at xs y [] d j (sym at)) (last (get_or xs i d) (Contains-get_or xs i d (omega arith)))
    ]

lex_next : (i j k l : ℕ) → IsBefore i j k l → IsBefore i j k (l + 1)
lex_next i j k l (inl a) = inl a
lex_next i j k l (inr a) = inr (a.0, omega (arith, a.1))

-- before the next pair stands what is before this one, and this one
lex_last : (i j k l : ℕ) → IsBefore i j k (l + 1) → IsBefore i j k l ⊎ ((i ≡ k) × (j ≡ l))
lex_last i j k l (inl a) = inl (inl a)
lex_last i j k l (inr a) = elim (cases_order j l) [
  | inl e ↦ inr (a.0, e)
  | inr d ↦ elim d [
    | inl m ↦ inl (inr (a.0, m))
    | inr m ↦ absurd (omega (arith, a.1))
  ]
]

pub pushed : (xs : List HolderView) (y : HolderView) → AllPairs IsEarlier xs → ((x : HolderView) → Contains xs x → IsEarlier x y) → AllPairs IsEarlier (xs ++ y ∷ [])
pushed xs y up last = AllPairs-push IsEarlier xs y up last

abbrev pub holder_by : Text → Binding → ℕ → ℕ → HolderView
holder_by key b i j = record { key = key; binding = b; binding_place = i; subject_place = j }

same_holder : (key : Text) (b : Binding) (i j : ℕ) (x : HolderView) → key ≡ x.key → b ≡ x.binding → i ≡ x.binding_place → j ≡ x.subject_place → let y : HolderView = record { key = key; binding = b; binding_place = i; subject_place = j } in y ≡ x
same_holder key b i j x e f g k =
    ap (λ (u : Text). holder_by u b i j) e ∙ ap (λ (u : Binding). holder_by x.key u i j) f ∙ ap (λ (u : ℕ). holder_by x.key x.binding u j) g ∙ ap (λ (u : ℕ). holder_by x.key x.binding x.binding_place u) k

module _ (h : Held) (scope : Scope) (verb : Text) (t : RequestedView) where
  pub brings : (key : Text) (i j : ℕ) → HoldsAt h scope verb t key i j → BringsAt h scope verb t i
  brings key i j (b, s, at, there, by) = (b, at, by.0, by.1)

  pub seen_none : AreSeen h scope verb t 0 0 []
  seen_none = record {
    ordered = λ i j d l m. absurd (omega arith);
    exact = λ x. (λ w. absurd (omega (arith, w.1)), λ b. absurd (elim b.1 [ inl a ↦ omega arith | inr a ↦ omega (arith, a.1) ]));
  }

  -- nothing holds between the two pairs
  pub seen_moved : (i j k l : ℕ) (xs : List HolderView) → ((m n : ℕ) → IsBefore m n i j → IsBefore m n k l) → ((key : Text) (m n : ℕ) → HoldsAt h scope verb t key m n → IsBefore m n k l → IsBefore m n i j) → AreSeen h scope verb t i j xs → AreSeen h scope verb t k l xs
  seen_moved i j k l xs on back seen = record {
    ordered = seen.ordered;
    exact = λ x. (
      λ w. let b = (seen.exact x).0 w in (b.0, on x.binding_place x.subject_place b.1),
      λ b. (seen.exact x).1 (b.0, back x.key x.binding_place x.subject_place b.0.1 b.1),
    );
  }

  -- one more that holds
  pub seen_added : (i j : ℕ) (xs : List HolderView) (key : Text) (b : Binding) → slice_get h.bindings i ≡ Some b → HoldsAt h scope verb t key i j → ((other : Text) → HoldsAt h scope verb t other i j → other ≡ key) → AreSeen h scope verb t i j xs → AreSeen h scope verb t i (j + 1) (xs ++ holder_by key b i j ∷ [])
  seen_added i j xs key b there holds only seen =
      let y : HolderView = holder_by key b i j in
      let holder : HoldsThere h scope verb t y = (there, holds) in record {
        ordered = pushed xs y seen.ordered (λ x w. ((seen.exact x).0 w).1);
        exact = λ x. (
          λ w. elim (Contains-push_cases xs y x w) [
            | inl a ↦ let c = (seen.exact x).0 a in (c.0, lex_next x.binding_place x.subject_place i j c.1)
            | inr e ↦ subst (λ (z : HolderView). HoldsThere h scope verb t z × IsBefore z.binding_place z.subject_place i (j + 1)) e (holder, inr (refl, omega arith))
          ],
          λ c. elim (lex_last x.binding_place x.subject_place i j c.1) [
            | inl l ↦ Contains-append_left xs (y ∷ []) x ((seen.exact x).1 (c.0, l))
            | inr e ↦
                let at : HoldsAt h scope verb t x.key i j = subst (λ (m : ℕ). HoldsAt h scope verb t x.key m j) e.0 (subst (λ (n : ℕ). HoldsAt h scope verb t x.key x.binding_place n) e.1 c.0.1) in
                let same_binding : x.binding ≡ b = ap (λ (o : Option Binding). unwrap_or o b) (sym c.0.0 ∙ ap (slice_get h.bindings) e.0 ∙ there) in
                let same : y ≡ x = same_holder key b i j x (sym (only x.key at)) (sym same_binding) (sym e.0) (sym e.1) in
                subst (Contains (xs ++ y ∷ [])) same (Contains-push xs y)
          ],
        );
      }

module _ (h : Held) (scope : Scope) (verb : Text) (t : RequestedView) (i j : ℕ) (b : Binding) (s : Subject) (at : slice_get h.bindings i ≡ Some b) (there : slice_get b.subjects j ≡ Some s) where
  -- what holds at a pair of places is a key of the subject there
  key_at : (key : Text) → HoldsAt h scope verb t key i j → IsSubjectKey s b.namespace key
  key_at key (c, u, read, reads, by) =
      let same : c ≡ b = same_Some c b (sym read ∙ at) in
      let subject : u ≡ s = same_Some u s (sym reads ∙ ap (λ (x : Binding). slice_get x.subjects j) same ∙ there) in
      subst (λ (x : Binding). IsSubjectKey s x.namespace key) same (subst (λ (x : Subject). IsSubjectKey x c.namespace key) subject by.2)

  -- one more subject, which has no key
  pub seen_unkeyed : (xs : List HolderView) → ((key : Text) → IsSubjectKey s b.namespace key → ⊥) → AreSeen h scope verb t i j xs → AreSeen h scope verb t i (j + 1) xs
  seen_unkeyed xs none seen =
      seen_moved h scope verb t i j i (j + 1) xs (λ m n l. lex_next m n i j l)
      (λ key m n a l. elim (lex_last m n i j l) [
        | inl e ↦ e
        | inr e ↦ absurd (none key (key_at key (subst (λ (u : ℕ). HoldsAt h scope verb t key u j) e.0 (subst (λ (v : ℕ). HoldsAt h scope verb t key m v) e.1 a))))
      ])
      seen

  -- one more subject, with its key
  pub seen_keyed : (key : Text) (xs : List HolderView) → BringsAt h scope verb t i → ((k : Text) → IsSubjectKey s b.namespace k ↔ (k ≡ key)) → AreSeen h scope verb t i j xs → AreSeen h scope verb t i (j + 1) (xs ++ holder_by key b i j ∷ [])
  seen_keyed key xs brings is seen =
      let same : brings.0 ≡ b = same_Some brings.0 b (sym brings.1 ∙ at) in
      let holds : HoldsAt h scope verb t key i j = (
        b,
        s,
        at,
        there,
        (
          subst (λ (x : Binding). LiveIn scope x.namespace (target_given t)) same brings.2,
          subst (λ (x : Binding). (rules : List SourcedRule) × AreRulesFor h x rules × Any (λ r. AllowsRequested r.rule verb t) rules) same brings.3,
          (is key).1 refl,
        ),
      ) in
      let only : (other : Text) → HoldsAt h scope verb t other i j → other ≡ key = λ other a. (is other).0 (key_at other a) in
      seen_added h scope verb t i j xs key b at holds only seen

module _ (h : Held) (scope : Scope) (verb : Text) (t : RequestedView) where
  -- from the end of a binding's subjects to the next place
  pub seen_left : (i n : ℕ) (b : Binding) (xs : List HolderView) → slice_get h.bindings i ≡ Some b → length b.subjects ≤ n → AreSeen h scope verb t i n xs → AreSeen h scope verb t (i + 1) 0 xs
  seen_left i n b xs at most seen =
      seen_moved h scope verb t i n (i + 1) 0 xs
      (λ m k l. elim l [ inl a ↦ inl (omega arith) | inr a ↦ inl (omega (arith, a.0)) ])
      (λ key m k a l. elim (cases_order m i) [
        | inl e ↦
            let same : a.0 ≡ b = same_Some a.0 b (sym a.2 ∙ ap (slice_get h.bindings) e ∙ at) in
            let within : k < length a.0.subjects = slice_get_within a.0.subjects k a.1 a.3 in
            inr (e, omega (arith, within, ap (λ (x : Binding). length x.subjects) same))
        | inr d ↦ elim d [
          | inl c ↦ inl c
          | inr c ↦ absurd (elim l [ inl e ↦ omega arith | inr e ↦ omega (arith, e.1) ])
        ]
      ])
      seen

  -- nothing holds by a binding that isn't live
  pub seen_dead : (i : ℕ) (b : Binding) (xs : List HolderView) → slice_get h.bindings i ≡ Some b → ¬ LiveIn scope b.namespace (target_given t) → AreSeen h scope verb t i 0 xs → AreSeen h scope verb t (i + 1) 0 xs
  seen_dead i b xs at dead seen =
      seen_moved h scope verb t i 0 (i + 1) 0 xs
      (λ m k l. elim l [ inl a ↦ inl (omega arith) | inr a ↦ absurd (omega (arith, a.1)) ])
      (λ key m k a l. elim (cases_order m i) [
        | inl e ↦
            let same : a.0 ≡ b = same_Some a.0 b (sym a.2 ∙ ap (slice_get h.bindings) e ∙ at) in
            let P : Binding → Type 0 = λ x. LiveIn scope x.namespace (target_given t) in
            absurd (dead (subst P same a.4.0))
        | inr d ↦ elim d [
          | inl c ↦ inl c
          | inr c ↦ absurd (elim l [ inl e ↦ omega arith | inr e ↦ omega (arith, e.1) ])
        ]
      ])
      seen

  -- from one place to a later one, where no binding between them brings a rule that allows
  pub seen_entered : (i j : ℕ) (xs : List HolderView) → i ≤ j → ((m : ℕ) → i ≤ m → m < j → ¬ BringsAt h scope verb t m) → AreSeen h scope verb t i 0 xs → AreSeen h scope verb t j 0 xs
  seen_entered i j xs le none seen =
      seen_moved h scope verb t i 0 j 0 xs
      (λ m n l. elim l [ inl a ↦ inl (omega arith) | inr a ↦ absurd (omega (arith, a.1)) ])
      (λ key m n a l.
      let less : m < j = elim l [ inl b ↦ b | inr b ↦ absurd (omega (arith, b.1)) ] in
      elim (cases_lt m i) [
        | inl b ↦ inl b
        | inr b ↦ absurd (none m b less (brings h scope verb t key m n a))
      ])
      seen

  -- a live binding that brings such a rule
  pub brings_live : (i : ℕ) (b : Binding) → slice_get h.bindings i ≡ Some b → LiveIn scope b.namespace (target_given t) → BringsRuleAt h verb t i → BringsAt h scope verb t i
  brings_live i b at live brings =
      let same : b ≡ brings.0 = same_Some b brings.0 (sym at ∙ brings.1) in
      let P : Binding → Type 0 = λ x. LiveIn scope x.namespace (target_given t) in
      (brings.0, brings.1, subst P same live, brings.2)
