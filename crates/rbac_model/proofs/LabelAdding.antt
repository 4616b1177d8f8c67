-- entries for the labels of a role, one label after the other
use Rattle.std.proofs.Common.{◌≡◌, ℕ, ◌+◌, ◌*◌, ◌/◌, ◌%◌, ◌^◌, ◌<◌, ◌≤◌, ◌⊎◌, ◌↔◌, List, [], ◌∷◌, ◌++◌, length, Any, Contains, inl, inr, sym, ap, ◌∙◌, arith, subst, max, w64, bit_or}
use Rattle.std.specs.Prelude.{Option, Some, None, slice_get}
use Rattle.std.specs.Int.{bit_at}
use Rattle.std.proofs.lemmas.Bool.{cases_eq}
use Rattle.std.proofs.lemmas.List.Elements.{Contains-push, Contains-push_cases, Contains-append_left}
use Rattle.std.specs.List.Sorted.{IsPermutation}
use Rattle.std.proofs.lemmas.List.Sorted.{Contains-permutation, IsPermutation-sym}
use Rattle.std.proofs.lemmas.Nat.Bits.{bit_at-zero, bit_at_or, bit_at_set_same, bit_at_set_other}
use Rattle.std.proofs.lemmas.Option.{same_Some, slice_get_within}
use Rattle.rbac_terms.specs.Text.{Text}
use Rattle.rbac_terms.specs.Selecting.{LabelTexts, HasLabel}
use Rattle.rbac_terms.specs.declared.granting.ClusterRole.{ClusterRole}
use Rattle.rbac_model.specs.Labelled.{LabelEntry, Says, Adds, IsWithAt, HasSome, label_texts}
use Rattle.rbac_model.proofs.LabelSets.{any_push, none_any}

-- a label has the key, and the value that is asked for
abbrev pub IsAsked : Text × Text → Text → Option Text → Type 0
IsAsked l key None = l.0 ≡ key
IsAsked l key (Some value) = (l.0 ≡ key) × (l.1 ≡ value)

has_push : (ls : LabelTexts) (l : Text × Text) (key : Text) (value : Option Text) → HasSome (ls ++ l ∷ []) key value ↔ (HasSome ls key value ⊎ IsAsked l key value)
unfolding HasLabel
has_push ls l key None = any_push (λ (label : Text × Text). label.0 ≡ key) ls l
has_push ls l key (Some v) = (
  λ w. elim (Contains-push_cases ls l (key, v) w) [
    | inl c ↦ inl c
    | inr e ↦ inr (ap (λ (t : Text × Text). t.0) e, ap (λ (t : Text × Text). t.1) e)
  ],
  λ w. elim w [
    | inl c ↦ Contains-append_left ls (l ∷ []) (key, v) c
    | inr e ↦
        let same : l ≡ (key, v) = ap (λ (t : Text). (t, l.1)) e.0 ∙ ap (λ (t : Text). (key, t)) e.1 in
        subst (λ (t : Text × Text). Contains (ls ++ l ∷ []) t) same (Contains-push ls l)
  ],
)

has_none : (key : Text) (value : Option Text) → HasSome [] key value → ⊥
unfolding HasLabel
has_none key None w = none_any (λ (label : Text × Text). label.0 ≡ key) w
has_none key (Some v) w = absurd (omega (arith, w.1))

-- the one bit of a place
abbrev pub bit_of : ℕ → ℕ
bit_of place = 1 * 2 ^ (place % 64) % 2 ^ 64

zero_or : (b i : ℕ) → bit_at (bit_or 0 b) i ≡ bit_at b i
zero_or b i =
    let e = bit_at_or 0 b i in
    let z = bit_at-zero i in
    e ∙ ap (λ (m : ℕ). max m (bit_at b i)) z ∙ omega arith

bit_here : (place k : ℕ) → ((k / 64 ≡ place / 64) × (bit_at (bit_of place) (k % 64) ≡ 1)) ↔ (k ≡ place)
bit_here place k = (
  λ w. elim (cases_eq (k % 64) (place % 64)) [
    | inl e ↦ omega (arith, e, w.0)
    | inr ne ↦
        let other = bit_at_set_other w64 0 (place % 64) (omega arith) (k % 64) ne in
        let none : bit_at (bit_of place) (k % 64) ≡ 0 = sym (zero_or (bit_of place) (k % 64)) ∙ other ∙ bit_at-zero (k % 64) in
        absurd (omega (arith, none, w.1))
  ],
  λ e. (ap (λ (n : ℕ). n / 64) e, rw e (sym (zero_or (bit_of place) (place % 64)) ∙ bit_at_set_same w64 0 (place % 64) (omega arith))),
)

-- what the two entries of a label say
abbrev pub of_label : Text × Text → ℕ → LabelEntry
of_label l place = record { label = label_texts l.0 (Some l.1); place = place; bits = bit_of place }

abbrev pub of_key : Text × Text → ℕ → LabelEntry
of_key l place = record { label = label_texts l.0 None; place = place; bits = bit_of place }

head_of : (a b : Text) (xs ys : List Text) → (a ∷ xs) ≡ (b ∷ ys) → (a ≡ b) × (xs ≡ ys)
head_of a b xs ys e = (cc, cc)

two_say : (l : Text × Text) (place : ℕ) (key : Text) (value : Option Text) (k : ℕ) → (Says (of_label l place) (label_texts key value) k ⊎ Says (of_key l place) (label_texts key value) k) ↔ ((k ≡ place) × IsAsked l key value)
two_say l place key None k = (
  λ w. elim w [
    | inl s ↦ let parts = head_of l.0 key (l.1 ∷ []) [] s.0 in cc
    | inr s ↦ ((bit_here place k).0 (s.1, s.2), (head_of l.0 key [] [] s.0).0)
  ],
  λ w. let b = (bit_here place k).1 w.0 in inr (ap (λ (t : Text). t ∷ []) w.1, b.0, b.1),
)
two_say l place key (Some v) k = (
  λ w. elim w [
    | inl s ↦
        let parts = head_of l.0 key (l.1 ∷ []) (v ∷ []) s.0 in
        ((bit_here place k).0 (s.1, s.2), (parts.0, (head_of l.1 v [] [] parts.1).0))
    | inr s ↦ let parts = head_of l.0 key [] (v ∷ []) s.0 in cc
  ],
  λ w. let b = (bit_here place k).1 w.0 in inl (ap (λ (t : Text). t ∷ l.1 ∷ []) w.1.0 ∙ ap (λ (t : Text). key ∷ t ∷ []) w.1.1, b.0, b.1),
)

pub adds_none : (old : List LabelEntry) (place : ℕ) → Adds old old [] place
adds_none old place key value k = (λ w. inl w, λ w. elim w [ inl v ↦ v | inr h ↦ absurd (has_none key value h.1) ])

pub adds_more : (old mid : List LabelEntry) (ls : LabelTexts) (l : Text × Text) (place : ℕ) → Adds old mid ls place → Adds old ((mid ++ of_label l place ∷ []) ++ of_key l place ∷ []) (ls ++ l ∷ []) place
adds_more old mid ls l place adds key value k =
    let P : LabelEntry → Type 0 = λ e. Says e (label_texts key value) k in
    let outer = any_push P (mid ++ of_label l place ∷ []) (of_key l place) in
    let inner = any_push P mid (of_label l place) in
    let two = two_say l place key value k in
    let has = has_push ls l key value in (
      λ w. elim (outer.0 w) [
        | inl v ↦ elim (inner.0 v) [
          | inl u ↦ elim ((adds key value k).0 u) [ inl o ↦ inl o | inr h ↦ inr (h.0, has.1 (inl h.1)) ]
          | inr s ↦ let t = two.0 (inl s) in inr (t.0, has.1 (inr t.1))
        ]
        | inr s ↦ let t = two.0 (inr s) in inr (t.0, has.1 (inr t.1))
      ],
      λ w. elim w [
        | inl o ↦ outer.1 (inl (inner.1 (inl ((adds key value k).1 (inl o)))))
        | inr h ↦ elim (has.0 h.1) [
          | inl g ↦ outer.1 (inl (inner.1 (inl ((adds key value k).1 (inr (h.0, g))))))
          | inr a ↦ elim (two.1 (h.0, a)) [
            | inl s ↦ outer.1 (inl (inner.1 (inr s)))
            | inr s ↦ outer.1 (inr s)
          ]
        ]
      ],
    )

-- what the entries of the first roles say
abbrev pub SaysUpTo : List ClusterRole → List LabelEntry → ℕ → Type 0
SaysUpTo roles xs i = (key : Text) (value : Option Text) (k : ℕ) → Any (λ e. Says e (label_texts key value) k) xs ↔ ((k < i) × IsWithAt (λ labels. HasSome labels key value) roles k)

pub says_more : (roles : List ClusterRole) (old new : List LabelEntry) (i : ℕ) (r : ClusterRole) → slice_get roles i ≡ Some r → Adds old new r.labels i → SaysUpTo roles old i → SaysUpTo roles new (i + 1)
says_more roles old new i r there adds up key value k = (
  λ w. elim ((adds key value k).0 w) [
    | inl v ↦ let h = (up key value k).0 v in (omega (arith, h.0), h.1)
    | inr h ↦ (omega (arith, h.0), (r, ap (slice_get roles) h.0 ∙ there, h.1))
  ],
  λ w. (adds key value k).1 (elim (cases_eq k i) [
    | inl e ↦
        let same : w.1.0 ≡ r = same_Some w.1.0 r (sym w.1.1 ∙ ap (slice_get roles) e ∙ there) in
        inr (e, subst (λ (s : ClusterRole). HasSome s.labels key value) same w.1.2)
    | inr ne ↦ inl ((up key value k).1 (omega (arith, w.0, ne), w.1))
  ]),
)

pub says_all : (roles : List ClusterRole) (xs : List LabelEntry) (i : ℕ) → length roles ≤ i → SaysUpTo roles xs i → (key : Text) (value : Option Text) (k : ℕ) → Any (λ e. Says e (label_texts key value) k) xs ↔ IsWithAt (λ labels. HasSome labels key value) roles k
says_all roles xs i le up key value k = (
  λ w. ((up key value k).0 w).1,
  λ h. (up key value k).1 (omega (arith, slice_get_within roles k h.0 h.1, le), h),
)

-- a sort changes nothing of what is said
any_moved : (P : LabelEntry → Type 0) (xs ys : List LabelEntry) → ((x : LabelEntry) → Contains xs x → Contains ys x) → Any P xs → Any P ys
any_moved P xs ys moved w = let c = moved w.1 (w.0, w.2, w.3) in (c.0, w.1, c.1, c.2, w.4)

pub says_sorted : (roles : List ClusterRole) (xs ys : List LabelEntry) (i : ℕ) → length roles ≤ i → IsPermutation xs ys → SaysUpTo roles xs i → (key : Text) (value : Option Text) (k : ℕ) → Any (λ e. Says e (label_texts key value) k) ys ↔ IsWithAt (λ labels. HasSome labels key value) roles k
says_sorted roles xs ys i le moves up key value k =
    let P : LabelEntry → Type 0 = λ e. Says e (label_texts key value) k in
    let all = says_all roles xs i le up key value k in (
      λ w. all.0 (any_moved P ys xs (λ x. Contains-permutation ys xs x (IsPermutation-sym xs ys moves)) w),
      λ h. any_moved P xs ys (λ x. Contains-permutation xs ys x moves) (all.1 h),
    )
