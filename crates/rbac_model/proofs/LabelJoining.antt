-- entries of one label and one word as one entry
use Rattle.std.proofs.Common.{◌≡◌, ℕ, ◌+◌, ◌-◌, ◌/◌, ◌%◌, ◌<◌, ◌≤◌, ◌⊎◌, ◌↔◌, List, [], ◌∷◌, ◌++◌, length, get_or, set, drop, Any, inl, inr, sym, ap, ◌∙◌, refl, arith, subst, suc, bit_or, Bool, true, false, true≢false, length-append, Equal, Ordering}
use Rattle.std.specs.Bool.{◌==◌}
use Rattle.std.specs.Int.{bit_at}
use Rattle.std.specs.Prelude.{Option}
use Rattle.std.specs.Ordering.{is_lt, is_eq}
use Rattle.std.specs.Cmp.Lexicographic.{slice_cmp}
use Rattle.std.proofs.lemmas.Bool.{cases_eq, cases_lt}
use Rattle.std.proofs.lemmas.Bool.Decides.{Decides-eqb}
use Rattle.std.proofs.lemmas.Cmp.{nat_list_cmp_total, lists_total, tied_itself}
use Rattle.std.proofs.lemmas.List.{get_or-set_same, get_or-set_other, get_or_default, get_or-append-add, length-set, drop_more, drop_all, append-nil, append_assoc}
use Rattle.std.proofs.lemmas.List.Quantifiers.{any-set}
use Rattle.std.proofs.lemmas.List.Sorted.{sorted_far}
use Rattle.std.proofs.Math.ListN.{get_or-append}
use Rattle.rbac_terms.specs.Text.{Text, text_cmp}
use Rattle.rbac_terms.proofs.Orderings.{equal_from_test}
use Rattle.rbac_model.specs.Lists.{by_name}
use Rattle.rbac_model.specs.Labelled.{LabelEntry, Says, AreInLabelOrder, SayTheSame, IsWithEntry, IsWithAt, HasSome, label_texts}
use Rattle.rbac_terms.specs.declared.granting.ClusterRole.{ClusterRole}
use Rattle.rbac_model.proofs.LabelSets.{any_push}
use Rattle.rbac_model.proofs.LastNamed.{ranks}
use Rattle.rbac_model.proofs.NamePlaces.{exact_names}
use Rattle.rbac_model.proofs.PlaceSets.{either_bit}

-- what the test of two labels and two words says
pub joins_tested : (a b : LabelEntry) (asked : List Text) (o : Ordering) (r : Bool) (p q : ℕ) → r ≡ is_eq o → o ≡ slice_cmp text_cmp a.label asked → asked ≡ b.label → p ≡ a.place → q ≡ b.place → r ≡ true
    → ((p / 64) == (q / 64) ≡ true) ↔ ((a.label ≡ b.label) × (a.place / 64 ≡ b.place / 64))
joins_tested a b asked o r p q is compared named first second t =
    let near = Decides-eqb (p / 64) (q / 64) in
    let same : a.label ≡ b.label = exact_names a.label asked (sym compared ∙ equal_from_test o (sym is ∙ t)) ∙ named in
    let here = ap (λ (n : ℕ). n / 64) first in
    let there = ap (λ (n : ℕ). n / 64) second in
    (λ e. (same, sym here ∙ near.0 e ∙ there), λ w. near.1 (here ∙ w.1 ∙ sym there))

pub other_label : (a b : LabelEntry) (asked : List Text) (o : Ordering) (r : Bool) → r ≡ is_eq o → o ≡ slice_cmp text_cmp a.label asked → asked ≡ b.label → r ≡ false → a.label ≡ b.label → ⊥
other_label a b asked o r is compared named f same =
    let tied : o ≡ Equal = compared ∙ ap (λ (m : List Text). slice_cmp text_cmp m asked) (same ∙ sym named) ∙ tied_itself (lists_total nat_list_cmp_total) asked in
    true≢false (sym (is ∙ ap is_eq tied) ∙ f)

pub put_behind : (old : List LabelEntry) (added : LabelEntry) → IsWithEntry old added (old ++ added ∷ [])
put_behind old added = record {
  says = λ label k. any_push (λ e. Says e label k) old added;
  in_order = λ rest up. subst AreInLabelOrder (sym (append_assoc old (added ∷ []) rest)) up;
}

-- the entry at a place takes over the bits of one of its label and its word
module _ (old : List LabelEntry) (at : ℕ) (x last added : LabelEntry) (l : at < length old) (is : last ≡ get_or old at last) (kept : x.label ≡ last.label) (place : x.place ≡ last.place) (bits : x.bits ≡ bit_or last.bits added.bits) where
  module _ (label : List Text) (k : ℕ) (named : last.label ≡ added.label) (near : last.place / 64 ≡ added.place / 64) where
    both_say : Says x label k ↔ (Says last label k ⊎ Says added label k)
    both_say =
        let either : (bit_at x.bits (k % 64) ≡ 1) ↔ ((bit_at last.bits (k % 64) ≡ 1) ⊎ (bit_at added.bits (k % 64) ≡ 1)) = rw bits (either_bit last.bits added.bits (k % 64)) in
        let word = ap (λ (p : ℕ). p / 64) place in (
          λ s. elim (either.0 s.2) [ inl b ↦ inl (sym kept ∙ s.0, s.1 ∙ word, b) | inr b ↦ inr (sym (kept ∙ named) ∙ s.0, s.1 ∙ word ∙ near, b) ],
          λ s. elim s [ inl a ↦ (kept ∙ a.0, a.1 ∙ sym word, either.1 (inl a.2)) | inr a ↦ (kept ∙ named ∙ a.0, a.1 ∙ sym (word ∙ near), either.1 (inr a.2)) ],
        )

    from_set : Any (λ e. Says e label k) (set old at x) → Any (λ e. Says e label k) old ⊎ Says x label k
    from_set w = elim (cases_eq w.0 at) [
      | inl e ↦
          let read : get_or (set old at x) w.0 w.1 ≡ x = rw e (get_or-set_same old at x w.1 l) in
          inr (subst (λ (e : LabelEntry). Says e label k) (sym w.3 ∙ read) w.4)
      | inr ne ↦ inl (w.0, w.1, omega (arith, length-set old at x, w.2), sym (get_or-set_other old at w.0 x w.1 ne) ∙ w.3, w.4)
    ]

    still_said : Any (λ e. Says e label k) old → Any (λ e. Says e label k) (set old at x)
    still_said w = elim (cases_eq w.0 at) [
      | inl e ↦
          let read : get_or old w.0 w.1 ≡ last = rw e (get_or_default old at w.1 last l ∙ sym is) in
          any-set (λ e. Says e label k) old at x l (both_say.1 (inl (subst (λ (e : LabelEntry). Says e label k) (sym w.3 ∙ read) w.4)))
      | inr ne ↦ (w.0, w.1, omega (arith, length-set old at x, w.2), get_or-set_other old at w.0 x w.1 ne ∙ w.3, w.4)
    ]

  -- one entry less leaves the others in order
  module _ (rest : List LabelEntry) where
    low : (i : ℕ) (d : LabelEntry) → i < length old → (get_or (set old at x ++ rest) i d).label ≡ (get_or (old ++ added ∷ rest) i d).label
    low i d within =
        let left = get_or-append (set old at x) rest d i (omega (arith, within, length-set old at x)) in
        let right = get_or-append old (added ∷ rest) d i within in
        rw (left, right) (elim (cases_eq i at) [
          | inl e ↦ rw e (ap (λ (e : LabelEntry). e.label) (get_or-set_same old at x d l) ∙ kept ∙ ap (λ (e : LabelEntry). e.label) (is ∙ get_or_default old at last d l))
          | inr ne ↦ ap (λ (e : LabelEntry). e.label) (get_or-set_other old at i x d ne)
        ])

    high : (m : ℕ) (d : LabelEntry) → get_or (set old at x ++ rest) (length old + m) d ≡ get_or (old ++ added ∷ rest) (length old + suc m) d
    high m d =
        let len = length-set old at x in
        ap (λ (n : ℕ). get_or (set old at x ++ rest) (n + m) d) (sym len) ∙ get_or-append-add (set old at x) rest m d ∙ sym (get_or-append-add old (added ∷ rest) (suc m) d)

    -- where an element stands with the entry that is left out
    old_place : (i : ℕ) (d : LabelEntry) → (j : ℕ) × (i ≤ j) × (j ≤ i + 1) × ((i < length old) → j ≡ i) × ((length old ≤ i) → j ≡ i + 1) × ((get_or (set old at x ++ rest) i d).label ≡ (get_or (old ++ added ∷ rest) j d).label)
    old_place i d = elim (cases_lt i (length old)) [
      | inl w ↦ (i, omega arith, omega arith, λ _. refl, λ g. absurd (omega (arith, g, w)), low i d w)
      | inr g ↦
          let m : ℕ = i - length old in
          let here : length old + m ≡ i = omega (arith, g) in
          let there : length old + suc m ≡ i + 1 = omega (arith, g) in
          let read = high m d in
          (i + 1, omega arith, omega arith, λ w. absurd (omega (arith, g, w)), λ _. refl, ap (λ (e : LabelEntry). e.label) (ap (λ (n : ℕ). get_or (set old at x ++ rest) n d) (sym here) ∙ read ∙ ap (λ (n : ℕ). get_or (old ++ added ∷ rest) n d) there))
    ]

    one_less : AreInLabelOrder (old ++ added ∷ rest) → AreInLabelOrder (set old at x ++ rest)
    one_less up k d from within =
        let len = length-append (set old at x) rest in
        let more = length-append old (added ∷ rest) in
        let same = length-set old at x in
        let a = old_place k d in
        let b = old_place (k + 1) d in
        let le : a.0 ≤ b.0 = elim (cases_lt k (length old)) [
          | inl w ↦ omega (arith, a.3 w, b.1)
          | inr g ↦ omega (arith, a.4 g, b.4 (omega (arith, g)))
        ] in
        let far = sorted_far (λ x y. is_lt (by_name (λ (e : LabelEntry). e.label) x y)) (ranks (λ (e : LabelEntry). e.label)) (old ++ added ∷ rest) up a.0 b.0 d le (omega (arith, len, more, same, within, b.2)) in
        rw (a.5, b.5) far

  still_say : last.label ≡ added.label → last.place / 64 ≡ added.place / 64 → (label : List Text) (k : ℕ) → Any (λ e. Says e label k) (set old at x) ↔ (Any (λ e. Says e label k) old ⊎ Says added label k)
  still_say named near label k = (
    λ w. elim (from_set label k named near w) [
      | inl o ↦ inl o
      | inr s ↦ elim ((both_say label k named near).0 s) [ inl a ↦ inl (at, last, l, sym is, a) | inr a ↦ inr a ]
    ],
    λ s. elim s [
      | inl o ↦ still_said label k named near o
      | inr a ↦ any-set (λ e. Says e label k) old at x l ((both_say label k named near).1 (inr a))
    ],
  )

  pub put_together : last.label ≡ added.label → last.place / 64 ≡ added.place / 64 → IsWithEntry old added (set old at x)
  put_together named near = record { says = still_say named near; in_order = one_less }

-- entry by entry
pub joined_more : (entries yielded joined new : List LabelEntry) (x : LabelEntry) → length yielded < length entries → x ≡ get_or entries (length yielded) x → IsWithEntry joined x new → AreInLabelOrder (joined ++ drop (length yielded) entries) → AreInLabelOrder (new ++ drop (length (yielded ++ x ∷ [])) entries)
joined_more entries yielded joined new x l is more up =
    let i = length yielded in
    let split : drop i entries ≡ x ∷ drop (i + 1) entries = drop_more entries i x l ∙ ap (λ (e : LabelEntry). e ∷ drop (i + 1) entries) (sym is) in
    let next : i + 1 ≡ length (yielded ++ x ∷ []) = omega (arith, length-append yielded (x ∷ [])) in
    subst (λ (n : ℕ). AreInLabelOrder (new ++ drop n entries)) next (more.in_order (drop (i + 1) entries) (subst (λ (xs : List LabelEntry). AreInLabelOrder (joined ++ xs)) split up))

pub said_more : (yielded joined new : List LabelEntry) (x : LabelEntry) → IsWithEntry joined x new → SayTheSame yielded joined → SayTheSame (yielded ++ x ∷ []) new
said_more yielded joined new x more same label k =
    let push = any_push (λ e. Says e label k) yielded x in (
      λ w. push.1 (elim ((more.says label k).0 w) [ inl o ↦ inl ((same label k).0 o) | inr s ↦ inr s ]),
      λ w. (more.says label k).1 (elim (push.0 w) [ inl o ↦ inl ((same label k).1 o) | inr s ↦ inr s ]),
    )

pub joined_all : (entries joined : List LabelEntry) (n : ℕ) → length entries ≤ n → AreInLabelOrder (joined ++ drop n entries) → AreInLabelOrder joined
joined_all entries joined n le up =
    subst AreInLabelOrder (ap (λ (xs : List LabelEntry). joined ++ xs) (drop_all n entries le) ∙ append-nil joined) up

pub still_exact : (roles : List ClusterRole) (entries joined : List LabelEntry) → SayTheSame entries joined → ((key : Text) (value : Option Text) (k : ℕ) → Any (λ e. Says e (label_texts key value) k) entries ↔ IsWithAt (λ labels. HasSome labels key value) roles k)
    → (key : Text) (value : Option Text) (k : ℕ) → Any (λ e. Says e (label_texts key value) k) joined ↔ IsWithAt (λ labels. HasSome labels key value) roles k
still_exact roles entries joined alike exact key value k =
    let same = alike (label_texts key value) k in
    let all = exact key value k in
    (λ w. all.0 (same.0 w), λ h. same.1 (all.1 h))
