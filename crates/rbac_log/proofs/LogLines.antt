-- What the bytes of a log tell, line by line.
use Rattle.std.proofs.Common.{◌≡◌, ◌≢◌, ◌∙◌, ◌⊎◌, ◌↔◌, ◌<◌, ℕ, suc, Bool, true, false, List, [], ◌∷◌, ◌++◌, All, Contains, Ok, Err, ap, append_assoc, arith, cond, get_or, inl, inr, length, map, refl, subst, sym, zero}
use Rattle.std.specs.Prelude.{nat_lt}
use Rattle.std.specs.List.{onto_first}
use Rattle.std.proofs.lemmas.Bool.Decides.{nat_tests}
use Rattle.std.proofs.lemmas.List.{append-nil, get_or_default, length-append, map-append}
use Rattle.std.proofs.lemmas.List.Elements.{All-head, All-tail, Contains-append_cases, Contains-append_left, Contains-append_right}
use Rattle.std.proofs.lemmas.List.Splits.{slice_split-cons_no, slice_split_at, slice_split_none}
use Rattle.rbac_diff.specs.Requests.{RequestView}
use Rattle.rbac_log.specs.Logs.{HasAdded, Told, following, is_newline, joined, lines_of, log_requests, most_bytes, request_view, told_at, told_by_lines, told_from}
use Rattle.rbac_log.specs.Reading.{IsReadTo}
use Rattle.rbac_log.specs.declared.log_fault.LogFault.{LogFault}
use Rattle.rbac_log.specs.declared.log_fault.LogFault.TheVariants.{LongLine}
use Rattle.rbac_log.specs.declared.logged.LoggedRequest.{LoggedRequest}
use Rattle.rbac_log.specs.declared.reading.Tail.{Tail}

-- ---- lines

open_line : (t : List ℕ) → (Contains t 10 → ⊥) → All (λ b. is_newline b ≡ false) t
open_line t none = λ k d lt. let ne : get_or t k d ≢ 10 = λ e. none (k, lt, get_or_default t k 10 d lt ∙ e) in grind (arith, nat_tests)

pub no_more : (t more : List ℕ) → (Contains t 10 → ⊥) → (Contains more 10 → ⊥) → Contains (t ++ more) 10 → ⊥
no_more t more f g h = elim (Contains-append_cases t more 10 h) [ inl a ↦ f a | inr b ↦ g b ]

-- a line that ends
ended_line : (n : ℕ) (line more : List ℕ) → (Contains line 10 → ⊥) → told_from n (line ++ 10 ∷ more) ≡ joined (told_at n line) (told_from (suc n) more)
ended_line n line more none = ap (told_by_lines n) (slice_split_at is_newline line 10 more (open_line line none) refl)

-- the last line
last_line : (n : ℕ) (line : List ℕ) → (Contains line 10 → ⊥) → told_from n line ≡ joined (told_at n line) (Ok [])
last_line n line none = ap (told_by_lines n) (slice_split_none is_newline line (open_line line none))

-- bytes have a first line
some_line : (bytes : List ℕ) → (first : List ℕ) × (rest : List (List ℕ)) × (lines_of bytes ≡ first ∷ rest)
some_line [] = ([], [], refl)
some_line (b ∷ bytes) =
    let (first, rest, e) = some_line bytes in
    elim (is_newline b) as (λ (c : Bool). (f : List ℕ) × (r : List (List ℕ)) × (cond c ([] ∷ lines_of bytes) (onto_first b (lines_of bytes)) ≡ f ∷ r)) [
      | true ↦ ([], lines_of bytes, refl)
      | false ↦ (b ∷ first, rest, ap (onto_first b) e)
    ]

-- the first line begins with what comes before the first newline
begins : (line more : List ℕ) → All (λ b. is_newline b ≡ false) line
    → (first : List ℕ) × (rest : List (List ℕ)) × (lines_of (line ++ more) ≡ (line ++ first) ∷ rest)
begins [] more h = some_line more
begins (b ∷ line) more h =
    let (first, rest, e) = begins line more (All-tail (λ x. is_newline x ≡ false) b line h) in
    (first, rest, slice_split-cons_no is_newline b (line ++ more) (All-head (λ x. is_newline x ≡ false) b line h) ∙ ap (onto_first b) e)

longer : (line first : List ℕ) → most_bytes < length line → nat_lt most_bytes (length (line ++ first)) ≡ true
longer line first h = let e = length-append line first in grind (arith, nat_tests)

too_long_at : (n : ℕ) (line : List ℕ) → nat_lt most_bytes (length line) ≡ true → told_at n line ≡ Err (LongLine n)
unfolding told_at
too_long_at n line h = rw h refl

-- a line that is too long is refused, whatever follows
long_line : (n : ℕ) (line more : List ℕ) → (Contains line 10 → ⊥) → most_bytes < length line → told_from n (line ++ more) ≡ Err (LongLine n)
long_line n line more none h =
    let (first, rest, e) = begins line more (open_line line none) in
    ap (told_by_lines n) e ∙ ap (λ (t : Told). joined t (told_by_lines (suc n) rest)) (too_long_at n (line ++ first) (longer line first h))

-- ---- requests after requests

following_both : (xs ys : List LoggedRequest) (t : Told) → following xs (following ys t) ≡ following (xs ++ ys) t
following_both xs ys (Ok more) = ap (λ (l : List LoggedRequest). Ok l) (sym (append_assoc xs ys more))
following_both xs ys (Err e) = refl

pub added_none : (log : List RequestView) → HasAdded log [] log
added_none log r = (λ h. inl h, λ h. elim h [ inl a ↦ a | inr (k, lt, e) ↦ absurd (omega (arith, lt)) ])

one_element : (x y : RequestView) → Contains (x ∷ []) y → x ≡ y
one_element x y (zero, low, e) = e
one_element x y (suc k, low, e) = absurd (omega (arith, low))

-- a request was added
pub added_one : (old new : List RequestView) (q : LoggedRequest) → ((r : RequestView) → Contains new r ↔ (Contains old r ⊎ (r ≡ request_view q))) → HasAdded old (q ∷ []) new
added_one old new q h r = (
  λ has. elim ((h r).0 has) [
    | inl was ↦ inl was
    | inr is ↦ inr (0, omega arith, sym is)
  ],
  λ has. elim has [
    | inl was ↦ (h r).1 (inl was)
    | inr one ↦ (h r).1 (inr (sym (one_element (request_view q) r one)))
  ],
)

pub added_both : (a b c : List RequestView) (xs ys : List LoggedRequest) → HasAdded a xs b → HasAdded b ys c → HasAdded a (xs ++ ys) c
added_both a b c xs ys f g r =
    let e = map-append request_view xs ys in
    let all = λ (l : List RequestView). Contains l r in (
      λ h. elim ((g r).0 h) [
        | inl was ↦ elim ((f r).0 was) [
          | inl old ↦ inl old
          | inr one ↦ inr (subst all (sym e) (Contains-append_left (map request_view xs) (map request_view ys) r one))
        ]
        | inr one ↦ inr (subst all (sym e) (Contains-append_right (map request_view xs) (map request_view ys) r one))
      ],
      λ h. elim h [
        | inl old ↦ (g r).1 (inl ((f r).1 (inl old)))
        | inr one ↦ elim (Contains-append_cases (map request_view xs) (map request_view ys) r (subst all e one)) [
          | inl first ↦ (g r).1 (inl ((f r).1 (inr first)))
          | inr later ↦ (g r).1 (inr later)
        ]
      ],
    )

-- ---- reading on

told_alone : (t : Told) → t ≡ following [] t
told_alone (Ok rs) = refl
told_alone (Err e) = refl

-- nothing was read
pub read_nothing : (tail : Tail) (log : List RequestView) → tail.ended ≡ 0 → tail.bytes.items ≡ [] → IsReadTo [] log tail log
read_nothing tail log e f = record {
  requests = [];
  added = added_none log;
  leads = λ more. rw (e, f) (told_alone (log_requests more));
  open_line = rw f (λ (k, lt, h). absurd (omega (arith, lt)));
}

module _ (bytes : List ℕ) (start : List RequestView) (old new : Tail) (before now : List RequestView) (read : IsReadTo bytes start old before) where
  -- more of a line was read
  pub read_more : (more : List ℕ) → (Contains more 10 → ⊥) → new.bytes.items ≡ old.bytes.items ++ more → new.ended ≡ old.ended → IsReadTo (bytes ++ more) start new before
  read_more more none e f = record {
    requests = read.requests;
    added = read.added;
    leads = λ rest. ap log_requests (append_assoc bytes more rest) ∙ read.leads (more ++ rest)
        ∙ rw (e, f) (ap (λ (l : List ℕ). following read.requests (told_from (suc old.ended) l)) (sym (append_assoc old.bytes.items more rest)));
    open_line = rw e (no_more old.bytes.items more read.open_line none);
  }

  -- a line ended, and its requests were added
  pub read_line : (rs : List LoggedRequest) → told_at (suc old.ended) old.bytes.items ≡ Ok rs → HasAdded before rs now → new.bytes.items ≡ [] → new.ended ≡ suc old.ended
      → IsReadTo (bytes ++ 10 ∷ []) start new now
  read_line rs told added e f = record {
    requests = read.requests ++ rs;
    added = added_both start before now read.requests rs read.added added;
    leads = λ rest. ap log_requests (append_assoc bytes (10 ∷ []) rest) ∙ read.leads (10 ∷ rest)
        ∙ ap (following read.requests) (ended_line (suc old.ended) old.bytes.items rest read.open_line ∙ ap (λ (t : Told). joined t (told_from (suc (suc old.ended)) rest)) told)
        ∙ rw (e, f) (following_both read.requests rs (told_from (suc (suc old.ended)) rest));
    open_line = rw e (λ (k, lt, h). absurd (omega (arith, lt)));
  }

  -- a line that ended has a fault
  pub fails_at_line : (rest : List ℕ) (fault : LogFault) → told_at (suc old.ended) old.bytes.items ≡ Err fault → (more : List ℕ) → log_requests ((bytes ++ 10 ∷ rest) ++ more) ≡ Err fault
  fails_at_line rest fault told more =
      ap log_requests (append_assoc bytes (10 ∷ rest) more) ∙ read.leads (10 ∷ (rest ++ more))
      ∙ ap (following read.requests) (ended_line (suc old.ended) old.bytes.items (rest ++ more) read.open_line ∙ ap (λ (t : Told). joined t (told_from (suc (suc old.ended)) (rest ++ more))) told)

  -- a line is too long
  pub fails_long : (line rest : List ℕ) → (Contains line 10 → ⊥) → most_bytes < length (old.bytes.items ++ line)
      → (more : List ℕ) → log_requests ((bytes ++ (line ++ rest)) ++ more) ≡ Err (LongLine (suc old.ended))
  fails_long line rest none h more =
      ap log_requests (append_assoc bytes (line ++ rest) more) ∙ read.leads ((line ++ rest) ++ more)
      ∙ ap (following read.requests) (ap (told_from (suc old.ended)) (ap (λ (l : List ℕ). old.bytes.items ++ l) (append_assoc line rest more) ∙ sym (append_assoc old.bytes.items line (rest ++ more)))
      ∙ long_line (suc old.ended) (old.bytes.items ++ line) (rest ++ more) (no_more old.bytes.items line read.open_line none) h)

  -- the last line was read
  pub read_all : (rs : List LoggedRequest) → told_at (suc old.ended) old.bytes.items ≡ Ok rs → HasAdded before rs now
      → (all : List LoggedRequest) × (log_requests bytes ≡ Ok all) × HasAdded start all now
  read_all rs told added = (
    read.requests ++ (rs ++ []),
    ap log_requests (sym (append-nil bytes)) ∙ read.leads [] ∙ ap (λ (l : List ℕ). following read.requests (told_from (suc old.ended) l)) (append-nil old.bytes.items)
        ∙ ap (following read.requests) (last_line (suc old.ended) old.bytes.items read.open_line ∙ ap (λ (t : Told). joined t (Ok [])) told),
    subst (λ (l : List LoggedRequest). HasAdded start (read.requests ++ l) now) (sym (append-nil rs)) (added_both start before now read.requests rs read.added added),
  )

  -- the last line has a fault
  pub fails_at_end : (fault : LogFault) → told_at (suc old.ended) old.bytes.items ≡ Err fault → log_requests bytes ≡ Err fault
  fails_at_end fault told =
      ap log_requests (sym (append-nil bytes)) ∙ read.leads [] ∙ ap (λ (l : List ℕ). following read.requests (told_from (suc old.ended) l)) (append-nil old.bytes.items)
      ∙ ap (following read.requests) (last_line (suc old.ended) old.bytes.items read.open_line ∙ ap (λ (t : Told). joined t (Ok [])) told)
