-- blocks of a line's grants, each with the least of its seats
use Rattle.std.proofs.Common.{◌≡◌, ◌≢◌, ℕ, ◌+◌, ◌<◌, ◌≤◌, ◌⊎◌, List, [], ◌∷◌, ◌++◌, length, set, min, refl, ◌∙◌, sym, ap, arith, inl, inr, subst, get_or-set_other, get_or-set_same, length-set}
use Rattle.std.specs.Prelude.{true, false, nat_lt}
use Rattle.std.proofs.lemmas.Bool.{cases_lt, cases_eq, lt-ltb, le-ltb}
use Rattle.std.proofs.lemmas.List.{get_or_append_left, get_or_push, length_push}
use Rattle.rbac_model.specs.Policies.{PolicyView}
use Rattle.rbac_model.specs.Universes.{UniverseView}
use Rattle.rbac_matrix.specs.Lines.{LineView, lines_from}
use Rattle.rbac_matrix.specs.Cursors.{IsBoundOn, IsCursorAt, IsNextBound, IsWithin, back_at}
use Rattle.rbac_matrix.specs.Blocks.{Advances, AreBlocks, AreBlocksAt, AreBlocksBelow, IsBlock, IsLeastBlock, IsLeastIn, IsOfBlock, block_at, joined, no_block}
use Rattle.rbac_matrix.specs.Seats.{AreSeated, AreSeatedAbout, AreSeatedBefore, ComesFirst, Costs, IsLeastSeat, IsSeated, IsSeatedBefore, SeatCosts, empty_seat, no_seat, past_all, reach_at, seat_at, start_at}
use Rattle.rbac_matrix.specs.declared.blocks.Block.{Block}
use Rattle.rbac_matrix.specs.declared.bound_runs.Runs.{Runs}
use Rattle.rbac_matrix.specs.declared.kept.Kept.{Kept}
use Rattle.rbac_matrix.specs.declared.line.Place.{Place}
use Rattle.rbac_matrix.specs.declared.seat.Seat.{Seat}
use Rattle.rbac_matrix.specs.declared.walk.Walk.{Walk}
use Rattle.rbac_matrix.proofs.LoopLemmas.{cursor_of_seat, cursor_within, start_here, start_past}
use Rattle.rbac_matrix.proofs.PassLemmas.{same_head}
use Rattle.rbac_matrix.proofs.SeatLemmas.{Costs-less, Costs-none, Costs-set, Costs-then, seated_before, seated_stays, set_each}
use Rattle.rbac_matrix.proofs.WalkLemmas.{cursor_bound}

-- no seat with a number from `start` up to `end` is at an entry
abbrev pub AreIdle : List Seat → ℕ → ℕ → Type 0
AreIdle seats start end = (k : ℕ) → start ≤ k → k < end → past_all ≤ (seat_at seats k).place

abbrev pub AreOthersEmpty : PolicyView → LineView → List Seat → Type 0
AreOthersEmpty p l seats = (k : ℕ) → k < length seats → IsCursorAt p l k ⊎ (seat_at seats k ≡ empty_seat)

-- if `IsBoundOn` holds for none of these grants, no seat of theirs is at an entry
pub unbound_idle : (p : PolicyView) (l : LineView) (seats : List Seat) (start end : ℕ) → AreOthersEmpty p l seats → end ≤ length seats → ((k : ℕ) → start ≤ k → k < end → IsBoundOn p l k → ⊥) → AreIdle seats start end
unbound_idle p l seats start end others within none k low high = elim (others k (omega arith)) [
  | inl c ↦ absurd (none k low high (cursor_bound p l k c))
  | inr e ↦ let empty : (seat_at seats k).place ≡ past_all = rw e refl in omega arith
]

pub others_of : (p : PolicyView) (l : LineView) (rs : List (List ℕ)) (from upto : ℕ) (seats : List Seat) → AreSeated p l rs from upto seats → AreOthersEmpty p l seats
others_of p l rs from upto seats h k lt = elim (h.each k lt) [
  | inl s ↦ inl s.0
  | inr e ↦ inr e.1
]

pub others_about : (p : PolicyView) (l : LineView) (rs : List (List ℕ)) (place end : ℕ) (seats : List Seat) → AreSeatedAbout p l rs place end seats → AreOthersEmpty p l seats
others_about p l rs place end seats h k lt = elim (h.each k lt) [
  | inl s ↦ inl s.0
  | inr e ↦ inr e.1
]

module _ (seats : List Seat) (start : ℕ) where
  module _ (n place number : ℕ) (h : IsLeastIn seats start n place number) where
    -- the least seat stays, if the seats of the numbers up to `end` are at no entry
    pub least_over : (end : ℕ) → n ≤ end → AreIdle seats n end → IsLeastIn seats start end place number
    least_over end le idle = record {
      bound = h.bound;
      at = λ lt. let at = h.at lt in (at.0, omega (arith, at.1), at.2);
      least = λ k low high. elim (cases_lt k n) [
        | inl lt ↦ h.least k low lt
        | inr ge ↦ let past = idle k ge high in record { least = omega (arith, h.bound); first = λ le real. absurd (omega arith) }
      ];
    }

    -- the next seat comes before the least seat so far
    pub least_new : (here : ℕ) → start ≤ n → here ≡ (seat_at seats n).place → here ≤ past_all → here < place → IsLeastIn seats start (n + 1) here n
    least_new here low is top before = record {
      bound = top;
      at = λ lt. (low, omega arith, sym is);
      least = λ k from high. elim (cases_lt k n) [
        | inl lt ↦ let old = h.least k from lt in record { least = omega (arith, old.least); first = λ le real. absurd (omega (arith, old.least)) }
        | inr ge ↦ let e : k ≡ n = omega arith in subst (λ (i : ℕ). ComesFirst here n (seat_at seats i).place i) (sym e) (record { least = omega arith; first = λ le real. omega arith })
      ];
    }

    -- the next seat doesn't come before the least seat so far
    pub least_old : (here : ℕ) → here ≡ (seat_at seats n).place → place ≤ here → IsLeastIn seats start (n + 1) place number
    least_old here is after = record {
      bound = h.bound;
      at = λ lt. let at = h.at lt in (at.0, omega (arith, at.1), at.2);
      least = λ k low high. elim (cases_lt k n) [
        | inl lt ↦ h.least k low lt
        | inr ge ↦ let e : k ≡ n = omega arith in subst (λ (i : ℕ). ComesFirst place number (seat_at seats i).place i) (sym e) (record { least = omega arith; first = λ le real. let at = h.at real in omega (arith, at.1) })
      ];
    }

-- seats that are the same have the same least seat
pub least_same : (seats more : List Seat) (start end place number : ℕ) → ((k : ℕ) → start ≤ k → k < end → seat_at more k ≡ seat_at seats k) → IsLeastIn seats start end place number → IsLeastIn more start end place number
least_same seats more start end place number same h = record {
  bound = h.bound;
  at = λ lt. let at = h.at lt in (at.0, at.1, ap (λ (s : Seat). s.place) (same number at.0 at.1) ∙ at.2);
  least = λ k low high. rw (same k low high) (h.least k low high);
}

-- ---- the least of several blocks

-- the place and number are the least of the first `count` blocks
pub record IsLeastBelow (bs : List Block) (count place number : ℕ) : Type 0 where
  pub bound : place ≤ past_all
  pub found : place < past_all → (i : ℕ) × (i < count) × ((block_at bs i).place ≡ place) × ((block_at bs i).number ≡ number) × ((j : ℕ) → j < count → (block_at bs j).place ≤ place → i ≤ j)
  pub least : (i : ℕ) → i < count → place ≤ (block_at bs i).place

-- ---- the least seat of a line

module _ (p : PolicyView) (l : LineView) (runs : Runs) (seats : List Seat) (bs : List Block) (h : AreBlocks p l runs seats bs) (others : AreOthersEmpty p l seats) (few : length seats ≡ length p.grants) where
  pub least_past : ((i : ℕ) → i < length bs → past_all ≤ (block_at bs i).place) → (k : ℕ) → IsCursorAt p l k → past_all ≤ (seat_at seats k).place
  least_past past k c = elim (cases_lt (seat_at seats k).place past_all) [
    | inl lt ↦
        let of = h.all k (omega (arith, cursor_within p l k c)) lt in
        let low = (h.each of.0 of.1).least k of.2.0 of.2.1 in
        omega (arith, past of.0 of.1, low.least)
    | inr ge ↦ ge
  ]

  module _ (place number : ℕ) (f : IsLeastBlock bs place number) where
    own : IsBlock seats (block_at bs f.at)
    own = h.each f.at f.within

    own_at : ((block_at bs f.at).walk.next ≤ number) × (number < (block_at bs f.at).end) × ((seat_at seats number).place ≡ place)
    own_at =
        let at = own.at (omega (arith, f.place_at, f.real)) in
        (omega (arith, at.0, f.number_at), omega (arith, at.1, f.number_at), subst (λ (n : ℕ). (seat_at seats n).place ≡ place) f.number_at (at.2 ∙ f.place_at))

    comes_first : (k : ℕ) → IsCursorAt p l k → ComesFirst place number (seat_at seats k).place k
    comes_first k c = elim (cases_lt (seat_at seats k).place past_all) [
      | inl lt ↦
          let of = h.all k (omega (arith, cursor_within p l k c)) lt in
          let low = (h.each of.0 of.1).least k of.2.0 of.2.1 in
          let under = f.least of.0 of.1 in
          record {
            least = omega (arith, low.least, under);
            first = λ le real. elim (cases_lt f.at of.0) [
              | inl later ↦ omega (arith, h.apart f.at of.0 later of.1, own_at.1, of.2.0)
              | inr ge ↦
                  let e : of.0 ≡ f.at = omega (arith, f.first of.0 of.1 (omega (arith, low.least))) in
                  let place_is : (block_at bs of.0).place ≡ place = ap (λ (i : ℕ). (block_at bs i).place) e ∙ f.place_at in
                  let number_is : (block_at bs of.0).number ≡ number = ap (λ (i : ℕ). (block_at bs i).number) e ∙ f.number_at in
                  let first = low.first (omega (arith, place_is)) (omega (arith, place_is)) in
                  omega (arith, number_is)
            ];
          }
      | inr ge ↦ record { least = omega (arith, f.real); first = λ le real. absurd (omega arith) }
    ]

    pub least_seat : IsLeastSeat p l seats place number
    least_seat = record {
      cursor = cursor_of_seat p l seats number place (others number (omega (arith, own_at.1, h.below f.at f.within))) (sym own_at.2) f.real;
      at = own_at.2;
      real = f.real;
      least = comes_first;
    }

-- ---- a line's blocks, one by one

module _ (p : PolicyView) (l : LineView) (runs : Runs) (seats : List Seat) where
  pub blocks_none : (n : ℕ) → n ≡ 0 → AreBlocksBelow p l runs seats n []
  blocks_none n e = record {
    each = λ i lt. absurd (omega arith);
    walks = λ i lt. absurd (omega arith);
    order = λ i lt. absurd (omega arith);
    below = λ i lt. absurd (omega arith);
    apart = λ i j before lt. absurd (omega arith);
    all = λ k lt. absurd (omega arith);
  }

  module _ (n : ℕ) (bs : List Block) (h : AreBlocksBelow p l runs seats n bs) where
    pub blocks_over : (m : ℕ) → n ≤ m → AreIdle seats n m → AreBlocksBelow p l runs seats m bs
    blocks_over m le idle = record {
      each = h.each;
      walks = h.walks;
      order = h.order;
      below = λ i lt. omega (arith, h.below i lt);
      apart = h.apart;
      all = λ k lt real. elim (cases_lt k n) [
        | inl low ↦ h.all k low real
        | inr ge ↦ absurd (omega (arith, idle k ge lt))
      ];
    }

    -- the next grant begins a new block
    module _ (b : Block) (begins : b.walk.next ≡ n) (ends : b.end ≡ n + 1) (here : b.place ≡ (seat_at seats n).place) (own : b.number ≡ n) (real : b.place < past_all) (within : IsWithin p l runs b.walk) where
      new_one : IsBlock seats b
      new_one = rw (begins, ends, own) (record {
        bound = omega arith;
        at = λ lt. (omega arith, omega arith, sym here);
        least = λ k low high. let e : k ≡ n = omega arith in subst (λ (i : ℕ). ComesFirst b.place n (seat_at seats i).place i) (sym e) (record { least = omega arith; first = λ le lt. omega arith });
      })

      earlier_at : (i : ℕ) → i < length bs → block_at (bs ++ b ∷ []) i ≡ block_at bs i
      earlier_at i lt = get_or_append_left bs (b ∷ []) no_block i lt

      last_at : (i : ℕ) → i ≡ length bs → block_at (bs ++ b ∷ []) i ≡ b
      last_at i e = get_or_push bs b no_block i (sym e)

      push_each : (P : Block → Type 0) → ((i : ℕ) → i < length bs → P (block_at bs i)) → P b → (i : ℕ) → i < length (bs ++ b ∷ []) → P (block_at (bs ++ b ∷ []) i)
      push_each P old new i lt = elim (cases_lt i (length bs)) [
        | inl low ↦ subst P (sym (earlier_at i low)) (old i low)
        | inr ge ↦ subst P (sym (last_at i (omega (arith, length_push bs b)))) new
      ]

      pub blocks_push : AreBlocksBelow p l runs seats (n + 1) (bs ++ b ∷ [])
      blocks_push = record {
        each = push_each (λ x. IsBlock seats x) h.each new_one;
        walks = push_each (λ x. IsWithin p l runs x.walk) h.walks within;
        order = push_each (λ x. x.walk.next ≤ x.end) h.order (omega arith);
        below = push_each (λ x. x.end ≤ n + 1) (λ i lt. omega (arith, h.below i lt)) (omega arith);
        apart = λ i j before lt. elim (cases_lt j (length bs)) [
          | inl low ↦ rw (earlier_at i (omega arith), earlier_at j low) (h.apart i j before low)
          | inr ge ↦
              let few : i < length bs = omega (arith, length_push bs b) in
              rw (earlier_at i few, last_at j (omega (arith, length_push bs b))) (omega (arith, h.below i few))
        ];
        all = λ k lt stands. elim (cases_lt k n) [
          | inl low ↦
              let of = h.all k low stands in
              (of.0, omega (arith, of.1, length_push bs b), subst (λ (x : Block). IsOfBlock x k) (sym (earlier_at of.0 of.1)) of.2)
          | inr ge ↦ (length bs, omega (arith, length_push bs b), subst (λ (x : Block). IsOfBlock x k) (sym (last_at (length bs) refl)) (omega arith, omega arith))
        ];
      }

    -- the next grant joins the last block
    module _ (last : ℕ) (is : last + 1 ≡ length bs) (place : ℕ) (here : place ≡ (seat_at seats n).place) (real : place < past_all) where
      -- no seat between the last block and this grant is at an entry
      gap : AreIdle seats (block_at bs last).end n
      gap k low high = elim (cases_lt (seat_at seats k).place past_all) [
        | inl lt ↦
            let of = h.all k high lt in
            elim (cases_lt of.0 last) [
              | inl earlier ↦ absurd (omega (arith, h.apart of.0 last earlier (omega arith), h.order last (omega arith), of.2.1))
              | inr ge ↦
                  let e : of.0 ≡ last = omega (arith, of.1) in
                  absurd (let end = subst (λ (i : ℕ). k < (block_at bs i).end) e of.2.1 in omega arith)
            ]
        | inr ge ↦ ge
      ]

      to_there : IsLeastIn seats (block_at bs last).walk.next n (block_at bs last).place (block_at bs last).number
      to_there = least_over seats (block_at bs last).walk.next (block_at bs last).end (block_at bs last).place (block_at bs last).number (h.each last (omega arith)) n (h.below last (omega arith)) gap

      start_low : (block_at bs last).walk.next ≤ n
      start_low = omega (arith, h.order last (omega arith), h.below last (omega arith))

      joined_one : IsBlock seats (joined (block_at bs last) n (n + 1) place)
      joined_one = elim (cases_lt place (block_at bs last).place) [
        | inl lt ↦
            let a : min place (block_at bs last).place ≡ place = omega arith in
            let t : nat_lt place (block_at bs last).place ≡ true = lt-ltb place (block_at bs last).place lt in
            rw (a, t) (least_new seats (block_at bs last).walk.next n (block_at bs last).place (block_at bs last).number to_there place start_low here (omega arith) lt)
        | inr ge ↦
            let a : min place (block_at bs last).place ≡ (block_at bs last).place = omega arith in
            let t : nat_lt place (block_at bs last).place ≡ false = le-ltb place (block_at bs last).place ge in
            rw (a, t) (least_old seats (block_at bs last).walk.next n (block_at bs last).place (block_at bs last).number to_there place here ge)
      ]

      abbrev next_bs : List Block
      next_bs = set bs last (joined (block_at bs last) n (n + 1) place)

      now_at : block_at next_bs last ≡ joined (block_at bs last) n (n + 1) place
      now_at = get_or-set_same bs last (joined (block_at bs last) n (n + 1) place) no_block (omega arith)

      before_at : (i : ℕ) → i ≢ last → block_at next_bs i ≡ block_at bs i
      before_at i ne = get_or-set_other bs last i (joined (block_at bs last) n (n + 1) place) no_block ne

      join_each : (P : Block → Type 0) → ((i : ℕ) → i < length bs → i ≢ last → P (block_at bs i)) → P (joined (block_at bs last) n (n + 1) place) → (i : ℕ) → i < length next_bs → P (block_at next_bs i)
      join_each P old new i lt = elim (cases_eq i last) [
        | inl e ↦ subst (λ (j : ℕ). P (block_at next_bs j)) (sym e) (subst P (sym now_at) new)
        | inr ne ↦ subst P (sym (before_at i ne)) (old i (omega (arith, length-set bs last (joined (block_at bs last) n (n + 1) place))) ne)
      ]

      pub blocks_join : AreBlocksBelow p l runs seats (n + 1) (set bs last (joined (block_at bs last) n (n + 1) place))
      blocks_join = record {
        each = join_each (λ x. IsBlock seats x) (λ i lt ne. h.each i lt) joined_one;
        walks = join_each (λ x. IsWithin p l runs x.walk) (λ i lt ne. h.walks i lt) (h.walks last (omega arith));
        order = join_each (λ x. x.walk.next ≤ x.end) (λ i lt ne. h.order i lt) (omega (arith, start_low));
        below = join_each (λ x. x.end ≤ n + 1) (λ i lt ne. omega (arith, h.below i lt)) (omega arith);
        apart = λ i j before lt.
            let few : j < length bs = omega (arith, length-set bs last (joined (block_at bs last) n (n + 1) place)) in
            rw (before_at i (λ e. omega arith)) (elim (cases_eq j last) [
              | inl e ↦ subst (λ (m : ℕ). (block_at bs i).end ≤ (block_at next_bs m).walk.next) (sym e) (rw now_at (h.apart i last (omega arith) (omega arith)))
              | inr ne ↦ rw (before_at j ne) (h.apart i j before few)
            ]);
        all = λ k lt stands.
            let len = length-set bs last (joined (block_at bs last) n (n + 1) place) in
            elim (cases_lt k n) [
              | inl low ↦
                  let of = h.all k low stands in
                  elim (cases_eq of.0 last) [
                    | inl e ↦ (last, omega (arith, len), subst (λ (x : Block). IsOfBlock x k) (sym now_at) (subst (λ (i : ℕ). (block_at bs i).walk.next ≤ k) e of.2.0, omega arith))
                    | inr ne ↦ (of.0, omega (arith, of.1, len), subst (λ (x : Block). IsOfBlock x k) (sym (before_at of.0 ne)) of.2)
                  ]
              | inr ge ↦ (last, omega (arith, len), subst (λ (x : Block). IsOfBlock x k) (sym now_at) (omega (arith, start_low), omega arith))
            ];
      }

-- a walk may be set back to the grant that it came to
pub back_within : (p : PolicyView) (l : LineView) (runs : Runs) (old w : Walk) (here : ℕ) → IsNextBound p l old w here → IsWithin p l runs w → IsWithin p l runs (back_at w here)
back_within p l runs old w here step within = record {
  order = omega (arith, within.order, step.0.passed);
  bound = λ k low high. elim (cases_lt here k) [
    | inl lt ↦ within.bound k (omega (arith, step.0.passed)) high
    | inr ge ↦ let e : k ≡ here = omega arith in subst (λ (i : ℕ). IsBoundOn p l i) (sym e) step.1
  ];
  later = within.later;
}

-- ---- seats that are at a place move on

module _ (p : PolicyView) (l : LineView) (rs : List (List ℕ)) (place end : ℕ) where
  pub advances_none : (seats : List Seat) (m : ℕ) → Advances p l place end seats seats m m
  advances_none seats m = record { gain = 0; costs = Costs-none seats m; moved = λ k c lt at. inl at }

  pub advances_then : (a b c : List Seat) (m m' m'' : ℕ) → Advances p l place end a b m m' → Advances p l place end b c m' m'' → Advances p l place end a c m m''
  advances_then a b c m m' m'' f g = record {
    gain = f.gain + g.gain;
    costs = Costs-then a b c 0 f.gain 0 g.gain m m' m'' f.costs g.costs;
    moved = λ k cursor lt at. elim (f.moved k cursor lt at) [
      | inl still ↦ elim (g.moved k cursor lt still) [
        | inl there ↦ inl there
        | inr some ↦ inr (omega arith)
      ]
      | inr some ↦ inr (omega arith)
    ];
  }

  module _ (seats : List Seat) (h : AreSeatedAbout p l rs place end seats) where
    -- if a seat at the place moves on, the seats are still about the place
    module _ (k : ℕ) (within : k < length seats) (low : k < end) (at : (seat_at seats k).place ≡ place) (real : place < past_all) (r : List ℕ) (is : r ≡ reach_at rs k) (s : Seat) (seated : IsSeated r ((seat_at seats k).place + 1) s) where
      pub move_about : AreSeatedAbout p l rs place end (set seats k s)
      move_about = record {
        count = length-set seats k s ∙ h.count;
        each = set_each seats k s within
            (λ j x. (IsCursorAt p l j × (IsSeated (reach_at rs j) place x ⊎ ((j < end) × IsSeated (reach_at rs j) (place + 1) x))) ⊎ ((IsCursorAt p l j → ⊥) × (x ≡ empty_seat)))
            (λ j lt ne. h.each j lt)
            (inl (
              elim (h.each k within) [
                | inl c ↦ c.0
                | inr e ↦ let empty : (seat_at seats k).place ≡ past_all = rw e.1 refl in absurd (omega arith)
              ],
              inr (low, rw (is, at) at seated),
            ));
      }

      pub move_advances : (m m' : ℕ) → SeatCosts 0 1 (seat_at seats k) s m m' → Advances p l place end seats (set seats k s) m m'
      move_advances m m' costs = record {
        gain = 1;
        costs = Costs-set seats k s within seats 0 0 0 1 m m m' (Costs-none seats m) costs;
        moved = λ j c lt there. inr (omega arith);
      }

    -- a seat at the place is seated there, so it can move on
    pub about_seated : (k : ℕ) → k < length seats → (seat_at seats k).place ≡ place → place < past_all → IsSeated (reach_at rs k) (seat_at seats k).place (seat_at seats k)
    about_seated k within at real = elim (h.each k within) [
      | inl c ↦ elim c.1 [
        | inl here ↦ rw at here
        | inr past ↦ absurd (let ahead = past.1.ahead in omega arith)
      ]
      | inr e ↦ let empty : (seat_at seats k).place ≡ past_all = rw e.1 refl in absurd (omega arith)
    ]

    about_ahead : (k : ℕ) → k < length seats → place < past_all → place ≤ (seat_at seats k).place
    about_ahead k within real = elim (h.each k within) [
      | inl c ↦ elim c.1 [
        | inl here ↦ here.ahead
        | inr past ↦ let ahead = past.1.ahead in omega arith
      ]
      | inr e ↦ let empty : (seat_at seats k).place ≡ past_all = rw e.1 refl in omega arith
    ]

    -- if the least seat of a block isn't one to move on, no seat of the block is
    pub block_stays : (b : Block) → IsBlock seats b → b.end ≤ length seats → place < past_all → ((b.place ≡ place) × (b.number < end) → ⊥) → (k : ℕ) → IsOfBlock b k → k < end → (seat_at seats k).place ≢ place
    block_stays b own few real other k of lt at =
        let low = own.least k of.0 of.1 in
        let stands = own.at (omega (arith, low.least)) in
        let ahead = about_ahead b.number (omega (arith, stands.1)) real in
        let same : b.place ≡ place = omega (arith, low.least, stands.2) in
        other (same, omega (arith, low.first (omega arith) (omega arith)))

    -- passed seats that aren't at the place stay passed, when the walk skips unbound grants
    passed_on : (start next here : ℕ) → ((k : ℕ) → start ≤ k → k < next → k < end → (seat_at seats k).place ≢ place) → place < past_all → here ≤ length seats → ((k : ℕ) → next ≤ k → k < here → IsBoundOn p l k → ⊥) → (k : ℕ) → start ≤ k → k < here → k < end → (seat_at seats k).place ≢ place
    passed_on start next here passed real few none k low high lt at = elim (cases_lt k next) [
      | inl early ↦ passed k low early lt at
      | inr ge ↦ let idle = unbound_idle p l seats next here (others_about p l rs place end seats h) few none k ge high in absurd (omega arith)
    ]

    pub passed_end : (b : Block) (next : ℕ) → ((k : ℕ) → b.walk.next ≤ k → k < next → k < end → (seat_at seats k).place ≢ place) → place < past_all → b.end ≤ length seats → ((k : ℕ) → next ≤ k → k < b.end → IsBoundOn p l k → ⊥) → (k : ℕ) → IsOfBlock b k → k < end → (seat_at seats k).place ≢ place
    passed_end b next passed real few none k of lt = passed_on b.walk.next next b.end passed real few none k of.0 of.1 lt

    module _ (start next here : ℕ) (passed : (k : ℕ) → start ≤ k → k < next → k < end → (seat_at seats k).place ≢ place) (real : place < past_all) (few : here < length seats) (none : (k : ℕ) → next ≤ k → k < here → IsBoundOn p l k → ⊥) where
      pub passed_stay : ((here < end) × ((seat_at seats here).place ≡ place) → ⊥) → (k : ℕ) → start ≤ k → k < here + 1 → k < end → (seat_at seats k).place ≢ place
      passed_stay other k low high lt at = elim (cases_lt k here) [
        | inl early ↦ passed_on start next here passed real (omega arith) none k low early lt at
        | inr ge ↦
            let e : k ≡ here = omega arith in
            other (omega arith, subst (λ (i : ℕ). (seat_at seats i).place ≡ place) e at)
      ]

      pub passed_move : (s : Seat) → place < s.place → (k : ℕ) → start ≤ k → k < here + 1 → k < end → (seat_at (set seats here s) k).place ≢ place
      passed_move s on k low high lt at = elim (cases_lt k here) [
        | inl early ↦ passed_on start next here passed real (omega arith) none k low early lt (ap (λ (x : Seat). x.place) (sym (get_or-set_other seats here k s no_seat (λ e. omega arith))) ∙ at)
        | inr ge ↦
            let e : k ≡ here = omega arith in
            let there : (seat_at (set seats here s) k).place ≡ s.place = subst (λ (i : ℕ). (seat_at (set seats here s) i).place ≡ s.place) (sym e) (ap (λ (x : Seat). x.place) (get_or-set_same seats here s no_seat few)) in
            absurd (omega arith)
      ]

    -- if no seat is left to move on, the seats are past the place
    module _ (none : (k : ℕ) → k < length seats → k < end → (seat_at seats k).place ≢ place) where
      pub about_ended : AreSeated p l rs place end seats
      about_ended = record {
        count = h.count;
        each = λ k within. elim (h.each k within) [
          | inl c ↦ inl (
            c.0,
            elim c.1 [
              | inl here ↦ elim (cases_lt k end) [
                | inl lt ↦ start_past (reach_at rs k) place end k (seat_at seats k) lt (seated_stays (reach_at rs k) place (seat_at seats k) here (none k within lt))
                | inr ge ↦ start_here (reach_at rs k) place end k (seat_at seats k) ge here
              ]
              | inr past ↦ start_past (reach_at rs k) place end k (seat_at seats k) past.0 past.1
            ],
          )
          | inr e ↦ inr e
        ];
      }

      pub about_gain : (old : List Seat) (m m' : ℕ) → Advances p l place end old seats m m' → (k : ℕ) → IsCursorAt p l k → k < end → (seat_at old k).place ≡ place → Costs 0 1 old seats m m'
      about_gain old m m' f k c lt at = elim (f.moved k c lt at) [
        | inl still ↦ absurd (none k (omega (arith, cursor_within p l k c, h.count)) lt still)
        | inr some ↦ record { total = f.costs.total; meter = f.costs.meter; low = omega (arith, f.costs.low); high = f.costs.high }
      ]

  pub advances_costs : (old seats : List Seat) (m m' : ℕ) → Advances p l place end old seats m m' → Costs 0 0 old seats m m'
  advances_costs old seats m m' f = Costs-less 0 f.gain old seats m m' f.costs

  -- if no block has a seat left to move on, no seat is left
  pub all_passed : (runs : Runs) (seats : List Seat) (bs : List Block) → AreBlocks p l runs seats bs → place < past_all → ((i : ℕ) → i < length bs → (k : ℕ) → IsOfBlock (block_at bs i) k → k < end → (seat_at seats k).place ≢ place) → (k : ℕ) → k < length seats → k < end → (seat_at seats k).place ≢ place
  all_passed runs seats bs h real passed k within lt at =
      let of = h.all k within (omega arith) in
      passed of.0 of.1 k of.2 lt at

-- ---- seats that are before a place move up to it

module _ (p : PolicyView) (l : LineView) (rs : List (List ℕ)) (place : ℕ) where
  -- seats for the rows from an earlier place on are before the place, as `AreSeatedBefore` states
  pub before_seated : (from upto : ℕ) (seats : List Seat) → upto ≡ 0 → from ≤ place → AreSeated p l rs from upto seats → AreSeatedBefore p l rs place seats
  before_seated from upto seats none le h = record {
    count = h.count;
    each = λ k within. elim (h.each k within) [
      | inl c ↦ inl (c.0, (start_at from upto k, omega arith, c.1))
      | inr e ↦ inr e
    ];
  }

  module _ (seats : List Seat) (h : AreSeatedBefore p l rs place seats) where
    pub others_before : AreOthersEmpty p l seats
    others_before k lt = elim (h.each k lt) [
      | inl s ↦ inl s.0
      | inr e ↦ inr e.1
    ]

    -- a seat that is before the place belongs to a cursor; if it moves up, the seats are still
    -- before the place
    module _ (k : ℕ) (within : k < length seats) (low : (seat_at seats k).place < place) (top : place ≤ past_all) where
      before_cursor : IsCursorAt p l k × IsSeatedBefore (reach_at rs k) place (seat_at seats k)
      before_cursor = elim (h.each k within) [
        | inl c ↦ c
        | inr e ↦ let empty : (seat_at seats k).place ≡ past_all = rw e.1 refl in absurd (omega arith)
      ]

      pub before_own : IsSeatedBefore (reach_at rs k) place (seat_at seats k)
      before_own = before_cursor.1

      pub move_before : (r : List ℕ) → r ≡ reach_at rs k → (s : Seat) → IsSeated r place s → AreSeatedBefore p l rs place (set seats k s)
      move_before r is s seated = record {
        count = length-set seats k s ∙ h.count;
        each = set_each seats k s within
            (λ j x. (IsCursorAt p l j × IsSeatedBefore (reach_at rs j) place x) ⊎ ((IsCursorAt p l j → ⊥) × (x ≡ empty_seat)))
            (λ j lt ne. h.each j lt)
            (inl (before_cursor.0, (place, omega arith, rw is at seated)));
      }

    -- passed seats that aren't before the place stay passed, when the walk skips unbound grants
    before_on : (start next here : ℕ) → ((k : ℕ) → start ≤ k → k < next → place ≤ (seat_at seats k).place) → place ≤ past_all → here ≤ length seats → ((k : ℕ) → next ≤ k → k < here → IsBoundOn p l k → ⊥) → (k : ℕ) → start ≤ k → k < here → place ≤ (seat_at seats k).place
    before_on start next here passed top few none k low high = elim (cases_lt k next) [
      | inl early ↦ passed k low early
      | inr ge ↦ omega (arith, unbound_idle p l seats next here others_before few none k ge high)
    ]

    pub before_end : (b : Block) (next : ℕ) → ((k : ℕ) → b.walk.next ≤ k → k < next → place ≤ (seat_at seats k).place) → place ≤ past_all → b.end ≤ length seats → ((k : ℕ) → next ≤ k → k < b.end → IsBoundOn p l k → ⊥) → (k : ℕ) → IsOfBlock b k → place ≤ (seat_at seats k).place
    before_end b next passed top few none k of = before_on b.walk.next next b.end passed top few none k of.0 of.1

    module _ (start next here : ℕ) (passed : (k : ℕ) → start ≤ k → k < next → place ≤ (seat_at seats k).place) (top : place ≤ past_all) (few : here < length seats) (none : (k : ℕ) → next ≤ k → k < here → IsBoundOn p l k → ⊥) where
      pub before_stay : place ≤ (seat_at seats here).place → (k : ℕ) → start ≤ k → k < here + 1 → place ≤ (seat_at seats k).place
      before_stay ahead k low high = elim (cases_lt k here) [
        | inl early ↦ before_on start next here passed top (omega arith) none k low early
        | inr ge ↦ let e : k ≡ here = omega arith in subst (λ (i : ℕ). place ≤ (seat_at seats i).place) (sym e) ahead
      ]

      pub before_move : (s : Seat) → place ≤ s.place → (k : ℕ) → start ≤ k → k < here + 1 → place ≤ (seat_at (set seats here s) k).place
      before_move s ahead k low high = elim (cases_lt k here) [
        | inl early ↦ rw (get_or-set_other seats here k s no_seat (λ e. omega arith)) (before_on start next here passed top (omega arith) none k low early)
        | inr ge ↦
            let e : k ≡ here = omega arith in
            subst (λ (i : ℕ). place ≤ (seat_at (set seats here s) i).place) (sym e) (rw (get_or-set_same seats here s no_seat few) ahead)
      ]

    -- if the least seat of a block isn't before the place, no seat of the block is
    pub block_ahead : (b : Block) → IsBlock seats b → (b.place < place → ⊥) → (k : ℕ) → IsOfBlock b k → place ≤ (seat_at seats k).place
    block_ahead b own ahead k of = elim (cases_lt b.place place) [
      | inl lt ↦ absurd (ahead lt)
      | inr ge ↦ omega (arith, (own.least k of.0 of.1).least)
    ]

    -- if no block has a seat before the place, the seats are at the place
    pub before_ended : (runs : Runs) (bs : List Block) → AreBlocks p l runs seats bs → place ≤ past_all → ((i : ℕ) → i < length bs → (k : ℕ) → IsOfBlock (block_at bs i) k → place ≤ (seat_at seats k).place) → AreSeated p l rs place 0 seats
    before_ended runs bs are top passed = record {
      count = h.count;
      each = λ k within. elim (h.each k within) [
        | inl c ↦
            let ahead : place ≤ (seat_at seats k).place = elim (cases_lt (seat_at seats k).place past_all) [
              | inl lt ↦ let of = are.all k within lt in passed of.0 of.1 k of.2
              | inr ge ↦ omega arith
            ] in
            inl (c.0, start_here (reach_at rs k) place 0 k (seat_at seats k) (omega arith) (seated_before (reach_at rs k) place (seat_at seats k) c.1 ahead))
        | inr e ↦ inr e
      ];
    }

-- ---- the seats of one block have moved

module _ (p : PolicyView) (l : LineView) (runs : Runs) (seats more : List Seat) (bs : List Block) (h : AreBlocks p l runs seats bs) (at : ℕ) (lt : at < length bs) (b : Block) (len : length more ≡ length seats) (same_walk : b.walk ≡ (block_at bs at).walk) (same_end : b.end ≡ (block_at bs at).end) (others : (k : ℕ) → (k < (block_at bs at).walk.next) ⊎ ((block_at bs at).end ≤ k) → seat_at more k ≡ seat_at seats k) where
  put_now : block_at (set bs at b) at ≡ b
  put_now = get_or-set_same bs at b no_block lt

  pub put_other : (i : ℕ) → i ≢ at → block_at (set bs at b) i ≡ block_at bs i
  put_other i ne = get_or-set_other bs at i b no_block ne

  put_each : (P : ℕ → Block → Type 0) → ((i : ℕ) → i < length bs → i ≢ at → P i (block_at bs i)) → P at b → (i : ℕ) → i < length (set bs at b) → P i (block_at (set bs at b) i)
  put_each P old new i few = elim (cases_eq i at) [
    | inl e ↦ subst (λ (j : ℕ). P j (block_at (set bs at b) j)) (sym e) (subst (P at) (sym put_now) new)
    | inr ne ↦ subst (P i) (sym (put_other i ne)) (old i (omega (arith, length-set bs at b)) ne)
  ]

  same_start : b.walk.next ≡ (block_at bs at).walk.next
  same_start = ap (λ (w : Walk). w.next) same_walk

  start_is : (i : ℕ) → i < length bs → (block_at (set bs at b) i).walk.next ≡ (block_at bs i).walk.next
  start_is i few = elim (cases_eq i at) [
    | inl e ↦ subst (λ (j : ℕ). (block_at (set bs at b) j).walk.next ≡ (block_at bs j).walk.next) (sym e) (rw put_now same_start)
    | inr ne ↦ rw (put_other i ne) refl
  ]

  end_is : (i : ℕ) → i < length bs → (block_at (set bs at b) i).end ≡ (block_at bs i).end
  end_is i few = elim (cases_eq i at) [
    | inl e ↦ subst (λ (j : ℕ). (block_at (set bs at b) j).end ≡ (block_at bs j).end) (sym e) (rw put_now same_end)
    | inr ne ↦ rw (put_other i ne) refl
  ]

  -- the seats of another block stay
  pub other_seats : (i : ℕ) → i < length bs → i ≢ at → (k : ℕ) → IsOfBlock (block_at bs i) k → seat_at more k ≡ seat_at seats k
  other_seats i few ne k of = elim (cases_lt i at) [
    | inl low ↦ others k (inl (omega (arith, of.1, h.apart i at low lt)))
    | inr ge ↦ others k (inr (omega (arith, of.0, h.apart at i (omega arith) few)))
  ]

  module _ (own : IsBlock more b) where
    kept_all : (k : ℕ) → k < length seats → (k < (block_at bs at).walk.next) ⊎ ((block_at bs at).end ≤ k) → (seat_at more k).place < past_all → (i : ℕ) × (i < length (set bs at b)) × IsOfBlock (block_at (set bs at b) i) k
    kept_all k few out stands =
        let of = h.all k few (subst (λ (s : Seat). s.place < past_all) (others k out) stands) in
        (of.0, omega (arith, of.1, length-set bs at b), (omega (arith, of.2.0, start_is of.0 of.1), omega (arith, of.2.1, end_is of.0 of.1)))

    pub put_blocks : AreBlocks p l runs more (set bs at b)
    put_blocks = record {
      each = put_each (λ i x. IsBlock more x) (λ i few ne. least_same seats more (block_at bs i).walk.next (block_at bs i).end (block_at bs i).place (block_at bs i).number (λ k low high. other_seats i few ne k (low, high)) (h.each i few)) own;
      walks = put_each (λ i x. IsWithin p l runs x.walk) (λ i few ne. h.walks i few) (rw same_walk (h.walks at lt));
      order = put_each (λ i x. x.walk.next ≤ x.end) (λ i few ne. h.order i few) (omega (arith, h.order at lt, same_start));
      below = put_each (λ i x. x.end ≤ length more) (λ i few ne. omega (arith, h.below i few)) (omega (arith, h.below at lt));
      apart = λ i j before few.
          let less : j < length bs = omega (arith, length-set bs at b) in
          omega (arith, h.apart i j before less, end_is i (omega arith), start_is j less);
      all = λ k few stands.
          let count = length-set bs at b in
          elim (cases_lt k (block_at bs at).walk.next) [
            | inl low ↦ kept_all k (omega arith) (inl low) stands
            | inr ge ↦ elim (cases_lt k (block_at bs at).end) [
              | inl high ↦ (at, omega (arith, count), (omega (arith, start_is at lt), omega (arith, end_is at lt)))
              | inr past ↦ kept_all k (omega arith) (inr past) stands
            ]
          ];
    }

  pub put_of : (i : ℕ) → i < length bs → (k : ℕ) → IsOfBlock (block_at (set bs at b) i) k → IsOfBlock (block_at bs i) k
  put_of i few k of = (omega (arith, of.0, start_is i few), omega (arith, of.1, end_is i few))

  -- if the seats of the blocks before this one have a property, and so have the seats of this
  -- block, the seats of the blocks before the next one have it
  pub put_next : (Q : ℕ → Seat → Type 0) → ((i : ℕ) → i < at → (k : ℕ) → IsOfBlock (block_at bs i) k → Q k (seat_at seats k)) → ((k : ℕ) → IsOfBlock (block_at bs at) k → Q k (seat_at more k)) → (i : ℕ) → i < at + 1 → (k : ℕ) → IsOfBlock (block_at (set bs at b) i) k → Q k (seat_at more k)
  put_next Q before own i few k of = elim (cases_lt i at) [
    | inl low ↦
        let ne : i ≢ at = λ e. omega arith in
        let there = subst (λ (x : Block). IsOfBlock x k) (put_other i ne) of in
        subst (Q k) (sym (other_seats i (omega arith) ne k there)) (before i low k there)
    | inr ge ↦
        let e : i ≡ at = omega arith in
        own k (subst (λ (j : ℕ). IsOfBlock (block_at bs j) k) e (put_of i (omega arith) k of))
  ]

-- the blocks of a line at its place
pub blocks_here : (p : PolicyView) (u : UniverseView) (at : Place) (l : LineView) (ls : List LineView) (kept : Kept) (seats : List Seat) → lines_from u at ≡ l ∷ ls → AreBlocks p l kept.runs seats kept.blocks.kept.items → AreBlocksAt p u at kept seats
blocks_here p u at l ls kept seats here are m ms other = subst (λ (x : LineView). AreBlocks p x kept.runs seats kept.blocks.kept.items) (same_head l m ls ms (sym here ∙ other)) are
