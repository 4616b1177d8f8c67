-- Blocks of a line's grants, each with the least of its seats.
use Rattle.std.specs.Prelude.{◌≡◌, ℕ, ◌<◌, ◌≤◌, ◌⊎◌, List, ◌∷◌, length, min, nat_lt, if◌then◌else◌}
use Rattle.std.specs.List.{slice_index_or}
use Rattle.rbac_model.specs.Policies.{PolicyView}
use Rattle.rbac_model.specs.Universes.{UniverseView}
use Rattle.rbac_matrix.specs.Lines.{LineView, lines_from}
use Rattle.rbac_matrix.specs.Cursors.{IsCursorAt, IsWithin}
use Rattle.rbac_matrix.specs.Seats.{ComesFirst, Costs, past_all, seat_at}
use Rattle.rbac_matrix.specs.declared.blocks.Block.{Block}
use Rattle.rbac_matrix.specs.declared.bound_runs.Runs.{Runs}
use Rattle.rbac_matrix.specs.declared.kept.Kept.{Kept}
use Rattle.rbac_matrix.specs.declared.line.Place.{Place}
use Rattle.rbac_matrix.specs.declared.seat.Seat.{Seat}

-- of the seats with numbers from `start` up to `end`, that of `number` is the first at the least
-- place, which is `place`; or none of them is at an entry
pub record IsLeastIn (seats : List Seat) (start end place number : ℕ) : Type 0 where
  pub bound : place ≤ past_all
  pub at : place < past_all → (start ≤ number) × (number < end)
      × ((seat_at seats number).place ≡ place)
  pub least : (k : ℕ) → start ≤ k → k < end → ComesFirst place number (seat_at seats k).place k

-- the block has the least of its grants' seats: its place, and the number of its grant
abbrev pub IsBlock : List Seat → Block → Type 0
IsBlock seats b = IsLeastIn seats b.walk.next b.end b.place b.number

-- the grant with that number belongs to the block
abbrev pub IsOfBlock : Block → ℕ → Type 0
IsOfBlock b k = (b.walk.next ≤ k) × (k < b.end)

-- the block with one more grant after its own, whose seat is at the place; the block then ends at
-- `end`
abbrev pub joined : Block → ℕ → ℕ → ℕ → Block
joined b number end place = record {
  walk = b.walk;
  end = end;
  place = min place b.place;
  number = if nat_lt place b.place then number else b.number;
}

-- the block at that place; past the last block, `no_block`
abbrev pub no_block : Block
no_block = record {
  walk = record { next = 0; end = 0; later = 0; steps = 0 };
  end = 0;
  place = 0;
  number = 0;
}

abbrev pub block_at : List Block → ℕ → Block
block_at bs i = slice_index_or bs i no_block

-- each block has a walk along the line's grants and the least of its grants' seats, and comes after
-- the blocks before it; each grant below `count` whose seat is at an entry belongs to a block
pub record AreBlocksBelow (p : PolicyView) (l : LineView) (runs : Runs) (seats : List Seat)
    (count : ℕ) (bs : List Block) : Type 0 where
  pub each : (i : ℕ) → i < length bs → IsBlock seats (block_at bs i)
  pub walks : (i : ℕ) → i < length bs → IsWithin p l runs (block_at bs i).walk
  pub order : (i : ℕ) → i < length bs → (block_at bs i).walk.next ≤ (block_at bs i).end
  pub below : (i : ℕ) → i < length bs → (block_at bs i).end ≤ count
  pub apart : (i j : ℕ) → i < j → j < length bs
      → (block_at bs i).end ≤ (block_at bs j).walk.next
  pub all : (k : ℕ) → k < count → (seat_at seats k).place < past_all
      → (i : ℕ) × (i < length bs) × IsOfBlock (block_at bs i) k

-- these are the blocks of the line
abbrev pub AreBlocks : PolicyView → LineView → Runs → List Seat → List Block → Type 0
AreBlocks p l runs seats bs = AreBlocksBelow p l runs seats (length seats) bs

-- these are the blocks of the line at the place, if a line is there
abbrev pub AreBlocksAt : PolicyView → UniverseView → Place → Kept → List Seat → Type 0
AreBlocksAt p u at kept seats = (l : LineView) (ls : List LineView) → lines_from u at ≡ l ∷ ls
    → AreBlocks p l kept.runs seats kept.blocks.kept.items

-- the first of these blocks with the least place has this place and number
pub record IsLeastBlock (bs : List Block) (place number : ℕ) : Type 0 where
  pub at : ℕ
  pub within : at < length bs
  pub place_at : (block_at bs at).place ≡ place
  pub number_at : (block_at bs at).number ≡ number
  pub real : place < past_all
  pub least : (i : ℕ) → i < length bs → place ≤ (block_at bs i).place
  pub first : (i : ℕ) → i < length bs → (block_at bs i).place ≤ place → at ≤ i

-- the step from `old` to `new` left `gain` entries behind; if `gain` is 0, each cursor below `end`
-- whose seat was at the place still has it there
pub record Advances (p : PolicyView) (l : LineView) (place end : ℕ) (old new : List Seat)
    (before after : ℕ) : Type 0 where
  pub gain : ℕ
  pub costs : Costs 0 gain old new before after
  pub moved : (k : ℕ) → IsCursorAt p l k → k < end → (seat_at old k).place ≡ place
      → ((seat_at new k).place ≡ place) ⊎ (0 < gain)
