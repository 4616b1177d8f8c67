use Rattle.std.proofs.Common.{◌≡◌, ℕ, ◌<◌, ◌≤◌, ◌/◌, ◌↔◌, length, get_or}
use Rattle.rbac_model.specs.Graphs.{HasPlace}
use Rattle.rbac_model.proofs.place_set.PlaceSet.keep.Given as goal

abbrev pub invariant-loop-at : goal.invariant-loop-at
invariant-loop-at l = record {
  len : length l.self-inside.words.items ≡ length l.initial.self-inside.words.items;
  done : (k : ℕ) → k / 64 < l.at → HasPlace l.self-inside.words.items k ↔ (HasPlace l.initial.self-inside.words.items k × HasPlace l.other k);
  kept : (j : ℕ) → l.at ≤ j → get_or l.self-inside.words.items j 0 ≡ get_or l.initial.self-inside.words.items j 0;
}
