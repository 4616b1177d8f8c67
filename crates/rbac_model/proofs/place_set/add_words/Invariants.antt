use Rattle.std.proofs.Common.{◌≡◌, ℕ, ◌<◌, ◌≤◌, length, get_or, bit_or}
use Rattle.rbac_model.proofs.place_set.add_words.Given as goal

abbrev pub invariant-loop-at : goal.invariant-loop-at
invariant-loop-at l = record {
  len : length l.words ≡ length l.initial.words;
  joined : (j : ℕ) → j < l.at → get_or l.words j 0 ≡ bit_or (get_or l.initial.words j 0) (get_or l.more j 0);
  kept : (j : ℕ) → l.at ≤ j → get_or l.words j 0 ≡ get_or l.initial.words j 0;
}
