use Rattle.std.proofs.Common.{◌≡◌, ℕ, vec_len, get_or}
use Rattle.rbac_model.proofs.place_set.widen.Given as goal

abbrev pub invariant-loop-at : goal.invariant-loop-at
invariant-loop-at l = record {
  room : vec_len l.words ≡ l._at;
  same : (k : ℕ) → get_or l.words.items k 0 ≡ get_or l.initial.words.items k 0;
}
