use Rattle.std.proofs.Common.{◌≡◌, ℕ, length, get_or}
use Rattle.rbac_matrix.proofs.verb_places.VerbPlaces.clear.Given as goal

abbrev pub invariant-loop : goal.invariant-loop
invariant-loop l = record {
  count : length l.self.words.items ≡ l.counter;
  none : (k : ℕ) → get_or l.self.words.items k 0 ≡ 0;
}
