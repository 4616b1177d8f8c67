-- Nodes by the words by which they can be had.
use Rattle.std.proofs.Common.{◌≡◌, ◌<◌, ◌↔◌, ◌∙◌, [], ℕ, List, Some, Contains, get_or, length, refl, slice_get, subst, sym}
use Rattle.std.proofs.lemmas.Option.{same_Some, slice_get_read, slice_get_within}
use Rattle.rbac_terms.specs.Text.{Text}
use Rattle.rbac_ways.specs.Joining.{AreWordsOf, HasUnder, IsListedAt, IsNumberOf}

pub by_words : (had_by : List (List Text)) (words : List Text) (sets : List (List ℕ)) → AreWordsOf had_by words
    → ((number j : ℕ) → number < length words → IsListedAt sets number j ↔ IsNumberOf words (get_or had_by j []) number)
    → (w : Text) (j : ℕ) → HasUnder (record { words = words; sets = sets }) w j ↔ Contains (get_or had_by j []) w
by_words had_by words sets are each w j = (
  λ h.
      (let other = (each h.0 j (slice_get_within words h.0 w h.1)).0 h.2 in
      subst (λ (t : Text). Contains (get_or had_by j []) t) (same_Some other.0 w (sym other.2 ∙ h.1)) other.1),
  λ c.
      (let place = (are.same w).1 (j, c) in
      let at : slice_get words place.0 ≡ Some w = slice_get_read words (length words) place.0 w refl place.1 (sym place.2) in
      (place.0, at, (each place.0 j place.1).1 (w, c, at))),
)
