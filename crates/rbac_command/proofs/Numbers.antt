-- What a text reads as.
use Rattle.std.proofs.Common.{◌≡◌, ℕ, refl, Option, Some, None, Result, Ok, Err}
use Rattle.std.specs.Str.Parse.{ParsesUnsigned}
use Rattle.clap.specs.Matches.{ReadsOne}
use Rattle.clap.specs.Words.{Text}
use Rattle.rbac_command.specs.Meaning.{IsNumber}

-- the number that `get_one` gives, where its type reads numbers of 32 bits
pub number_is : {E : Type 0} (gives : Text → Result ℕ E → Type 0) → ((t : Text) (r : Result ℕ E) → gives t r → ParsesUnsigned 32 10 t r)
    → (o : Option Text) (r : Option ℕ) → (o ≡ None → r ≡ None) → ((t : Text) → o ≡ Some t → ReadsOne gives t r) → IsNumber o r
number_is gives parses None r none some = none refl
number_is gives parses (Some t) (Some n) none some = parses t (Ok n) (some t refl)
number_is gives parses (Some t) None none some = let refused = some t refl in parses t (Err refused.0) refused.1
