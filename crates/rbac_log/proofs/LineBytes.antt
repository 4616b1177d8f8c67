-- What the bytes of a line tell, be they UTF-8 or not.
use Rattle.std.proofs.Common.{◌≡◌, ◌≢◌, ◌≤◌, ◌⊎◌, Bool, true, false, List, ℕ, Ok, Err, refl, cond, ap, ◌∙◌, arith, inl, inr, length, subst, sym}
use Rattle.std.specs.Prelude.{nat_lt}
use Rattle.std.proofs.lemmas.Bool.Decides.{nat_tests}
use Rattle.std.specs.Prelude.{IsUtf8}
use Rattle.std.specs.Str.{is_utf8}
use Rattle.std.proofs.lemmas.Str.{IsUtf8-from_is_utf8, is_utf8-from_IsUtf8}
use Rattle.rbac_log.specs.Line.{requests_in}
use Rattle.rbac_log.specs.Logs.{Told, line_requests, most_bytes, told_at}
use Rattle.rbac_log.specs.Reading.{IsOfLine}
use Rattle.rbac_log.specs.declared.log_fault.LogFault.{LogFault}
use Rattle.rbac_log.specs.declared.log_fault.LogFault.TheVariants.{Line, NoMemory}
use Rattle.rbac_log.specs.declared.fault.LineFault.{LineFault}
use Rattle.rbac_log.specs.declared.fault.LineFault.TheVariants as line
use Rattle.rbac_log.specs.declared.fault.LineFault.TheVariants.{NotJson}
use Rattle.rbac_log.specs.Outcome.{Outcome}
use Rattle.rbac_log.specs.declared.logged.LoggedRequest.{LoggedRequest}

abbrev told_if : Bool → List ℕ → Outcome (List LoggedRequest)
told_if b bytes = cond b (requests_in bytes) (Err NotJson)

pub of_text : (bytes : List ℕ) → IsUtf8 bytes → line_requests bytes ≡ requests_in bytes
of_text bytes is = ap (λ (b : Bool). told_if b bytes) (is_utf8-from_IsUtf8 bytes is)

false_unless : (b : Bool) → (b ≡ true → ⊥) → b ≡ false
false_unless true h = absurd (h refl)
false_unless false h = refl

pub not_text : (bytes : List ℕ) → (IsUtf8 bytes → ⊥) → line_requests bytes ≡ Err NotJson
not_text bytes none = ap (λ (b : Bool). told_if b bytes) (false_unless (is_utf8 bytes) (λ e. none (IsUtf8-from_is_utf8 bytes e)))

abbrev failing : LogFault → Told
failing e = Err e

not_longer : (bytes : List ℕ) → length bytes ≤ most_bytes → nat_lt most_bytes (length bytes) ≡ false
not_longer bytes h = grind (arith, nat_tests)

pub told_ok : (n : ℕ) (bytes : List ℕ) (rs : List LoggedRequest) → length bytes ≤ most_bytes → line_requests bytes ≡ Ok rs → told_at n bytes ≡ Ok rs
unfolding told_at
told_ok n bytes rs h e = rw (not_longer bytes h, e) refl

told_err : (n : ℕ) (bytes : List ℕ) (fault : LineFault) → length bytes ≤ most_bytes → line_requests bytes ≡ Err fault → told_at n bytes ≡ Err (Line n fault)
unfolding told_at
told_err n bytes fault h e = rw (not_longer bytes h, e) refl

is_memory : (fault : LineFault) → (fault ≡ line.NoMemory) ⊎ (fault ≢ line.NoMemory)
is_memory line.NotJson = inr (λ e. cc)
is_memory line.NotAnEvent = inr (λ e. cc)
is_memory line.BadStage = inr (λ e. cc)
is_memory line.BadAnnotations = inr (λ e. cc)
is_memory line.BadVerb = inr (λ e. cc)
is_memory line.BadUser = inr (λ e. cc)
is_memory line.BadImpersonatedUser = inr (λ e. cc)
is_memory line.BadObjectRef = inr (λ e. cc)
is_memory line.BadUri = inr (λ e. cc)
is_memory line.NoMemory = inl refl

-- the fault of a line that ends
pub ends_with : (n : ℕ) (bytes : List ℕ) (fault : LineFault) (found : LogFault) → length bytes ≤ most_bytes → (fault ≢ line.NoMemory → line_requests bytes ≡ Err fault)
    → (fault ≡ line.NoMemory → found ≡ NoMemory) → (fault ≢ line.NoMemory → found ≡ Line n fault)
    → (found ≡ NoMemory) ⊎ (IsOfLine found × (told_at n bytes ≡ Err found))
ends_with n bytes fault found short told memory other = elim (is_memory fault) [
  | inl is ↦ inl (memory is)
  | inr isnt ↦ inr (
    subst IsOfLine (sym (other isnt)) tt,
    told_err n bytes fault short (told isnt) ∙ ap failing (sym (other isnt)),
  )
]
