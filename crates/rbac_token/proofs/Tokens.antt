-- A token stands for one key, or one mark, at most.
use Rattle.std.proofs.Common.{◌≡◌, ◌⊎◌, ap, ◌∙◌, refl, sym, inl, inr, rules, subst, arith, get_or, Result, Ok, Err, MatchResult, IfOk, IfErr}
use Rattle.std.specs.Prelude.{Option, Some, None}
use Rattle.base64.proofs.EngineFacts.{decode_of-encode_of}
use Rattle.base64.specs.Engines.{url_safe_no_pad}
use Rattle.base64.specs.GeneralPurpose.{IsConsistent, decode_of}
use Rattle.rbac_terms.specs.Text.{Text}
use Rattle.rbac_terms.specs.Keys.{KeyTexts}
use Rattle.rbac_token.specs.Faults.{IsMarkFault, IsRefusal, IsTokenFault, RefusesIf}
use Rattle.rbac_token.specs.Marks.{HasMarkVersion, IsMarkPrintedAs, IsTokenOfMark, printed_mark}
use Rattle.rbac_token.specs.Token.{Encodes, HasKeyVersion, IsKey, IsTokenOf, printed_key}
use Rattle.rbac_token.specs.declared.fault.TokenFault.{TokenFault}
use Rattle.rbac_token.specs.declared.fault.TokenFault.TheVariants.{NotBase64, BadVersion, NotCanonical, NoMemory}
use Rattle.rbac_token.specs.declared.mark.BindingName.{BindingName}
use Rattle.rbac_token.specs.declared.mark.Mark.{Mark}

consistent : IsConsistent url_safe_no_pad
consistent = search rules

-- a token encodes these bytes alone
pub one_reading : (token a b : Text) → Encodes token a → Encodes token b → a ≡ b
one_reading token a b f g =
    let first = ap (decode_of url_safe_no_pad) f.1 ∙ decode_of-encode_of url_safe_no_pad a consistent f.0 in
    let second = ap (decode_of url_safe_no_pad) g.1 ∙ decode_of-encode_of url_safe_no_pad b consistent g.0 in
    cc (first, second)

-- what is refused is the token of nothing that is printed with such a version
refused_has_none : {T : Type 0} (IsVersion : Text → Type 0) (Is : T → Type 0) (printed : T → Text) → ((t : T) → IsVersion (printed t)) → (token : Text) (e : TokenFault)
    → IsRefusal IsVersion ((t : T) → Is t × Encodes token (printed t) → ⊥) token e → (e ≡ NoMemory) ⊎ ((t : T) → Is t × Encodes token (printed t) → ⊥)
refused_has_none IsVersion Is printed has token NotBase64 h = inr (λ t w. h (printed t) w.1)
refused_has_none IsVersion Is printed has token BadVersion h =
    inr (λ t w. h.2 (subst IsVersion (one_reading token (printed t) h.0 w.1 h.1) (has t)))
refused_has_none IsVersion Is printed has token NotCanonical h = inr h.3
refused_has_none IsVersion Is printed has token NoMemory h = inl refl

key_has_version : (k : KeyTexts) → HasKeyVersion (printed_key k)
key_has_version k = inr (_, refl)

mark_has_version : (k : KeyTexts) (b : Option BindingName) → HasMarkVersion (printed_mark k b)
mark_has_version k None = inl (inr (_, refl))
mark_has_version k (Some b) = inr (inr (_, refl))

pub refused_has_no_key : (token : Text) (e : TokenFault) → IsTokenFault token e → (e ≡ NoMemory) ⊎ ((k : KeyTexts) → IsTokenOf token k → ⊥)
refused_has_no_key token e h = refused_has_none HasKeyVersion IsKey printed_key key_has_version token e h

pub refused_has_no_mark : (token : Text) (e : TokenFault) → IsMarkFault token e → (e ≡ NoMemory) ⊎ ((m : Mark) → IsTokenOfMark token m → ⊥)
refused_has_no_mark token e h =
    refused_has_none HasMarkVersion (λ m. IsKey m.key) (λ m. printed_mark m.key m.binding) (λ m. mark_has_version m.key m.binding) token e h

pub no_mark_in : (token : Text) (r : Result Mark TokenFault) → MatchResult r (IsTokenOfMark token) (IsMarkFault token)
    → IfErr r (λ e. (e ≡ NoMemory) ⊎ ((m : Mark) → IsTokenOfMark token m → ⊥))
no_mark_in token (Ok m) h = tt
no_mark_in token (Err e) h = refused_has_no_mark token e h

-- if bytes are no other mark's and not this one's, they are no mark's
pub none_printed : (bytes : Text) (mark : Mark) → ((m : Mark) → IsKey m.key → bytes ≡ printed_mark m.key m.binding → mark ≡ m) → (e : TokenFault)
    → RefusesIf (bytes ≡ printed_mark mark.key mark.binding → ⊥) e → RefusesIf ((m : Mark) → IsMarkPrintedAs bytes m → ⊥) e
none_printed bytes mark one NotBase64 h = absurd h
none_printed bytes mark one BadVersion h = absurd h
none_printed bytes mark one NotCanonical h =
    λ m t. h (t.1 ∙ ap (λ (x : Mark). printed_mark x.key x.binding) (sym (one m t.0 t.1)))
none_printed bytes mark one NoMemory h = tt

-- ---- the mark that is printed in what a token encodes

module _ (token bytes : Text) (f : Encodes token bytes) where
  pub printed_in : (r : Result Mark TokenFault) → HasMarkVersion bytes
      → MatchResult r (IsMarkPrintedAs bytes) (RefusesIf ((m : Mark) → IsMarkPrintedAs bytes m → ⊥)) → MatchResult r (IsTokenOfMark token) (IsMarkFault token)
  printed_in (Ok m) v h = (h.0, subst (Encodes token) h.1 f)
  printed_in (Err NotBase64) v h = absurd h
  printed_in (Err BadVersion) v h = absurd h
  printed_in (Err NotCanonical) v h = (bytes, f, v, λ m t. h m (t.0, one_reading token bytes (printed_mark m.key m.binding) f t.1))
  printed_in (Err NoMemory) v h = tt

  pub one_in : (r : Result Mark TokenFault) → IfOk r (λ m. (other : Mark) → IsMarkPrintedAs bytes other → other ≡ m)
      → IfOk r (λ m. (other : Mark) → IsTokenOfMark token other → other ≡ m)
  one_in (Ok m) h = λ other t. h other (t.0, one_reading token bytes (printed_mark other.key other.binding) f t.1)
  one_in (Err e) h = tt

  -- why none is, with the version of a key: no key is printed so
  pub no_key_printed : (e : TokenFault) → HasKeyVersion bytes → RefusesIf ((m : Mark) → IsMarkPrintedAs bytes m → ⊥) e → IsTokenFault token e
  no_key_printed NotBase64 v h = absurd h
  no_key_printed BadVersion v h = absurd h
  no_key_printed NotCanonical v h =
      (bytes, f, v, λ k t. h (record { key = k; binding = None }) (t.0, one_reading token bytes (printed_key k) f t.1))
  no_key_printed NoMemory v h = tt

  -- with the version of a key it has no binding
  no_binding : (k : KeyTexts) (b : Option BindingName) → HasKeyVersion (printed_mark k b) → b ≡ None
  no_binding k None v = refl
  no_binding k (Some b) (inl e) = let first : 50 ≡ 49 = ap (λ (t : Text). get_or t 0 0) e in absurd (omega (arith, first))
  no_binding k (Some b) (inr w) = let first : 50 ≡ 49 = ap (λ (t : Text). get_or t 0 0) w.1 in absurd (omega (arith, first))

  pub key_printed : (m : Mark) → HasKeyVersion bytes → IsMarkPrintedAs bytes m → IsTokenOf token m.key
  key_printed m v h =
      let none = no_binding m.key m.binding (subst HasKeyVersion h.1 v) in
      (h.0, subst (Encodes token) (h.1 ∙ ap (printed_mark m.key) none) f)

  pub key_one : (m : Mark) → ((other : Mark) → IsMarkPrintedAs bytes other → other ≡ m) → (k : KeyTexts) → IsTokenOf token k → k ≡ m.key
  key_one m h k t = ap (λ (x : Mark). x.key) (h (record { key = k; binding = None }) (t.0, one_reading token bytes (printed_key k) f t.1))
