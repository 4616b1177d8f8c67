use Rattle.std.specs.Prelude.{◌≡◌, ◌⊎◌, ℕ, List, codes}
use Rattle.rbac_terms.specs.Text.{Text}
use Rattle.rbac_terms.specs.Keys.{KeyTexts}
use Rattle.rbac_terms.specs.declared.fault.ModelFault.{ModelFault}
use Rattle.rbac_terms.specs.declared.fault.ModelFault.TheVariants as model
use Rattle.rbac_token.specs.Marks.{HasMarkVersion, IsTokenOfMark}
use Rattle.rbac_token.specs.Token.{Encodes, HasKeyVersion, IsTokenOf}
use Rattle.rbac_token.specs.declared.mark.Mark.{Mark}
use Rattle.rbac_token.specs.declared.fault.TokenFault.{TokenFault}
use Rattle.rbac_token.specs.declared.fault.TokenFault.TheVariants.{NotBase64, BadVersion}
use Rattle.rbac_token.specs.declared.fault.TokenFault.TheVariants.{NotCanonical, NoMemory}

-- how a fault is printed: the number and name of the refusal; out of memory without a number (own)
abbrev pub fault_text : TokenFault → List ℕ
fault_text NotBase64 = codes "K1 not base64"
fault_text BadVersion = codes "K2 bad version"
fault_text NotCanonical = codes "K3 not canonical"
fault_text NoMemory = codes "out of memory"

-- why a token is refused (own): it isn't unpadded URL-safe base64; otherwise it has another
-- version; otherwise nothing is printed as its bytes; memory may run out at any time
abbrev pub IsRefusal : (Text → Type 0) → Type 0 → Text → TokenFault → Type 0
IsRefusal IsVersion none token NotBase64 = (bytes : Text) → ¬ Encodes token bytes
IsRefusal IsVersion none token BadVersion = (bytes : Text) × Encodes token bytes
    × (¬ IsVersion bytes)
IsRefusal IsVersion none token NotCanonical = (bytes : Text) × Encodes token bytes × IsVersion bytes
    × none
IsRefusal IsVersion none token NoMemory = Unit {0}

-- why a token is refused as a key's, by the order above: it isn't base64, its version isn't `1`, or
-- no key has the token
abbrev pub IsTokenFault : Text → TokenFault → Type 0
IsTokenFault token fault =
    IsRefusal HasKeyVersion ((k : KeyTexts) → ¬ IsTokenOf token k) token fault

-- why a token is refused as a mark's, by the order above: it isn't base64, its version is neither
-- `1` nor `2`, or no mark has the token
abbrev pub IsMarkFault : Text → TokenFault → Type 0
IsMarkFault token fault =
    IsRefusal HasMarkVersion ((m : Mark) → ¬ IsTokenOfMark token m) token fault

-- why a token is refused if its principal or its target can't be made
abbrev pub token_fault : ModelFault → TokenFault
token_fault model.EmptyName = NotCanonical
token_fault model.BadTarget = NotCanonical
token_fault model.NoMemory = NoMemory

-- a text is refused with K3 only for this reason; memory may run out at any time
abbrev pub RefusesIf : Type 0 → TokenFault → Type 0
RefusesIf reason NotBase64 = ⊥
RefusesIf reason BadVersion = ⊥
RefusesIf reason NotCanonical = reason
RefusesIf reason NoMemory = Unit {0}

-- how reading printed fields may fail: with K3, or out of memory
abbrev pub IsReadFault : TokenFault → Type 0
IsReadFault fault = (fault ≡ NotCanonical) ⊎ (fault ≡ NoMemory)
