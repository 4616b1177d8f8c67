-- Keys are determined by their texts.
use Rattle.std.proofs.Common.{◌≡◌, refl}
use Rattle.rbac_terms.specs.Text.{Text}
use Rattle.rbac_terms.specs.Keys.{key_of, namespace_at}
use Rattle.rbac_terms.specs.Principals.{Who, who_key}
use Rattle.rbac_terms.specs.Targets.{What, Resource, Url}
use Rattle.rbac_token.specs.Faults.{RefusesIf}
use Rattle.rbac_token.specs.declared.fault.TokenFault.{TokenFault}
use Rattle.rbac_token.specs.declared.fault.TokenFault.TheVariants.{NotBase64, BadVersion, NotCanonical, NoMemory}

-- the key of a request is that of any principal with its key, and of the namespace in it
pub same_key : (p who : Who) (namespace verb : Text) (t : What) → who_key p ≡ who_key who
    → key_of p (namespace_at namespace t) verb t ≡ key_of who namespace verb t
same_key p who namespace verb (Resource group text name) e = rw e refl
same_key p who namespace verb (Url path) e = rw e refl

-- what has no reason to be refused is refused only when memory runs out
pub only_memory : (reason : Type 0) (e : TokenFault) → RefusesIf reason e → (reason → ⊥) → e ≡ NoMemory
only_memory reason NotBase64 h n = absurd h
only_memory reason BadVersion h n = absurd h
only_memory reason NotCanonical h n = absurd (n h)
only_memory reason NoMemory h n = refl
