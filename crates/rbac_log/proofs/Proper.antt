-- Which targets are proper ones, by a test and by what they say.
use Rattle.std.proofs.Common.{◌≡◌, ◌≢◌, ◌==◌, ◌&&◌, Bool, true, false, [], ◌∷◌, Option, Some, None, Result, Ok, Err, MatchResult, cond, drop, length, refl, sym, ap, ◌∙◌, subst, arith}
use Rattle.std.specs.Prelude.{codes, not}
use Rattle.std.specs.Result.{result_ok}
use Rattle.std.proofs.lemmas.Bool.{both_ways}
use Rattle.std.proofs.lemmas.Bool.Decides.{Decides-eqb, nat_tests}
use Rattle.std.proofs.lemmas.Slice.Eq.{starts_is}
use Rattle.json_fields.specs.Fields.{is_empty}
use Rattle.rbac_terms.specs.declared.fault.ModelFault.{ModelFault}
use Rattle.rbac_terms.specs.declared.fault.ModelFault.TheVariants.{BadTarget}
use Rattle.rbac_terms.specs.Text.{Text}
use Rattle.rbac_terms.specs.Targets.{What, Resource, Url, IsProper, IsPath, is_path}
use Rattle.rbac_log.specs.Asked.{proper}

path_from : (t : Text) → is_path t ≡ true → IsPath t
path_from t e = (drop 1 t, (starts_is Decides-eqb t (codes "/") (is_path t) refl).0 e)

path_to : (t : Text) → IsPath t → is_path t ≡ true
path_to t p = (starts_is Decides-eqb t (codes "/") (is_path t) refl).1 p.0 p.1

no_path : (t : Text) (b : Bool) → is_path t ≡ b → (IsPath t → ⊥) → b ≡ false
no_path t true e none = absurd (none (path_from t e))
no_path t false e none = refl

pub filled : (t : Text) → t ≢ [] → is_empty t ≡ false
filled [] ne = absurd (ne refl)
filled (b ∷ bs) ne = grind (arith, nat_tests)

pub not_empty : (t : Text) → is_empty t ≡ false → t ≢ []
not_empty t e q = both_ways (is_empty t) e (ap (λ u. length u == 0) q)

pub two_tests : (a b : Bool) → a ≡ false → b ≡ false → (not a && not b) ≡ true
two_tests a b e f = rw (e, f) refl

not_both : (a b : Bool) (found : Option What) → (a ≡ false → b ≡ false → ⊥) → cond (not a && not b) found None ≡ None
not_both true b found h = refl
not_both false true found h = refl
not_both false false found h = absurd (h refl refl)

pub proper_if : (t : What) → IsProper t → proper t ≡ Some t
unfolding proper
proper_if (Resource group text name) p =
    ap (λ b. cond b (Some (Resource group text name)) None) (two_tests (is_empty text) (is_path text) (filled text p.0) (no_path text (is_path text) refl p.1))
proper_if (Url path) p = ap (λ b. cond b (Some (Url path)) None) (path_to path p)

pub no_proper : (t : What) → (IsProper t → ⊥) → proper t ≡ None
unfolding proper
no_proper (Resource group text name) p =
    not_both (is_empty text) (is_path text) (Some (Resource group text name)) (λ e f. p (not_empty text e, λ q. both_ways (is_path text) f (path_to text q)))
no_proper (Url path) p = ap (λ b. cond b (Some (Url path)) None) (no_path path (is_path path) refl p)

-- a target that is made or refused
pub made : (t : What) (r : Result What ModelFault) → MatchResult r (λ u. (u ≡ t) × IsProper u) (λ e. (e ≡ BadTarget) × (IsProper t → ⊥)) → result_ok r ≡ proper t
made t (Ok u) h = ap Some h.0 ∙ sym (proper_if t (subst IsProper h.0 h.1))
made t (Err e) h = sym (no_proper t h.1)
