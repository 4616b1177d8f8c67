use Rattle.std.proofs.Common.{◌≡◌, ◌≢◌, [], ◌∷◌, ap, arith, length, not, refl, subst, true, false}
use Rattle.std.proofs.lemmas.Bool.Decides.{Decides-eqb}
use Rattle.std.specs.Bool.{◌==◌}
use Rattle.std.specs.Prelude.{Bool}
use Rattle.rbac_terms.specs.Text.{Text, slash, IsCutAtFirst}
use Rattle.rbac_reaches.proofs.WildcardLemmas.{follows_among, follows_nothing, follows_never}
use Rattle.rbac_reaches.proofs.subresources.has_subresource_of.Goals as goal

some_byte : (s : Text) (r : Bool) → r ≡ (length s == 0) → r ≡ false → s ≢ []
some_byte s r is e none = let zero : (length s == 0) ≡ true = ap (λ (t : Text). length t == 0) none in cc

no_byte : (s : Text) → (length s == 0) ≡ true → s ≡ []
no_byte [] e = refl
no_byte (x ∷ s) e = absurd (omega (arith, (Decides-eqb (length (x ∷ s)) 0).0 e))

pub returns-then-not-is_empty : goal.returns-then-not-is_empty
returns-then-not-is_empty c =
    let rest = c.in-Some.subresource.now in
    let cut = subst (λ (t : Text). IsCutAtFirst t slash c.in-Some.field-0-0.now rest) c.as_bytes.ensures c.in-Some.ensures in
    follows_among c.args.sorted.now c.args.text.now c.in-Some.field-0-0.now rest cut c.is_among.result (some_byte rest c.is_empty-in-Some.result c.is_empty-in-Some.ensures c.if-not-is_empty.true) c.is_among.ensures

pub returns-else-not-is_empty : goal.returns-else-not-is_empty
returns-else-not-is_empty c =
    let rest = c.in-Some.subresource.now in
    let cut = subst (λ (t : Text). IsCutAtFirst t slash c.in-Some.field-0-0.now rest) c.as_bytes.ensures c.in-Some.ensures in
    let none = no_byte rest (cc) in
    (λ h. let never : not true ≡ true = subst (λ (b : Bool). not b ≡ true) c.if-not-is_empty.false h in cc, λ a. absurd (follows_nothing c.args.sorted.now c.args.text.now c.in-Some.field-0-0.now rest cut none a))

pub returns-in-None : goal.returns-in-None
returns-in-None c = (λ h. cc, λ a. absurd (follows_never c.args.sorted.now c.args.text.now (λ has. c.in-None.ensures (rw c.as_bytes.ensures has)) a))
