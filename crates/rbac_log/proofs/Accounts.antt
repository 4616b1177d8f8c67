-- The user names of service accounts, cut into their parts.
use Rattle.std.proofs.Common.{◌≡◌, ◌&&◌, ◌==◌, Bool, true, false, [], Option, Some, None, Contains, cond, refl, ap, ◌∙◌}
use Rattle.std.specs.List.{before_first, after_first}
use Rattle.rbac_terms.specs.Text.{Text, colon, IsCutAtFirst}
use Rattle.rbac_log.specs.Acting.{is_part, parts_of, cut_at_colon}
use Rattle.rbac_log.proofs.Cuts.{before_cut, after_cut, after_uncut}

no_second : (b : Bool) (found : Option (Text × Text)) → cond {A = Option (Text × Text)} (b && false) found None ≡ None
no_second true found = refl
no_second false found = refl

no_name : (namespace : Text) → parts_of namespace [] ≡ None
no_name namespace = let found : Option (Text × Text) = Some (namespace, []) in no_second (is_part namespace) found

-- a text without a colon has no parts
pub no_parts : (x : Text) → (Contains x colon → ⊥) → cut_at_colon x ≡ None
unfolding cut_at_colon
no_parts x none =
    let namespace : Text = before_first (λ b. b == colon) x in
    ap (λ name. parts_of namespace name) (after_uncut x colon none) ∙ no_name namespace

-- the parts of a text that is cut
pub the_parts : (x m s : Text) → IsCutAtFirst x colon m s → cut_at_colon x ≡ parts_of m s
unfolding cut_at_colon
the_parts x m s cut =
    let name : Text = after_first (λ b. b == colon) x in
    ap (λ namespace. parts_of namespace name) (before_cut x m s colon cut) ∙ ap (λ t. parts_of m t) (after_cut x m s colon cut)
