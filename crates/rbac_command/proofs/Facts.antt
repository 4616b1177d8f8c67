-- The command line is one of which `clap` states the matches.
use Rattle.std.proofs.Common.{◌≡◌, refl, true, List, []}
use Rattle.std.specs.Prelude.{Bool, find, if◌then◌else◌, false, ◌∷◌, is_some, option_map, Option, Some, None}
use Rattle.clap.specs.Words.{App, Row, Shape, Text, built, fault_of, is_simple, is_simple_and_free, subcommand_of}
use Rattle.clap.specs.Simple.{entered, label_of, rows_at}
use Rattle.clap.specs.Walk.{answers_to}
use Rattle.clap.proofs.WalkLemmas.{both}
use Rattle.std.specs.List.{list_all}
use Rattle.std.specs.Option.{option_map_or}
use Rattle.clap.specs.Kinds.{Kinds, or_else}
use Rattle.clap.specs.Faults.{check_fault, level_fault}
use Rattle.clap.specs.Walk.{Names, finished, nothing_held, walk}
use Rattle.clap.proofs.OnLiterals.{clap_on_literals}
use Rattle.rbac_command.specs.App.{rbac_app}
use Rattle.rbac_command.specs.Meaning.{is_known}

pub simple_app : is_simple rbac_app ≡ true
unfolding clap_on_literals rbac_app
simple_app = refl

pub free_app : is_simple_and_free rbac_app ≡ true
unfolding clap_on_literals rbac_app
free_app = refl

-- ---- a line that is taken has a subcommand

past : (a b : Kinds) → or_else a b ≡ [] → b ≡ []
past [] b h = h
past (k ∷ ks) b h = cc

needs_subcommand : (s : Shape) (rows : List Row) (has : Bool) → s.subcommand_required ≡ true
    → s.arg_required_else_help ≡ false → check_fault s rows has ≡ [] → has ≡ true
needs_subcommand s rows true a b h = refl
needs_subcommand s rows false a b h = let bad = rw (a, b) at h in cc

level_needs : (s : Shape) (names : Names) (words : List Text) (has : Bool) (below : Kinds)
    → s.subcommand_required ≡ true → s.arg_required_else_help ≡ false
    → level_fault s names nothing_held words has below ≡ [] → has ≡ true
level_needs s names words has below a b h =
    needs_subcommand s (finished s.rules (walk s.rules names nothing_held words).held) has a b (past _ _ (past _ _ (past below _ (past _ _ h))))

pub has_subcommand : (words : List Text) → fault_of rbac_app words ≡ [] → is_some (subcommand_of rbac_app words) ≡ true
unfolding rbac_app
has_subcommand words h = level_needs (built rbac_app).top _ _ _ _ refl refl h

-- ---- which is one that is known

abbrev IsKnownIn : List Text → Option Shape → Type 0
IsKnownIn ws o = is_some (option_map {U = Text × List Row} (λ s. rows_at s ws) o) ≡ true
    → option_map_or (λ (p : Text × List Row). is_known p.0) (option_map {U = Text × List Row} (λ s. rows_at s ws) o) false ≡ true

first_known : (ws : List Text) (b : Bool) (s : Shape) (rest : Option Shape) → is_known s.name ≡ true → IsKnownIn ws rest
    → IsKnownIn ws (if b then Some s else rest)
first_known ws true s rest h k = λ _. h
first_known ws false s rest h k = k

found_known : (q : Shape → Bool) (ws : List Text) (subs : List Shape) → list_all (λ s. is_known s.name) subs ≡ true → IsKnownIn ws (find q subs)
found_known q ws [] h = λ e. cc
found_known q ws (s ∷ rest) h =
    let parts = both (is_known s.name) (list_all (λ x. is_known x.name) rest) h in
    first_known ws (q s) s (find q rest) parts.0 (found_known q ws rest parts.1)

entered_known : (a : App) (stop : Option (Text × List Text)) → list_all (λ s. is_known s.name) a.subs ≡ true
    → is_some (entered a stop) ≡ true → option_map_or (λ (p : Text × List Row). is_known p.0) (entered a stop) false ≡ true
entered_known a None h e = cc
entered_known a (Some p) h e = found_known (λ s. answers_to p.0 (label_of s)) p.1 a.subs h e

all_known : list_all (λ s. is_known s.name) (built rbac_app).subs ≡ true
unfolding clap_on_literals rbac_app
all_known = refl

pub has_known : (words : List Text) → fault_of rbac_app words ≡ []
    → option_map_or (λ (p : Text × List Row). is_known p.0) (subcommand_of rbac_app words) false ≡ true
has_known words h = entered_known (built rbac_app) _ all_known (has_subcommand words h)

-- ---- a subcommand's name and rows

pub pair_up : {X B : Type 0} (a : X → Text) (b : X → List Row) (f : B → Text) (g : B → List Row) (r : Option X) (s : Option B)
    → option_map a r ≡ option_map f s → option_map b r ≡ option_map (λ (p : Text × List Row). p.1) (option_map {U = Text × List Row} (λ y. (f y, g y)) s)
    → option_map {U = Text × List Row} (λ x. (a x, b x)) r ≡ option_map {U = Text × List Row} (λ y. (f y, g y)) s
pair_up a b f g None None h k = refl
pair_up a b f g (Some x) (Some y) h k = cc
pair_up a b f g None (Some y) h k = cc
pair_up a b f g (Some x) None h k = cc
