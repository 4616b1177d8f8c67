-- What steps make of a command, each of which goes on where the one before it built something.
use Rattle.std.proofs.Common.{◌≡◌, ◌∙◌, ap, subst, Result, Ok, Err, IfOk, IsOkAnd}
use Rattle.clap.specs.Words.{App, Rule, app_of, with_rule, with_subcommand}
use Rattle.clap.specs.declared.builder.command.Command.{Command}

-- what is built in the end is the change of what was built at first
abbrev pub Makes : {E : Type 0} → Result Command E → Result Command E → (App → App) → Type 0
Makes first last change = IfOk last (λ r. IsOkAnd first (λ c. app_of r ≡ change (app_of c)))

-- a step and then another
pub then : {E : Type 0} (first mid last : Result Command E) (f g : App → App) → Makes first mid f → Makes mid last g → Makes first last (λ a. g (f a))
then first mid (Err e) f g h k = tt
then first (Err e) (Ok r) f g h k = absurd k
then (Err e) (Ok m) (Ok r) f g h k = absurd h
then (Ok c) (Ok m) (Ok r) f g h k = k ∙ ap g h

-- a step that adds a rule which is known
pub rule : {E : Type 0} (first last : Result Command E) (r s : Rule) → r ≡ s → Makes first last (λ a. with_rule a r) → Makes first last (λ a. with_rule a s)
rule first last r s same h = subst (λ (q : Rule). Makes first last (λ a. with_rule a q)) same h

-- two steps, the second of which adds a rule which is known
pub and_rule : {E : Type 0} (first mid last : Result Command E) (f : App → App) (r s : Rule) → Makes first mid f → r ≡ s
    → Makes mid last (λ a. with_rule a r) → Makes first last (λ a. with_rule (f a) s)
and_rule first mid last f r s h same k = then first mid last f (λ a. with_rule a s) h (rule mid last r s same k)

-- a step from what is known
pub from : {E : Type 0} (mid last : Result Command E) (f : App → App) (start : App) → IfOk mid (λ m. app_of m ≡ start) → Makes mid last f
    → IfOk last (λ r. app_of r ≡ f start)
from mid (Err e) f start h k = tt
from (Err e) (Ok r) f start h k = absurd k
from (Ok m) (Ok r) f start h k = k ∙ ap f h

-- a step that adds a rule which is known to what is known
pub rule_from : {E : Type 0} (mid last : Result Command E) (start : App) (r s : Rule) → IfOk mid (λ m. app_of m ≡ start) → r ≡ s
    → Makes mid last (λ a. with_rule a r) → IfOk last (λ x. app_of x ≡ with_rule start s)
rule_from mid last start r s h same k = from mid last (λ a. with_rule a s) start h (rule mid last r s same k)

-- a subcommand was added to `before`, to which `start` is equal, and so to `start`
pub added : {E : Type 0} (sub : Result Command E) (start before after part : App) → before ≡ start → IfOk sub (λ s. app_of s ≡ part)
    → IsOkAnd sub (λ s. after ≡ with_subcommand before (app_of s).top) → after ≡ with_subcommand start part.top
added (Ok s) start before after part same built h = h ∙ ap (λ (a : App). with_subcommand before a.top) built ∙ ap (λ (a : App). with_subcommand a part.top) same
added (Err e) start before after part same built h = absurd h
