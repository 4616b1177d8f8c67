use Rattle.std.proofs.Common.{ap, sym, ◌∙◌, ◌≡◌, subst, map, Result, Err, inl, inr}
use Rattle.std.specs.Prelude.{string_bytes}
use Rattle.clap.specs.Words.{App, app_of, fault_of, is_simple, is_simple_and_free, kind_of, subcommand_of}
use Rattle.clap.specs.Kinds.{FailsBy, IsAmong}
use Rattle.clap.specs.declared.error.kind.ErrorKind.TheVariants.{OutOfMemory}
use Rattle.clap.specs.declared.error.Error.{Error}
use Rattle.clap.specs.declared.parser.matches.ArgMatches.{ArgMatches}
use Rattle.rbac_command.proofs.Facts.{simple_app, free_app}
use Rattle.rbac_command.proofs.read.parsed.Goals as goal

pub returns-in-Ok-clause-ok : goal.returns-in-Ok-clause-ok
returns-in-Ok-clause-ok c =
    let e = c.in_ok-program.ensures in
    let none = c.in-Ok.ensures.kinds (ap is_simple_and_free e ∙ free_app) in
    let found = c.in-Ok.ensures.matches (ap is_simple e ∙ simple_app) in (
      sym (ap (λ (a : App). fault_of a (map string_bytes c.args.words.now)) e) ∙ none,
      found.1 ∙ ap (λ (a : App). subcommand_of a (map string_bytes c.args.words.now)) e,
    )

pub returns : goal.returns
returns c =
    let e = c.in_ok-program.ensures in
    let failed : Result ArgMatches Error = Err c.in-Err.error in
    let fails : FailsBy (fault_of (app_of c.in_ok-program.field-0) (map string_bytes c.args.words.now)) failed =
    c.in-Err.ensures.kinds (ap is_simple_and_free e ∙ free_app) in
    let other : kind_of c.in-Err.error ≡ OutOfMemory → ⊥ = λ h. c.in_default.not-OutOfMemory (c.kind.ensures ∙ h) in
    record {
      ok = tt;
      err = elim fails [
        | inl h ↦ absurd (other h)
        | inr h ↦ subst (λ (a : App). IsAmong (kind_of c.in-Err.error) (fault_of a (map string_bytes c.args.words.now))) e h
      ];
    }
