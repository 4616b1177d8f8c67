use Rattle.std.proofs.Common.{◌↔◌, ◌≡◌, List, MatchOption, Option, subst, sym}
use Rattle.std.specs.Option.{option_copied}
use Rattle.rbac_terms.specs.Text.{Text}
use Rattle.rbac_paths.specs.SharedWords.{AddsWhere, IsWordFor}
use Rattle.rbac_paths.proofs.WordsAdded.{adds_had, adds_word}
use Rattle.rbac_paths.proofs.takeover.Takeover.add_word.Goals as goal

pub returns-in_ok-push : goal.returns-in_ok-push
returns-in_ok-push c =
    let Is : Text → Type 0 = IsWordFor c.args.self.now.over c.args.self.now.counts (option_copied c.args.home) (option_copied c.args.name) in
    let one = subst (λ (o : Option Text). MatchOption o ((w : Text) → ¬ Is w) (λ word. (w : Text) → Is w ↔ (w ≡ word))) c.in-Some.is c.in_ok-word.ensures in
    subst (λ (ws : List Text). AddsWhere Is c.args.words.now ws) (sym c.in_ok-push.ensures.ok) (adds_word Is c.in-Some.word one c.args.words.now)

pub returns-else-not-ends_in : goal.returns-else-not-ends_in
returns-else-not-ends_in c =
    let Is : Text → Type 0 = IsWordFor c.args.self.now.over c.args.self.now.counts (option_copied c.args.home) (option_copied c.args.name) in
    let one = subst (λ (o : Option Text). MatchOption o ((w : Text) → ¬ Is w) (λ word. (w : Text) → Is w ↔ (w ≡ word))) c.in-Some.is c.in_ok-word.ensures in
    adds_had Is c.in-Some.word (λ w is. (one w).0 is) c.args.words.now (c.ends_in.ensures c.if-not-ends_in.false)
