use Rattle.std.proofs.Common.{◌≡◌, ◌↔◌, Any, false, inl, inr, List, None, Option, Some, subst, sym, true}
use Rattle.std.specs.Option.{option_copied}
use Rattle.rbac_terms.proofs.Cases.{on_ok}
use Rattle.rbac_terms.specs.Text.{Text}
use Rattle.rbac_paths.specs.Joints.{IsOverNobody}
use Rattle.rbac_paths.specs.SharedWords.{IsWordFor, LetsName, LetsWord}
use Rattle.rbac_paths.specs.declared.table.Counts.{Counts}
use Rattle.rbac_paths.specs.declared.table.Over.{Over}
use Rattle.rbac_paths.specs.declared.table.Over.TheVariants as over
use Rattle.rbac_paths.proofs.RuleWords.{any_name, own_names}
use Rattle.rbac_paths.proofs.WordsAdded.{adds_same}
use Rattle.rbac_paths.proofs.takeover.Takeover.add_words.Goals as goal

-- nobody is taken over with roles or everything
no_word : (o : Over) (counts : Counts) (home name : Option Text) (w : Text) → IsOverNobody o → IsWordFor o counts home name w → ⊥
no_word over.Users counts home name w is word = absurd is
no_word over.Groups counts home name w is word = absurd is
no_word over.Bootstrappers counts home name w is word = absurd is
no_word over.Accounts counts home name w is word = absurd is
no_word over.Everything counts home name w is word = absurd word
no_word over.EverythingInNamespace counts home name w is word = absurd word
no_word over.ClusterRoles counts home name w is word = absurd word
no_word over.Roles counts home name w is word = absurd word
no_word over.Nothing counts home name w is word = absurd is

pub returns-then-is_over_nobody : goal.returns-then-is_over_nobody
returns-then-is_over_nobody c w = (
  λ h. inl h,
  λ h. elim h [
    | inl old ↦ old
    | inr lets ↦ absurd (no_word c.args.self.now.over c.args.self.now.counts (option_copied c.args.home) lets.0 w (c.is_over_nobody.ensures.0 c.if-is_over_nobody.true) lets.2)
  ],
)

pub returns-then-lets_any : goal.returns-then-lets_any
returns-then-lets_any c =
    let t = c.args.self.now in
    let home = option_copied c.args.home in
    let rule = c.args.rule.now in
    let lets = c.lets_any.ensures.0 c.if-lets_any.true in
    on_ok c.add_word.result (adds_same (IsWordFor t.over t.counts home None) (LetsWord t home rule) (any_name t home rule lets) c.args.words.now c.add_word.new.words) c.add_word.ensures

pub returns-in-Own : goal.returns-in-Own
returns-in-Own c =
    let t = c.args.self.now in
    let home = option_copied c.args.home in
    let rule = c.args.rule.now in
    let none : LetsName t.names rule None → ⊥ = λ l. (let bad : false ≡ true = c.if-lets_any.ensures.1 l in cc) in
    let By : List Text → Text → Type 0 = λ ns w. Any (λ name. IsWordFor t.over t.counts home (Some name) w) ns in
    let same = subst (λ (ns : List Text). (w : Text) → By ns w ↔ LetsWord t home rule w) (sym c.as_slice.ensures) (own_names t home rule c.in-Own.is none) in
    on_ok c.add_named.result (adds_same (By c.as_slice.result.now) (LetsWord t home rule) same c.args.words.now c.add_named.new.words) c.add_named.ensures
