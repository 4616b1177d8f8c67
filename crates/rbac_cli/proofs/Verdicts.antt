-- A verdict, its text and its status.
use Rattle.std.proofs.Common.{◌≡◌, ◌∙◌, ◌↔◌, ◌++◌, ◌<◌, ℕ, Bool, true, false, not, true≢false, List, [], Some, codes, length, slice_get, refl, sym, inl, inr, append-nil}
use Rattle.std.proofs.lemmas.Option.{slice_get_within, get_or_from_slice_get}
use Rattle.rbac_terms.specs.Text.{Text}
use Rattle.rbac_terms.specs.Targets.{What}
use Rattle.rbac_terms.specs.Principals.{Who}
use Rattle.rbac_terms.specs.declared.granting.Binding.{Binding}
use Rattle.rbac_model.specs.Policies.{Held, Allows, IsFirst, PolicyView}
use Rattle.rbac_near.specs.Near.{AreNear, RequestView}
use Rattle.rbac_near.specs.declared.near.Near.{Near}
use Rattle.rbac_catalogue.specs.declared.entry.Entry.{Entry}
use Rattle.rbac_model.specs.declared.why.Why.{Why}
use Rattle.rbac_index.specs.Deciding.{IsWhyShown}
use Rattle.rbac_manifest.specs.Load.{LoadedView}
use Rattle.rbac_question.specs.declared.command.Question.{Question}
use Rattle.rbac_question.specs.declared.command.VerdictOptions.{VerdictOptions}
use Rattle.rbac_cli.specs.Meant.{IsNamespaceMeant, IsMeant, IsOutside, request_meant}
use Rattle.rbac_cli.specs.Out.{ComesAfterNo, ComesAfterYes, FollowsNo, IsVerdict, IsWhyText, line_unless, word_line}
use Rattle.rbac_cli.specs.declared.outcome.Status.TheVariants.{Zero, One}
use Rattle.rbac_cli.specs.Verdicts.{yes_text, found_text}

pub one_namespace : (entries : List Entry) (q : Question) (target : What) (n m : Text) → IsNamespaceMeant entries q target n → IsNamespaceMeant entries q target m → n ≡ m
one_namespace entries q target n m (inl a) (inl b) = a.1 ∙ sym b.1
one_namespace entries q target n m (inl a) (inr b) = absurd (b.0 a.0)
one_namespace entries q target n m (inr a) (inl b) = absurd (a.0 b.0)
one_namespace entries q target n m (inr a) (inr b) = a.1 ∙ sym b.1

-- the first binding that grants grants
allows_first : (h : Held) (who : Who) (namespace verb : Text) (t : What) (b : Binding) → IsFirst h who namespace verb t b → Allows h who namespace verb t
allows_first h who namespace verb t b f = (f.0, b, slice_get_within h.bindings f.0 b f.1.here, get_or_from_slice_get h.bindings f.0 b b f.1.here, f.1.holds)

module _ (l : LoadedView) (who : Who) (q : Question) (target : What) (namespace : Text) (meant : IsMeant l.catalogue.entries q target namespace) where
  why_line : (found : Why) → IsWhyShown l.policy who namespace q.verb target found → IsWhyText l.policy l.catalogue.entries who q (found_text found)
  why_line found (g, is_why, shows) = (target, namespace, meant, (g, found.subject_place, is_why, rw (shows.0, shows.1, shows.2) refl))

  after_yes : (quiet why : Bool) (found : Why) → IsWhyShown l.policy who namespace q.verb target found
      → (reason : Text) × ComesAfterYes l.policy l.catalogue.entries who quiet why q reason × (yes_text quiet why found ≡ line_unless quiet (codes "yes") ++ reason)
  after_yes true why found shown = ([], refl, refl)
  after_yes false true found shown = (found_text found, why_line found shown, refl)
  after_yes false false found shown = ([], refl, sym (append-nil (word_line (codes "yes"))))

  -- the answer yes, and what comes after it
  pub verdict_yes : (options : VerdictOptions) (found : Why) → IsWhyShown l.policy who namespace q.verb target found → IsFirst l.policy.held who namespace q.verb target found.binding.now
      → IsVerdict l who options q (yes_text options.quiet options.why found) Zero
  verdict_yes options found shown first =
      inl ((target, namespace, meant, allows_first l.policy.held who namespace q.verb target found.binding.now first), after_yes options.quiet options.why found shown, refl)

  -- the answer no, and what comes after it
  pub verdict_no : (options : VerdictOptions) (text lacking : Text) → (¬ Allows l.policy.held who namespace q.verb target)
      → ComesAfterNo l.policy l.catalogue.entries who options.quiet options.why_not q lacking → text ≡ line_unless options.quiet (codes "no") ++ lacking
      → IsVerdict l who options q text One
  verdict_no options text lacking none after is = inr ((target, namespace, meant, none), (lacking, after, is), refl)

  -- what follows a no to the request comes after a no to the question
  pub after_no : (is_outside is_namespaced quiet not_told : Bool) (lacking : Text) → (is_outside ≡ true) ↔ IsOutside l.catalogue.entries q target → is_namespaced ≡ not is_outside
      → FollowsNo l.policy (request_meant who q target namespace is_namespaced) quiet not_told lacking
      → ComesAfterNo l.policy l.catalogue.entries who quiet not_told q lacking
  after_no true is_namespaced quiet not_told lacking outside is follows = (target, namespace, is_namespaced, meant, (λ e. absurd (true≢false (sym e ∙ is)), λ inside. absurd (inside (outside.0 refl))), follows)
  after_no false is_namespaced quiet not_told lacking outside is follows = (target, namespace, is_namespaced, meant, (λ e h. true≢false (sym (outside.1 h)), λ inside. is), follows)

-- the number of a near grant is that of a grant
pub near_within : (p : PolicyView) (q : RequestView) (xs : List Near) → AreNear p q xs → (k : ℕ) (x : Near) → slice_get xs k ≡ Some x → x.number < length p.grants
near_within p q xs are k x at = let w = (are.exact x).0 (k, slice_get_within xs k x at, get_or_from_slice_get xs k x x at) in slice_get_within p.grants x.number w.grant w.here
