-- Two runs that nothing stopped end alike.
use Rattle.std.proofs.Common.{◌≡◌, ◌≢◌, ◌∙◌, ℕ, List, [], Result, Ok, Err, ap, subst, sym, refl, inl, inr, length, take}
use Rattle.rbac_universe.specs.declared.lists.UniverseLists.{UniverseLists}
use Rattle.rbac_universe.specs.declared.fault.UniverseFault.{UniverseFault}
use Rattle.rbac_universe.specs.declared.fault.UniverseFault.TheVariants as universe
use Rattle.rbac_universe.specs.Sets.{IsUniverseOf, HasUniverseFault}
use Rattle.rbac_model.specs.Universes.{UniverseView}
use Rattle.rbac_manifest.specs.declared.fault.LoadFault.{LoadFault}
use Rattle.rbac_manifest.specs.Load.{LoadedView, IsLoaded, HasFault, HasTooManyGrants, document_fault}
use Rattle.rbac_manifest.specs.Changed.{IsResolved}
use Rattle.rbac_model.specs.Policies.{PolicyView}
use Rattle.rbac_model.specs.declared.objects.Object.{Object}
use Rattle.std.specs.Prelude.{Option, Some, None}
use Rattle.std.proofs.lemmas.Option.{same_Some}
use Rattle.rbac_diff.specs.Requests.{RequestView}
use Rattle.rbac_question.specs.declared.command.Action.{Action}
use Rattle.rbac_question.specs.declared.command.Action.TheVariants.{CanI, WhoCan, WaysTo, Rules, Matrix, Least, Lint, Unused, Powers, Paths, Diff}
use Rattle.rbac_question.specs.declared.command.Action.TheVariants as action
use Rattle.rbac_question.specs.declared.command.Command.{Command}
use Rattle.rbac_cli.specs.Exports.{AreLoaded, AreInputsRefused, IsSide, IsSideRefused, behind}
use Rattle.rbac_cli.specs.Out.{Answers}
use Rattle.rbac_cli.specs.declared.exports.Exports.{Exports}
use Rattle.rbac_cli.specs.declared.exports.Exports.TheVariants.{Single, Pair, Used}
use Rattle.rbac_cli.specs.Ends.{Ends, HaveSameRequests, LacksUniverse, IsUnstopped}
use Rattle.rbac_cli.specs.declared.outcome.Status.{Status}
use Rattle.rbac_cli.specs.declared.outcome.RunFault.{RunFault}
use Rattle.rbac_cli.specs.declared.outcome.RunFault.TheVariants.{Load, Universe, Memory, Write}
use Rattle.rbac_cli.proofs.OneAnswer.{LeastOne, PathOne, PathsOne, PowersOne, UnusedOne, WaysOne, one_answer, one_least, one_unused}

-- what is known of loading and of universes
abbrev pub LoadsOne : Type 0
LoadsOne = (inputs : List (List ℕ)) (l m : LoadedView) → IsLoaded inputs l → IsLoaded inputs m → l ≡ m

abbrev pub HasNoFault : Type 0
HasNoFault = (inputs : List (List ℕ)) (l : LoadedView) (f : LoadFault) → IsLoaded inputs l → HasFault inputs f → ⊥

abbrev pub HasOneFault : Type 0
HasOneFault = (inputs : List (List ℕ)) (f g : LoadFault) → HasFault inputs f → HasFault inputs g → f ≡ g

abbrev pub ResolvesOne : Type 0
ResolvesOne = (objects : List Object) (p q : PolicyView) → IsResolved objects p → IsResolved objects q → p ≡ q

abbrev pub HasNoTooMany : Type 0
HasNoTooMany = (objects : List Object) (p : PolicyView) (f : LoadFault) → IsResolved objects p → HasTooManyGrants objects f → ⊥

abbrev pub HasNoUniverseFault : Type 0
HasNoUniverseFault =
    (lists : UniverseLists) (u : UniverseView) (fault : UniverseFault) → IsUniverseOf lists u → fault ≢ universe.NoMemory → ¬ HasUniverseFault lists fault

-- two runs that end so ended alike, with one text
abbrev EndAlike : (List ℕ → Type 0) → (List ℕ → Type 0) → Result Status RunFault → Result Status RunFault → Type 0
EndAlike took others ended other = (ended ≡ other) × ((text : List ℕ) × took text × others text)

alike_back : (took others : List ℕ → Type 0) (ended other : Result Status RunFault) → EndAlike took others ended other → EndAlike others took other ended
alike_back took others ended other a = (sym a.0, (a.1.0, a.1.2, a.1.1))

-- lists that make no universe do so for one fault
same_universe_fault : (lists : UniverseLists) (f g : UniverseFault) → HasUniverseFault lists f → f ≢ universe.NoMemory
    → HasUniverseFault lists g → g ≢ universe.NoMemory → f ≡ g
same_universe_fault lists universe.BadTarget universe.BadTarget a n b m = refl
same_universe_fault lists universe.BadTarget universe.TooLarge a n b m = absurd (a b.0)
same_universe_fault lists universe.TooLarge universe.BadTarget a n b m = absurd (b a.0)
same_universe_fault lists universe.TooLarge universe.TooLarge a n b m = refl
same_universe_fault lists universe.NoMemory g a n b m = absurd (n refl)
same_universe_fault lists f universe.NoMemory a n b m = absurd (m refl)

lacks_for_one : (e : Exports) (action : Action) (f g : UniverseFault) → LacksUniverse e action f → LacksUniverse e action g → f ≡ g
lacks_for_one (Single l) (CanI who options q) f g a b = absurd a
lacks_for_one (Single l) (WhoCan options q) f g a b = absurd a
lacks_for_one (Single l) (WaysTo steps q) f g a b = absurd a
lacks_for_one (Single l) (Rules who scope) f g a b = absurd a
lacks_for_one (Single l) action.Universe f g a b = a.0 ∙ sym b.0
lacks_for_one (Single l) (Lint only skip) f g a b = absurd a
lacks_for_one (Single l) Powers f g a b = absurd a
lacks_for_one (Single l) (Paths who steps to) f g a b = absurd a
lacks_for_one (Single l) (Diff n change) f g a b = absurd a
lacks_for_one (Single l) (Matrix options after limit) f g a b = same_universe_fault l.lists f g a.0 a.1 b.0 b.1
lacks_for_one (Single l) (Unused skip) f g a b = absurd a
lacks_for_one (Single l) (Least user names name) f g a b = absurd a
lacks_for_one (Pair before after) action f g a b = absurd a
lacks_for_one (Used l log) action f g a b = absurd a

-- what is loaded is the same, but that logs may have their requests in another order
abbrev IsSameOver : Exports → Exports → Type 0
IsSameOver (Used l log) (Used m logged) = (l ≡ m) × HaveSameRequests log logged
IsSameOver e d = e ≡ d

lacks_alike : (e d : Exports) (action : Action) (f : UniverseFault) → IsSameOver e d → LacksUniverse e action f → LacksUniverse d action f
lacks_alike (Single l) d action f same a = subst (λ (x : Exports). LacksUniverse x action f) same a
lacks_alike (Pair x y) d action f same a = absurd a
lacks_alike (Used l log) d action f same a = absurd a

lacks_back : (e d : Exports) (action : Action) (f : UniverseFault) → IsSameOver e d → LacksUniverse d action f → LacksUniverse e action f
lacks_back (Single l) d action f same a = subst (λ (x : Exports). LacksUniverse x action f) (sym same) a
lacks_back (Pair x y) d action f same a = subst (λ (x : Exports). LacksUniverse x action f) (sym same) a
lacks_back (Used l log) (Used m logged) action f same a = absurd a
lacks_back (Used l log) (Single m) action f same a = subst (λ (x : Exports). LacksUniverse x action f) (sym same) a
lacks_back (Used l log) (Pair x y) action f same a = absurd a

same_back : (log logged : List RequestView) → HaveSameRequests log logged → HaveSameRequests logged log
same_back log logged same r = ((same r).1, (same r).0)

none_and_some : {T : Type 0} (o : Option T) (x : T) → o ≡ None → o ≡ Some x → ⊥
none_and_some o x none some = cc

module _ (loads_one : LoadsOne) (no_fault : HasNoFault) (one_fault : HasOneFault) (resolves_one : ResolvesOne) (few_enough : HasNoTooMany) (no_universe_fault : HasNoUniverseFault) (powers_one : PowersOne) (paths_one : PathsOne) (path_one : PathOne) (ways_one : WaysOne) (unused_one : UnusedOne) (least_one : LeastOne) where
  -- what has an answer lacks no universe
  not_lacking : (e : Exports) (action : Action) (text : List ℕ) (status : Status) (f : UniverseFault) → Answers e action text status → LacksUniverse e action f → ⊥
  not_lacking (Single l) (CanI who options q) text status f a b = b
  not_lacking (Single l) (WhoCan options q) text status f a b = b
  not_lacking (Single l) (WaysTo steps q) text status f a b = b
  not_lacking (Single l) (Rules who scope) text status f a b = b
  not_lacking (Single l) action.Universe text status f (is, few, zero) b = few b.1
  not_lacking (Single l) (Lint only skip) text status f a b = b
  not_lacking (Single l) Powers text status f a b = b
  not_lacking (Single l) (Paths who steps to) text status f a b = b
  not_lacking (Single l) (Diff n change) text status f a b = b
  not_lacking (Single l) (Matrix options after limit) text status f (u, rows, is, listed, e, zero) b = no_universe_fault l.lists u f is b.1 b.0
  not_lacking (Single l) (Unused skip) text status f a b = b
  not_lacking (Single l) (Least user names name) text status f a b = b
  not_lacking (Pair before after) action text status f a b = b
  not_lacking (Used l log) action text status f a b = b

  -- a side of a change that is loaded isn't refused, and one that is refused has one fault
  side_not_refused : (inputs : List (List ℕ)) (objects : List Object) (p : PolicyView) (f : LoadFault) → IsSide inputs objects p → IsSideRefused inputs objects f → ⊥
  side_not_refused inputs objects p f a (inl h) = none_and_some (document_fault inputs) f a.0 h
  side_not_refused inputs objects p f a (inr h) = few_enough objects p f a.1 h.1

  one_side_refusal : (inputs : List (List ℕ)) (objects : List Object) (f g : LoadFault) → IsSideRefused inputs objects f → IsSideRefused inputs objects g → f ≡ g
  one_side_refusal inputs objects f g (inl a) (inl b) = same_Some f g (sym a ∙ b)
  one_side_refusal inputs objects f g (inl a) (inr b) = absurd (none_and_some (document_fault inputs) f b.0 a)
  one_side_refusal inputs objects f g (inr a) (inl b) = absurd (none_and_some (document_fault inputs) g a.0 b)
  one_side_refusal inputs objects f g (inr a) (inr b) = a.1.0 ∙ sym b.1.0

  -- inputs give one thing, and have no fault if they do
  one_single : (inputs : List (List ℕ)) (l m : LoadedView) → IsLoaded inputs l → IsLoaded inputs m → Single l ≡ Single m
  one_single inputs l m a b = ap Single (loads_one inputs l m a b)

  one_loaded : (action : Action) (inputs : List (List ℕ)) (log logged : List RequestView) → HaveSameRequests log logged → (e d : Exports) → AreLoaded action inputs log e → AreLoaded action inputs logged d → IsSameOver e d
  one_loaded (Diff n change) inputs log logged same (Pair x y) (Pair v w) a b =
      rw (resolves_one _ x v a.0.1 b.0.1, resolves_one _ y w a.1.1 b.1.1) refl
  one_loaded (Diff n change) inputs log logged same (Single l) d a b = absurd a
  one_loaded (Diff n change) inputs log logged same (Used l requests) d a b = absurd a
  one_loaded (Diff n change) inputs log logged same (Pair x y) (Single m) a b = absurd b
  one_loaded (Diff n change) inputs log logged same (Pair x y) (Used m requests) a b = absurd b
  one_loaded (Unused skip) inputs log logged same (Used l requests) (Used m others) a b =
      (loads_one inputs l m a.0 b.0, rw (a.1, b.1) same)
  one_loaded (Least user names name) inputs log logged same (Used l requests) (Used m others) a b =
      (loads_one inputs l m a.0 b.0, rw (a.1, b.1) same)
  one_loaded (Unused skip) inputs log logged same (Single l) d a b = absurd a
  one_loaded (Least user names name) inputs log logged same (Single l) d a b = absurd a
  one_loaded (Unused skip) inputs log logged same (Pair x y) d a b = absurd a
  one_loaded (Least user names name) inputs log logged same (Pair x y) d a b = absurd a
  one_loaded (Unused skip) inputs log logged same (Used l requests) (Single m) a b = absurd b
  one_loaded (Least user names name) inputs log logged same (Used l requests) (Single m) a b = absurd b
  one_loaded (Unused skip) inputs log logged same (Used l requests) (Pair x y) a b = absurd b
  one_loaded (Least user names name) inputs log logged same (Used l requests) (Pair x y) a b = absurd b
  one_loaded (CanI who options q) inputs log logged same (Single l) (Single m) a b = one_single inputs l m a b
  one_loaded (WhoCan options q) inputs log logged same (Single l) (Single m) a b = one_single inputs l m a b
  one_loaded (WaysTo steps q) inputs log logged same (Single l) (Single m) a b = one_single inputs l m a b
  one_loaded (Rules who scope) inputs log logged same (Single l) (Single m) a b = one_single inputs l m a b
  one_loaded (Matrix options after limit) inputs log logged same (Single l) (Single m) a b = one_single inputs l m a b
  one_loaded action.Universe inputs log logged same (Single l) (Single m) a b = one_single inputs l m a b
  one_loaded (Lint only skip) inputs log logged same (Single l) (Single m) a b = one_single inputs l m a b
  one_loaded Powers inputs log logged same (Single l) (Single m) a b = one_single inputs l m a b
  one_loaded (Paths who steps to) inputs log logged same (Single l) (Single m) a b = one_single inputs l m a b
  one_loaded (CanI who options q) inputs log logged same (Pair x y) d a b = absurd a
  one_loaded (WhoCan options q) inputs log logged same (Pair x y) d a b = absurd a
  one_loaded (WaysTo steps q) inputs log logged same (Pair x y) d a b = absurd a
  one_loaded (Rules who scope) inputs log logged same (Pair x y) d a b = absurd a
  one_loaded (Matrix options after limit) inputs log logged same (Pair x y) d a b = absurd a
  one_loaded action.Universe inputs log logged same (Pair x y) d a b = absurd a
  one_loaded (Lint only skip) inputs log logged same (Pair x y) d a b = absurd a
  one_loaded Powers inputs log logged same (Pair x y) d a b = absurd a
  one_loaded (Paths who steps to) inputs log logged same (Pair x y) d a b = absurd a
  one_loaded (CanI who options q) inputs log logged same (Used l requests) d a b = absurd a
  one_loaded (WhoCan options q) inputs log logged same (Used l requests) d a b = absurd a
  one_loaded (WaysTo steps q) inputs log logged same (Used l requests) d a b = absurd a
  one_loaded (Rules who scope) inputs log logged same (Used l requests) d a b = absurd a
  one_loaded (Matrix options after limit) inputs log logged same (Used l requests) d a b = absurd a
  one_loaded action.Universe inputs log logged same (Used l requests) d a b = absurd a
  one_loaded (Lint only skip) inputs log logged same (Used l requests) d a b = absurd a
  one_loaded Powers inputs log logged same (Used l requests) d a b = absurd a
  one_loaded (Paths who steps to) inputs log logged same (Used l requests) d a b = absurd a
  one_loaded (CanI who options q) inputs log logged same (Single l) (Pair x y) a b = absurd b
  one_loaded (WhoCan options q) inputs log logged same (Single l) (Pair x y) a b = absurd b
  one_loaded (WaysTo steps q) inputs log logged same (Single l) (Pair x y) a b = absurd b
  one_loaded (Rules who scope) inputs log logged same (Single l) (Pair x y) a b = absurd b
  one_loaded (Matrix options after limit) inputs log logged same (Single l) (Pair x y) a b = absurd b
  one_loaded action.Universe inputs log logged same (Single l) (Pair x y) a b = absurd b
  one_loaded (Lint only skip) inputs log logged same (Single l) (Pair x y) a b = absurd b
  one_loaded Powers inputs log logged same (Single l) (Pair x y) a b = absurd b
  one_loaded (Paths who steps to) inputs log logged same (Single l) (Pair x y) a b = absurd b
  one_loaded (CanI who options q) inputs log logged same (Single l) (Used m requests) a b = absurd b
  one_loaded (WhoCan options q) inputs log logged same (Single l) (Used m requests) a b = absurd b
  one_loaded (WaysTo steps q) inputs log logged same (Single l) (Used m requests) a b = absurd b
  one_loaded (Rules who scope) inputs log logged same (Single l) (Used m requests) a b = absurd b
  one_loaded (Matrix options after limit) inputs log logged same (Single l) (Used m requests) a b = absurd b
  one_loaded action.Universe inputs log logged same (Single l) (Used m requests) a b = absurd b
  one_loaded (Lint only skip) inputs log logged same (Single l) (Used m requests) a b = absurd b
  one_loaded Powers inputs log logged same (Single l) (Used m requests) a b = absurd b
  one_loaded (Paths who steps to) inputs log logged same (Single l) (Used m requests) a b = absurd b

  -- what is the same but for the order of requests has one answer
  answers_alike : (e d : Exports) (action : Action) (text other : List ℕ) (status ending : Status) → IsSameOver e d → Answers e action text status → Answers d action other ending
      → (text ≡ other) × (status ≡ ending)
  answers_alike (Single l) d action text other status ending same a b =
      one_answer powers_one paths_one path_one ways_one unused_one least_one d action text other status ending (subst (λ (x : Exports). Answers x action text status) same a) b
  answers_alike (Pair x y) d action text other status ending same a b =
      one_answer powers_one paths_one path_one ways_one unused_one least_one d action text other status ending (subst (λ (z : Exports). Answers z action text status) same a) b
  answers_alike (Used l log) (Single m) action text other status ending same a b =
      one_answer powers_one paths_one path_one ways_one unused_one least_one (Single m) action text other status ending (subst (λ (x : Exports). Answers x action text status) same a) b
  answers_alike (Used l log) (Pair x y) action text other status ending same a b =
      one_answer powers_one paths_one path_one ways_one unused_one least_one (Pair x y) action text other status ending (subst (λ (z : Exports). Answers z action text status) same a) b
  answers_alike (Used l log) (Used m logged) (Unused skip) text other status ending same a b =
      one_unused powers_one paths_one path_one ways_one unused_one least_one m log logged skip text other status ending same.1
      (subst (λ (x : LoadedView). Answers (Used x log) (Unused skip) text status) same.0 a) b
  answers_alike (Used l log) (Used m logged) (Least user names name) text other status ending same a b =
      one_least powers_one paths_one path_one ways_one unused_one least_one m log logged user names name text other status ending same.1
      (subst (λ (x : LoadedView). Answers (Used x log) (Least user names name) text status) same.0 a) b
  answers_alike (Used l log) (Used m logged) (CanI who options q) text other status ending same a b = absurd a
  answers_alike (Used l log) (Used m logged) (WhoCan options q) text other status ending same a b = absurd a
  answers_alike (Used l log) (Used m logged) (WaysTo steps q) text other status ending same a b = absurd a
  answers_alike (Used l log) (Used m logged) (Rules who scope) text other status ending same a b = absurd a
  answers_alike (Used l log) (Used m logged) (Matrix options after limit) text other status ending same a b = absurd a
  answers_alike (Used l log) (Used m logged) action.Universe text other status ending same a b = absurd a
  answers_alike (Used l log) (Used m logged) (Lint only skip) text other status ending same a b = absurd a
  answers_alike (Used l log) (Used m logged) Powers text other status ending same a b = absurd a
  answers_alike (Used l log) (Used m logged) (Paths who steps to) text other status ending same a b = absurd a
  answers_alike (Used l log) (Used m logged) (Diff n change) text other status ending same a b = absurd a

  not_refused : (action : Action) (inputs : List (List ℕ)) (log : List RequestView) (e : Exports) (f : LoadFault) → AreLoaded action inputs log e → AreInputsRefused action inputs f → ⊥
  not_refused (Diff n change) inputs log (Pair x y) f a (inl h) = side_not_refused _ _ x f a.0 h
  not_refused (Diff n change) inputs log (Pair x y) f a (inr h) = side_not_refused _ _ y h.1.0 a.1 h.1.1
  not_refused (Diff n change) inputs log (Single l) f a h = a
  not_refused (Diff n change) inputs log (Used l requests) f a h = a
  not_refused (Unused skip) inputs log (Used l requests) f a h = no_fault inputs l f a.0 h
  not_refused (Least user names name) inputs log (Used l requests) f a h = no_fault inputs l f a.0 h
  not_refused (Unused skip) inputs log (Single l) f a h = a
  not_refused (Least user names name) inputs log (Single l) f a h = a
  not_refused (Unused skip) inputs log (Pair x y) f a h = a
  not_refused (Least user names name) inputs log (Pair x y) f a h = a
  not_refused (CanI who options q) inputs log (Single l) f a h = no_fault inputs l f a h
  not_refused (WhoCan options q) inputs log (Single l) f a h = no_fault inputs l f a h
  not_refused (WaysTo steps q) inputs log (Single l) f a h = no_fault inputs l f a h
  not_refused (Rules who scope) inputs log (Single l) f a h = no_fault inputs l f a h
  not_refused (Matrix options after limit) inputs log (Single l) f a h = no_fault inputs l f a h
  not_refused action.Universe inputs log (Single l) f a h = no_fault inputs l f a h
  not_refused (Lint only skip) inputs log (Single l) f a h = no_fault inputs l f a h
  not_refused Powers inputs log (Single l) f a h = no_fault inputs l f a h
  not_refused (Paths who steps to) inputs log (Single l) f a h = no_fault inputs l f a h
  not_refused (CanI who options q) inputs log (Pair x y) f a h = a
  not_refused (WhoCan options q) inputs log (Pair x y) f a h = a
  not_refused (WaysTo steps q) inputs log (Pair x y) f a h = a
  not_refused (Rules who scope) inputs log (Pair x y) f a h = a
  not_refused (Matrix options after limit) inputs log (Pair x y) f a h = a
  not_refused action.Universe inputs log (Pair x y) f a h = a
  not_refused (Lint only skip) inputs log (Pair x y) f a h = a
  not_refused Powers inputs log (Pair x y) f a h = a
  not_refused (Paths who steps to) inputs log (Pair x y) f a h = a
  not_refused (CanI who options q) inputs log (Used l requests) f a h = a
  not_refused (WhoCan options q) inputs log (Used l requests) f a h = a
  not_refused (WaysTo steps q) inputs log (Used l requests) f a h = a
  not_refused (Rules who scope) inputs log (Used l requests) f a h = a
  not_refused (Matrix options after limit) inputs log (Used l requests) f a h = a
  not_refused action.Universe inputs log (Used l requests) f a h = a
  not_refused (Lint only skip) inputs log (Used l requests) f a h = a
  not_refused Powers inputs log (Used l requests) f a h = a
  not_refused (Paths who steps to) inputs log (Used l requests) f a h = a

  one_refusal : (action : Action) (inputs : List (List ℕ)) (f g : LoadFault) → AreInputsRefused action inputs f → AreInputsRefused action inputs g → f ≡ g
  one_refusal (Diff n change) inputs f g (inl a) (inl b) = one_side_refusal _ _ f g a b
  one_refusal (Diff n change) inputs f g (inl a) (inr b) = absurd (side_not_refused _ _ b.0.0 f b.0.1 a)
  one_refusal (Diff n change) inputs f g (inr a) (inl b) = absurd (side_not_refused _ _ a.0.0 g a.0.1 b)
  one_refusal (Diff n change) inputs f g (inr ((l, is), (own, has, e))) (inr ((m, are), (other, had, d))) =
      e ∙ ap (behind (length (take n inputs))) (one_side_refusal _ _ own other has had) ∙ sym d
  one_refusal (CanI who options q) inputs f g a b = one_fault inputs f g a b
  one_refusal (WhoCan options q) inputs f g a b = one_fault inputs f g a b
  one_refusal (WaysTo steps q) inputs f g a b = one_fault inputs f g a b
  one_refusal (Rules who scope) inputs f g a b = one_fault inputs f g a b
  one_refusal (Matrix options after limit) inputs f g a b = one_fault inputs f g a b
  one_refusal action.Universe inputs f g a b = one_fault inputs f g a b
  one_refusal (Lint only skip) inputs f g a b = one_fault inputs f g a b
  one_refusal (Unused skip) inputs f g a b = one_fault inputs f g a b
  one_refusal (Least user names name) inputs f g a b = one_fault inputs f g a b
  one_refusal Powers inputs f g a b = one_fault inputs f g a b
  one_refusal (Paths who steps to) inputs f g a b = one_fault inputs f g a b

  module _ (command : Command) (inputs : List (List ℕ)) where
    answered : (log logged : List RequestView) → HaveSameRequests log logged → (took others : List ℕ → Type 0) (status : Status) (other : Result Status RunFault) → IsUnstopped other
        → Ends took command inputs log (Ok status) → Ends others command inputs logged other → EndAlike took others (Ok status) other
    answered log logged same took others status (Ok ending) s (l, is, (text, a, t)) (m, are, (more, b, u)) =
        let alike = answers_alike l m command.action text more status ending (one_loaded command.action inputs log logged same l m is are) a b in
        (ap Ok alike.1, (text, t, subst others (sym alike.0) u))
    answered log logged same took others status (Err (Load f)) s (l, is, told) (has, t) = absurd (not_refused command.action inputs log l f is has)
    answered log logged same took others status (Err (Universe f)) s (l, is, (text, a, t)) ((m, are, lacks), u) =
        let here = lacks_back l m command.action f (one_loaded command.action inputs log logged same l m is are) lacks in
        absurd (not_lacking l command.action text status f a here)
    answered log logged same took others status (Err (Memory n)) s a b = absurd s
    answered log logged same took others status (Err (Write n)) s a b = absurd s

    -- both are refused
    refused : (log logged : List RequestView) → HaveSameRequests log logged → (took others : List ℕ → Type 0) (f g : RunFault) → IsUnstopped (Err f) → IsUnstopped (Err g)
        → Ends took command inputs log (Err f) → Ends others command inputs logged (Err g) → EndAlike took others (Err f) (Err g)
    refused log logged same took others (Load f) (Load g) r s a b = (ap (λ x. Err (Load x)) (one_refusal command.action inputs f g a.0 b.0), ([], a.1, b.1))
    refused log logged same took others (Load f) (Universe g) r s a b = absurd (not_refused command.action inputs logged b.0.0 f b.0.1 a.0)
    refused log logged same took others (Universe f) (Load g) r s a b = absurd (not_refused command.action inputs log a.0.0 g a.0.1 b.0)
    refused log logged same took others (Universe f) (Universe g) r s ((l, is, lacks), t) ((m, are, other), u) =
        let here = lacks_alike l m command.action f (one_loaded command.action inputs log logged same l m is are) lacks in
        (ap (λ x. Err (Universe x)) (lacks_for_one m command.action f g here other), ([], t, u))
    refused log logged same took others (Memory n) g r s a b = absurd r
    refused log logged same took others (Write n) g r s a b = absurd r
    refused log logged same took others f (Memory n) r s a b = absurd s
    refused log logged same took others f (Write n) r s a b = absurd s

    pub one_run : (log logged : List RequestView) → HaveSameRequests log logged → (took others : List ℕ → Type 0) (ended other : Result Status RunFault) → IsUnstopped ended → IsUnstopped other
        → Ends took command inputs log ended → Ends others command inputs logged other → EndAlike took others ended other
    one_run log logged same took others (Ok status) other r s a b = answered log logged same took others status other s a b
    one_run log logged same took others (Err f) (Ok ending) r s a b =
        alike_back others took (Ok ending) (Err f) (answered logged log (same_back log logged same) others took ending (Err f) r b a)
    one_run log logged same took others (Err f) (Err g) r s a b = refused log logged same took others f g r s a b
