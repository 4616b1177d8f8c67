-- What the inputs of an action give, and their refusals.
use Rattle.std.proofs.Common.{Bool, ◌≡◌, ◌≢◌, ◌<◌, ◌≤◌, ◌+◌, ◌⊎◌, ◌∙◌, ℕ, suc, List, [], ◌∷◌, ◌++◌, length, refl, sym, subst, ap, ap₂, inl, inr, arith, take, drop, Vec, Global}
use Rattle.std.specs.Option.{option_map}
use Rattle.std.proofs.lemmas.List.{take-append-drop}
use Rattle.std.specs.Prelude.{Option, Some, None, IfErr, IfOk, IfSome, IsOkAnd, Result, Ok, Err, MatchResult}
use Rattle.rbac_manifest.specs.declared.fault.At.{At}
use Rattle.rbac_manifest.specs.declared.fault.Cause.{Cause}
use Rattle.rbac_manifest.specs.declared.fault.Cause.TheVariants.{NotJson, NotAnObject, BadVersion, BadMetadata, BadRule, BadRoleRef, BadSubject, BadSelector, BadCatalogue, BadUniverse, BadGroup, TooMany, NoMemory}
use Rattle.rbac_manifest.specs.declared.fault.LoadFault.{LoadFault}
use Rattle.rbac_model.specs.Policies.{PolicyView}
use Rattle.rbac_model.specs.declared.objects.Object.{Object}
use Rattle.rbac_diff.specs.Requests.{RequestView}
use Rattle.rbac_manifest.specs.Load.{HasTooManyGrants, LoadedView, document_fault, fault_from, file_refusal, in_file}
use Rattle.rbac_question.specs.declared.command.Action.{Action}
use Rattle.rbac_question.specs.declared.command.Action.TheVariants.{CanI, WhoCan, WaysTo, Rules, Matrix, Least, Lint, Unused, Powers, Paths, Diff}
use Rattle.rbac_question.specs.declared.command.Action.TheVariants as action
use Rattle.rbac_question.specs.declared.command.Change.{Change}
use Rattle.rbac_question.specs.declared.command.Change.TheVariants.{Over}
use Rattle.rbac_manifest.specs.Changed.{IsResolved, changed_objects}
use Rattle.rbac_cli.specs.Exports.{AreLoaded, IsSideAfter, IsFaultOfBoth, IsForAction, IsSideRefused, behind, objects_after, objects_of}
use Rattle.rbac_question.specs.declared.command.Command.{Command}
use Rattle.rbac_cli.specs.Ends.{FailsToLoad, Ends, Writes}
use Rattle.rbac_cli.specs.Printing.{StopsWith}
use Rattle.rbac_cli.specs.declared.exports.Exports.{Exports}
use Rattle.rbac_cli.specs.declared.exports.Exports.TheVariants.{Single, Pair, Used}
use Rattle.rbac_cli.specs.declared.outcome.RunFault.{RunFault}
use Rattle.rbac_cli.specs.declared.outcome.RunFault.TheVariants.{Load, Universe, Memory, Write}
use Rattle.rbac_cli.specs.declared.outcome.Status.{Status}

-- what is loaded for an action is what it is answered over
pub over : (a : Action) (inputs : List (List ℕ)) (log : List RequestView) (e : Exports) → AreLoaded a inputs log e → IsForAction a e
over (CanI who options q) inputs log (Single l) h = tt
over (WhoCan options q) inputs log (Single l) h = tt
over (WaysTo steps q) inputs log (Single l) h = tt
over (Rules who scope) inputs log (Single l) h = tt
over (Matrix options after limit) inputs log (Single l) h = tt
over (Lint only skip) inputs log (Single l) h = tt
over Powers inputs log (Single l) h = tt
over (Paths who steps to) inputs log (Single l) h = tt
over action.Universe inputs log (Single l) h = tt
over (CanI who options q) inputs log (Pair x y) h = h
over (WhoCan options q) inputs log (Pair x y) h = h
over (WaysTo steps q) inputs log (Pair x y) h = h
over (Rules who scope) inputs log (Pair x y) h = h
over (Matrix options after limit) inputs log (Pair x y) h = h
over (Lint only skip) inputs log (Pair x y) h = h
over Powers inputs log (Pair x y) h = h
over (Paths who steps to) inputs log (Pair x y) h = h
over action.Universe inputs log (Pair x y) h = h
over (CanI who options q) inputs log (Used l requests) h = h
over (WhoCan options q) inputs log (Used l requests) h = h
over (WaysTo steps q) inputs log (Used l requests) h = h
over (Rules who scope) inputs log (Used l requests) h = h
over (Matrix options after limit) inputs log (Used l requests) h = h
over (Lint only skip) inputs log (Used l requests) h = h
over Powers inputs log (Used l requests) h = h
over (Paths who steps to) inputs log (Used l requests) h = h
over action.Universe inputs log (Used l requests) h = h
over (Diff n change) inputs log (Single l) h = h
over (Diff n change) inputs log (Pair x y) h = tt
over (Diff n change) inputs log (Used l requests) h = h
over (Unused skip) inputs log (Single l) h = h
over (Least user names name) inputs log (Single l) h = h
over (Unused skip) inputs log (Pair x y) h = h
over (Least user names name) inputs log (Pair x y) h = h
over (Unused skip) inputs log (Used l requests) h = tt
over (Least user names name) inputs log (Used l requests) h = tt

-- ---- the file of a fault is one of the inputs

abbrev IsWithin : ℕ → LoadFault → Type 0
IsWithin n f = IfSome f.at (λ at. at.file < n)

none_or : {T : Type 0} (o : Option T) → (o ≡ None) ⊎ ((x : T) × (o ≡ Some x))
none_or None = inl refl
none_or (Some x) = inr (x, refl)

file_within : (k n : ℕ) (inputs : List (List ℕ)) (f : LoadFault) → k + length inputs ≤ n → fault_from k inputs ≡ Some f → IsWithin n f
file_within k n [] f le e = cc
file_within k n (x ∷ xs) f le e = elim (none_or (file_refusal x)) [
  | inl none ↦ file_within (k + 1) n xs f (omega (arith, le)) (rw none at e)
  | inr (r, some) ↦ let same : in_file k r ≡ f = let found = rw some at e in cc in
      let lt : k < n = omega (arith, le) in subst (IsWithin n) same lt
]

-- so its number among all inputs is below theirs
pub fault_within : (inputs : List (List ℕ)) (f : LoadFault) → document_fault inputs ≡ Some f → IfSome f.at (λ at. at.file < length inputs)
fault_within inputs f h = file_within 0 (length inputs) inputs f (omega arith) h

pub side_within : (inputs : List (List ℕ)) (objects : List Object) (f : LoadFault) → IsSideRefused inputs objects f → IfSome f.at (λ at. at.file < length inputs)
side_within inputs objects f (inl h) = fault_within inputs f h
side_within inputs objects f (inr (none, many)) = subst (IsWithin (length inputs)) (sym many.0) tt

-- ---- the fault of inputs that stand behind others

-- files counted from a later place
moved : (n k : ℕ) (inputs : List (List ℕ)) → fault_from (n + k) inputs ≡ option_map (behind n) (fault_from k inputs)
moved n k [] = refl
moved n k (x ∷ xs) = elim (none_or (file_refusal x)) [
  | inl none ↦ let e : n + k + 1 ≡ n + (k + 1) = omega arith in rw none (ap (λ (m : ℕ). fault_from m xs) e ∙ moved n (k + 1) xs)
  | inr (r, some) ↦ rw some refl
]

none_moved : (n : ℕ) (o p : Option LoadFault) → o ≡ option_map (behind n) p → p ≡ None → o ≡ None
none_moved n o p e none = e ∙ ap (option_map (behind n)) none

some_moved : (n : ℕ) (o p : Option LoadFault) (f : LoadFault) → o ≡ option_map (behind n) p → p ≡ Some f → o ≡ Some (behind n f)
some_moved n o p f e some = e ∙ ap (option_map (behind n)) some

shifted : (n : ℕ) (inputs : List (List ℕ)) → fault_from n inputs ≡ option_map (behind n) (document_fault inputs)
shifted n inputs = let e : n + 0 ≡ n = omega arith in ap (λ (m : ℕ). fault_from m inputs) (sym e) ∙ moved n 0 inputs

-- the first of two lists of inputs has no fault, so the fault of both is that of the others
past_from : (k : ℕ) (xs ys : List (List ℕ)) → fault_from k xs ≡ None → fault_from k (xs ++ ys) ≡ fault_from (k + length xs) ys
past_from k [] ys none = let e : k ≡ k + 0 = omega arith in ap (λ (m : ℕ). fault_from m ys) e
past_from k (x ∷ xs) ys none = elim (none_or (file_refusal x)) [
  | inl e ↦
      let rest = rw e at none in
      let n : k + 1 + length xs ≡ k + suc (length xs) = omega arith in
      rw e (past_from (k + 1) xs ys rest ∙ ap (λ (m : ℕ). fault_from m ys) n)
  | inr (r, e) ↦ let some = rw e at none in cc
]

in_first : (k : ℕ) (xs ys : List (List ℕ)) (f : LoadFault) → fault_from k xs ≡ Some f → fault_from k (xs ++ ys) ≡ Some f
in_first k [] ys f some = cc
in_first k (x ∷ xs) ys f some = elim (none_or (file_refusal x)) [
  | inl e ↦ let rest = rw e at some in rw e (in_first (k + 1) xs ys f rest)
  | inr (r, e) ↦ let here = rw e at some in rw e here
]

module _ (xs ys : List (List ℕ)) where
  -- what is no fault of the first is that of the others, which stand behind them
  behind_first : document_fault xs ≡ None → document_fault (xs ++ ys) ≡ option_map (behind (length xs)) (document_fault ys)
  behind_first none =
      let e : 0 + length xs ≡ length xs = omega arith in
      past_from 0 xs ys none ∙ ap (λ (m : ℕ). fault_from m ys) e ∙ shifted (length xs) ys

  pub fault_of_both : (f : LoadFault) → IsFaultOfBoth xs ys f → document_fault (xs ++ ys) ≡ Some f
  fault_of_both f (inl some) = in_first 0 xs ys f some
  fault_of_both f (inr (none, (own, some, e))) = some_moved (length xs) _ _ own (behind_first none) some ∙ ap Some (sym e)

  pub no_fault_of_both : document_fault xs ≡ None → document_fault ys ≡ None → document_fault (xs ++ ys) ≡ None
  no_fault_of_both none others = none_moved (length xs) _ _ (behind_first none) others

-- ---- what a change makes of objects, with the inputs cut at a number

module _ (n : ℕ) (others xs ys : List (List ℕ)) (first : xs ≡ take n others) (rest : ys ≡ drop n others) where
  whole : xs ++ ys ≡ others
  whole = ap₂ (λ (a : List (List ℕ)) (b : List (List ℕ)). a ++ b) first rest ∙ take-append-drop n others

  pub over_ok : (objects changed : List Object) → document_fault xs ≡ None → document_fault ys ≡ None → changed ≡ changed_objects objects (objects_of xs) (objects_of ys)
      → (document_fault others ≡ None) × (changed ≡ objects_after (Over n) objects others)
  over_ok objects changed none nothing e = (
    ap document_fault (sym whole) ∙ no_fault_of_both xs ys none nothing,
    e ∙ ap₂ (λ (a : List (List ℕ)) (b : List (List ℕ)). changed_objects objects (objects_of a) (objects_of b)) first rest,
  )

  pub over_fault : (f : LoadFault) → IsFaultOfBoth xs ys f → document_fault others ≡ Some f
  over_fault f h = ap document_fault (sym whole) ∙ fault_of_both xs ys f h

-- ---- a fault of those after a change

memory_or : (c : Cause) → (c ≡ NoMemory) ⊎ (c ≢ NoMemory)
memory_or NotJson = inr (λ e. cc)
memory_or NotAnObject = inr (λ e. cc)
memory_or BadVersion = inr (λ e. cc)
memory_or BadMetadata = inr (λ e. cc)
memory_or (BadRule n) = inr (λ e. cc)
memory_or BadRoleRef = inr (λ e. cc)
memory_or (BadSubject n) = inr (λ e. cc)
memory_or BadSelector = inr (λ e. cc)
memory_or BadCatalogue = inr (λ e. cc)
memory_or BadUniverse = inr (λ e. cc)
memory_or BadGroup = inr (λ e. cc)
memory_or TooMany = inr (λ e. cc)
memory_or NoMemory = inl refl

file_fits : (before n most : ℕ) (at : Option At) → ((k : ℕ) → k < n → before + k < most) → IfSome at (λ a. a.file < n) → IfSome at (λ a. before + a.file < most)
file_fits before n most None f h = tt
file_fits before n most (Some a) f h = f a.file h

-- its number among all inputs is a number of the machine
pub number_fits : (before most : ℕ) (others : List (List ℕ)) (fault : LoadFault) → before + length others < most
    → (fault.cause ≢ NoMemory → IfSome fault.at (λ at. at.file < length others)) → (fault.cause ≡ NoMemory → fault.at ≡ None) → IfSome fault.at (λ at. before + at.file < most)
number_fits before most others fault few within none = elim (memory_or fault.cause) [
  | inl memory ↦ subst (λ (o : Option At). IfSome o (λ at. before + at.file < most)) (sym (none memory)) tt
  | inr refused ↦ file_fits before (length others) most fault.at (λ k lt. omega (arith, few, lt)) (within refused)
]

-- a side that is refused, or for which memory is lacking, fails to load
pub side_fails : (refused : LoadFault → Type 0) (fault : LoadFault) (ended : RunFault) → (fault.cause ≢ NoMemory → refused fault)
    → (fault.cause ≢ NoMemory → ended ≡ Load fault) → (fault.cause ≡ NoMemory → ended ≡ Memory 0) → FailsToLoad refused ended
side_fails refused fault ended has told memory = elim (memory_or fault.cause) [
  | inl e ↦ rw (memory e) refl
  | inr n ↦ rw (told n) (has n)
]

-- ---- the side after a change

-- the policy of what a change makes of objects
pub after_ok : (change : Change) (first others : List (List ℕ)) (objects : List Object) (r : Result (Vec Object Global) LoadFault) (p : PolicyView) → objects ≡ objects_of first
    → IfOk r (λ v. (document_fault others ≡ None) × (v.items ≡ objects_after change objects others)) → IsOkAnd r (λ v. IsResolved v.items p) → IsSideAfter change first others p
after_ok change first others objects (Ok v) p same (none, e) is =
    (none, subst (λ (os : List Object). IsResolved (objects_after change os others) p) same (subst (λ (os : List Object). IsResolved os p) e is))
after_ok change first others objects (Err f) p same h is = absurd is

pub after_refused : (change : Change) (first others : List (List ℕ)) (objects : List Object) (r : Result (Vec Object Global) LoadFault) (f : LoadFault) → objects ≡ objects_of first
    → IfOk r (λ v. (document_fault others ≡ None) × (v.items ≡ objects_after change objects others))
    → IfErr r (λ e. e.cause ≢ NoMemory → document_fault others ≡ Some e)
    → (r ≡ Err f) ⊎ IsOkAnd r (λ v. f.cause ≢ NoMemory → HasTooManyGrants v.items f)
    → f.cause ≢ NoMemory → IsSideRefused others (objects_after change (objects_of first) others) f
after_refused change first others objects (Ok v) f same (none, e) err (inl is) refused = cc
after_refused change first others objects (Ok v) f same (none, e) err (inr many) refused = inr (
  none,
  subst (λ (os : List Object). HasTooManyGrants (objects_after change os others) f) same (subst (λ (os : List Object). HasTooManyGrants os f) e (many refused)),
)
after_refused change first others objects (Err g) f same ok err (inl is) refused =
    let e : g ≡ f = cc in inl (subst (λ (x : LoadFault). document_fault others ≡ Some x) e (err (subst (λ (x : LoadFault). x.cause ≢ NoMemory) (sym e) refused)))
after_refused change first others objects (Err g) f same ok err (inr many) refused = absurd many

pub after_memory : (r : Result (Vec Object Global) LoadFault) (f : LoadFault) → IfErr r (λ e. e.cause ≡ NoMemory → e.at ≡ None)
    → (r ≡ Err f) ⊎ (f.cause ≡ NoMemory → f.at ≡ None) → f.cause ≡ NoMemory → f.at ≡ None
after_memory (Ok v) f h (inl is) memory = cc
after_memory (Err g) f h (inl is) memory =
    let e : g ≡ f = cc in subst (λ (x : LoadFault). x.at ≡ None) e (h (subst (λ (x : LoadFault). x.cause ≡ NoMemory) (sym e) memory))
after_memory r f h (inr known) memory = known memory

-- a fault that moved behind others is one of memory if it was one before
pub moved_cause : (n : ℕ) (own moved : LoadFault) → moved ≡ behind n own → moved.cause ≢ NoMemory → own.cause ≢ NoMemory
moved_cause n own moved e refused memory = refused (ap (λ (f : LoadFault). f.cause) e ∙ memory)

pub moved_memory : (n : ℕ) (own moved : LoadFault) → moved ≡ behind n own → (own.cause ≡ NoMemory → own.at ≡ None) → moved.cause ≡ NoMemory → moved.at ≡ None
moved_memory n own moved e none memory =
    ap (λ (f : LoadFault). f.at) e ∙ ap (λ (o : Option At). option_map (λ (at : At). record at { file = n + at.file }) o) (none (sym (ap (λ (f : LoadFault). f.cause) e) ∙ memory))

-- a run ends as writing the answer over what was loaded ends
pub ended : (took : List ℕ → Type 0) (command : Command) (inputs : List (List ℕ)) (log : List RequestView) (e : Exports) (r : Result Status RunFault) → AreLoaded command.action inputs log e
    → MatchResult r (Writes took e command.action) (StopsWith took e command.action) → Ends took command inputs log r
ended took command inputs log e (Ok status) is h = (e, is, h)
ended took command inputs log e (Err (Load f)) is h = absurd h
ended took command inputs log e (Err (Universe f)) is h = ((e, is, h.0), h.1)
ended took command inputs log e (Err (Memory n)) is (inl h) = inl h
ended took command inputs log e (Err (Memory n)) is (inr h) = inr (e, is, h)
ended took command inputs log e (Err (Write n)) is h = (e, is, h)

-- what is printed for `diff` is what is printed for the one action that is answered over two policies
pub of_diff : (P : Action → Type 0) (a : Action) (before after : PolicyView) → IsForAction a (Pair before after) → ((n : ℕ) (change : Change) → P (Diff n change)) → P a
of_diff P (Diff n change) before after is h = h n change
of_diff P (CanI who options q) before after is h = absurd is
of_diff P (WhoCan options q) before after is h = absurd is
of_diff P (WaysTo steps q) before after is h = absurd is
of_diff P (Rules who scope) before after is h = absurd is
of_diff P (Matrix options mark limit) before after is h = absurd is
of_diff P action.Universe before after is h = absurd is
of_diff P (Lint only skip) before after is h = absurd is
of_diff P Powers before after is h = absurd is
of_diff P (Paths who steps to) before after is h = absurd is
of_diff P (Unused skip) before after is h = absurd is
of_diff P (Least user names name) before after is h = absurd is
