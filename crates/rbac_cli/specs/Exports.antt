-- What the inputs of a command give, and why they give nothing.
use Rattle.std.specs.Prelude.{◌≡◌, ◌+◌, ◌⊎◌, ℕ, List, Some, None, length, take, drop}
use Rattle.std.specs.Option.{option_map}
use Rattle.rbac_diff.specs.Requests.{RequestView}
use Rattle.rbac_model.specs.Policies.{PolicyView}
use Rattle.rbac_model.specs.declared.objects.Object.{Object}
use Rattle.rbac_manifest.specs.Changed.{IsResolved, changed_objects}
use Rattle.rbac_manifest.specs.Contents.{objects_in}
use Rattle.rbac_manifest.specs.Load.{IsLoaded, HasFault, HasTooManyGrants}
use Rattle.rbac_manifest.specs.Load.{all_contents, document_fault}
use Rattle.rbac_manifest.specs.declared.fault.At.{At}
use Rattle.rbac_manifest.specs.declared.fault.LoadFault.{LoadFault}
use Rattle.rbac_question.specs.declared.command.Action.{Action}
use Rattle.rbac_question.specs.declared.command.Action.TheVariants.{Diff, Least, Unused}
use Rattle.rbac_question.specs.declared.command.Change.{Change}
use Rattle.rbac_question.specs.declared.command.Change.TheVariants.{After, Over}
use Rattle.rbac_cli.specs.declared.exports.Exports.{Exports}
use Rattle.rbac_cli.specs.declared.exports.Exports.TheVariants.{Single, Pair, Used}

-- the objects that documents give, in order
abbrev pub objects_of : List (List ℕ) → List Object
objects_of inputs = objects_in (all_contents inputs)

-- the objects after a change of these: those of the other inputs; or these objects without those
-- that the first n other inputs name, and then the objects of the rest
abbrev pub objects_after : Change → List Object → List (List ℕ) → List Object
objects_after After objects others = objects_of others
objects_after (Over n) objects others =
    changed_objects objects (objects_of (take n others)) (objects_of (drop n others))

-- a side of a change: its documents are accepted, and its objects have this policy
abbrev pub IsSide : List (List ℕ) → List Object → PolicyView → Type 0
IsSide inputs objects p = (document_fault inputs ≡ None) × IsResolved objects p

-- a side of a change is refused for this fault: that of the first document that has one, or, if
-- none has one, too many grants of its objects
abbrev pub IsSideRefused : List (List ℕ) → List Object → LoadFault → Type 0
IsSideRefused inputs objects fault = (document_fault inputs ≡ Some fault)
    ⊎ ((document_fault inputs ≡ None) × HasTooManyGrants objects fault)

-- the side before a change
abbrev pub IsSideBefore : List (List ℕ) → PolicyView → Type 0
IsSideBefore first p = IsSide first (objects_of first) p

-- the side after a change
abbrev pub IsSideAfter : Change → List (List ℕ) → List (List ℕ) → PolicyView → Type 0
IsSideAfter change first others p = IsSide others (objects_after change (objects_of first) others) p

-- a fault of inputs that come behind n others, with its file counted among all of them
abbrev pub behind : ℕ → LoadFault → LoadFault
behind n fault =
    record fault { at = option_map (λ (at : At). record at { file = n + at.file }) fault.at }

-- the fault of the first document that has one, among the first inputs and then the others
abbrev pub IsFaultOfBoth : List (List ℕ) → List (List ℕ) → LoadFault → Type 0
IsFaultOfBoth first others fault = (document_fault first ≡ Some fault)
    ⊎ ((document_fault first ≡ None) × ((own : LoadFault) × (document_fault others ≡ Some own)
    × (fault ≡ behind (length first) own)))

-- a change is refused for this fault: that of the side before or, if this side is loaded, that of
-- the side after, with files counted among all
abbrev pub IsChangeRefused : Change → List (List ℕ) → List (List ℕ) → LoadFault → Type 0
IsChangeRefused change first others fault = IsSideRefused first (objects_of first) fault
    ⊎ (((before : PolicyView) × IsSideBefore first before) × ((own : LoadFault)
    × IsSideRefused others (objects_after change (objects_of first) others) own
    × (fault ≡ behind (length first) own)))

-- the inputs are loaded: for `diff` the first n give the policy before a change, and the others the
-- one after it; otherwise all together give an export, which comes with the log for `unused` and
-- `least`
abbrev pub AreLoaded : Action → List (List ℕ) → List RequestView → Exports → Type 0
AreLoaded (Diff n change) inputs log (Pair before after) =
    IsSideBefore (take n inputs) before × IsSideAfter change (take n inputs) (drop n inputs) after
AreLoaded (Unused skip_system) inputs log (Used l requests) =
    IsLoaded inputs l × (requests ≡ log)
AreLoaded (Least user names name) inputs log (Used l requests) =
    IsLoaded inputs l × (requests ≡ log)
AreLoaded (Diff n change) inputs log e = ⊥
AreLoaded (Unused skip_system) inputs log e = ⊥
AreLoaded (Least user names name) inputs log e = ⊥
AreLoaded action inputs log (Single l) = IsLoaded inputs l
AreLoaded action inputs log e = ⊥

-- the inputs are refused for this fault
abbrev pub AreInputsRefused : Action → List (List ℕ) → LoadFault → Type 0
AreInputsRefused (Diff n change) inputs fault =
    IsChangeRefused change (take n inputs) (drop n inputs) fault
AreInputsRefused action inputs fault = HasFault inputs fault

-- what the action is answered over: `diff` over two policies, `unused` and `least` over an export
-- and a log, everything else over one export
abbrev pub IsForAction : Action → Exports → Type 0
IsForAction (Diff n change) (Pair before after) = Unit {0}
IsForAction (Unused skip_system) (Used l log) = Unit {0}
IsForAction (Least user names name) (Used l log) = Unit {0}
IsForAction (Diff n change) e = ⊥
IsForAction (Unused skip_system) e = ⊥
IsForAction (Least user names name) e = ⊥
IsForAction action (Single l) = Unit {0}
IsForAction action e = ⊥
