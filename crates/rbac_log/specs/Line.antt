-- The requests that a line of a log tells of.
use Rattle.std.specs.Prelude.{◌≡◌, ◌≢◌, ◌==◌, ◌||◌, ◌&&◌, ℕ, Bool, false, List, [], ◌∷◌, Option}
use Rattle.std.specs.Prelude.{Some, None}
use Rattle.std.specs.Prelude.{codes, Ok, Err, if◌then◌else◌}
use Rattle.std.specs.List.{list_all}
use Rattle.std.specs.Str.{bytes_eq}
use Rattle.serde_json.specs.Data.{Data}
use Rattle.serde_json.specs.Read.{read}
use Rattle.serde_json.specs.View.{view}
use Rattle.serde_json.specs.declared.value.Value.{Value}
use Rattle.json_fields.specs.Fields.{text_at, list_field, is_object}
use Rattle.rbac_terms.specs.Text.{Text}
use Rattle.rbac_log.specs.Event.{told}
use Rattle.rbac_log.specs.Outcome.{Outcome, and_then, after}
use Rattle.rbac_log.specs.declared.fault.LineFault.TheVariants.{NotJson, NotAnEvent, NoMemory}
use Rattle.rbac_log.specs.declared.logged.LoggedRequest.{LoggedRequest}

-- whether a field has this text
abbrev pub has_value : Text → Option Text → Bool
has_value wanted None = false
has_value wanted (Some t) = bytes_eq t wanted

-- a value of this kind and of the version that is read
unfoldable pub is_kind : Text → Data → Bool
is_kind kind d = has_value kind (text_at (codes "kind") d)
    && has_value (codes "audit.k8s.io/v1") (text_at (codes "apiVersion") d)

-- a field has this text, or is missing
abbrev pub has_value_or_none : Text → Option Text → Bool
has_value_or_none wanted t = has_value [] t || has_value wanted t

-- an item of a list is an event, whose kind and version may be left out
unfoldable pub is_item : Data → Bool
is_item d = is_object d && has_value_or_none (codes "Event") (text_at (codes "kind") d)
    && has_value_or_none (codes "audit.k8s.io/v1") (text_at (codes "apiVersion") d)

-- the requests of an item of a list
unfoldable pub told_by_item : Data → Outcome (List LoggedRequest)
told_by_item d = if is_item d then told d else Err NotAnEvent

-- the requests of all items, in order, or the fault of the first item that has one
abbrev pub told_by_items : List Data → Outcome (List LoggedRequest)
told_by_items [] = Ok []
told_by_items (d ∷ ds) = and_then (told_by_item d) (λ rs. after rs (told_by_items ds))

abbrev pub told_by_list : Option (List Data) → Outcome (List LoggedRequest)
told_by_list None = Err NotAnEvent
told_by_list (Some ds) = told_by_items ds

-- the requests of a value, which is an event or a list of events
unfoldable pub told_by_value : Data → Outcome (List LoggedRequest)
told_by_value d =
    if is_kind (codes "Event") d then told d
    else if is_kind (codes "EventList") d then told_by_list (list_field (codes "items") d)
    else Err NotAnEvent

-- the value of a line; what isn't JSON is refused
abbrev pub told_by_json : Option Data → Outcome (List LoggedRequest)
told_by_json None = Err NotJson
told_by_json (Some d) = told_by_value d

-- a blank of JSON: a space, a tab, a newline or a carriage return
abbrev pub is_blank : ℕ → Bool
is_blank b = b == 32 || b == 9 || b == 10 || b == 13

-- the requests of a line; none if it is empty or has blanks alone
unfoldable pub requests_in : Text → Outcome (List LoggedRequest)
requests_in line = if list_all is_blank line then Ok [] else told_by_json (read line)

-- a value was read that tells what the line's tells; or the line has none, unless memory ran out
abbrev pub IsToldBy : Outcome Value → Option Data → Type 0
IsToldBy (Ok value) d = told_by_json d ≡ told_by_value (view value)
IsToldBy (Err e) d = e ≢ NoMemory → (e ≡ NotJson) × (d ≡ None)
