-- The requests that an event tells of (Auditing, audit.k8s.io/v1 Event).
use Rattle.std.specs.Prelude.{ℕ, ◌==◌, ◌&&◌, Bool, false, not, List, [], ◌++◌, Option, Some, None}
use Rattle.std.specs.Prelude.{codes, option_map, option_and_then, Ok, if◌then◌else◌}
use Rattle.std.specs.Option.{option_to_list}
use Rattle.std.specs.Str.{bytes_eq}
use Rattle.serde_json.specs.Data.{Data}
use Rattle.serde_json.specs.Find.{get, as_number, as_u64}
use Rattle.json_fields.specs.Fields.{field, text_at, is_object}
use Rattle.rbac_terms.specs.Text.{Text}
use Rattle.rbac_terms.specs.Principals.{Who}
use Rattle.rbac_log.specs.Acting.{impersonations}
use Rattle.rbac_log.specs.Asked.{asked_at}
use Rattle.rbac_log.specs.Outcome.{Outcome, and_then, or_fault}
use Rattle.rbac_log.specs.User.{full_text, user_told, impersonated_at}
use Rattle.rbac_log.specs.declared.asked.Asked.{Asked}
use Rattle.rbac_log.specs.declared.fault.LineFault.TheVariants.{BadStage, BadAnnotations, BadVerb}
use Rattle.rbac_log.specs.declared.fault.LineFault.TheVariants.{BadUser, BadImpersonatedUser}
use Rattle.rbac_log.specs.declared.logged.LoggedRequest.{LoggedRequest}

-- ---- which events count

-- what the server decided; empty if the event doesn't tell
abbrev pub decision_in : Option Data → Option Text
decision_in None = Some []
decision_in (Some d) =
    if is_object d then text_at (codes "authorization.k8s.io/decision") d else None

unfoldable pub decision_at : Data → Option Text
decision_at d = decision_in (field (codes "annotations") d)

-- the code of the server's answer, if the event tells it
unfoldable pub code_at : Data → Option ℕ
code_at d = option_and_then as_u64 (option_and_then as_number
    (option_and_then (get (codes "code")) (field (codes "responseStatus") d)))

-- the server refused to say anything to whoever it doesn't know
abbrev pub is_unauthorized : Option ℕ → Bool
is_unauthorized None = false
is_unauthorized (Some code) = code == 401

-- an event doesn't count if its request was only received, since a later event tells of it again;
-- if the server has forbidden it; or if the server didn't know who asked
abbrev pub counts : Text → Text → Option ℕ → Bool
counts stage decision code = not (bytes_eq stage (codes "RequestReceived"))
    && (not (bytes_eq decision (codes "forbid")) && not (is_unauthorized code))

unfoldable pub counts_at : Data → Outcome Bool
counts_at d =
    and_then (or_fault BadStage (full_text (codes "stage") d)) (λ stage.
    and_then (or_fault BadAnnotations (decision_at d)) (λ decision.
    Ok (counts stage decision (code_at d))))

-- ---- its requests

-- the request that was asked; none if it isn't for a proper target
abbrev pub asked_by : Who → Text → Asked → List LoggedRequest
asked_by who verb asked = option_to_list (option_map (λ target. record {
  who = who;
  namespace = asked.namespace;
  verb = verb;
  target = target;
}) asked.target)

-- the user asked; or the user acted as another, who asked
abbrev pub requests_of : Text → Who → Option Who → Asked → List LoggedRequest
requests_of verb user None asked = asked_by user verb asked
requests_of verb user (Some other) asked = impersonations user other ++ asked_by other verb asked

-- the requests of an event that counts
unfoldable pub told_if_counted : Data → Outcome (List LoggedRequest)
told_if_counted d =
    and_then (or_fault BadVerb (full_text (codes "verb") d)) (λ verb.
    and_then (or_fault BadUser (user_told d)) (λ user.
    and_then (or_fault BadImpersonatedUser (impersonated_at d)) (λ impersonated.
    and_then (asked_at verb d) (λ asked.
    Ok (requests_of verb user impersonated asked)))))

-- the requests of an event; none if it doesn't count
unfoldable pub told : Data → Outcome (List LoggedRequest)
told d = and_then (counts_at d) (λ counts. if counts then told_if_counted d else Ok [])
