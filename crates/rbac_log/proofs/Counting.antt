-- What events tell that don't count, and what lists of events tell.
use Rattle.std.proofs.Common.{◌≡◌, ◌&&◌, Bool, true, false, List, [], ◌∷◌, ◌++◌, Some, Ok, Err, cond, refl, sym, ap, ◌∙◌, append_assoc}
use Rattle.std.specs.Prelude.{codes, not}
use Rattle.std.specs.Str.{bytes_eq}
use Rattle.serde_json.specs.Data.{Data}
use Rattle.json_fields.specs.Fields.{text_at}
use Rattle.rbac_terms.specs.Text.{Text}
use Rattle.rbac_log.specs.Event.{code_at, counts_at, decision_at, told, told_if_counted}
use Rattle.rbac_log.specs.Line.{told_by_item, told_by_items}
use Rattle.rbac_log.specs.Outcome.{Outcome, and_then, after}
use Rattle.rbac_log.specs.User.{full_text}
use Rattle.rbac_log.specs.declared.fault.LineFault.{LineFault}
use Rattle.rbac_log.specs.declared.logged.LoggedRequest.{LoggedRequest}

pub received : (d : Data) (decision : Text) → text_at (codes "stage") d ≡ Some (codes "RequestReceived") → decision_at d ≡ Some decision → told d ≡ Ok []
unfolding told counts_at full_text
received d decision e f = rw (e, f) refl

neither : (b : Bool) (said : Outcome (List LoggedRequest)) → cond (b && false) said (Ok []) ≡ Ok []
neither true said = refl
neither false said = refl

pub forbidden : (d : Data) (stage : Text) → full_text (codes "stage") d ≡ Some stage → decision_at d ≡ Some (codes "forbid") → told d ≡ Ok []
unfolding told counts_at
forbidden d stage e f = rw (e, f) (neither (not (bytes_eq stage (codes "RequestReceived"))) (told_if_counted d))

none_of_three : (b c : Bool) (said : Outcome (List LoggedRequest)) → cond (b && (c && false)) said (Ok []) ≡ Ok []
none_of_three true true said = refl
none_of_three true false said = refl
none_of_three false c said = refl

pub unauthorized : (d : Data) (stage decision : Text) → full_text (codes "stage") d ≡ Some stage → decision_at d ≡ Some decision → code_at d ≡ Some 401 → told d ≡ Ok []
unfolding told counts_at
unauthorized d stage decision e f g = rw (e, f, g) (none_of_three (not (bytes_eq stage (codes "RequestReceived"))) (not (bytes_eq decision (codes "forbid"))) (told_if_counted d))

joined : (o p q : Outcome (List LoggedRequest)) (rs more : List LoggedRequest) → and_then o (λ xs. after xs p) ≡ Ok rs → ((ys : List LoggedRequest) → p ≡ Ok ys → q ≡ Ok (ys ++ more)) → and_then o (λ xs. after xs q) ≡ Ok (rs ++ more)
joined (Err e) p q rs more h g = cc
joined (Ok xs) (Err e) q rs more h g = cc
joined (Ok xs) (Ok ys) q rs more h g =
    let same : xs ++ ys ≡ rs = cc in
    rw (g ys refl) (ap (λ t. Ok t) (sym (append_assoc xs ys more) ∙ ap (λ t. t ++ more) same))

pub in_order : (ds es : List Data) (rs more : List LoggedRequest) → told_by_items ds ≡ Ok rs → told_by_items es ≡ Ok more → told_by_items (ds ++ es) ≡ Ok (rs ++ more)
in_order [] es rs more e f = let none : [] ≡ rs = cc in f ∙ ap (λ t. Ok (t ++ more)) none
in_order (d ∷ ds) es rs more e f =
    joined (told_by_item d) (told_by_items ds) (told_by_items (ds ++ es)) rs more e (λ ys g. in_order ds es ys more g f)

failed : (o p q : Outcome (List LoggedRequest)) (fault : LineFault) → and_then o (λ xs. after xs p) ≡ Err fault → (p ≡ Err fault → q ≡ Err fault) → and_then o (λ xs. after xs q) ≡ Err fault
failed (Err e) p q fault h g = h
failed (Ok xs) (Ok ys) q fault h g = cc
failed (Ok xs) (Err e) q fault h g = rw (g h) refl

pub first_fault : (ds es : List Data) (fault : LineFault) → told_by_items ds ≡ Err fault → told_by_items (ds ++ es) ≡ Err fault
first_fault [] es fault e = cc
first_fault (d ∷ ds) es fault e = failed (told_by_item d) (told_by_items ds) (told_by_items (ds ++ es)) fault e (first_fault ds es fault)
