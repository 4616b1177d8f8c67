-- How far a log is read by a piece of it, line by line.
use Rattle.std.proofs.Common.{◌≡◌, ◌∙◌, ◌⊎◌, ◌<◌, ◌≤◌, ◌+◌, ℕ, suc, List, [], ◌∷◌, ◌++◌, Contains, Ok, Err, ap, append_assoc, arith, false, inl, inr, length, refl, subst, sym}
use Rattle.std.specs.Prelude.{IfErr, OnOk, Option, Result}
use Rattle.std.specs.Io.KnownBytes.{Consumes, IsAtEnd}
use Rattle.std.proofs.KnownBytes.{Consumes-trans}
use Rattle.std.proofs.lemmas.List.{append-nil, length-append}
use Rattle.rbac_diff.specs.Requests.{RequestView}
use Rattle.rbac_log.specs.Logs.{HasAdded, StopsAfter, Told, is_read_fault, log_requests, most_bytes, told_at}
use Rattle.rbac_log.specs.Reading.{FailsAfter, IsOfLine, IsReadTo}
use Rattle.rbac_log.specs.declared.log_fault.LogFault.{LogFault}
use Rattle.rbac_log.specs.declared.log_fault.LogFault.TheVariants.{Line, LongLine, LongLog, NoMemory, ReadFault}
use Rattle.rbac_log.specs.declared.logged.LoggedRequest.{LoggedRequest}
use Rattle.rbac_log.specs.declared.reading.Tail.{Tail}
use Rattle.rbac_log.proofs.LogLines.{fails_at_line, fails_long, read_line, read_more}

-- the piece is read up to here: whatever was read before it, its bytes so far are read, too
abbrev pub IsReadBy : Tail → List RequestView → List ℕ → Tail → List RequestView → Type 0
IsReadBy first given seen tail log =
    (bytes : List ℕ) (start : List RequestView) → IsReadTo bytes start first given → IsReadTo (bytes ++ seen) start tail log

abbrev failing : LogFault → Told
failing e = Err e

-- nothing of the piece was read
pub read_none : (first : Tail) (given : List RequestView) → IsReadBy first given [] first given
read_none first given bytes start r = subst (λ (b : List ℕ). IsReadTo b start first given) (sym (append-nil bytes)) r

four : (a b c d : List ℕ) → ((a ++ b) ++ c) ++ d ≡ a ++ (b ++ (c ++ d))
four a b c d = append_assoc (a ++ b) c d ∙ append_assoc a b (c ++ d)

module _ (first : Tail) (given : List RequestView) (seen : List ℕ) (tail more_tail : Tail) (log : List RequestView) (read : IsReadBy first given seen tail log) (line : List ℕ) (none : Contains line 10 → ⊥) where
  -- a part of a line
  pub read_part : more_tail.bytes.items ≡ tail.bytes.items ++ line → more_tail.ended ≡ tail.ended → IsReadBy first given (seen ++ line) more_tail log
  read_part e f bytes start r =
      subst (λ (b : List ℕ). IsReadTo b start more_tail log) (append_assoc bytes seen line) (read_more (bytes ++ seen) start tail more_tail log log (read bytes start r) line none e f)

  -- a whole line
  pub read_whole : more_tail.bytes.items ≡ tail.bytes.items ++ line → more_tail.ended ≡ tail.ended → (next : Tail) (now : List RequestView) (rs : List LoggedRequest)
      → told_at (suc more_tail.ended) more_tail.bytes.items ≡ Ok rs → HasAdded log rs now → next.bytes.items ≡ [] → next.ended ≡ suc more_tail.ended
      → IsReadBy first given (seen ++ (line ++ 10 ∷ [])) next now
  read_whole e f next now rs told added e2 f2 bytes start r =
      let part = read_more (bytes ++ seen) start tail more_tail log log (read bytes start r) line none e f in
      subst (λ (b : List ℕ). IsReadTo b start next now) (four bytes seen line (10 ∷ [])) (read_line ((bytes ++ seen) ++ line) start more_tail next log now part rs told added e2 f2)

  -- a line with a fault
  pub fails_whole : more_tail.bytes.items ≡ tail.bytes.items ++ line → more_tail.ended ≡ tail.ended → (piece rest : List ℕ) → piece ≡ seen ++ (line ++ 10 ∷ rest) → (fault : LogFault)
      → (fault ≡ NoMemory) ⊎ (IsOfLine fault × (told_at (suc more_tail.ended) more_tail.bytes.items ≡ Err fault))
      → (bytes : List ℕ) (start : List RequestView) → IsReadTo bytes start first given → FailsAfter (bytes ++ piece) fault
  fails_whole e f piece rest whole fault (inl memory) bytes start r = inl memory
  fails_whole e f piece rest whole fault (inr (of_line, told)) bytes start r =
      let part = read_more (bytes ++ seen) start tail more_tail log log (read bytes start r) line none e f in
      let same = four bytes seen line (10 ∷ rest) ∙ ap (λ (b : List ℕ). bytes ++ b) (sym whole) in
      inr (of_line, λ more. ap (λ (b : List ℕ). log_requests (b ++ more)) (sym same) ∙ fails_at_line ((bytes ++ seen) ++ line) start more_tail more_tail log log part rest fault told more)

  -- a line that is too long
  pub fails_part : (piece rest : List ℕ) → piece ≡ seen ++ (line ++ rest) → (fault : LogFault)
      → (fault ≡ NoMemory) ⊎ ((fault ≡ LongLine (suc tail.ended)) × (most_bytes < length (tail.bytes.items ++ line)))
      → (bytes : List ℕ) (start : List RequestView) → IsReadTo bytes start first given → FailsAfter (bytes ++ piece) fault
  fails_part piece rest whole fault (inl memory) bytes start r = inl memory
  fails_part piece rest whole fault (inr (is, long)) bytes start r =
      let same = append_assoc bytes seen (line ++ rest) ∙ ap (λ (b : List ℕ). bytes ++ b) (sym whole) in
      inr (
        subst IsOfLine (sym is) tt,
        λ more. ap (λ (b : List ℕ). log_requests (b ++ more)) (sym same) ∙ fails_long (bytes ++ seen) start tail more_tail log log (read bytes start r) line rest none long more
            ∙ ap failing (sym is),
      )

-- how many lines have ended, with one more
pub more_few : (start was part now : ℕ) (seen line : List ℕ) → was ≤ start + length seen → part ≡ was → now ≡ suc part → now ≤ start + length (seen ++ (line ++ 10 ∷ []))
more_few start was part now seen line h e f =
    let all = length-append seen (line ++ 10 ∷ []) in
    let one = length-append line (10 ∷ []) in
    omega (arith, h, e, f, all, one)

-- ---- results

pub on_ok : {T E : Type 0} {P Q : Type 0} (r : Result T E) → OnOk r P → (P → Q) → OnOk r Q
on_ok (Ok x) h f = f h
on_ok (Err e) h f = tt

pub if_err : {T E : Type 0} {P Q : E → Type 0} (r : Result T E) → IfErr r P → ((e : E) → P e → Q e) → IfErr r Q
if_err (Ok x) h f = tt
if_err (Err e) h f = f e h

pub consumes_nothing : (a b c : Option (List ℕ)) (bs cs : List ℕ) → Consumes a b bs → Consumes b c cs → cs ≡ [] → Consumes a c bs
consumes_nothing a b c bs cs p q e = subst (Consumes a c) (ap (λ (l : List ℕ). bs ++ l) e ∙ append-nil bs) (Consumes-trans a b c bs cs p q)

pub ends_at : {A B : Type 0} (fault : LogFault) → (fault ≡ NoMemory) ⊎ (IsOfLine fault × A) → (A → B) → (fault ≡ NoMemory) ⊎ (IsOfLine fault × B)
ends_at fault (inl memory) f = inl memory
ends_at fault (inr (of_line, a)) f = inr (of_line, f a)

-- a line that has a fault ends the log
pub stops_at_end : (left : Option (List ℕ)) (bytes : List ℕ) (fault : LogFault) → IsAtEnd left → (fault ≡ NoMemory) ⊎ (IsOfLine fault × (log_requests bytes ≡ Err fault)) → StopsAfter left bytes fault
stops_at_end left bytes (LongLine n) end (inl e) = absurd (let no : LongLine n ≡ NoMemory = e in cc)
stops_at_end left bytes (LongLine n) end (inr (of_line, told)) = inl (end, told)
stops_at_end left bytes (Line n fault) end (inl e) = absurd (let no : Line n fault ≡ NoMemory = e in cc)
stops_at_end left bytes (Line n fault) end (inr (of_line, told)) = inl (end, told)
stops_at_end left bytes LongLog end (inl e) = absurd (let no : LongLog ≡ NoMemory = e in cc)
stops_at_end left bytes LongLog end (inr (of_line, told)) = absurd of_line
stops_at_end left bytes ReadFault end h = tt
stops_at_end left bytes NoMemory end h = tt

-- a line has a fault, whatever follows
pub stops_within : (left : Option (List ℕ)) (bytes : List ℕ) (fault : LogFault) → FailsAfter bytes fault → StopsAfter left bytes fault
stops_within left bytes (LongLine n) (inl e) = absurd (let no : LongLine n ≡ NoMemory = e in cc)
stops_within left bytes (LongLine n) (inr (of_line, told)) = inr told
stops_within left bytes (Line n fault) (inl e) = absurd (let no : Line n fault ≡ NoMemory = e in cc)
stops_within left bytes (Line n fault) (inr (of_line, told)) = inr told
stops_within left bytes LongLog (inl e) = absurd (let no : LongLog ≡ NoMemory = e in cc)
stops_within left bytes LongLog (inr (of_line, told)) = absurd of_line
stops_within left bytes ReadFault h = tt
stops_within left bytes NoMemory h = tt

pub no_read_fault : (fault : LogFault) (bytes : List ℕ) → FailsAfter bytes fault → false ≡ is_read_fault {T = Unit {0}} (Err fault)
no_read_fault (LongLine n) bytes h = refl
no_read_fault (Line n fault) bytes h = refl
no_read_fault LongLog bytes h = refl
no_read_fault NoMemory bytes h = refl
no_read_fault ReadFault bytes (inl e) = absurd (let no : ReadFault ≡ NoMemory = e in cc)
no_read_fault ReadFault bytes (inr (of_line, told)) = absurd of_line
