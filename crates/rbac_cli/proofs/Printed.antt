-- Text that is printed line by line.
use Rattle.std.proofs.Common.{◌≡◌, ◌∙◌, ◌++◌, List, ℕ, ap, sym, subst, append_assoc}
use Rattle.std.specs.Prelude.{Option}
use Rattle.rbac_terms.specs.Text.{Text}
use Rattle.rbac_streams.proofs.TakenLemmas.{Prints-trans, Stops-after, Stops-more}
use Rattle.rbac_cli.specs.Printing.{PrintsText, StopsInText}
use Rattle.rbac_cli.specs.declared.output.Output.{Output}

-- this much of a text was printed, and the rest is left
pub record HasPrinted {W : Type 0} (contents : W → Option (List ℕ)) (old new : Output W) (is_left : Text → Type 0) (text : Text) : Type 0 where
  pub before : Text
  pub rest : Text
  pub whole : text ≡ before ++ rest
  pub printed : PrintsText contents old new before
  pub left : is_left rest

module _ {W : Type 0} (contents : W → Option (List ℕ)) (old : Output W) (is_left : Text → Type 0) (text : Text) where
  module _ (now : Output W) (h : HasPrinted contents old now is_left text) where
    -- it stopped before the next line
    pub unfinished : StopsInText contents old now text
    unfinished = λ start earlier printed.
        let so_far = h.printed start earlier printed in
        record {
          prefix = so_far.prefix;
          rest = now.page.now.pending ++ h.rest;
          took = so_far.took;
          whole = ap (λ (t : Text). earlier ++ t) h.whole ∙ sym (append_assoc earlier h.before h.rest) ∙ ap (λ (t : Text). t ++ h.rest) so_far.whole
              ∙ append_assoc so_far.prefix now.page.now.pending h.rest;
          written = so_far.written;
        }

    -- a line is the next
    module _ (new : Output W) (line : Text) (still : Text → Type 0) (gives : (text : Text) → is_left text → (rest : Text) × (text ≡ line ++ rest) × still rest) where
      next : (rest : Text) × (h.rest ≡ line ++ rest) × still rest
      next = gives h.rest h.left

      split : text ≡ h.before ++ (line ++ next.0)
      split = h.whole ∙ ap (λ (t : Text). h.before ++ t) next.1

      pub one_more : PrintsText contents now new line → HasPrinted contents old new still text
      one_more prints = record {
        before = h.before ++ line;
        rest = next.0;
        whole = split ∙ sym (append_assoc h.before line next.0);
        printed = Prints-trans contents old.sink.now now.sink.now new.sink.now old.page.now now.page.now new.page.now h.before line h.printed prints;
        left = next.2;
      }

      pub stopped : StopsInText contents now new line → StopsInText contents old new text
      stopped stops = subst (StopsInText contents old new) (sym split)
          (Stops-after contents old.sink.now now.sink.now new.sink.now old.page.now now.page.now new.page.now h.before (line ++ next.0) h.printed
          (Stops-more contents now.sink.now new.sink.now now.page.now new.page.now line next.0 stops))
