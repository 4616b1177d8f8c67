-- From printed text to written text.
use Rattle.std.proofs.Common.{◌≡◌, ◌∙◌, ℕ, Bool, List, [], Option, Err, inl, inr, sym, subst, ap}
use Rattle.rbac_streams.specs.Streams.{SinkView, PageView}
use Rattle.rbac_streams.specs.Taken.{Took, Printed, Stopped}
use Rattle.rbac_streams.specs.declared.page.PrintFault.{PrintFault}
use Rattle.rbac_streams.specs.declared.page.PrintFault.TheVariants as print
use Rattle.rbac_cli.specs.declared.exports.Exports.{Exports}
use Rattle.rbac_question.specs.declared.command.Action.{Action}
use Rattle.rbac_cli.specs.Out.{Answers}
use Rattle.rbac_cli.specs.Ends.{WritesPrefix}
use Rattle.rbac_cli.specs.Printing.{StopsInAnswer, StopsPrinting, StopsWith, IsUntouched, fault_at, is_sink_fault, is_sink_stop, print_stop}
use Rattle.rbac_cli.specs.declared.outcome.Status.{Status}
use Rattle.rbac_cli.specs.declared.output.Output.{Output}
use Rattle.rbac_cli.specs.declared.stop.Stop.{Stop}
use Rattle.rbac_cli.specs.declared.stop.Stop.TheVariants.{NoUniverse, NoMemory, SinkFailed}

-- a page stopped an answer, and the sink failed if it stopped the page
pub failed_by : (fault : PrintFault) (failed : Bool) → failed ≡ is_sink_fault {T = Unit {0}} (Err fault) → failed ≡ is_sink_stop {T = Status} (Err (print_stop fault))
failed_by print.SinkFailed failed e = e
failed_by print.NoMemory failed e = e

module _ {W : Type 0} (contents : W → Option (List ℕ)) where
  as_prefix : (s t : SinkView W) (p : PageView) (e : Exports) (action : Action) (text : List ℕ) (status : Status)
      → Answers e action text status → Stopped contents s t p text → WritesPrefix (Took contents s t) e action p.written
  as_prefix s t p e action text status a h = (text, status, a, (h.prefix, (h.rest, h.whole), h.took, h.written))

  -- stopped in a text that is meant, once it was printed
  pub stopped_at : (s t : SinkView W) (p : PageView) (e : Exports) (action : Action) (text : List ℕ) (status : Status) (fault : PrintFault)
      → Answers e action text status → Stopped contents s t p text → StopsWith (Took contents s t) e action (fault_at p (print_stop fault))
  stopped_at s t p e action text status print.SinkFailed a h = as_prefix s t p e action text status a h
  stopped_at s t p e action text status print.NoMemory a h = inr (as_prefix s t p e action text status a h)

  module _ (old new : Output W) (e : Exports) (action : Action) where
    -- a page stopped it while it was printed: there was a universe
    pub stops_within : (fault : PrintFault) → StopsInAnswer contents old new e action → StopsPrinting contents old new e action (print_stop fault)
    stops_within print.SinkFailed h = h
    stops_within print.NoMemory h = inr h

    module _ (printed : Printed contents old.sink.now old.sink.now old.page.now []) (took : Took contents old.sink.now old.sink.now []) (empty : old.page.now.written ≡ 0) where
      untaken : IsUntouched old new → Took contents old.sink.now new.sink.now []
      untaken h = subst (λ x. Took contents old.sink.now x []) (sym h.0) took

      within : StopsInAnswer contents old new e action → WritesPrefix (Took contents old.sink.now new.sink.now) e action new.page.now.written
      within (text, status, a, f) = as_prefix old.sink.now new.sink.now new.page.now e action text status a (f old.sink.now [] printed)

      -- a print that began with an empty page stopped
      pub stopped : (stop : Stop) → StopsPrinting contents old new e action stop → StopsWith (Took contents old.sink.now new.sink.now) e action (fault_at new.page.now stop)
      stopped (NoUniverse fault) h = (h.0, untaken h.1)
      stopped NoMemory (inl u) = inl (untaken u, ap (λ (x : PageView). x.written) u.1 ∙ empty)
      stopped NoMemory (inr h) = inr (within h)
      stopped SinkFailed h = within h
