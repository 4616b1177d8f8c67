use Rattle.std.proofs.Common.{◌≡◌, ◌++◌, ◌∙◌, Option, ap, append_assoc, rules}
use Rattle.rbac_terms.proofs.Cases.{on_ok}
use Rattle.rbac_terms.specs.Text.{Text}
use Rattle.rbac_text.specs.Choice.{choice_and_tab}
use Rattle.rbac_text.specs.Row.{field_and_tab}
use Rattle.rbac_steps.specs.Steps.{step_word}
use Rattle.rbac_paths.proofs.line.put_power.Goals as goal

-- four texts that are added one after another
added : (o p q r s a b c d : Text) → p ≡ o ++ a → q ≡ p ++ b → r ≡ q ++ c → s ≡ r ++ d → s ≡ o ++ (a ++ (b ++ c) ++ d)
added o p q r s a b c d first second third fourth =
    fourth
    ∙ ap (λ (t : Text). t ++ d) (third ∙ ap (λ (t : Text). t ++ c) (second ∙ ap (λ (t : Text). t ++ b) first) ∙ append_assoc (o ++ a) b c ∙ append_assoc o a (b ++ c))
    ∙ append_assoc o (a ++ (b ++ c)) d

pub returns : goal.returns
returns c =
    let first : c.put_field_and_tab.new.line.items ≡ c.args.line.now.items ++ field_and_tab (step_word c.power.inside.step) = search rules in
    let second = c.in_ok-put_field_and_tab-2.ensures ∙ ap (λ (t : Text). c.put_field_and_tab.new.line.items ++ field_and_tab t) c.as_bytes.ensures in
    let third = c.in_ok-put_choice_and_tab.ensures ∙ ap (λ (o : Option Text). c.put_field_and_tab-2.new.line.items ++ choice_and_tab o) c.as_ref.ensures.value in
    rw (← c.power.view_is) (on_ok c.put_why.result (λ fourth. added _ _ _ _ _ _ _ _ _ first second third fourth) c.put_why.ensures)
