use Rattle.std.proofs.Common.{◌≡◌, ◌++◌, ◌∷◌, ◌∙◌, [], Option, Some, ap, append_assoc, option_map, refl, slice_get, sym}
use Rattle.std.specs.Option.{unwrap_or}
use Rattle.std.proofs.lemmas.Option.{slice_get_read}
use Rattle.rbac_terms.specs.Text.{Text}
use Rattle.rbac_terms.specs.declared.granting.Binding.{Binding}
use Rattle.rbac_text.specs.Row.{field_and_tab, newline}
use Rattle.rbac_use.specs.UnusedTexts.{part_text, part_word, role_text, unused_line, unused_text}
use Rattle.rbac_use.proofs.line.put_line.Goals as goal

-- four texts, one after another
four : (old a b d e one two three new : Text) → one ≡ old ++ a → two ≡ one ++ b → three ≡ two ++ d → new ≡ three ++ e → new ≡ old ++ a ++ b ++ d ++ e
four old a b d e one two three new p q r s =
    s ∙ ap (λ (t : Text). t ++ e) (r ∙ ap (λ (t : Text). t ++ d) (q ∙ ap (λ (t : Text). t ++ b) p)) ∙ simp append_assoc

pub returns : goal.returns
returns c =
    let p = c.args.policy.now in
    let x = c.args.part in
    let b = c.args.binding.now in
    let old = c.args.line.now.items in
    let parts = four old (field_and_tab (part_word x)) (role_text b) (part_text p b x) (newline ∷ []) c.put_field_and_tab.new.line.items c.put_named_binding.new.line.items c.put_part.new.line.items c.push.new.self.items
    (c.in_ok-put_field_and_tab.ensures ∙ ap (λ (t : Text). old ++ field_and_tab t) c.word.ensures) c.in_ok-put_named_binding.ensures c.in_ok-put_part.ensures c.in_ok-push.ensures.items in
    let whole : c.push.new.self.items ≡ old ++ unused_text p x b = parts ∙ simp append_assoc in
    whole
