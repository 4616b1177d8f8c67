use Rattle.std.proofs.Common.{◌≡◌, ◌++◌, ◌∷◌, ◌∙◌, [], List, ap, refl}
use Rattle.rbac_terms.specs.Text.{Text}
use Rattle.rbac_use.proofs.grouping.add_group.Goals as goal

pub returns : goal.returns
returns c =
    let words : c.push.new.self ≡ c.args.pair.now.word ∷ [] = c.in_ok-push.ensures.ok ∙ ap (λ (ws : List Text). ws ++ c.in_ok-clone.field-0 ∷ []) c.new-words.ensures ∙ ap (λ (w : Text). w ∷ []) c.in_ok-clone.ensures.cases in
    rw (c.in_ok-push-2.ensures.items, c.in_ok-copied.ensures, words) refl
