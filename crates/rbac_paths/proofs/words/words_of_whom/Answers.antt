use Rattle.std.proofs.Common.{◌∙◌, ◌∷◌, [], ap, refl}
use Rattle.rbac_terms.specs.Text.{Text}
use Rattle.rbac_paths.proofs.WordsOfWhom.{if_ok, words_of_account, words_of_user}
use Rattle.rbac_paths.specs.SharedWords.{any_account_named, any_account_of, that_account, that_user}
use Rattle.rbac_paths.proofs.words.words_of_whom.Goals as goal

pub returns-in-Some : goal.returns-in-Some
returns-in-Some c =
    if_ok c.marked.result (λ ws e. words_of_account c.args.who.now c.in-Some.namespace.now c.in-Some.name.now c.name.result.now c.in-Some.ensures c.name.ensures.name ws (e ∙ ap (λ (t : Text). (65 ∷ t) ∷ any_account_of c.in-Some.namespace.now ∷ any_account_named c.in-Some.name.now ∷ that_account c.name.result.now ∷ []) c.as_slice.ensures)) c.marked.ensures

pub returns-in-None : goal.returns-in-None
returns-in-None c =
    if_ok c.marked-in-None.result (λ ws e. words_of_user c.args.who.now c.name-in-None.result.now (c.if-is_user.ensures.0 refl) c.in-None.ensures c.name-in-None.ensures.name ws (e ∙ ap (λ (t : Text). (85 ∷ t) ∷ that_user c.name-in-None.result.now ∷ []) c.as_slice-in-None.ensures)) c.marked-in-None.ensures
