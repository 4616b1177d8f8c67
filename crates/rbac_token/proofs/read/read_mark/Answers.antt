use Rattle.std.proofs.Common.{◌∷◌, ◌++◌, ◌∙◌}
use Rattle.rbac_terms.specs.Keys.{texts}
use Rattle.rbac_token.specs.Marks.{name_texts, version_of}
use Rattle.rbac_token.proofs.Fields.{mark_between}
use Rattle.rbac_token.proofs.read.read_mark.Goals as goal

pub returns-clause-whole : goal.returns-clause-whole
returns-clause-whole c = λ m h e.
    (let read = c.in_ok-texts.ensures (version_of m.binding ∷ texts m.key ++ name_texts m.binding) (rw e (mark_between m.key m.binding)) in
    c.mark_of_texts.ensures.whole m h (c.as_slice.ensures.value ∙ read))
