use Rattle.std.proofs.Common.{ap₂}
use Rattle.std.specs.Prelude.{Option}
use Rattle.std.proofs.lemmas.Result.{err_from_is_err_and}
use Rattle.rbac_terms.specs.Keys.{KeyTexts}
use Rattle.rbac_token.specs.Marks.{name_texts, version_of}
use Rattle.rbac_token.specs.declared.mark.BindingName.{BindingName}
use Rattle.rbac_token.specs.declared.mark.Mark.{Mark}
use Rattle.rbac_token.proofs.read.mark_of_texts.Goals as goal

pub returns-in_default-clause-whole : goal.returns-in_default-clause-whole
returns-in_default-clause-whole c = λ m h e.
    absurd (c.in_default.ensures (version_of m.binding) m.key (name_texts m.binding) e)

pub returns-in_err-binding-clause-whole : goal.returns-in_err-binding-clause-whole
returns-in_err-binding-clause-whole c = λ m h e.
    (let found = c.in-Some.ensures (version_of m.binding) m.key (name_texts m.binding) e in
    let p = err_from_is_err_and c.from_residual.result c.from_residual.ensures.1 in
    rw (p.1, p.2) (c.in_err-binding.ensures.whole m.binding found.1))

pub returns-in_err-key-clause-whole : goal.returns-in_err-key-clause-whole
returns-in_err-key-clause-whole c = λ m h e.
    (let found = c.in-Some.ensures (version_of m.binding) m.key (name_texts m.binding) e in
    let p = err_from_is_err_and c.from_residual-in_err-key.result c.from_residual-in_err-key.ensures.1 in
    rw (p.1, p.2) (c.in_err-key.ensures.whole m.key h found.0))

pub returns-clause-whole : goal.returns-clause-whole
returns-clause-whole c = λ m h e.
    (let found = c.in-Some.ensures (version_of m.binding) m.key (name_texts m.binding) e in
    let make : KeyTexts → Option BindingName → Mark = λ k b. record { key = k; binding = b } in
    ap₂ make (c.in_ok-key.ensures.whole m.key h found.0) (c.in_ok-binding.ensures.whole m.binding found.1))
