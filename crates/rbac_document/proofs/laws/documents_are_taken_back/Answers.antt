use Rattle.std.proofs.Common.{◌++◌, ◌∷◌, [], sym, subst}
use Rattle.rbac_manifest.specs.Load.{IsLoaded}
use Rattle.rbac_document.proofs.SameEntries.{readable_too}
use Rattle.rbac_document.proofs.TakenBack.{taken_back}
use Rattle.rbac_document.proofs.laws.documents_are_taken_back.Goals as goal

pub returns : goal.returns
returns c = λ inputs l text is can document. (
  document.0,
  document.1,
  subst (λ t. IsLoaded (inputs ++ t ∷ []) (record l { lists = document.0 })) (sym document.2) (taken_back inputs l document.0 is (readable_too l.lists document.0 document.1 can)),
)
