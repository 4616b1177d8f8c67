use Rattle.std.proofs.Common.{◌≡◌, take}
use Rattle.std.specs.Option.{option_copied}
use Rattle.rbac_lists.specs.Meant.{last_given}
use Rattle.rbac_lists.proofs.universe_lists.last_lists.Given as goal

abbrev pub invariant-loop-document : goal.invariant-loop-document
invariant-loop-document l = record {
  principals : option_copied l.last.principals ≡ last_given (λ d. d.principals) (take l.document-index l.documents);
  namespaces : option_copied l.last.namespaces ≡ last_given (λ d. d.namespaces) (take l.document-index l.documents);
  verbs : option_copied l.last.verbs ≡ last_given (λ d. d.verbs) (take l.document-index l.documents);
  resources : option_copied l.last.resources ≡ last_given (λ d. d.resources) (take l.document-index l.documents);
  names : option_copied l.last.names ≡ last_given (λ d. d.names) (take l.document-index l.documents);
  urls : option_copied l.last.urls ≡ last_given (λ d. d.urls) (take l.document-index l.documents);
}
