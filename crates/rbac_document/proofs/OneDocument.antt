-- lists have one document
use Rattle.std.proofs.Common.{◌≡◌, ap, sym, ◌∙◌}
use Rattle.rbac_terms.specs.Text.{Text}
use Rattle.rbac_universe.specs.declared.lists.UniverseLists.{UniverseLists}
use Rattle.rbac_document.specs.Names.{word_name, principal_name, resource_name}
use Rattle.rbac_document.specs.Document.{AreOnceEach, IsDocument, document_text}
use Rattle.rbac_document.proofs.Once.{one_each}

one_lists : (lists a b : UniverseLists) → AreOnceEach lists a → AreOnceEach lists b → a ≡ b
one_lists lists a b p q = λ i. record {
  principals = one_each principal_name lists.principals a.principals b.principals p.principals q.principals i;
  namespaces = one_each word_name lists.namespaces a.namespaces b.namespaces p.namespaces q.namespaces i;
  verbs = one_each word_name lists.verbs a.verbs b.verbs p.verbs q.verbs i;
  resources = one_each resource_name lists.resources a.resources b.resources p.resources q.resources i;
  names = one_each word_name lists.names a.names b.names p.names q.names i;
  urls = one_each word_name lists.urls a.urls b.urls p.urls q.urls i;
}

pub one_document : (lists : UniverseLists) (text other : Text) → IsDocument lists text → IsDocument lists other → text ≡ other
one_document lists text other a b =
    a.2 ∙ ap document_text (one_lists lists a.0 b.0 a.1 b.1) ∙ sym b.2
