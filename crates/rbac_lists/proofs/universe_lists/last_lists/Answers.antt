use Rattle.std.proofs.Common.{arith}
use Rattle.rbac_lists.proofs.LastGiven.{last_now}
use Rattle.rbac_lists.proofs.universe_lists.last_lists.Goals as goal

pub loop-document-preserved : goal.loop-document-preserved
loop-document-preserved c =
    let documents = c.args.documents.now in
    let i = c.loop-document.document-index in
    let document = c.document-item.result in
    let was = c.loop-document.invariant in
    let made = c.over-last.ensures in
    record {
      principals = last_now (λ d. d.principals) documents i document _ _ (omega arith) c.document-item.is was.principals made.principals;
      namespaces = last_now (λ d. d.namespaces) documents i document _ _ (omega arith) c.document-item.is was.namespaces made.namespaces;
      verbs = last_now (λ d. d.verbs) documents i document _ _ (omega arith) c.document-item.is was.verbs made.verbs;
      resources = last_now (λ d. d.resources) documents i document _ _ (omega arith) c.document-item.is was.resources made.resources;
      names = last_now (λ d. d.names) documents i document _ _ (omega arith) c.document-item.is was.names made.names;
      urls = last_now (λ d. d.urls) documents i document _ _ (omega arith) c.document-item.is was.urls made.urls;
    }
