use Rattle.rbac_document.proofs.order.once_each.Goals as goal

pub returns : goal.returns
returns c = record {
  principals = c.in_ok-principals_once_each.ensures;
  namespaces = c.in_ok-in_order.ensures;
  verbs = c.in_ok-in_order-2.ensures;
  resources = c.in_ok-in_order-3.ensures;
  names = c.in_ok-in_order-4.ensures;
  urls = c.in_ok-in_order-5.ensures;
}
