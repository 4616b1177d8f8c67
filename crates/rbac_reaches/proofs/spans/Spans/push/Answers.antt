use Rattle.rbac_reaches.proofs.SpanLemmas.{spans_pushed, spans_shown}
use Rattle.rbac_reaches.proofs.spans.Spans.push.Goals as goal

pub invariant_of-self-2 : goal.invariant_of-self-2
invariant_of-self-2 c =
    spans_pushed c.self.inside.spans.items c.put.new.spans.items (record { start = c.args.start; end = c.args.end; before = c.self.inside.len }) c.args.self.now c.self.invariant c.self.view_is c.in_ok-put.ensures.put
    c.requires.ascending c.requires.few

pub returns : goal.returns
returns c = spans_shown c.self.inside.spans.items c.put.new.spans.items (record { start = c.args.start; end = c.args.end; before = c.self.inside.len }) c.args.self.now c.self.invariant c.self.view_is c.in_ok-put.ensures.put
