use Rattle.std.proofs.Common.{◌≡◌, ◌∙◌, ◌-◌, ◌+◌, ◌++◌, ◌∷◌, [], List, ap, arith, length, refl, set, vec_len}
use Rattle.std.proofs.lemmas.List.{set-get_or}
use Rattle.rbac_reaches.specs.declared.spans.Span.{Span}
use Rattle.rbac_reaches.proofs.SpanLemmas.{put_behind, put_joined}
use Rattle.rbac_reaches.proofs.spans.put.Goals as goal
use Rattle.rbac_reaches.proofs.spans.put.Goals.{in-Some+else-last-span, in_default}

pub returns-then-last-span-clause-put : goal.returns-then-last-span-clause-put
returns-then-last-span-clause-put c =
    let old = c.args.spans.now.items in
    let last = c.in-Some.last.now in
    let len : vec_len c.args.spans.now ≡ length old = c.args.spans.now.ok.0 in
    let item = c.in-Some.ensures.item in
    let at : vec_len c.args.spans.now - 1 + 1 ≡ length old = omega (arith, item.3.0) in
    put_joined old _ c.args.span c.requires.counted c.requires.some c.requires.small (vec_len c.args.spans.now - 1) last at (item.3.1 last) c.if-last-span.true refl

pub returns-clause-put : goal.returns-clause-put
returns-clause-put c =
    let old = c.args.spans.now.items in
    let same : c.match-last_mut.spans.items ≡ old = elim c.match-last_mut.branch [
      | in-Some+else-last-span w ↦
          let last = w.in-Some.last.now in
          ap (λ v. v.items) w.spans-is ∙ ap (λ y. set old (vec_len c.args.spans.now - 1) y) (w.in-Some.ensures.item.3.1 last) ∙ set-get_or old (vec_len c.args.spans.now - 1) last
      | in_default w ↦ ap (λ v. v.items) w.spans-is
    ] in
    put_behind old c.push.new.self.items c.args.span c.requires.counted c.requires.some c.requires.small (c.in_ok-push.ensures.items ∙ ap (λ (l : List Span). l ++ c.args.span ∷ []) same)
