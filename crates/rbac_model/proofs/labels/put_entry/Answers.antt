use Rattle.std.proofs.Common.{◌≡◌, ◌∙◌, ◌-◌, ◌<◌, ap, arith, length, set, vec_len, bit_or}
use Rattle.std.proofs.lemmas.List.{set-get_or}
use Rattle.rbac_model.specs.Labelled.{LabelEntry}
use Rattle.rbac_model.proofs.LabelJoining.{put_together, put_behind}
use Rattle.rbac_model.proofs.labels.put_entry.Goals as goal
use Rattle.rbac_model.proofs.labels.put_entry.Goals.{in-Some+else-joins, in_default}

pub returns-then-joins : goal.returns-then-joins
returns-then-joins c =
    let old = c.args.joined.now.items in
    let last = c.in-Some.last.now in
    let len : vec_len c.args.joined.now ≡ length old = c.args.joined.now.ok.0 in
    let item = c.in-Some.ensures.item in
    let there : vec_len c.args.joined.now - 1 < length old = omega (arith, item.3.0) in
    let joins = c.joins.ensures.0 c.if-joins.true in
    put_together old (vec_len c.args.joined.now - 1) _ last c.args.added there (item.3.1 last)
    (ap (λ (e : LabelEntry). e.label) c.last.view_is) (ap (λ (e : LabelEntry). e.place) c.last.view_is)
    (ap (λ (e : LabelEntry). bit_or e.bits c.added.inside.bits) c.last.view_is ∙ ap (λ (e : LabelEntry). bit_or last.bits e.bits) c.added.view_is)
    joins.0 joins.1

pub returns : goal.returns
returns c =
    let old = c.args.joined.now.items in
    let same : c.match-last_mut.joined.items ≡ old = elim c.match-last_mut.branch [
      | in-Some+else-joins w ↦
          let last = w.in-Some.last.now in
          ap (λ v. v.items) w.joined-is ∙ ap (λ y. set old (vec_len c.args.joined.now - 1) y) (w.in-Some.ensures.item.3.1 last) ∙ set-get_or old (vec_len c.args.joined.now - 1) last
      | in_default w ↦ ap (λ v. v.items) w.joined-is
    ] in
    rw (c.in_ok-push.ensures.items, same) (put_behind old c.args.added)
