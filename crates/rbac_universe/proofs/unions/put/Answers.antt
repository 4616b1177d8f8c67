use Rattle.std.proofs.Common.{◌≡◌, ◌-◌, sym, ◌∙◌, ◌<◌, ap, length, vec_len, arith, set, get_or}
use Rattle.std.proofs.lemmas.List.{set-get_or}
use Rattle.rbac_model.specs.Lists.{by_name}
use Rattle.rbac_model.proofs.NamePlaces.{same_name}
use Rattle.rbac_universe.proofs.OneMore.{joined, pushed, all_below, on_ok_both, equal_tested, other_tested}
use Rattle.rbac_universe.proofs.unions.put.Goals as goal
use Rattle.rbac_universe.proofs.unions.put.Goals.{in-Some+else-eq, in_default}

pub unite-requires : goal.unite-requires
unite-requires g c =
    sym (same_name g.T.Unites.name c.in-Some.last.now c.args.item (sym c.cmp_name.ensures ∙ equal_tested c.cmp_name.result c.eq.result c.eq.ensures c.if-eq.true))

pub returns-then-eq : goal.returns-then-eq
returns-then-eq g c =
    let old = c.args.united.now.items in
    let last = c.in-Some.last.now in
    let len : vec_len c.args.united.now ≡ length old = c.args.united.now.ok.0 in
    let item = c.in-Some.ensures.item in
    let there : vec_len c.args.united.now - 1 < length old = omega (arith, item.3.0) in
    let named = sym (same_name g.T.Unites.name last c.args.item (sym c.cmp_name.ensures ∙ equal_tested c.cmp_name.result c.eq.result c.eq.ensures c.if-eq.true)) in
    on_ok_both c.unite.result
    (λ kept texts. joined g.T.Unites.name g.T.Unites.has old c.args.item c.unite.new.self last (vec_len c.args.united.now - 1) c.requires.ascending there (item.3.1 last) named kept texts)
    c.unite.ensures.name c.unite.ensures.texts

pub returns : goal.returns
returns g c =
    let old = c.args.united.now.items in
    let len : vec_len c.args.united.now ≡ length old = c.args.united.now.ok.0 in
    let more = pushed g.T.Unites.name g.T.Unites.has old c.args.item c.requires.ascending
    (all_below g.T.Unites.name g.T.Unites.has old c.args.item c.requires.ascending c.requires.not_below (λ d m.
    elim c.match-last_mut.branch [
      | in-Some+else-eq w ↦ λ e.
          let at = w.in-Some.ensures.item.3.1 d ∙ ap (λ n. get_or old (n - 1) d) len in
          other_tested w.cmp_name.result w.eq.result w.eq.ensures w.if-eq.false (w.cmp_name.ensures ∙ ap (λ y. by_name g.T.Unites.name y c.args.item) at ∙ e)
      | in_default w ↦ λ e. let none = rw w.in_default.is at (c.last_mut.ensures.variant.1 (omega arith)) in cc
    ])) in
    let same : c.match-last_mut.united.items ≡ old = elim c.match-last_mut.branch [
      | in-Some+else-eq w ↦
          let last = w.in-Some.last.now in
          ap (λ v. v.items) w.united-is ∙ ap (λ y. set old (vec_len c.args.united.now - 1) y) (w.in-Some.ensures.item.3.1 last) ∙ set-get_or old (vec_len c.args.united.now - 1) last
      | in_default w ↦ ap (λ v. v.items) w.united-is
    ] in
    rw (c.in_ok-push.ensures.items, same) more
