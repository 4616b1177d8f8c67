use Rattle.std.proofs.Common.{◌≡◌, ◌<◌, ◌∙◌, Bool, Err, List, Ok, OnOk, Result, ℕ, [], ap, arith, get_or, length, subst, true}
use Rattle.std.proofs.Math.ListN.{length-set}
use Rattle.std.proofs.lemmas.List.{get_or_default}
use Rattle.rbac_terms.proofs.Cases.{on_ok}
use Rattle.rbac_ways.proofs.Edges.{met_more}
use Rattle.rbac_ways.specs.Meeting.{IsOneOf, ListHas, MeetsNodes, SetHas, SomeHas}
use Rattle.rbac_ways.specs.Ways.{GraphView}
use Rattle.rbac_ways.proofs.meeting.meet_list.Goals as goal

on_both : {T E P Q R : Type 0} (o : Result T E) → (P → Q → R) → OnOk o P → OnOk o Q → OnOk o R
on_both (Ok x) f p q = f p q
on_both (Err e) f p q = tt

pub returns-in-Some-false : goal.returns-in-Some-false
returns-in-Some-false c =
    let g = c.args.graph.now in
    let k = c.args.list in
    let passed = c.args.passed.now.lists.items in
    let low : k < length passed = subst (λ (marks : List Bool). k < length marks) c.as_slice.ensures.value c.in-Some-false.ensures.lookup.3.0 in
    let all : c.as_slice-sets.result.now ≡ get_or g.lists k [] =
    c.as_slice-sets.ensures ∙ c.index.ensures ∙ ap (λ (x : GraphView). get_or x.lists k c.index.result.now) c.graph.view_is
    ∙ get_or_default g.lists k c.index.result.now [] (let len = c.requires.lists_len in omega (arith, low, len)) in
    let meets = on_ok c.meet_sets.result (subst (λ (xs : List ℕ). MeetsNodes (SomeHas (SetHas g) xs) (IsOneOf (SomeHas (SetHas g) xs) c.args.stop) c.args.stops.now.items c.meet_sets.new.stops.items c.args.level.now.items c.meet_sets.new.level.items) all) c.meet_sets.ensures.meets in
    record {
      meets = meets;
      passed = on_both c.meet_sets.result (λ here met. record {
        lists_len = length-set passed k true ∙ c.requires.lists_len;
        sets_len = c.meet_sets.ensures.sets ∙ c.requires.sets_len;
        lists_met = met_more (ListHas g) passed c.args.stops.now.items c.meet_sets.new.stops.items (IsOneOf (ListHas g k) c.args.stop) c.args.level.now.items c.meet_sets.new.level.items k c.requires.lists_met here;
        sets_met = met;
      }) meets c.meet_sets.ensures.met;
    }
