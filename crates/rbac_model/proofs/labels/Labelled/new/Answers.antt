use Rattle.std.proofs.Common.{◌≡◌, ◌≤◌, length, refl, arith, rules}
use Rattle.std.specs.Prelude.{Some, slice_get}
use Rattle.std.specs.Ordering.{is_lt}
use Rattle.std.proofs.lemmas.Fn.{answers_by}
use Rattle.std.proofs.lemmas.Option.{slice_get_read}
use Rattle.rbac_model.specs.Labelled.{LabelEntry}
use Rattle.rbac_model.specs.Lists.{by_name}
use Rattle.rbac_model.proofs.LastNamed.{ranks}
use Rattle.rbac_model.proofs.LabelAdding.{says_more, says_sorted}
use Rattle.rbac_model.proofs.LabelJoining.{still_exact}
use Rattle.rbac_model.proofs.labels.Labelled.new.Goals as goal

pub loop-place-preserved : goal.loop-place-preserved
loop-place-preserved c =
    let roles = c.args.roles.now in
    let at = c.loop-place.place in
    let r = c.index-roles-place.result in
    let there : slice_get roles at ≡ Some r = slice_get_read roles (length roles) at r refl c.loop-place-test.true c.index-roles-place.is in
    says_more roles c.loop-place.entries.items c.push_labels.new.entries.items at r there c.in_ok-push_labels.ensures c.loop-place.invariant

pub joined-requires : goal.joined-requires
joined-requires c = c.in_ok-sort_by.ensures.sorted (λ x y. is_lt (by_name (λ (e : LabelEntry). e.label) x y)) (ranks (λ (e : LabelEntry). e.label)) (answers_by _ _ (λ f. Unit {0}) (λ f a r h called met. (search rules, tt)) _ tt)

pub invariant_of-result : goal.invariant_of-result
invariant_of-result c =
    let all : length c.args.roles.now ≤ c.loop-place.place = omega (arith, c.loop-place-test.false) in (
      c.in_ok-up_to.ensures,
      record {
        sorted = c.in_ok-joined.ensures.0;
        exact = still_exact c.args.roles.now c.sort_by.new.self.items c.in_ok-joined.field-0.items c.in_ok-joined.ensures.1
            (says_sorted c.args.roles.now c.loop-place.entries.items c.sort_by.new.self.items c.loop-place.place all c.in_ok-sort_by.ensures.permutation c.loop-place.invariant);
      },
    )
