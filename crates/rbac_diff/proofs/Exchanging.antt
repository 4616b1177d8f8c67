-- the changes with the sides exchanged
use Rattle.std.proofs.Common.{◌≡◌, ◌<◌, List, Contains, map, length, get_or, refl, sym, ap, ◌∙◌, subst, arith}
use Rattle.std.proofs.lemmas.List.{get_or-map, length-map}
use Rattle.rbac_terms.specs.declared.granting.Binding.{Binding}
use Rattle.rbac_model.specs.Policies.{PolicyView}
use Rattle.rbac_diff.specs.Permissions.{PermissionView}
use Rattle.rbac_diff.specs.Changes.{ChangeView, IsChangeOf, IsChangeBetween, AreChanges, exchanged_kind, exchanged}
use Rattle.rbac_diff.specs.declared.change.ChangeKind.{ChangeKind}
use Rattle.rbac_diff.specs.declared.change.ChangeKind.TheVariants.{Gained, Lost}

kind_twice : (k : ChangeKind) → exchanged_kind (exchanged_kind k) ≡ k
kind_twice Gained = refl
kind_twice Lost = refl

twice : (x : ChangeView) → exchanged (exchanged x) ≡ x
twice x = ap (λ (k : ChangeKind). record x { kind = k }) (kind_twice x.kind)

there : (xs : List ChangeView) (y : ChangeView) → Contains xs y → Contains (map exchanged xs) (exchanged y)
there xs y c = (c.0, omega (arith, c.1, length-map xs exchanged), get_or-map exchanged xs c.0 y (exchanged y) c.1 ∙ ap exchanged c.2)

back : (xs : List ChangeView) (x : ChangeView) → Contains (map exchanged xs) x → Contains xs (exchanged x)
back xs x c =
    let within : c.0 < length xs = omega (arith, c.1, length-map xs exchanged) in
    let at : exchanged (get_or xs c.0 (exchanged x)) ≡ x = sym (get_or-map exchanged xs c.0 (exchanged x) x within) ∙ c.2 in
    (c.0, within, sym (twice (get_or xs c.0 (exchanged x))) ∙ ap exchanged at)

change_of : (before after : PolicyView) (k : ChangeKind) (p : PermissionView) (b : Binding) → IsChangeOf k before after p b → IsChangeOf (exchanged_kind k) after before p b
change_of before after Gained p b is = is
change_of before after Lost p b is = is

change : (before after : PolicyView) (x : ChangeView) → IsChangeBetween before after x → IsChangeBetween after before (exchanged x)
change before after x is = (is.0, is.1, change_of before after x.kind is.0 x.binding is.2)

pub exchanged_changes : (before after : PolicyView) (xs : List ChangeView) → AreChanges before after xs → AreChanges after before (map exchanged xs)
exchanged_changes before after xs are = record {
  ordered = λ i j d lt l.
      let within : j < length xs = omega (arith, l, length-map xs exchanged) in
      rw (get_or-map exchanged xs i d d (omega arith), get_or-map exchanged xs j d d within) (are.ordered i j d lt within);
  exact = λ x. (
    λ c. subst (IsChangeBetween after before) (twice x) (change before after (exchanged x) ((are.exact (exchanged x)).0 (back xs x c))),
    λ is. subst (Contains (map exchanged xs)) (twice x) (there xs (exchanged x) ((are.exact (exchanged x)).1 (change after before x is))),
  );
}
