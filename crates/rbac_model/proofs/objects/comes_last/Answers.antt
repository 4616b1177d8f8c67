use Rattle.std.proofs.Common.{◌≡◌, ◌-◌, length, slice_get, sym, ap, ◌∙◌, subst, IsTrue}
use Rattle.std.specs.Prelude.{Some}
use Rattle.std.specs.Option.{option_copied}
use Rattle.rbac_model.proofs.NamePlaces.{after_last, is_less}
use Rattle.rbac_model.proofs.objects.comes_last.Goals as goal

pub returns-in-Some : goal.returns-in-Some
returns-in-Some g c = λ yes.
    let at : slice_get c.args.items.now (length c.args.items.now - 1) ≡ Some c.in-Some.last.now = sym c.last.ensures.value ∙ ap option_copied c.in-Some.is in
    after_last g.T.Named.name c.args.items.now c.requires c.args.item.now c.in-Some.last.now at
    (sym c.cmp_name.ensures ∙ is_less c.cmp_name.result (subst IsTrue c.is_lt.ensures yes))
