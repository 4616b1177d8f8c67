use Rattle.rbac_model.proofs.objects.BindingNamed.cmp_name.Goals as goal

pub returns-in-None-Some : goal.returns-in-None-Some
returns-in-None-Some c = simp (c.in-None-Some.is-0, c.in-None-Some.is-1)

pub returns-in-Some-None : goal.returns-in-Some-None
returns-in-Some-None c = simp (c.in-Some-None.is-0, c.in-Some-None.is-1)
