use Rattle.std.proofs.Common.{refl}
use Rattle.rbac_model.proofs.objects.Objects.put.Goals as goal

pub returns-in_ok-put-in-Role-clause-ok : goal.returns-in_ok-put-in-Role-clause-ok
returns-in_ok-put-in-Role-clause-ok c = rw (← c.self.view_is, c.in-Role.is) (c.in_ok-put-in-Role.ensures.ok, refl, refl)

pub returns-in_ok-put-in-Role-clause-replaced : goal.returns-in_ok-put-in-Role-clause-replaced
returns-in_ok-put-in-Role-clause-replaced c = rw (← c.self.view_is, c.in-Role.is) c.in_ok-put-in-Role.ensures.replaced

pub returns-in_ok-put-in-ClusterRole-clause-ok : goal.returns-in_ok-put-in-ClusterRole-clause-ok
returns-in_ok-put-in-ClusterRole-clause-ok c = rw (← c.self.view_is, c.in-ClusterRole.is) (c.in_ok-put-in-ClusterRole.ensures.ok, refl, refl)

pub returns-in_ok-put-in-ClusterRole-clause-replaced : goal.returns-in_ok-put-in-ClusterRole-clause-replaced
returns-in_ok-put-in-ClusterRole-clause-replaced c = rw (← c.self.view_is, c.in-ClusterRole.is) c.in_ok-put-in-ClusterRole.ensures.replaced

pub returns-in_ok-put-in-Binding-clause-ok : goal.returns-in_ok-put-in-Binding-clause-ok
returns-in_ok-put-in-Binding-clause-ok c = rw (← c.self.view_is, c.in-Binding.is) (c.in_ok-put-in-Binding.ensures.ok, refl, refl)

pub returns-in_ok-put-in-Binding-clause-replaced : goal.returns-in_ok-put-in-Binding-clause-replaced
returns-in_ok-put-in-Binding-clause-replaced c = rw (← c.self.view_is, c.in-Binding.is) c.in_ok-put-in-Binding.ensures.replaced
