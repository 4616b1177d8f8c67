use Rattle.std.proofs.Common.{refl}
use Rattle.rbac_model.proofs.NamePlaces.{put_set, ascending_set, named_at, put_insert, ascending_insert, none_named}
use Rattle.rbac_model.proofs.objects.put.Goals as goal

pub returns-in-Ok-clause-ok : goal.returns-in-Ok-clause-ok
returns-in-Ok-clause-ok g c = put_set g.T.Named.name c.args.items.now.items c.requires c.args.item c.in-Ok.at (rw c.deref.ensures.value at c.in-Ok.ensures.found)

pub returns-in-Ok-clause-replaced : goal.returns-in-Ok-clause-replaced
returns-in-Ok-clause-replaced g c = (λ _. named_at g.T.Named.name c.args.items.now.items c.requires c.args.item c.in-Ok.at (rw c.deref.ensures.value at c.in-Ok.ensures.found), λ _. refl)

pub returns-in-Ok-clause-ascending : goal.returns-in-Ok-clause-ascending
returns-in-Ok-clause-ascending g c = ascending_set g.T.Named.name c.args.items.now.items c.requires c.args.item c.in-Ok.at (rw c.deref.ensures.value at c.in-Ok.ensures.found)

pub returns-in_ok-insert-in-Err-clause-ok : goal.returns-in_ok-insert-in-Err-clause-ok
returns-in_ok-insert-in-Err-clause-ok g c =
    rw c.in_ok-insert-in-Err.ensures.items (put_insert g.T.Named.name c.args.items.now.items c.requires c.args.item c.in-Err.at (rw c.deref.ensures.value at c.in-Err.ensures.absent))

pub returns-in_ok-insert-in-Err-clause-replaced : goal.returns-in_ok-insert-in-Err-clause-replaced
returns-in_ok-insert-in-Err-clause-replaced g c =
    (λ h. cc, λ w. absurd (none_named g.T.Named.name c.args.items.now.items c.requires c.args.item c.in-Err.at (rw c.deref.ensures.value at c.in-Err.ensures.absent) w))

pub returns-in_ok-insert-in-Err-clause-ascending : goal.returns-in_ok-insert-in-Err-clause-ascending
returns-in_ok-insert-in-Err-clause-ascending g c =
    rw c.in_ok-insert-in-Err.ensures.items (ascending_insert g.T.Named.name c.args.items.now.items c.requires c.args.item c.in-Err.at (rw c.deref.ensures.value at c.in-Err.ensures.absent))
