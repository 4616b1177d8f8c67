use Rattle.std.proofs.Common.{rules, ltb, leb}
use Rattle.std.proofs.lemmas.List.Sorted.{IsPartitionedBy-ltb, IsPartitionedBy-leb, IsPartitionPoint-from_clause}
use Rattle.rbac_model.specs.declared.places.GrantPlace.{GrantPlace}
use Rattle.rbac_model.proofs.BindingPlaces.{places_ascend, parted_at, parted_upto, parted_in_order}
use Rattle.rbac_model.proofs.policy.Policy.grants_of.Goals as goal

pub returns-clause-between : goal.returns-clause-between
returns-clause-between c =
    let p = c.args.self.now in
    let xs = c.places-places.result.now in
    let e = c.places-places.ensures in
    let up = places_ascend p e.policy xs e.grants e.held in
    let first = IsPartitionPoint-from_clause (λ (at : GrantPlace). ltb at.binding c.args.place) xs c.partition_point.result c.partition_point.ensures.partitioned (IsPartitionedBy-ltb (λ (at : GrantPlace). at.binding) xs c.args.place up) (search rules) in
    let last = IsPartitionPoint-from_clause (λ (at : GrantPlace). leb at.binding c.args.place) xs c.partition_point-2.result c.partition_point-2.ensures.partitioned (IsPartitionedBy-leb (λ (at : GrantPlace). at.binding) xs c.args.place up) (search rules) in
    parted_at p e.policy xs e.grants e.held c.args.place c.partition_point.result c.partition_point-2.result e.len first last

pub returns-clause-upto : goal.returns-clause-upto
returns-clause-upto c =
    let p = c.args.self.now in
    let xs = c.places-places.result.now in
    let e = c.places-places.ensures in
    let up = places_ascend p e.policy xs e.grants e.held in
    let last = IsPartitionPoint-from_clause (λ (at : GrantPlace). leb at.binding c.args.place) xs c.partition_point-2.result c.partition_point-2.ensures.partitioned (IsPartitionedBy-leb (λ (at : GrantPlace). at.binding) xs c.args.place up) (search rules) in
    parted_upto p e.policy xs e.grants e.held c.args.place c.partition_point-2.result e.len last

pub returns-clause-ordered : goal.returns-clause-ordered
returns-clause-ordered c =
    let p = c.args.self.now in
    let xs = c.places-places.result.now in
    let e = c.places-places.ensures in
    let up = places_ascend p e.policy xs e.grants e.held in
    let first = IsPartitionPoint-from_clause (λ (at : GrantPlace). ltb at.binding c.args.place) xs c.partition_point.result c.partition_point.ensures.partitioned (IsPartitionedBy-ltb (λ (at : GrantPlace). at.binding) xs c.args.place up) (search rules) in
    let last = IsPartitionPoint-from_clause (λ (at : GrantPlace). leb at.binding c.args.place) xs c.partition_point-2.result c.partition_point-2.ensures.partitioned (IsPartitionedBy-leb (λ (at : GrantPlace). at.binding) xs c.args.place up) (search rules) in
    parted_in_order p e.policy xs e.grants e.held c.args.place c.partition_point.result c.partition_point-2.result (search rules) first last
