use Rattle.std.proofs.Common.{◌≡◌, arith, rules, take}
use Rattle.std.specs.Ordering.{is_lt}
use Rattle.std.proofs.lemmas.Fn.{answers_by}
use Rattle.std.proofs.lemmas.List.{take_all}
use Rattle.rbac_model.specs.Lists.{by_name}
use Rattle.rbac_model.proofs.LastNamed.{ranks}
use Rattle.rbac_members.specs.Listings.{listing_name}
use Rattle.rbac_members.proofs.Listed.{sorted_listings}
use Rattle.rbac_members.proofs.listings.listings_of.Goals as goal

pub returns : goal.returns
returns c =
    let ms = c.args.memberships.now in
    let all : take c.loop-membership.membership-index ms ≡ ms = take_all c.loop-membership.membership-index ms (omega (arith, c.loop-membership-test.false)) in
    sorted_listings ms c.loop-membership.listings.items c.sort_unstable_by.new.self.items
    (rw all at c.loop-membership.invariant)
    c.sort_unstable_by.ensures.permutation
    (c.sort_unstable_by.ensures.sorted (λ x y. is_lt (by_name listing_name x y)) (ranks listing_name) (answers_by _ _ (λ f. Unit {0}) (λ f a r h called met. (search rules, tt)) _ tt))
