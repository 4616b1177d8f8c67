use Rattle.std.proofs.Common.{◌≡◌, ◌++◌, map}
use Rattle.rbac_terms.proofs.Cases.{on_ok}
use Rattle.rbac_index.specs.HolderViews.{holder_shown}
use Rattle.rbac_members.specs.Listings.{ListingView}
use Rattle.rbac_members.specs.Members.{member_by}
use Rattle.rbac_members.proofs.CandidateLemmas.{users_listed}
use Rattle.rbac_members.proofs.candidates.add_members.Goals as goal

pub returns : goal.returns
returns c =
    let x = holder_shown c.args.holder in
    let old = c.args.members.now.items in
    let found = c.listings_of_group.result.now in
    on_ok c.add_listed.result
    (λ (e : c.add_listed.new.members.items ≡ old ++ map (λ (l : ListingView). member_by x l.user) found). (map (λ (l : ListingView). member_by x l.user) found, users_listed c.args.listings.now found x c.in-Some.group.now c.in-Some.ensures c.listings_of_group.ensures, e))
    c.add_listed.ensures
