-- Keys tell the users and groups apart that are named, with the groups that documents give them.
use Rattle.std.proofs.Common.{◌≡◌, ◌∙◌, ℕ, List, [], All, Contains, ap, subst, sym}
use Rattle.std.proofs.lemmas.List.Elements.{All-append, All-contains}
use Rattle.rbac_terms.specs.Principals.{Who, given_of, who_key}
use Rattle.rbac_groups.specs.Memberships.{users_listed, with_memberships}
use Rattle.rbac_groups.proofs.NoneGiven.{none_given as none_listed}
use Rattle.rbac_model.proofs.SubjectPrincipals.{one_of_key}
use Rattle.rbac_lists.proofs.NoGroups.{none_given}
use Rattle.rbac_manifest.specs.Contents.{accounts_in}
use Rattle.rbac_manifest.specs.Load.{IsLoaded, LoadedView, all_contents}
use Rattle.rbac_paths.specs.Principals.{AreToldByKeys}
use Rattle.rbac_universe.proofs.Flattened.{contains_map}
use Rattle.rbac_cli.specs.Groups.{named_alone, named_in}
use Rattle.rbac_cli.proofs.GroupsGiven.{key_kept}

pub told_by_keys : (inputs : List (List ℕ)) (l : LoadedView) → IsLoaded inputs l → AreToldByKeys (named_in l)
told_by_keys inputs l is who other among also e =
    let give = with_memberships l.memberships in
    let (p, here, given) = contains_map give (named_alone l) who among in
    let (q, there, giving) = contains_map give (named_alone l) other also in
    let keys = sym (key_kept l.memberships p) ∙ ap who_key given ∙ e ∙ sym (ap who_key giving) ∙ key_kept l.memberships q in
    sym given ∙ ap give (one_of_key p q (none p here) (none q there) keys) ∙ giving
  where
    none_of_them : All (λ w. given_of w ≡ []) (named_alone l)
    none_of_them = All-append (λ w. given_of w ≡ []) l.principals (users_listed l.memberships)
        (subst (All (λ w. given_of w ≡ [])) (sym is.principals) (none_given l.policy.held (accounts_in (all_contents inputs))))
        (none_listed l.memberships)

    none : (w : Who) → Contains (named_alone l) w → given_of w ≡ []
    none w c = All-contains (λ w. given_of w ≡ []) (named_alone l) w none_of_them c
