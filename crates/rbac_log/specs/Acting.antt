-- The requests by which a user acts as another (Authenticating, User impersonation).
use Rattle.std.specs.Prelude.{◌==◌, ◌&&◌, Bool, not, List, [], ◌∷◌, Option, Some, None, codes, drop}
use Rattle.std.specs.Prelude.{map, nat_eq, if◌then◌else◌}
use Rattle.std.specs.List.{before_first, after_first, list_any, starts_with}
use Rattle.json_fields.specs.Fields.{is_empty}
use Rattle.rbac_terms.specs.Text.{Text, colon}
use Rattle.rbac_terms.specs.Targets.{Resource}
use Rattle.rbac_terms.specs.Principals.{Who, who_name, given_of}
use Rattle.rbac_log.specs.declared.logged.LoggedRequest.{LoggedRequest}

-- a part of a service account's user name, the namespace or the account's name: not empty and
-- without a colon (own)
abbrev pub is_part : Text → Bool
is_part t = not (is_empty t) && not (list_any (λ b. b == colon) t)

-- two parts, if both are proper
abbrev pub parts_of : Text → Text → Option (Text × Text)
parts_of namespace name = if is_part namespace && is_part name then Some (namespace, name) else None

-- a text, cut at its first colon
unfoldable pub cut_at_colon : Text → Option (Text × Text)
cut_at_colon t = parts_of (before_first (λ b. b == colon) t) (after_first (λ b. b == colon) t)

-- the namespace and the name in the user name of a service account,
-- `system:serviceaccount:NAMESPACE:NAME` (Using RBAC Authorization, Referring to subjects)
unfoldable pub account_parts : Text → Option (Text × Text)
account_parts user =
    if starts_with nat_eq user (codes "system:serviceaccount:") then cut_at_colon (drop 22 user) else None

-- the user is allowed to impersonate one of these resources, by its name
abbrev pub impersonation : Who → Text → Text → Text → LoggedRequest
impersonation user namespace resource name = record {
  who = user;
  namespace = namespace;
  verb = codes "impersonate";
  target = Resource [] resource name;
}

-- a service account, in its namespace, or any other user, in the whole cluster
abbrev pub acting_for : Who → Text → Option (Text × Text) → LoggedRequest
acting_for user name None = impersonation user [] (codes "users") name
acting_for user name (Some p) = impersonation user p.0 (codes "serviceaccounts") p.1

-- the user acts as the user of this name
unfoldable pub acting_as : Who → Text → LoggedRequest
acting_as user name = acting_for user name (account_parts name)

-- the other user, and each of its groups
abbrev pub impersonations : Who → Who → List LoggedRequest
impersonations user other = acting_as user (who_name other)
    ∷ map (λ group. impersonation user [] (codes "groups") group) (given_of other)
