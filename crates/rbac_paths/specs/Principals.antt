-- The users and groups among the nodes.
use Rattle.std.specs.Prelude.{◌≡◌, ◌≢◌, ◌⊎◌, List, Contains}
use Rattle.rbac_terms.specs.Principals.{Who, who_key}

-- the principal is the one asked about, or one of these with another key (own)
abbrev pub IsOneWith : List Who → Who → Who → Type 0
IsOneWith principals asked who = (who ≡ asked)
    ⊎ (Contains principals who × (who_key who ≢ who_key asked))

-- no two of these users and groups have the same key
abbrev pub AreToldByKeys : List Who → Type 0
AreToldByKeys principals = (who other : Who) → Contains principals who → Contains principals other
    → who_key who ≡ who_key other → who ≡ other
