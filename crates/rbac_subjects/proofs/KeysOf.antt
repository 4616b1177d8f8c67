-- the keys of the principal, listed: its own, those of the groups implied, and those of the groups
-- given
use Rattle.std.proofs.Common.{◌≡◌, List, [], ◌∷◌, ◌++◌, ap, sym, ◌∙◌, refl, subst, inl, inr, ◌⊎◌, ◌↔◌, ◌<◌, length, map, get_or, Contains, arith}
use Rattle.std.specs.Prelude.{codes}
use Rattle.std.specs.Iterator.{YieldsFirst}
use Rattle.std.proofs.lemmas.Iterator.{YieldsList}
use Rattle.std.proofs.lemmas.Iterator.Consumers.{YieldsList-from_first}
use Rattle.std.proofs.lemmas.List.{get_or-map, length-map}
use Rattle.std.proofs.lemmas.List.Elements.{Contains-append_left, Contains-append_right, Contains-append_cases, Contains-get_or, Contains-push, Contains-push_cases}
use Rattle.rbac_terms.specs.Text.{Text}
use Rattle.rbac_terms.specs.Principals.{Who, AsUser, AsMember, who_key, given_of, IsAccountIn, IsGroupOfAccounts, SignsInAs}
use Rattle.rbac_model.specs.Holders.{IsKeyFor}

-- exactly the key of the principal and those of these groups
abbrev pub Lists : Who → (Text → Type 0) → List Text → Type 0
Lists who Is keys = (key : Text) → Contains keys key ↔ ((key ≡ who_key who) ⊎ ((g : Text) × Is g × (key ≡ who_key (AsMember g))))

-- the group is one that the principal is in as a service account
abbrev pub IsOfAccount : Who → Text → Type 0
IsOfAccount who g = (namespace : Text) × IsAccountIn who namespace × IsGroupOfAccounts namespace g

-- the principal is in the group as a service account, or as one that has signed in or has not
abbrev pub IsImplied : Who → Text → Type 0
IsImplied who g = IsOfAccount who g ⊎ SignsInAs who g

abbrev pub member_key : Text → Text
member_key g = who_key (AsMember g)

module _ (who : Who) where
  pub own_listed : (own : Text) → own ≡ who_key who → Lists who (λ g. ⊥) (own ∷ [])
  own_listed own is key = (
    λ c. elim (Contains-push_cases [] own key c) [ inl none ↦ absurd (omega (arith, none.1)) | inr e ↦ inl (sym e ∙ is) ],
    λ d. elim d [ inl e ↦ subst (Contains (own ∷ [])) (is ∙ sym e) (Contains-push [] own) | inr g ↦ absurd g.1 ],
  )

  one_more_group : (Is Are : Text → Type 0) (keys : List Text) (h : Text) → ((g : Text) → (Is g ⊎ (g ≡ h)) ↔ Are g) → Lists who Is keys → Lists who Are (keys ++ member_key h ∷ [])
  one_more_group Is Are keys h are exact key = (
    λ c. elim (Contains-push_cases keys (member_key h) key c) [
      | inl old ↦ elim ((exact key).0 old) [ inl e ↦ inl e | inr g ↦ inr (g.0, (are g.0).0 (inl g.1), g.2) ]
      | inr e ↦ inr (h, (are h).0 (inr refl), sym e)
    ],
    λ d. elim d [
      | inl e ↦ Contains-append_left keys (member_key h ∷ []) key ((exact key).1 (inl e))
      | inr g ↦ elim ((are g.0).1 g.1) [
        | inl is ↦ Contains-append_left keys (member_key h ∷ []) key ((exact key).1 (inr (g.0, is, g.2)))
        | inr e ↦ subst (Contains (keys ++ member_key h ∷ [])) (sym (g.2 ∙ ap member_key e)) (Contains-push keys (member_key h))
      ]
    ],
  )

  no_more_groups : (Is Are : Text → Type 0) (keys : List Text) → ((g : Text) → Is g ↔ Are g) → Lists who Is keys → Lists who Are keys
  no_more_groups Is Are keys are exact key = (
    λ c. elim ((exact key).0 c) [ inl e ↦ inl e | inr g ↦ inr (g.0, (are g.0).0 g.1, g.2) ],
    λ d. (exact key).1 (elim d [ inl e ↦ inl e | inr g ↦ inr (g.0, (are g.0).1 g.1, g.2) ]),
  )

  module _ (keys : List Text) where
    pub accounts_listed : (own : Text) → ((n : Text) → IsAccountIn who n ↔ (n ≡ own)) → Lists who (λ g. ⊥) keys → Lists who (IsOfAccount who) ((keys ++ codes "g:system:serviceaccounts" ∷ []) ++ (codes "g:system:serviceaccounts:" ++ own) ∷ [])
    accounts_listed own is exact =
        let all : Text = codes "system:serviceaccounts" in
        let with_all = one_more_group (λ g. ⊥) (λ g. g ≡ all) keys all (λ g. (λ d. elim d [ inl none ↦ absurd none | inr e ↦ e ], inr)) exact in
        one_more_group (λ g. g ≡ all) (IsOfAccount who) (keys ++ member_key all ∷ []) (codes "system:serviceaccounts:" ++ own) (λ g. (
          λ d. (own, (is own).1 refl, d),
          λ a. elim a.2 [ inl e ↦ inl e | inr e ↦ inr (e ∙ ap (λ (n : Text). codes "system:serviceaccounts:" ++ n) ((is a.0).0 a.1)) ],
        )) with_all

    pub no_accounts : ((n : Text) → IsAccountIn who n → ⊥) → Lists who (λ g. ⊥) keys → Lists who (IsOfAccount who) keys
    no_accounts none = no_more_groups (λ g. ⊥) (IsOfAccount who) keys (λ g. (λ d. absurd d, λ a. none a.0 a.1))

    pub sign_in_listed : (own : Text) → ((g : Text) → SignsInAs who g ↔ (g ≡ own)) → Lists who (IsOfAccount who) keys → Lists who (IsImplied who) (keys ++ (codes "g:" ++ own) ∷ [])
    sign_in_listed own is = one_more_group (IsOfAccount who) (IsImplied who) keys own (λ g. (λ d. elim d [ inl a ↦ inl a | inr e ↦ inr ((is g).1 e) ], λ d. elim d [ inl a ↦ inl a | inr s ↦ inr ((is g).0 s) ]))

    pub no_sign_in : ((g : Text) → SignsInAs who g → ⊥) → Lists who (IsOfAccount who) keys → Lists who (IsImplied who) keys
    no_sign_in none = no_more_groups (IsOfAccount who) (IsImplied who) keys (λ g. (inl, λ d. elim d [ inl a ↦ a | inr s ↦ absurd (none g s) ]))

pub all_listed : (who : Who) (keys : List Text) → Lists who (IsImplied who) keys → (key : Text) → Contains (keys ++ map member_key (given_of who)) key ↔ IsKeyFor who key
all_listed (AsMember group) keys exact key = (
  λ c. elim (Contains-append_cases keys [] key c) [
    | inl old ↦ elim ((exact key).0 old) [ inl e ↦ inl e | inr g ↦ absurd (elim g.1 [ inl a ↦ a.1 | inr s ↦ s ]) ]
    | inr none ↦ absurd (omega (arith, none.1))
  ],
  λ d. Contains-append_left keys [] key ((exact key).1 (inl (elim d [ inl e ↦ e | inr g ↦ g.2 ∙ ap member_key g.1 ]))),
)
all_listed (AsUser name given) keys exact key = (
  λ c. elim (Contains-append_cases keys (map member_key given) key c) [
    | inl old ↦ elim ((exact key).0 old) [ inl e ↦ inl e | inr g ↦ inr (g.0, inr g.1, g.2) ]
    | inr w ↦
        let lt : w.0 < length given = omega (arith, w.1, length-map given member_key) in
        inr (get_or given w.0 [], inl (Contains-get_or given w.0 [] lt), sym w.2 ∙ get_or-map member_key given w.0 [] key lt)
  ],
  λ d. elim d [
    | inl e ↦ Contains-append_left keys (map member_key given) key ((exact key).1 (inl e))
    | inr g ↦ elim g.1 [
      | inl c ↦
          let lt : c.0 < length (map member_key given) = omega (arith, c.1, length-map given member_key) in
          let there : get_or (map member_key given) c.0 key ≡ key = get_or-map member_key given c.0 g.0 key c.1 ∙ ap member_key c.2 ∙ sym g.2 in
          Contains-append_right keys (map member_key given) key (c.0, lt, there)
      | inr is ↦ Contains-append_left keys (map member_key given) key ((exact key).1 (inr (g.0, is, g.2)))
    ]
  ],
)

-- the walk over listed keys
pub walk : (keys : List Text) {s : List Text} → s ≡ keys → YieldsList (YieldsFirst (λ (rest : List Text). rest)) (λ (key : Text). key) s keys
walk keys = YieldsList-from_first (λ (key : Text). key) (λ (rest : List Text). rest) keys
