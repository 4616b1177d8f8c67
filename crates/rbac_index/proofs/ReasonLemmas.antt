-- why a holder's key holds a permission, and how that explains what a principal may do
use Rattle.std.proofs.Common.{◌≡◌, ◌∙◌, ℕ, ◌<◌, ◌≤◌, inl, inr, sym, ap, subst, refl, arith, slice_get}
use Rattle.std.specs.Prelude.{Option, Some}
use Rattle.std.proofs.lemmas.Bool.{cases_lt}
use Rattle.std.proofs.lemmas.Option.{same_Some, slice_get_within, get_or_from_slice_get, slice_get-get_or}
use Rattle.rbac_terms.specs.Text.{Text}
use Rattle.rbac_terms.specs.Targets.{What}
use Rattle.rbac_terms.specs.Principals.{Who, AsMember, who_key}
use Rattle.rbac_terms.specs.Granting.{Names, IsSubjectKey}
use Rattle.rbac_terms.specs.Matching.{RuleAllows}
use Rattle.rbac_terms.specs.declared.granting.Binding.{Binding}
use Rattle.rbac_terms.specs.declared.granting.Subject.{Subject}
use Rattle.rbac_model.specs.Lists.{IsFirstAt}
use Rattle.rbac_model.specs.Holders.{HolderView, IsHolder, IsHolderAt, IsKeyFor, HasKey}
use Rattle.rbac_model.specs.Policies.{PolicyView, IsPolicy, GrantView, GrantAllows, IsOfBinding, IsWhy, Live, Brings}
use Rattle.rbac_model.proofs.BindingPlaces.{places_rise, of_some_binding, rule_of_binding, grant_of_rule}
use Rattle.rbac_model.proofs.GrantNumbers.{grant_by}
use Rattle.rbac_index.specs.Deciding.{IsFirstAllowing, NoneAllowing}
use Rattle.rbac_index.specs.Requested.{RequestedView, ThisTarget}
use Rattle.rbac_terms.specs.declared.scope.Scope.{Scope}
use Rattle.rbac_index.specs.WhoCan.{HoldsAt}
use Rattle.rbac_index.specs.WhyHeld.{AllowsKey, IsWhyHeld}
use Rattle.rbac_model.proofs.KeyNames.{naming_key, key_names}

-- some grant of a binding by which a key holds the permission allows the request
pub some_allows : (p : PolicyView) → IsPolicy p → (scope : Scope) (verb : Text) (t : RequestedView) (key : Text) (i j : ℕ) → HoldsAt p.held scope verb t key i j → ¬ NoneAllowing p verb t i
some_allows p ok scope verb t key i j a none =
    let brings = a.4.1 in
    let any = brings.2 in
    let of = grant_of_rule p ok i a.0 brings.0 any.1 a.2 brings.1 (any.0, any.2, any.3) in
    none of.0 (of.2, (grant_by a.0 any.1, of.1, any.4))

module _ (p : PolicyView) (ok : IsPolicy p) (namespace verb : Text) (t : What) (x : HolderView) (holder : IsHolder p.held namespace verb t x) where
  -- a grant that allows the request to the key is of a binding through which it holds it
  holder_at : (k i : ℕ) (y : GrantView) → slice_get p.grants k ≡ Some y → IsOfBinding p k i → (allows : AllowsKey x.key namespace verb t y) → IsHolderAt p.held namespace verb t x.key i allows.1.0
  holder_at k i y read of allows =
      let same : of.0 ≡ y = same_Some of.0 y (sym of.1 ∙ read) in
      let there : slice_get p.held.bindings i ≡ Some y.binding = of.2 ∙ ap (λ (v : GrantView). Some v.binding) same in
      let r = rule_of_binding p ok k i y read of in
      let own : r.0 ≡ y.binding = same_Some r.0 y.binding (sym r.1 ∙ there) in
      let has = r.2.2 in
      let brings : Brings p.held y.binding verb t = subst (λ (v : Binding). Brings p.held v verb t) own (r.2.0, r.2.1, (has.0, y.rule, has.1, has.2, allows.2)) in
      let s = allows.1.1 in
      let at : slice_get y.binding.subjects allows.1.0 ≡ Some s = slice_get-get_or y.binding.subjects allows.1.0 s allows.1.2 ∙ ap (λ (v : Subject). Some v) allows.1.3 in
      (y.binding, s, there, at, (allows.0, brings, allows.1.4))

  module _ (n : ℕ) (g : GrantView) (first : IsFirstAllowing p verb (ThisTarget t) x.binding_place n) (read : slice_get p.grants n ≡ Some g) where
    none_earlier : (k : ℕ) (y : GrantView) → k < n → slice_get p.grants k ≡ Some y → ¬ AllowsKey x.key namespace verb t y
    none_earlier k y lt there allows =
        let of = of_some_binding p ok k (slice_get_within p.grants k y there) in
        let rise : of.0 ≤ x.binding_place = places_rise p ok k n of.0 x.binding_place (omega arith) of.1 first.0.0 in
        elim (holder.2 of.0 allows.1.0 (holder_at k of.0 y there of.1 allows)) [
          | inl l ↦ omega arith
          | inr e ↦ first.1 k lt (subst (IsOfBinding p k) (sym e.0) of.1, (y, there, allows.2))
        ]

    none_sooner : (j : ℕ) (s : Subject) → j < x.subject_place → slice_get holder.1.0.subjects j ≡ Some s → ¬ IsSubjectKey s holder.1.0.namespace x.key
    none_sooner j s lt at key =
        let a = holder.1 in
        elim (holder.2 x.binding_place j (a.0, s, a.2, at, (a.4.0, a.4.1, key))) [
          | inl l ↦ omega arith
          | inr e ↦ omega (arith, e.1)
        ]

    -- the first grant of a holder's binding that allows the request is the first that allows it to the holder's key
    pub why_of_holder : IsWhyHeld p x.key namespace verb t g x.subject_place
    why_of_holder =
        let a = holder.1 in
        let b = a.0 in
        let of = first.0.0 in
        let by = first.0.1 in
        let same : of.0 ≡ g = same_Some of.0 g (sym of.1 ∙ read) in
        let also : by.0 ≡ g = same_Some by.0 g (sym by.1 ∙ read) in
        let own : b ≡ g.binding = same_Some b g.binding (sym a.2 ∙ of.2 ∙ ap (λ (v : GrantView). Some v.binding) same) in
        let P : Binding → Type 0 = λ v. Live v.namespace namespace t × HasKey v x.key × ((s : Subject) × IsFirstAt (λ s. IsSubjectKey s v.namespace x.key) v.subjects x.subject_place s) in
        let has : HasKey b x.key = (x.subject_place, a.1, slice_get_within b.subjects x.subject_place a.1 a.3, get_or_from_slice_get b.subjects x.subject_place a.1 a.1 a.3, a.4.2) in
        let h = subst P own (a.4.0, has, (a.1, record { here = a.3; holds = a.4.2; none_before = none_sooner })) in
        record {
          grant = (n, record { here = read; holds = (h.0, h.1, subst (λ (v : GrantView). RuleAllows v.rule.rule verb t) also by.2); none_before = none_earlier });
          subject = h.2;
        }

module _ (p : PolicyView) (namespace verb : Text) (t : What) where
  -- what is allowed to a key of somebody is allowed to them
  allowed_by_key : (who : Who) (key : Text) → IsKeyFor who key → (g : GrantView) → AllowsKey key namespace verb t g → GrantAllows who namespace verb t g
  allowed_by_key who key for g allows =
      let has = allows.1 in
      (allows.0, (has.0, has.1, has.2, has.3, key_names has.1 g.binding.namespace who key has.4 for), allows.2)

  -- why somebody may is why one of their keys holds it
  pub by_a_key : (who : Who) (g : GrantView) (at : ℕ) → IsWhy p who namespace verb t g at → (key : Text) × IsKeyFor who key × IsWhyHeld p key namespace verb t g at
  by_a_key who g at why =
      let s = why.subject.0 in
      let f = why.subject.1 in
      let first = why.grant.1 in
      let k = naming_key s g.binding.namespace who f.holds in
      let has : HasKey g.binding k.0 = (at, s, slice_get_within g.binding.subjects at s f.here, get_or_from_slice_get g.binding.subjects at s s f.here, k.1) in (
        k.0,
        k.2,
        record {
          grant = (
            why.grant.0,
            record {
              here = first.here;
              holds = (first.holds.0, has, first.holds.2);
              none_before = λ m y lt read allows. first.none_before m y lt read (allowed_by_key who k.0 k.2 y allows);
            },
          );
          subject = (
            s,
            record {
              here = f.here;
              holds = k.1;
              none_before = λ j y lt read key. f.none_before j y lt read (key_names y g.binding.namespace who k.0 key k.2);
            },
          );
        },
      )

  pub no_later : (who : Who) (f g : GrantView) (k at : ℕ) (key : Text) → IsKeyFor who key → (why : IsWhy p who namespace verb t f k) → (held : IsWhyHeld p key namespace verb t g at) → why.grant.0 ≤ held.grant.0
  no_later who f g k at key for why held = elim (cases_lt held.grant.0 why.grant.0) [
    | inl l ↦ absurd (why.grant.1.none_before held.grant.0 g l held.grant.1.here (allowed_by_key who key for g held.grant.1.holds))
    | inr l ↦ l
  ]

  one_key : (group key : Text) → IsKeyFor (AsMember group) key → key ≡ who_key (AsMember group)
  one_key group key (inl e) = e
  one_key group key (inr f) = f.2 ∙ ap (λ (v : Text). who_key (AsMember v)) f.1

  member_key : (s : Subject) (own : Option Text) (group : Text) → Names s own (AsMember group) → IsSubjectKey s own (who_key (AsMember group))
  member_key s own group names =
      let k = naming_key s own (AsMember group) names in
      subst (IsSubjectKey s own) (one_key group k.0 k.2) k.1

  allowed_to_member : (group : Text) (g : GrantView) → GrantAllows (AsMember group) namespace verb t g → AllowsKey (who_key (AsMember group)) namespace verb t g
  allowed_to_member group g allows =
      let names = allows.1 in
      (allows.0, (names.0, names.1, names.2, names.3, member_key names.1 g.binding.namespace group names.4), allows.2)

  -- why a group's key holds it is why a member of that group alone may
  pub why_member : (group : Text) (g : GrantView) (at : ℕ) → IsWhyHeld p (who_key (AsMember group)) namespace verb t g at → IsWhy p (AsMember group) namespace verb t g at
  why_member group g at held =
      let who : Who = AsMember group in
      let key = who_key who in
      let for : IsKeyFor who key = inl refl in
      let first = held.grant.1 in
      let f = held.subject.1 in
      record {
        grant = (
          held.grant.0,
          record {
            here = first.here;
            holds = allowed_by_key who key for g first.holds;
            none_before = λ m y lt read allows. first.none_before m y lt read (allowed_to_member group y allows);
          },
        );
        subject = (
          held.subject.0,
          record {
            here = f.here;
            holds = key_names held.subject.0 g.binding.namespace who key f.holds for;
            none_before = λ j y lt read names. f.none_before j y lt read (member_key y g.binding.namespace group names);
          },
        );
      }

-- the binding at a place is that of its grants
pub shown_binding : (p : PolicyView) (verb : Text) (t : RequestedView) (at n : ℕ) (b : Binding) (g : GrantView) → slice_get p.held.bindings at ≡ Some b → IsFirstAllowing p verb t at n → slice_get p.grants n ≡ Some g → b ≡ g.binding
shown_binding p verb t at n b g there first read =
    let of = first.0.0 in
    let same : of.0 ≡ g = same_Some of.0 g (sym of.1 ∙ read) in
    same_Some b g.binding (sym there ∙ of.2 ∙ ap (λ (v : GrantView). Some v.binding) same)
