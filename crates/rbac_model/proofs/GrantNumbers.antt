-- each rule that a binding brings is of a grant, and grants are in order of bindings; so what is allowed is what some grant allows, and the first grant that does is of the first binding that grants
use Rattle.std.proofs.Common.{◌≡◌, ℕ, ◌+◌, ◌-◌, ◌<◌, ◌≤◌, List, [], ◌∷◌, ◌++◌, length, ap, sym, ◌∙◌, refl, subst, suc, zero, inl, inr, arith, Any}
use Rattle.std.specs.Prelude.{Option, Some, None, slice_get}
use Rattle.std.specs.Option.{option_map}
use Rattle.std.proofs.lemmas.Bool.{cases_lt}
use Rattle.std.proofs.lemmas.Option.{same_Some, slice_get-map, slice_get_within, get_or_from_slice_get, slice_get-get_or}
use Rattle.rbac_terms.specs.Text.{Text}
use Rattle.rbac_terms.specs.Targets.{What}
use Rattle.rbac_terms.specs.Principals.{Who}
use Rattle.rbac_terms.specs.Matching.{RuleAllows}
use Rattle.rbac_terms.specs.declared.granting.Binding.{Binding}
use Rattle.rbac_terms.proofs.Reading.{read_left, read_right}
use Rattle.rbac_model.specs.Policies.{Held, IsHeld, PolicyView, IsPolicy, SourcedRule, GrantView, AreRulesFor, AreGrantsOf, Allows, IsFirst, Grants, GrantAllows}
use Rattle.rbac_model.specs.Lists.{IsFirstAt}
use Rattle.rbac_model.specs.Places.{granted_by}
use Rattle.rbac_model.proofs.OneList.{one_rules_for}

abbrev pub grant_by : Binding → SourcedRule → GrantView
grant_by b rule = record { binding = b; rule = rule }

parts_of : (b : Binding) (o : Option SourcedRule) (g : GrantView) → option_map (grant_by b) o ≡ Some g → (b ≡ g.binding) × (o ≡ Some g.rule)
parts_of b None g e = cc
parts_of b (Some r) g e = let same = same_Some (grant_by b r) g e in (ap (λ (v : GrantView). v.binding) same, ap (λ (v : GrantView). Some v.rule) same)

pub any_at : {X : Type 0} (P : X → Type 0) (xs : List X) (k : ℕ) (x : X) → slice_get xs k ≡ Some x → P x → Any P xs
any_at P xs k x e p = (k, x, slice_get_within xs k x e, get_or_from_slice_get xs k x x e, p)

-- what is first among some is first behind one that hasn't the property
pub none_earlier : {X : Type 0} {P : X → Type 0} (c : X) (bs : List X) (i : ℕ) → ¬ P c → ((k : ℕ) (y : X) → k < i → slice_get bs k ≡ Some y → ¬ P y) → (k : ℕ) (y : X) → k < suc i → slice_get (c ∷ bs) k ≡ Some y → ¬ P y
none_earlier {X} {P} c bs i none before zero y lt read p = none (subst P (sym (same_Some c y read)) p)
none_earlier c bs i none before (suc k) y lt read p = before k y (omega (arith, lt)) read p

module _ (h : Held) where
  -- each rule that a binding brings is of a grant
  pub number_of : (held : IsHeld h) (bs : List Binding) (gs : List GrantView) (i : ℕ) (b : Binding) (rules : List SourcedRule) (k : ℕ) (rule : SourcedRule) → AreGrantsOf h bs gs → slice_get bs i ≡ Some b → AreRulesFor h b rules → slice_get rules k ≡ Some rule → (n : ℕ) × (slice_get gs n ≡ Some (grant_by b rule))
  number_of held [] gs i b rules k rule all at are there = cc
  number_of held (c ∷ bs) gs zero b rules k rule all at are there =
      let same : c ≡ b = same_Some c b at in
      let P : Binding → Type 0 = λ v. AreRulesFor h v all.0 in
      let one : all.0 ≡ rules = one_rules_for h b all.0 rules held (subst P same all.2) are in
      let read : slice_get all.0 k ≡ Some rule = ap (λ (rs : List SourcedRule). slice_get rs k) one ∙ there in
      let made : slice_get (granted_by c all.0) k ≡ Some (grant_by b rule) = slice_get-map (grant_by c) all.0 k ∙ ap (option_map (grant_by c)) read ∙ ap (λ (v : Binding). Some (grant_by v rule)) same in
      (k, ap (λ (l : List GrantView). slice_get l k) all.4 ∙ read_left (granted_by c all.0) all.1 k (slice_get_within (granted_by c all.0) k (grant_by b rule) made) ∙ made)
  number_of held (c ∷ bs) gs (suc i) b rules k rule all at are there =
      let rest = number_of held bs all.1 i b rules k rule all.3 at are there in
      let n = length (granted_by c all.0) + rest.0 in
      (n, ap (λ (l : List GrantView). slice_get l n) all.4 ∙ read_right (granted_by c all.0) all.1 n rest.0 refl ∙ rest.1)

  -- each grant is of some binding, and of one of the rules that it brings
  pub binding_of : (bs : List Binding) (gs : List GrantView) (n : ℕ) (g : GrantView) → AreGrantsOf h bs gs → slice_get gs n ≡ Some g → (i : ℕ) × (slice_get bs i ≡ Some g.binding) × ((rules : List SourcedRule) × AreRulesFor h g.binding rules × ((k : ℕ) × (slice_get rules k ≡ Some g.rule)))
  binding_of [] gs n g all at = let bad = sym (ap (λ (l : List GrantView). slice_get l n) all) ∙ at in cc
  binding_of (c ∷ bs) gs n g all at =
      let first = granted_by c all.0 in
      let here : slice_get (first ++ all.1) n ≡ Some g = sym (ap (λ (l : List GrantView). slice_get l n) all.4) ∙ at in
      elim (cases_lt n (length first)) [
        | inl l ↦
            let of = parts_of c (slice_get all.0 n) g (sym (slice_get-map (grant_by c) all.0 n) ∙ sym (read_left first all.1 n l) ∙ here) in
            (0, ap (λ (v : Binding). Some v) of.0, (all.0, subst (λ (v : Binding). AreRulesFor h v all.0) of.0 all.2, (n, of.1)))
        | inr l ↦
            let rest = binding_of bs all.1 (n - length first) g all.3 (sym (read_right first all.1 n (n - length first) (omega arith)) ∙ here) in
            (suc rest.0, rest.1, rest.2)
      ]

  -- the places of bindings rise with the numbers of grants
  pub bindings_rise : (bs : List Binding) (gs : List GrantView) (n m : ℕ) (g f : GrantView) → AreGrantsOf h bs gs → n ≤ m → slice_get gs n ≡ Some g → slice_get gs m ≡ Some f → (i : ℕ) × (j : ℕ) × (slice_get bs i ≡ Some g.binding) × (slice_get bs j ≡ Some f.binding) × (i ≤ j)
  bindings_rise [] gs n m g f all le at there = let bad = sym (ap (λ (l : List GrantView). slice_get l n) all) ∙ at in cc
  bindings_rise (c ∷ bs) gs n m g f all le at there =
      let first = granted_by c all.0 in
      let here : slice_get (first ++ all.1) n ≡ Some g = sym (ap (λ (l : List GrantView). slice_get l n) all.4) ∙ at in
      let later : slice_get (first ++ all.1) m ≡ Some f = sym (ap (λ (l : List GrantView). slice_get l m) all.4) ∙ there in
      elim (cases_lt n (length first)) [
        | inl l ↦
            let of = parts_of c (slice_get all.0 n) g (sym (slice_get-map (grant_by c) all.0 n) ∙ sym (read_left first all.1 n l) ∙ here) in
            let last = binding_of (c ∷ bs) gs m f all there in
            (0, last.0, ap (λ (v : Binding). Some v) of.0, last.1, omega arith)
        | inr l ↦
            let k = length first in
            let rest = bindings_rise bs all.1 (n - k) (m - k) g f all.3 (omega arith) (sym (read_right first all.1 n (n - k) (omega arith)) ∙ here) (sym (read_right first all.1 m (m - k) (omega arith)) ∙ later) in
            (suc rest.0, suc rest.1, rest.2, rest.3, omega (arith, rest.4))
      ]

  -- the binding of the first grant that allows is the first that grants
  first_in : (held : IsHeld h) (who : Who) (namespace verb : Text) (t : What) (bs : List Binding) (gs : List GrantView) (n : ℕ) (g : GrantView) → AreGrantsOf h bs gs → IsFirstAt (GrantAllows who namespace verb t) gs n g
      → (i : ℕ) × IsFirstAt (λ b. Grants h b who namespace verb t) bs i g.binding
  first_in held who namespace verb t [] gs n g all f = let bad = sym (ap (λ (l : List GrantView). slice_get l n) all) ∙ f.here in cc
  first_in held who namespace verb t (c ∷ bs) gs n g all f =
      let P = GrantAllows who namespace verb t in
      let first = granted_by c all.0 in
      let at : (m : ℕ) → slice_get gs m ≡ slice_get (first ++ all.1) m = λ m. ap (λ (l : List GrantView). slice_get l m) all.4 in
      elim (cases_lt n (length first)) [
        | inl l ↦
            let of = parts_of c (slice_get all.0 n) g (sym (slice_get-map (grant_by c) all.0 n) ∙ sym (read_left first all.1 n l) ∙ sym (at n) ∙ f.here) in
            let rules = subst (λ v. AreRulesFor h v all.0) of.0 all.2 in (
              0,
              record {
                here = ap (λ (v : Binding). Some v) of.0;
                holds = (f.holds.0, f.holds.1, (all.0, rules, any_at (λ (r : SourcedRule). RuleAllows r.rule verb t) all.0 n g.rule of.1 f.holds.2));
                none_before = λ k y lt read p. absurd (omega (arith, lt));
              },
            )
        | inr l ↦
            let j = n - length first in
            let right : (m : ℕ) → slice_get gs (length first + m) ≡ slice_get all.1 m = λ m. at (length first + m) ∙ read_right first all.1 (length first + m) m refl in
            let rest = first_in held who namespace verb t bs all.1 j g all.3 (record {
              here = sym (right j) ∙ ap (slice_get gs) (omega arith) ∙ f.here;
              holds = f.holds;
              none_before = λ k y lt read. f.none_before (length first + k) y (omega (arith, lt, l)) (right k ∙ read);
            }) in
            let none_here : ¬ Grants h c who namespace verb t = λ p.
            let brings = p.2.2 in
            let one = one_rules_for h c p.2.0 all.0 held p.2.1 all.2 in
            let k = brings.0 in
            let rule = brings.1 in
            let read : slice_get all.0 k ≡ Some rule = sym (ap (λ (rs : List SourcedRule). slice_get rs k) one) ∙ slice_get-get_or p.2.0 k rule brings.2 ∙ ap (λ (v : SourcedRule). Some v) brings.3 in
            let made : slice_get first k ≡ Some (grant_by c rule) = slice_get-map (grant_by c) all.0 k ∙ ap (option_map (grant_by c)) read in
            let below = slice_get_within first k (grant_by c rule) made in
            f.none_before k (grant_by c rule) (omega (arith, below, l)) (at k ∙ read_left first all.1 k below ∙ made) (p.0, p.1, brings.4) in (
              suc rest.0,
              record {
                here = rest.1.here;
                holds = rest.1.holds;
                none_before = none_earlier c bs rest.0 none_here rest.1.none_before;
              },
            )
      ]

module _ (h : Held) (gs : List GrantView) (who : Who) (namespace verb : Text) (t : What) (held : IsHeld h) (all : AreGrantsOf h h.bindings gs) where
  pub some_grant : Allows h who namespace verb t → Any (GrantAllows who namespace verb t) gs
  some_grant w =
      let b = w.1 in
      let brings = w.4.2 in
      let rule = brings.2.1 in
      let at = number_of h held h.bindings gs w.0 b brings.0 brings.2.0 rule all (slice_get-get_or h.bindings w.0 b w.2 ∙ ap (λ (v : Binding). Some v) w.3) brings.1
      (slice_get-get_or brings.0 brings.2.0 rule brings.2.2 ∙ ap (λ (v : SourcedRule). Some v) brings.2.3) in
      any_at (GrantAllows who namespace verb t) gs at.0 (grant_by b rule) at.1 (w.4.0, w.4.1, brings.2.4)

  pub first_grant : (n : ℕ) (g : GrantView) → IsFirstAt (GrantAllows who namespace verb t) gs n g → IsFirst h who namespace verb t g.binding
  first_grant n g f = first_in h held who namespace verb t h.bindings gs n g all f

-- what a grant allows is allowed
pub grant_allows : (p : PolicyView) → IsPolicy p → (who : Who) (namespace verb : Text) (t : What) → Any (GrantAllows who namespace verb t) p.grants → Allows p.held who namespace verb t
grant_allows p is who namespace verb t a =
    let g = a.1 in
    let of = binding_of p.held p.held.bindings p.grants a.0 g is.1 (slice_get-get_or p.grants a.0 g a.2 ∙ ap (λ (v : GrantView). Some v) a.3) in
    let rules = of.2.0 in
    any_at (λ b. Grants p.held b who namespace verb t) p.held.bindings of.0 g.binding of.1
    (a.4.0, a.4.1, (rules, of.2.1, any_at (λ (r : SourcedRule). RuleAllows r.rule verb t) rules of.2.2.0 g.rule of.2.2.1 a.4.2))
