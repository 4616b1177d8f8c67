-- The powers that were found are all powers of a step, each once.
use Rattle.std.proofs.Common.{◌≡◌, ◌<◌, ℕ, List, [], refl, sym, ◌∙◌, ap, ap₂, subst, arith, Some, None, Option, AllPairs, Contains, map, length, option_map, get_or, slice_get}
use Rattle.std.specs.BTreeMap.{get, IsOrdered}
use Rattle.std.specs.declared.cmp.Ordering.TheVariants.{Less}
use Rattle.std.proofs.lemmas.Cmp.{nat_list_cmp_total}
use Rattle.std.proofs.lemmas.List.{length-map, same_from_push}
use Rattle.std.proofs.Math.ListN.{get_or-map}
use Rattle.std.proofs.lemmas.Map.Entries.{place_from_lookup, btree_map_get_place}
use Rattle.std.proofs.lemmas.Option.{same_Some, slice_get_read, slice_get-get_or, slice_get-map, slice_get_within, get_or_from_slice_get}
use Rattle.std.specs.Ordering.{is_eq}
use Rattle.rbac_terms.specs.Text.{Text, text_cmp}
use Rattle.rbac_terms.specs.Granting.{IsSubjectKey}
use Rattle.rbac_model.specs.Lists.{IsFirstAt}
use Rattle.rbac_model.specs.Policies.{GrantView, IsPolicy, PolicyView}
use Rattle.rbac_model.proofs.BindingPlaces.{of_some_binding}
use Rattle.rbac_model.proofs.Firsts.{one_place, one_first}
use Rattle.rbac_model.proofs.OwnWords.{any_from}
use Rattle.rbac_text.specs.Choice.{choice_text, choice_and_tab}
use Rattle.rbac_text.specs.Row.{tab}
use Rattle.rbac_text.proofs.Choices.{choice_text-one, field-one}
use Rattle.rbac_paths.specs.Finding.{AreWithGrants, FindsPowers, Found}
use Rattle.rbac_paths.specs.Powers.{ArePowersOf, GivesStep, GivesThere, IsPower, PowerView, power_place, who_and_where}
use Rattle.rbac_steps.specs.declared.steps.Step.{Step}
use Rattle.rbac_paths.proofs.Entries.{strict}
use Rattle.rbac_paths.proofs.Mapped.{some_is}

-- ---- step, who and where determine a power

place_tells : (who other : Text) (a b : Option Text) → who_and_where who a ≡ who_and_where other b → (who ≡ other) × (a ≡ b)
place_tells who other a b e =
    let cut = field-one who other (choice_and_tab a) (choice_and_tab b) e in
    (cut.0, choice_text-one a b (same_from_push (choice_text a) (choice_text b) tab tab cut.1).0)

module _ (p : PolicyView) (step : Step) where
  one_power : (x y : PowerView) → x.step ≡ step → y.step ≡ step → IsPower p x → IsPower p y → power_place x ≡ power_place y → x ≡ y
  one_power x y xs ys a b e =
      let told = place_tells x.who y.who x.grant.binding.namespace y.grant.binding.namespace e in
      let there : IsFirstAt (GivesThere y.step y.who y.grant.binding.namespace) p.grants a.grant.0 x.grant =
      subst (λ (o : Option Text). IsFirstAt (GivesThere y.step y.who o) p.grants a.grant.0 x.grant) told.1
      (subst (λ (w : Text). IsFirstAt (GivesThere y.step w x.grant.binding.namespace) p.grants a.grant.0 x.grant) told.0
      (subst (λ (s : Step). IsFirstAt (GivesThere s x.who x.grant.binding.namespace) p.grants a.grant.0 x.grant) (xs ∙ sym ys) a.grant.1)) in
      let grants : x.grant ≡ y.grant = one_first (GivesThere y.step y.who y.grant.binding.namespace) p.grants a.grant.0 b.grant.0 x.grant y.grant there b.grant.1 in
      let subject : IsFirstAt (λ s. IsSubjectKey s y.grant.binding.namespace y.who) y.grant.binding.subjects x.subject_place a.subject.0 =
      subst (λ (g : GrantView). IsFirstAt (λ s. IsSubjectKey s g.binding.namespace y.who) g.binding.subjects x.subject_place a.subject.0) grants
      (subst (λ (w : Text). IsFirstAt (λ s. IsSubjectKey s x.grant.binding.namespace w) x.grant.binding.subjects x.subject_place a.subject.0) told.0 a.subject.1) in
      let places : x.subject_place ≡ y.subject_place = one_place (λ s. IsSubjectKey s y.grant.binding.namespace y.who) y.grant.binding.subjects x.subject_place y.subject_place a.subject.0 b.subject.0 subject b.subject.1 in
      let of : Step → Text → GrantView → ℕ → PowerView = λ s w g i. record { step = s; who = w; grant = g; subject_place = i } in
      ap₂ (λ (s : Step) (w : Text). of s w x.grant x.subject_place) (xs ∙ sym ys) told.0 ∙ ap₂ (λ (g : GrantView) (i : ℕ). of y.step y.who g i) grants places

-- ---- entries in order

-- the powers that were found
abbrev pub powers_in : List (Text × PowerView) → List PowerView
powers_in es = map (λ e. e.1) es

mapped : (o : Option (Text × PowerView)) (x : PowerView) → option_map (λ e. e.1) o ≡ Some x → (e : Text × PowerView) × (o ≡ Some e) × (e.1 ≡ x)
mapped None x e = absurd (let both : None ≡ Some x = e in cc)
mapped (Some y) x e = (y, refl, same_Some y.1 x e)

module _ (p : PolicyView) (ok : IsPolicy p) (step : Step) (m : Found) (up : IsOrdered text_cmp m) (f : FindsPowers p step (length p.held.bindings) m) where
  entry_at : (i : ℕ) (e : Text × PowerView) → slice_get m.entries i ≡ Some e → (e.0 ≡ power_place e.1) × (e.1.step ≡ step) × IsPower p e.1
  entry_at i e at = f.only e.0 e.1 (btree_map_get_place nat_list_cmp_total m i e.0 e.1 up at)

  in_order : AllPairs (λ x y. text_cmp (power_place x) (power_place y) ≡ Less) (powers_in m.entries)
  in_order i j d low within =
      let es = m.entries in
      let none : Text × PowerView = ([], d) in
      let last : j < length es = subst (λ (n : ℕ). j < n) (length-map es (λ (e : Text × PowerView). e.1)) within in
      let key : (k : ℕ) → k < length es → (get_or es k none).0 ≡ power_place (get_or es k none).1 = λ k there. (entry_at k (get_or es k none) (slice_get-get_or es k none there)).0 in
      let read : (k : ℕ) → get_or (powers_in es) k d ≡ (get_or es k none).1 = λ k. get_or-map (λ (e : Text × PowerView). e.1) es k none in
      ap₂ (λ (x : PowerView) (y : PowerView). text_cmp (power_place x) (power_place y)) (read i) (read j)
      ∙ ap₂ (λ (x : Text) (y : Text). text_cmp x y) (sym (key i (omega (arith, low, last)))) (sym (key j last))
      ∙ strict es up i j none low last

  is_listed : (x : PowerView) → Contains (powers_in m.entries) x → (x.step ≡ step) × IsPower p x
  is_listed x c =
      let e = mapped (slice_get m.entries c.0) x (sym (slice_get-map (λ e. e.1) m.entries c.0) ∙ slice_get_read (powers_in m.entries) (length (powers_in m.entries)) c.0 x refl c.1 (sym c.2)) in
      subst (λ (z : PowerView). (z.step ≡ step) × IsPower p z) e.2 (let w = entry_at c.0 e.0 e.1 in (w.1, w.2))

  in_list : (t : Text) (y : PowerView) → get text_cmp m t ≡ Some y → Contains (powers_in m.entries) y
  in_list t y e =
      let at = place_from_lookup (λ k. is_eq (text_cmp t k)) m.entries y e in
      let there : slice_get (powers_in m.entries) at.0 ≡ Some y = slice_get-map (λ e. e.1) m.entries at.0 ∙ ap (option_map (λ e. e.1)) at.2 in
      (at.0, slice_get_within (powers_in m.entries) at.0 y there, get_or_from_slice_get (powers_in m.entries) at.0 y y there)

  listed : (x : PowerView) → x.step ≡ step → IsPower p x → Contains (powers_in m.entries) x
  listed x is a =
      let first = a.grant.1 in
      let place = of_some_binding p ok a.grant.0 (slice_get_within p.grants a.grant.0 x.grant first.here) in
      let within : place.0 < length p.held.bindings = slice_get_within p.held.bindings place.0 place.1.0.binding place.1.2 in
      let found = some_is (get text_cmp m (power_place x)) (f.has place.0 a.grant.0 x.grant x.who within (first.here, place.1) (subst (λ (s : Step). GivesStep s x.grant) is first.holds.2) first.holds.1) in
      let w = f.only (power_place x) found.0 found.1 in
      subst (λ (z : PowerView). Contains (powers_in m.entries) z) (sym (one_power p step x found.0 is w.1 a w.2 w.0)) (in_list (power_place x) found.0 found.1)

  -- the powers by each grant are found
  pub with_grants : AreWithGrants p step (powers_in m.entries)
  with_grants n g key here gives has =
      let place = of_some_binding p ok n (slice_get_within p.grants n g here) in
      let within : place.0 < length p.held.bindings = slice_get_within p.held.bindings place.0 place.1.0.binding place.1.2 in
      let found = some_is (get text_cmp m (who_and_where key g.binding.namespace)) (f.has place.0 n g key within (here, place.1) gives has) in
      let w = f.only (who_and_where key g.binding.namespace) found.0 found.1 in
      let told = place_tells key found.0.who g.binding.namespace found.0.grant.binding.namespace w.0 in
      any_from (λ x. (x.step ≡ step) × (x.who ≡ key) × (x.grant.binding.namespace ≡ g.binding.namespace)) (powers_in m.entries) found.0
      (in_list (who_and_where key g.binding.namespace) found.0 found.1) (w.1, sym told.0, sym told.1)

  pub all_powers : ArePowersOf p step (powers_in m.entries)
  all_powers = record { ordered = in_order; exact = λ x. (is_listed x, λ h. listed x h.0 h.1) }
