-- runs of grants: that of one binding, the next one, and what is left after one more grant
use Rattle.std.proofs.Common.{◌≡◌, ◌≢◌, ◌∙◌, ℕ, ◌+◌, ◌-◌, ◌<◌, ◌≤◌, List, [], ◌∷◌, inl, inr, sym, ap, subst, refl, arith, length, slice_get, drop}
use Rattle.std.specs.Prelude.{Option, Some, None, ◌↔◌, MatchOption}
use Rattle.std.proofs.lemmas.Bool.{cases_lt, cases_eq}
use Rattle.std.proofs.lemmas.List.{length-drop}
use Rattle.std.proofs.lemmas.Option.{same_Some, slice_get_within, get_or_from_slice_get}
use Rattle.rbac_terms.specs.Principals.{Who}
use Rattle.rbac_terms.specs.Granting.{Names}
use Rattle.rbac_terms.specs.declared.granting.Binding.{Binding}
use Rattle.rbac_terms.specs.declared.granting.Subject.{Subject}
use Rattle.rbac_model.specs.Lists.{IsFirstAt}
use Rattle.rbac_model.specs.Policies.{PolicyView, IsPolicy, GrantView, IsOfBinding, BindingNames}
use Rattle.rbac_model.proofs.BindingPlaces.{of_some_binding}
use Rattle.rbac_terms.specs.declared.scope.Scope.{Scope}
use Rattle.rbac_model.specs.Scopes.{MayBeLiveIn}
use Rattle.rbac_rules.specs.Effective.{AreRulesBy}
use Rattle.rbac_rules.specs.Left.{LeftView, IsTaken, rule_shown}
use Rattle.rbac_rules.specs.declared.effective.EffectiveRule.{EffectiveRule}
use Rattle.rbac_model.specs.Sources.{grant_of}
use Rattle.rbac_rules.specs.Runs.{HasAt, HasNone, IsEffectiveRun, IsRunOf, IsRunFrom, IsNextEffectiveRun}
use Rattle.rbac_rules.specs.declared.run.Run.{Run}
use Rattle.rbac_rules.proofs.RuleLists.{taken_first, from_grant, passed, none_left}

module _ (p : PolicyView) (who : Who) (scope : Scope) where
  abbrev HasOf : Binding → Type 0
  HasOf b = MayBeLiveIn scope b.namespace × BindingNames b who

  module _ (place : ℕ) (b : Binding) (there : slice_get p.held.bindings place ≡ Some b) where
    -- the grants of the binding at a place are its own
    own_binding : (n at : ℕ) (g : GrantView) → at ≡ place → IsOfBinding p n at → slice_get p.grants n ≡ Some g → b ≡ g.binding
    own_binding n at g e of read =
        let same : of.0 ≡ g = same_Some of.0 g (sym of.1 ∙ read) in
        same_Some b g.binding (sym there ∙ ap (slice_get p.held.bindings) (sym e) ∙ of.2 ∙ ap (λ (v : GrantView). Some v.binding) same)

    module _ (from to : ℕ) (between : (n at : ℕ) → IsOfBinding p n at → ((from ≤ n) × (n < to)) ↔ (at ≡ place)) where
      pub no_grants : from ≡ to → HasNone p who scope place (place + 1)
      no_grants e n at low high has =
          let within = (between n at has.0).1 (omega arith) in
          omega (arith, within.0, within.1)

      module _ (ok : IsPolicy p) (ordered : from ≤ to) (within : to ≤ length p.grants) (upto : (n at : ℕ) → IsOfBinding p n at → (n < to) ↔ (at ≤ place)) where
        starting : (n at : ℕ) → IsOfBinding p n at → (n < from) ↔ (at < place)
        starting n at of = (
          λ lt.
              let le = (upto n at of).0 (omega arith) in
              elim (cases_eq at place) [
                | inl e ↦ absurd (let w = (between n at of).1 e in omega (arith, w.0))
                | inr ne ↦ omega arith
              ],
          λ lt. elim (cases_lt n from) [
            | inl l ↦ l
            | inr l ↦
                let high = (upto n at of).1 (omega arith) in
                let e = (between n at of).0 (l, high) in
                absurd (omega (arith, e))
          ],
        )

        pub run_of_binding : (subject : ℕ) → from ≢ to → MayBeLiveIn scope b.namespace → ((s : Subject) × IsFirstAt (λ s. Names s b.namespace who) b.subjects subject s)
            → IsRunOf p who scope place (record { no = from; end = to; subject_place = subject; next_place = place + 1 })
        run_of_binding subject ne force first =
            let at = first.1.here in
            let named : BindingNames b who = (subject, first.0, slice_get_within b.subjects subject first.0 at, get_or_from_slice_get b.subjects subject first.0 first.0 at, first.1.holds) in
            record {
              run = record {
                ordered = ordered;
                within = within;
                had = λ n g low high read.
                    let of = of_some_binding p ok n (slice_get_within p.grants n g read) in
                    let own : b ≡ g.binding = own_binding n of.0 g ((between n of.0 of.1).0 (low, high)) of.1 read in
                    let P : Binding → Type 0 = λ v. HasOf v × ((s : Subject) × IsFirstAt (λ s. Names s v.namespace who) v.subjects subject s) in
                    let h = subst P own ((force, named), first) in
                    (h.0, h.1);
                ends = λ n at of. (λ lt. let le = (upto n at of).0 lt in omega (arith, le), λ lt. (upto n at of).1 (omega arith));
              };
              some = omega arith;
              next = refl;
              starts = starting;
            }

  pub none_more : (from place : ℕ) → HasNone p who scope from place → HasNone p who scope place (place + 1) → HasNone p who scope from (place + 1)
  none_more from place before here n at low high has = elim (cases_eq at place) [
    | inl e ↦ here n at (omega arith) (omega arith) has
    | inr ne ↦ before n at low (omega arith) has
  ]

  module _ (ok : IsPolicy p) (run : Run) (is : IsEffectiveRun p who scope run) where
    -- a grant that is left past the run is of a later binding
    later : (n at : ℕ) → run.end ≤ n → IsOfBinding p n at → run.next_place ≤ at
    later n at le of = elim (cases_lt at run.next_place) [
      | inl l ↦ absurd (let m = (is.ends n at of).1 l in omega arith)
      | inr l ↦ l
    ]

    abbrev NoneNext : Type 0
    NoneNext = (n at : ℕ) → run.no ≤ n → ¬ HasAt p who scope n at

    pub next_from : (r : Option Run) → run.end ≤ run.no → MatchOption r (HasNone p who scope run.next_place (length p.held.bindings)) (IsRunFrom p who scope run.next_place) → MatchOption r NoneNext (IsNextEffectiveRun p who scope run.no)
    next_from None le none = λ n at low has.
        none n at (later n at (omega arith) has.0) (slice_get_within p.held.bindings at has.0.0.binding has.0.2) has
    next_from (Some f) le found =
        let place = found.0 in
        let of = found.2 in
        let here = of_some_binding p ok f.no (omega (arith, of.some, of.run.within)) in
        let not_before : ¬ (here.0 < place) = λ lt. let m = (of.starts f.no here.0 here.1).1 lt in omega arith in
        record {
          run = of.run;
          some = of.some;
          past = elim (cases_lt f.no run.no) [
            | inl l ↦ absurd (let low = (is.ends f.no here.0 here.1).0 (omega (arith, is.ordered)) in not_before (omega (arith, low, found.1)))
            | inr l ↦ l
          ];
          none_between = λ n at low high has.
              found.3 n at (later n at (omega arith) has.0) ((of.starts n at has.0).0 high) has;
        }

    -- nothing is left
    pub none_after : NoneNext → AreRulesBy who scope (drop run.no p.grants) []
    none_after none = none_left who scope p.grants run.no (omega (arith, is.ordered, is.within)) (λ m low g read has.
        let of = of_some_binding p ok m (slice_get_within p.grants m g read) in
        none m of.0 low (of.1, (g, read, has)))

    module _ (f : Run) (next : IsNextEffectiveRun p who scope run.no f) where
      pub one_fewer : IsEffectiveRun p who scope (record f { no = f.no + 1 })
      one_fewer = record {
        ordered = omega (arith, next.some);
        within = next.run.within;
        had = λ n g low high read. next.run.had n g (omega arith) high read;
        ends = next.run.ends;
      }

      abbrev left_from : ℕ → LeftView
      left_from n = record { who = who; scope = scope; bindings = p.held.bindings; grants = drop n p.grants }

      pub taken : (x : EffectiveRule) → slice_get p.grants f.no ≡ Some (grant_of x.grant) → IsOfBinding p f.no x.grant.binding_place → x.subject_place ≡ f.subject_place → IsTaken (left_from run.no) (left_from (f.no + 1)) x
      taken x read of_binding subject =
          let g = grant_of x.grant in
          let had = next.run.had f.no g (omega arith) next.some read in
          let count = f.no - run.no in
          let s : run.no + count ≡ f.no = omega (arith, next.past) in
          let past = passed who scope p.grants count run.no in
          let e : drop f.no p.grants ≡ g ∷ drop (f.no + 1) p.grants = from_grant who scope p.grants f.no g read in
          let first = taken_first who scope g (drop (f.no + 1) p.grants) (rule_shown x) refl had.0 (rw subject had.1) in
          let lt = slice_get_within p.grants f.no g read in
          record {
            who = refl;
            scope = refl;
            bindings = refl;
            place = of_binding.2 ∙ ap (λ (v : GrantView). Some v.binding) (same_Some of_binding.0 g (sym of_binding.1 ∙ read));
            fewer = omega (arith, length-drop (f.no + 1) p.grants, length-drop run.no p.grants, lt, next.past);
            left = λ all.
                let skip = past all (omega arith) (λ m low high g' read' has.
                let of = of_some_binding p ok m (slice_get_within p.grants m g' read') in
                next.none_between m of.0 low (omega arith) (of.1, (g', read', has))) in
                let P : List GrantView → Type 0 = λ l. AreRulesBy who scope l all in
                let here : drop (run.no + count) p.grants ≡ g ∷ drop (f.no + 1) p.grants = ap (λ (n : ℕ). drop n p.grants) s ∙ e in
                let one = first all in (
                  λ are. one.0 (subst P here (skip.0 are)),
                  λ of. skip.1 (subst P (sym here) (one.1 of)),
                );
          }
