-- what is gained, binding by binding
use Rattle.std.proofs.Common.{◌≡◌, ◌<◌, ◌+◌, ℕ, inl, inr, sym, ◌∙◌, ap, subst, arith, Some, IsSome, slice_get}
use Rattle.std.specs.BTreeMap.{get}
use Rattle.std.proofs.lemmas.Bool.{cases_lt}
use Rattle.rbac_terms.specs.Text.{Text, text_cmp}
use Rattle.rbac_model.specs.Policies.{PolicyView}
use Rattle.rbac_diff.specs.Permissions.{PermissionView}
use Rattle.rbac_diff.specs.Texts.{permission_text}
use Rattle.rbac_diff.specs.Unchanged.{GrantsNoMore}
use Rattle.rbac_diff.specs.Finding.{IsGainedAt, FoundChanges, Finds, FindsGained}
use Rattle.rbac_diff.specs.Listed.{OriginView}
use Rattle.rbac_diff.specs.declared.change.ChangeKind.{ChangeKind}
use Rattle.rbac_diff.proofs.Searching.{still_some, none_before, none_some}
use Rattle.rbac_diff.proofs.Covered.{no_more_covers}

-- a binding that grants no more than one of the other policy gains nothing
pub unchanged_gains_nothing : (before after : PolicyView) (place : ℕ) → GrantsNoMore after place before → (p : PermissionView) → IsGainedAt before after place p → ⊥
unchanged_gains_nothing before after place same p h =
    let g = h.grant in
    let there = same g.0 g.1 g.2 g.3 in
    h.missing (there.1.0, there.0, there.1.1, there.1.2, no_more_covers p g.1 there.0 g.4 h.asked there.2 there.3 there.4)

module _ (kind : ChangeKind) (before after : PolicyView) where
  pub gathered_nothing : (count : ℕ) (m : FoundChanges) → ((at : ℕ) → at < count → (p : PermissionView) → IsGainedAt before after at p → ⊥) → FindsGained kind before after count m m
  gathered_nothing count m none = record { kept = λ t y e. e; has = λ at p l h. absurd (none at l p h); only = λ t y e. inl e }

  pub gathered_none : (m : FoundChanges) → FindsGained kind before after 0 m m
  gathered_none m = gathered_nothing 0 m (λ at l. absurd (omega (arith, l)))

  pub gathered_same : (k : ℕ) (a b : FoundChanges) → ((p : PermissionView) → IsGainedAt before after k p → ⊥) → FindsGained kind before after k a b → FindsGained kind before after (k + 1) a b
  gathered_same k a b none f = record {
    kept = f.kept;
    has = λ at p l h. elim (cases_lt at k) [
      | inl low ↦ f.has at p low h
      | inr high ↦ (let same : at ≡ k = omega (arith, l, high) in absurd (none p (subst (λ (i : ℕ). IsGainedAt before after i p) same h)))
    ];
    only = λ t y e. elim (f.only t y e) [
      | inl first ↦ inl first
      | inr new ↦ inr (new.0, new.1, (new.2.0, new.2.1, omega (arith, new.2.2), new.2.3, new.2.4, new.2.5, new.2.6))
    ];
  }

  pub gathered_more : (k : ℕ) (x : OriginView) (a b c : FoundChanges) → x.kind ≡ kind → slice_get after.held.bindings k ≡ Some x.binding → FindsGained kind before after k a b → Finds (IsGainedAt before after k) x b c
      → FindsGained kind before after (k + 1) a c
  gathered_more k x a b c is there f g = record {
    kept = λ t y e. g.kept t y (f.kept t y e);
    has = λ at p l h. elim (cases_lt at k) [
      | inl low ↦ still_some (get text_cmp b (permission_text p)) (get text_cmp c (permission_text p)) (g.kept (permission_text p)) (f.has at p low h)
      | inr high ↦ (let same : at ≡ k = omega (arith, l, high) in g.has p (subst (λ (i : ℕ). IsGainedAt before after i p) same h))
    ];
    only = λ t y e. elim (g.only t y e) [
      | inl mid ↦ elim (f.only t y mid) [
        | inl first ↦ inl first
        | inr new ↦ inr (new.0, new.1, (new.2.0, new.2.1, omega (arith, new.2.2), new.2.3, new.2.4, new.2.5, new.2.6))
      ]
      | inr new ↦ inr (
        none_before (get text_cmp a t) (get text_cmp b t) (f.kept t) new.0,
        ap (λ (z : OriginView). z.kind) new.1 ∙ is,
        (
          k,
          new.2.0,
          omega arith,
          new.2.1,
          there ∙ ap (λ (z : OriginView). Some z.binding) (sym new.1),
          new.2.2,
          λ j q l h same. none_some (get text_cmp b t) new.0 (subst (λ (w : Text). IsSome (get text_cmp b w)) (sym same) (f.has j q l h)),
        ),
      )
    ];
  }

  -- the same, by another name of the policy that is asked
  pub gathered_by : (k : ℕ) (asked : PolicyView) (x : OriginView) (a b c : FoundChanges) → asked ≡ before → x.kind ≡ kind → slice_get after.held.bindings k ≡ Some x.binding → FindsGained kind before after k a b → Finds (IsGainedAt asked after k) x b c
      → FindsGained kind before after (k + 1) a c
  gathered_by k asked x a b c same is there f g =
      gathered_more k x a b c is there f (subst (λ (policy : PolicyView). Finds (IsGainedAt policy after k) x b c) same g)
