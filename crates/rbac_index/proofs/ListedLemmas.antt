-- the holders that are listed in one namespace with their first bindings are the holders, and those of any question are one list
use Rattle.std.proofs.Common.{◌≡◌, ℕ, ◌+◌, ◌↔◌, Bool, false, List, Result, Ok, Err, IfOk, inl, inr, sym, subst, arith}
use Rattle.std.proofs.lemmas.Bool.{cases_order}
use Rattle.rbac_terms.specs.Text.{Text}
use Rattle.rbac_terms.specs.Targets.{What}
use Rattle.rbac_index.specs.Requested.{RequestedView, ThisTarget}
use Rattle.rbac_model.specs.Policies.{Held}
use Rattle.rbac_model.specs.Holders.{HolderView, IsBefore, IsHolder, AreHolders}
use Rattle.rbac_terms.specs.declared.scope.Scope.{Scope}
use Rattle.rbac_terms.specs.declared.scope.Scope.TheVariants.{Namespace}
use Rattle.rbac_index.specs.WhoCan.{HoldsAt, IsListedHolder, AreListedHolders}
use Rattle.rbac_index.specs.Holding.{AllowsByHolders}
use Rattle.rbac_index.proofs.HolderLaw.{allows_by_holders}
use Rattle.rbac_index.proofs.OneHolders.{one_in_order}

module _ (h : Held) (namespace verb : Text) (t : What) where
  -- a pair of places in the first binding or a later one comes before the next
  before : (x : HolderView) → IsListedHolder h (Namespace namespace) false verb (ThisTarget t) x → (i j : ℕ) → HoldsAt h (Namespace namespace) verb (ThisTarget t) x.key i j → IsBefore x.binding_place x.subject_place i (j + 1)
  before x listed i j a =
      let le = listed.1 i j a in
      elim (cases_order x.binding_place i) [
        | inl e ↦
            let least = listed.0.2 j (subst (λ (k : ℕ). HoldsAt h (Namespace namespace) verb (ThisTarget t) x.key k j) (sym e) a) in
            inr (e, omega arith)
        | inr d ↦ elim d [
          | inl l ↦ inl l
          | inr l ↦ absurd (omega arith)
        ]
      ]

  listed_holder : (x : HolderView) → IsListedHolder h (Namespace namespace) false verb (ThisTarget t) x ↔ IsHolder h namespace verb t x
  listed_holder x = (
    λ listed. (listed.0.0, listed.0.1, before x listed),
    λ holder. (
      (
        holder.0,
        holder.1,
        λ j a. elim (holder.2 x.binding_place j a) [
          | inl l ↦ omega arith
          | inr e ↦ omega (arith, e.1)
        ],
      ),
      λ i j a. elim (holder.2 i j a) [
        | inl l ↦ omega arith
        | inr e ↦ omega (arith, e.0)
      ],
    ),
  )

  pub listed_holders : (xs : List HolderView) → AreListedHolders h (Namespace namespace) false verb (ThisTarget t) xs ↔ AreHolders h namespace verb t xs
  listed_holders xs = (
    λ listed. record {
      ordered = listed.ordered;
      exact = λ x. (λ w. (listed_holder x).0 ((listed.exact x).0 w), λ holder. (listed.exact x).1 ((listed_holder x).1 holder));
    },
    λ holders. record {
      ordered = holders.ordered;
      exact = λ x. (λ w. (listed_holder x).1 ((holders.exact x).0 w), λ listed. (holders.exact x).1 ((listed_holder x).0 listed));
    },
  )

pub one_listed : (h : Held) (scope : Scope) (every : Bool) (verb : Text) (t : RequestedView) (xs others : List HolderView) → AreListedHolders h scope every verb t xs
    → AreListedHolders h scope every verb t others → xs ≡ others
one_listed h scope every verb t xs others a b =
    one_in_order xs others a.ordered b.ordered (λ x w. (b.exact x).1 ((a.exact x).0 w)) (λ x w. (a.exact x).1 ((b.exact x).0 w))

pub ok_holders : {E : Type 0} (h : Held) (namespace verb : Text) (t : What) (r : Result (List HolderView) E) → IfOk r (AreListedHolders h (Namespace namespace) false verb (ThisTarget t)) → IfOk r (AreHolders h namespace verb t)
ok_holders h namespace verb t (Ok xs) listed = (listed_holders h namespace verb t xs).0 listed
ok_holders h namespace verb t (Err e) listed = tt

pub ok_law : {E : Type 0} (h : Held) (namespace verb : Text) (t : What) (r : Result (List HolderView) E) → IfOk r (AreHolders h namespace verb t) → IfOk r (AllowsByHolders h namespace verb t)
ok_law h namespace verb t (Ok xs) are = allows_by_holders h namespace verb t xs are
ok_law h namespace verb t (Err e) are = tt
