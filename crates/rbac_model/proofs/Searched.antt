-- a search from a vertex, and how much of it is left
use Rattle.std.proofs.Common.{◌≡◌, ℕ, ◌+◌, ◌-◌, ◌<◌, ◌≤◌, ◌/◌, ◌%◌, ◌⊎◌, ◌↔◌, List, [], length, get_or, inl, inr, sym, arith, subst, zero, suc}
use Rattle.std.specs.Int.{bit_at}
use Rattle.std.proofs.lemmas.Bool.{cases_eq}
use Rattle.std.proofs.lemmas.Nat.Bits.{bit_at-lt}
use Rattle.rbac_model.proofs.Closing.{by_edge, along, one_on, led_within}
use Rattle.rbac_model.specs.Graphs.{Graph, IsGraph, HasEdge, HasPlace, HasWay, AreFull, AreEnds}

-- what was seen is led to, and the edges of what is done were seen
pub record IsReaching (g : Graph) (from : ℕ) (seen done : List ℕ) : Type 0 where
  pub sound : (k : ℕ) → HasPlace seen k → HasWay g from k
  pub first : (k : ℕ) → HasEdge g from k → HasPlace seen k
  pub taken : (m k : ℕ) → HasPlace done m → HasEdge g m k → HasPlace seen k

module _ (g : Graph) (from : ℕ) where
  pub started : (seen ends : List ℕ) → seen ≡ get_or g from [] → AreEnds g ends → IsReaching g from seen ends
  started seen ends read are = record {
    sound = λ k m. by_edge g from k (subst (λ (row : List ℕ). HasPlace row k) read m);
    first = λ k edge. subst (λ (row : List ℕ). HasPlace row k) (sym read) edge;
    taken = λ m k has edge. absurd (are m k has edge);
  }

  pub stepped : (closed seen done : List ℕ) (at : ℕ) (more over : List ℕ) → AreFull g closed → HasPlace seen at → ((k : ℕ) → HasPlace more k ↔ (HasPlace seen k ⊎ HasEdge g at k)) → ((k : ℕ) → HasPlace over k ↔ ((HasPlace done k ⊎ (k ≡ at)) ⊎ (HasPlace closed at × HasEdge g at k))) → IsReaching g from seen done → IsReaching g from more over
  stepped closed seen done at more over full here seen_is done_is reaching = record {
    sound = λ k m. elim ((seen_is k).0 m) [
      | inl s ↦ reaching.sound k s
      | inr edge ↦ one_on g from at k (reaching.sound at here) edge
    ];
    first = λ k edge. (seen_is k).1 (inl (reaching.first k edge));
    taken = λ m k has edge. (seen_is k).1 (elim ((done_is m).0 has) [
      | inl (inl d) ↦ inl (reaching.taken m k d edge)
      | inl (inr e) ↦ inr (subst (λ (v : ℕ). HasEdge g v k) e edge)
      | inr w ↦ inr (full at m k w.0 w.1 edge)
    ]);
  }

  pub reached_all : (seen done : List ℕ) → IsGraph g → IsReaching g from seen done → ((k : ℕ) → k < length g → HasPlace seen k → HasPlace done k) → (k : ℕ) → HasPlace seen k ↔ HasWay g from k
  reached_all seen done is reaching all k = (
    reaching.sound k,
    λ way. along g (HasPlace seen) (λ m b has edge. reaching.taken m b (all m (led_within g is from m (reaching.sound m has)) has) edge) from way.0 k reaching.first way.1,
  )

-- how many places below a bound aren't in the set
pub missing : List ℕ → ℕ → ℕ
missing places zero = 0
missing places (suc n) = missing places n + (1 - bit_at (get_or places (n / 64) 0) (n % 64))

module _ (old new : List ℕ) (kept : (k : ℕ) → HasPlace old k → HasPlace new k) where
  no_more_here : (k : ℕ) → 1 - bit_at (get_or new (k / 64) 0) (k % 64) ≤ 1 - bit_at (get_or old (k / 64) 0) (k % 64)
  no_more_here k = elim (cases_eq (bit_at (get_or old (k / 64) 0) (k % 64)) 1) [
    | inl e ↦ let f : bit_at (get_or new (k / 64) 0) (k % 64) ≡ 1 = kept k e in omega (arith, e, f)
    | inr ne ↦ let l = bit_at-lt (get_or old (k / 64) 0) (k % 64) in omega (arith, ne, l)
  ]

  no_more : (n : ℕ) → missing new n ≤ missing old n
  unfolding missing
  no_more zero = omega arith
  no_more (suc n) = let rest = no_more n in let here = no_more_here n in omega (arith, rest, here)

  pub fewer : (n at : ℕ) → at < n → (HasPlace old at → ⊥) → HasPlace new at → missing new n < missing old n
  unfolding missing
  fewer zero at l isnt is = absurd (omega (arith, l))
  fewer (suc n) at l isnt is = elim (cases_eq at n) [
    | inl e ↦
        let was = bit_at-lt (get_or old (at / 64) 0) (at % 64) in
        let rest = no_more n in
        subst (λ (v : ℕ). missing new n + (1 - bit_at (get_or new (v / 64) 0) (v % 64)) < missing old n + (1 - bit_at (get_or old (v / 64) 0) (v % 64))) e (omega (arith, was, isnt, is, rest))
    | inr ne ↦ let rest = fewer n at (omega (arith, l, ne)) isnt is in let here = no_more_here n in omega (arith, rest, here)
  ]
