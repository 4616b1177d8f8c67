-- The parts of a service account's user name.
use Rattle.std.proofs.Common.{◌≡◌, ◌+◌, ◌≤◌, ◌∙◌, ℕ, ◌++◌, ap, arith, length, subst, sym}
use Rattle.std.specs.Prelude.{codes, slice_range}
use Rattle.std.proofs.lemmas.List.{drop_at, length-append, take_all}
use Rattle.rbac_terms.specs.Text.{Text}
use Rattle.rbac_terms.specs.Principals.{Who, AsUser, AsMember, IsAccountIn, who_name}
use Rattle.rbac_paths.specs.Nodes.{IsAccountNamed}

pub named_in : (who : Who) (n m : Text) → IsAccountNamed who n m → IsAccountIn who n
named_in (AsUser user given) n m a = (m, a.0, a.1, a.2)
named_in (AsMember group) n m a = elim a [ ]

pub in_named : (who : Who) (n : Text) → IsAccountIn who n → (m : Text) × IsAccountNamed who n m
in_named (AsUser user given) n a = (a.0, (a.1, a.2, a.3))
in_named (AsMember group) n a = elim a [ ]

-- a text that begins with a prefix, a namespace and a colon
module _ (p n m : Text) where
  abbrev front : Text
  front = p ++ n ++ codes ":"

  long : length front ≡ length p + length n + 1
  long = length-append (p ++ n) (codes ":") ∙ ap (λ (k : ℕ). k + 1) (length-append p n)

  all_long : length (front ++ m) ≡ length p + length n + 1 + length m
  all_long = length-append front m ∙ ap (λ (k : ℕ). k + length m) long

  behind : slice_range (front ++ m) (length p + length n + 1) (length (front ++ m)) ≡ m
  behind = rw (drop_at front m (length p + length n + 1) long) (take_all _ m (let all = all_long in omega (arith, all)))

pub name_is : (who : Who) (n m : Text) → IsAccountNamed who n m → slice_range (who_name who) (22 + length n + 1) (length (who_name who)) ≡ m
name_is (AsUser user given) n m a = subst (λ (t : Text). slice_range t (22 + length n + 1) (length t) ≡ m) (sym a.0) (behind (codes "system:serviceaccount:") n m)
name_is (AsMember group) n m a = elim a [ ]

pub name_long : (who : Who) (n m : Text) → IsAccountNamed who n m → 22 + length n + 1 ≤ length (who_name who)
name_long (AsUser user given) n m a = let all : length user ≡ 22 + length n + 1 + length m = ap length a.0 ∙ all_long (codes "system:serviceaccount:") n m in omega (arith, all)
name_long (AsMember group) n m a = elim a [ ]
