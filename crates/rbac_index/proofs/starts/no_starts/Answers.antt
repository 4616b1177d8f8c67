use Rattle.std.proofs.Common.{◌≡◌, ◌∙◌, ◌++◌, ◌∷◌, [], ℕ, ◌+◌, List, replicate, subst, arith}
use Rattle.std.proofs.lemmas.List.{replicate-append-replicate}
use Rattle.rbac_index.proofs.starts.no_starts.Goals as goal

one_more : (n : ℕ) (xs new : List (List ℕ)) (x : List ℕ) → xs ≡ replicate n [] → x ≡ [] → new ≡ xs ++ x ∷ [] → new ≡ replicate (n + 1) []
one_more n xs new x are none is = is ∙ (rw (are, none) (replicate-append-replicate n 1 []))

pub loop-preserved : goal.loop-preserved
loop-preserved c = one_more c.loop.counter c.loop.starts.items c.push.new.self.items c.new.result c.loop.invariant c.new.ensures c.in_ok-push.ensures.items

pub returns : goal.returns
returns c =
    let all : c.loop.counter ≡ c.args.count = omega arith in
    subst (λ (n : ℕ). c.loop.starts.items ≡ replicate n []) all c.loop.invariant
