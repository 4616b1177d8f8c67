use Rattle.std.proofs.Common.{◌≡◌, ◌↔◌, ◌++◌, ◌∷◌, ◌∙◌, [], List, Contains, ap, append-nil, append_assoc, refl, rules, subst, sym}
use Rattle.std.specs.Ordering.{eq_by_cmp, is_lt}
use Rattle.std.proofs.lemmas.Fn.{answers_by, dedup_same}
use Rattle.rbac_terms.specs.Text.{Text}
use Rattle.rbac_near.specs.Near.{IsNear, near_cmp, request_of}
use Rattle.rbac_near.specs.declared.near.Near.{Near}
use Rattle.rbac_near.proofs.AllNear.{all_near, near_in}
use Rattle.rbac_near.proofs.InOrder.{in_order, near_ranks, same_ones}
use Rattle.rbac_near.proofs.near.near_grants.Goals as goal

pub loop-near-init : goal.loop-near-init
loop-near-init c = refl

pub loop-near-preserved : goal.loop-near-preserved
loop-near-preserved c =
    let found = c.loop-near.found.items in
    ap (λ (xs : List Near). xs ++ near_in c.next.new.self) c.in_ok-push.ensures.items ∙ append_assoc found (c.in-Some.near ∷ []) (near_in c.next.new.self)
    ∙ sym (ap (λ (es : List (Text × Near)). found ++ near_in es) c.in-Some.ensures.steps) ∙ c.loop-near.invariant

pub returns : goal.returns
returns c =
    let p = c.args.policy.now in
    let q = request_of c.args.request in
    let members = c.in_ok-members.members in
    let named = c.in_ok-found.found.items in
    let gives = c.into_iter-near-iterator.ensures.into_iter_gives in
    let xs = c.loop-near.found.items in
    let ss = c.sort_unstable_by.new.self.items in
    let ys = c.dedup_by.new.self.items in
    let found : xs ≡ named ++ near_in members.entries = sym (append-nil xs) ∙ sym (ap (λ (es : List (Text × Near)). xs ++ near_in es) c.in-None.ensures.steps.0) ∙ c.loop-near.invariant
    ∙ ap (λ (es : List (Text × Near)). named ++ near_in es) gives.0 in
    let sorted = c.sort_unstable_by.ensures.sorted (λ x y. is_lt (near_cmp x y)) near_ranks
    (answers_by _ _ (λ f. Unit {0}) (λ f a r h called met. (search rules, tt)) _ tt) in
    let once = dedup_same _ (eq_by_cmp near_cmp) _ (λ x y b f' x' y' k. search rules) ss ys c.dedup_by.ensures.filtered in
    let moved = c.sort_unstable_by.ensures.permutation in
    let each : (x : Near) → Contains xs x ↔ IsNear p q x = λ x. subst (λ (zs : List Near). Contains zs x ↔ IsNear p q x) (sym found)
    (all_near p q c.in_ok-found.ensures.policy named c.in_ok-found.ensures.named members gives.5 c.in_ok-members.ensures x) in
    record {
      near = record {
        ordered = in_order xs ss ys moved sorted once;
        exact = λ x. (let same = same_ones xs ss ys moved sorted once x in (λ w. (each x).0 (same.0 w), λ near. same.1 ((each x).1 near)));
      };
      policy = c.in_ok-found.ensures.policy;
    }
