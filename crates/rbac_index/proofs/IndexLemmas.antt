-- the grants by the rules that are listed under matching words and allow are the candidates
use Rattle.std.proofs.Common.{◌≡◌, ◌≢◌, ℕ, ◌<◌, ◌+◌, ◌^◌, List, [], ◌∷◌, ◌++◌, map, length, take, get_or, ap, sym, refl, ◌∙◌, subst, All, Any, Contains, ◌↔◌, inl, inr, arith, slice_get, Result, Ok, Err, IfOk}
use Rattle.std.specs.Prelude.{Some}
use Rattle.std.specs.List.Sorted.{IsStrictlyIncreasing}
use Rattle.std.proofs.Math.ListN.{get_or-map}
use Rattle.std.proofs.lemmas.List.{take_more, length-map, get_or_default}
use Rattle.std.proofs.lemmas.List.Elements.{All-weaker, All-contains_itself, Contains-push, Contains-append_left, Contains-push_cases}
use Rattle.std.proofs.lemmas.Option.{same_Some, slice_get-get_or, slice_get_within}
use Rattle.rbac_terms.specs.Text.{Text}
use Rattle.rbac_terms.specs.Targets.{What, Resource, Url, IsUrl, IsResource, group_of, text_of, name_of}
use Rattle.rbac_terms.specs.Matching.{RuleAllows, ResourceWordMatches}
use Rattle.rbac_terms.specs.declared.matching.Rule.{Rule}
use Rattle.rbac_model.specs.Policies.{PolicyView, GrantView}
use Rattle.rbac_index.specs.declared.rule_lists.RuleLists.{RuleLists}
use Rattle.rbac_index.specs.declared.rule_rows.Written.{Written}
use Rattle.rbac_index.specs.RuleLists.{listed}
use Rattle.rbac_index.specs.Written.{written_rules, bare_rules}
use Rattle.rbac_index.specs.Requested.{RequestedView, ThisTarget, AnyName, AllowsRequested, target_given, with_name}
use Rattle.rbac_index.specs.Indexed.{AreCandidates, IsIndexOf, HaveNumbers, numbers_by, IsAllowedBy}
use Rattle.rbac_index.proofs.WrittenLemmas.{written_at, rule_read}

-- the rule with that number allows the verb on what is requested
abbrev AllowsRule : List Rule → Text → RequestedView → ℕ → Type 0
AllowsRule rules verb t at = (r : Rule) × (slice_get rules at ≡ Some r) × AllowsRequested r verb t

all_from : {X : Type 0} {P : X → Type 0} (xs : List X) → ((x : X) → Contains xs x → P x) → All P xs
all_from {X} {P} xs h = All-weaker (Contains xs) P h xs (All-contains_itself xs)

-- numbers, each with the same added
shifted_has : (xs : List ℕ) (k n : ℕ) → Contains xs n → Contains (map (λ x. x + k) xs) (n + k)
shifted_has xs k n w = (
  w.0,
  omega (arith, w.1, length-map {A = ℕ} {B = ℕ} xs (λ x. x + k)),
  get_or-map (λ x. x + k) xs w.0 n ∙ ap (λ x. x + k) w.2,
)

shifted_from : (xs : List ℕ) (k n : ℕ) → Contains (map (λ x. x + k) xs) n → (x : ℕ) × Contains xs x × (n ≡ x + k)
shifted_from xs k n w =
    let lt : w.0 < length xs = omega (arith, w.1, length-map {A = ℕ} {B = ℕ} xs (λ x. x + k)) in
    let x = get_or xs w.0 0 in
    let is : get_or (map (λ x. x + k) xs) w.0 n ≡ x + k = get_or_default (map (λ x. x + k) xs) w.0 n (0 + k) w.1 ∙ get_or-map (λ x. x + k) xs w.0 0 in
    (x, (w.0, lt, get_or_default xs w.0 x 0 lt), sym w.2 ∙ is)

pub shifted_up : (xs : List ℕ) (k : ℕ) → IsStrictlyIncreasing xs → IsStrictlyIncreasing (map (λ x. x + k) xs)
shifted_up xs k up i lt =
    let len : length (map (λ x. x + k) xs) ≡ length xs = length-map {A = ℕ} {B = ℕ} xs (λ x. x + k) in
    let here : get_or (map (λ x. x + k) xs) i 0 ≡ get_or xs i 0 + k = get_or_default (map (λ x. x + k) xs) i 0 (0 + k) (omega (arith, lt)) ∙ get_or-map (λ x. x + k) xs i 0 in
    let next : get_or (map (λ x. x + k) xs) (i + 1) 0 ≡ get_or xs (i + 1) 0 + k = get_or_default (map (λ x. x + k) xs) (i + 1) 0 (0 + k) lt ∙ get_or-map (λ x. x + k) xs (i + 1) 0 in
    omega (arith, here, next, up i (omega (arith, lt, len)))

-- the numbers that the starts give a rule are those of grants by it
module _ (p : PolicyView) (ws : List Written) (l : RuleLists) (starts : List (List ℕ)) (index : IsIndexOf p ws l starts) where
  pub have_numbers : All (HaveNumbers starts) ws
  have_numbers = all_from {P = HaveNumbers starts} ws (λ w c.
      let at = (index.written w.row w.place w.rule.now).0 (c.0, w, c.1, c.2, (refl, refl, refl)) in (
        omega (arith, index.granted.len, slice_get_within (written_rules p.held) w.row at.0 at.1),
        all_from {P = λ start. start + w.place < 2 ^ 32} (get_or starts w.row []) (λ start begins.
            let run = index.granted.sound w.row start at.0 at.1 begins in
            omega (arith, run.0, index.few, slice_get_within at.0 w.place w.rule.now at.2)),
      ))

  module _ (verb : Text) where
    candidates_by : (t : RequestedView) (places ns : List ℕ) → ((at : ℕ) → AllowsRule (bare_rules ws) verb t at → Contains places at) → IsStrictlyIncreasing ns → ((n : ℕ) → Contains ns n ↔ IsAllowedBy ws starts places verb t n) → AreCandidates p verb t ns
    candidates_by t places ns all up exact = record {
      ascending = up;
      exact = λ n. (
        λ c.
            let by = (exact n).0 c in
            let w = by.2.0 in
            let at = written_at (written_rules p.held) ws by.0 w index.written by.2.1 in
            let start = shifted_from (get_or starts w.row []) w.place n by.2.3 in
            let of = (index.granted.sound w.row start.0 at.0 at.1 start.1).1 w.place w.rule.now at.2 in
            let P : Rule → Type 0 = λ r. AllowsRequested r verb t in
            (of.0, ap (slice_get p.grants) start.2 ∙ of.1, subst P (sym of.2) by.2.2),
        λ a.
            let found = index.granted.complete n (slice_get_within p.grants n a.0 a.1) in
            let start = found.1 in
            let at = found.4 in
            let told = (index.written found.0 found.2 found.3).1 at in
            let w = told.1 in
            let of = (index.granted.sound found.0 start at.0 at.1 found.5).1 found.2 found.3 at.2 in
            let same : a.0 ≡ of.0 = same_Some a.0 of.0 (sym a.1 ∙ ap (slice_get p.grants) found.6 ∙ of.1) in
            let rule : a.0.rule.rule ≡ w.rule.now = ap (λ (g : GrantView). g.rule.rule) same ∙ of.2 ∙ sym told.4.2 in
            let P : Rule → Type 0 = λ r. AllowsRequested r verb t in
            let allows = subst P rule a.2 in
            let read : slice_get ws told.0 ≡ Some w = slice_get-get_or ws told.0 w told.2 ∙ ap (λ (v : Written). Some v) told.3 in
            let Q : ℕ → Type 0 = λ row. Contains (get_or starts row []) start in
            let number : n ≡ start + w.place = found.6 ∙ ap (λ k. start + k) (sym told.4.1) in
            (exact n).1 (told.0, all told.0 (w.rule.now, rule_read ws told.0 w read, allows), (w, read, allows, subst (Contains (numbers_by starts w)) (sym number) (shifted_has (get_or starts w.row []) w.place start (subst Q (sym told.4.0) found.5)))),
      );
    }

    -- the places of the rules that are looked at are places of rules
    pub urls_within : All (λ at. at < length ws) l.with_urls
    urls_within = all_from l.with_urls (λ n c. ((index.listed.urls n).0 c).0)

    pub found_within : (text : Text) (found : List ℕ) → ((n : ℕ) → Contains found n ↔ ((w : Text) × ResourceWordMatches w text × Contains (listed l.by_word w) n)) → All (λ at. at < length ws) found
    found_within text found are = all_from found (λ n c. let f = (are n).0 c in ((index.listed.words f.0 n).0 f.2).0)

    within : (t : RequestedView) (at : ℕ) → AllowsRule (bare_rules ws) verb t at → at < length ws
    within t at allows = omega (arith, slice_get_within (bare_rules ws) at allows.0 allows.1, length-map {A = Written} {B = Rule} ws (λ w. w.rule.now))

    -- a rule that allows a URL that is requested has a word for it
    url_requested : (r : Rule) (t : RequestedView) → IsUrl (target_given t) → AllowsRequested r verb t → RuleAllows r verb (Url (text_of (target_given t)))
    url_requested r (ThisTarget t) is allows = subst (RuleAllows r verb) is allows
    url_requested r (AnyName t) is allows = let P : What → Type 0 = λ u. RuleAllows r verb (with_name allows.0 u) in subst P is allows.1

    url_listed : (t : RequestedView) → IsUrl (target_given t) → (at : ℕ) → AllowsRule (bare_rules ws) verb t at → Contains l.with_urls at
    url_listed t is at allows =
        let by = url_requested allows.0 t is allows.2 in
        let some : allows.0.urls ≢ [] = λ e. omega (arith, by.1.2, ap length e) in
        (index.listed.urls at).1 (within t at allows, (allows.0, allows.1, some))

    candidates_urls : (t : RequestedView) (ns : List ℕ) → IsUrl (target_given t) → IsStrictlyIncreasing ns → ((n : ℕ) → Contains ns n ↔ IsAllowedBy ws starts l.with_urls verb t n) → AreCandidates p verb t ns
    candidates_urls t ns is up exact = candidates_by t l.with_urls ns (url_listed t is) up exact

    pub urls_asked : {E : Type 0} (t : RequestedView) (r : Result (List ℕ) E) → IsUrl (target_given t) → IfOk r IsStrictlyIncreasing → IfOk r (λ ns. (n : ℕ) → Contains ns n ↔ IsAllowedBy ws starts l.with_urls verb t n) → IfOk r (AreCandidates p verb t)
    urls_asked t (Ok ns) is up exact = candidates_urls t ns is up exact
    urls_asked t (Err e) is up exact = tt

    -- a rule that allows a resource that is requested allows it with some object name
    resource_requested : (r : Rule) (t : RequestedView) → IsResource (target_given t) → AllowsRequested r verb t → (name : Text) × RuleAllows r verb (Resource (group_of (target_given t)) (text_of (target_given t)) name)
    resource_requested r (ThisTarget t) is allows = (name_of t, subst (RuleAllows r verb) is allows)
    resource_requested r (AnyName t) is allows = let P : What → Type 0 = λ u. RuleAllows r verb (with_name allows.0 u) in (allows.0, subst P is allows.1)

    resource_listed : (t : RequestedView) (found : List ℕ) → IsResource (target_given t) → ((n : ℕ) → Contains found n ↔ ((w : Text) × ResourceWordMatches w (text_of (target_given t)) × Contains (listed l.by_word w) n)) → (at : ℕ) → AllowsRule (bare_rules ws) verb t at → Contains found at
    resource_listed t found is are at allows =
        let word = (resource_requested allows.0 t is allows.2).1.1.1 in
        (are at).1 (word.1, word.4, (index.listed.words word.1 at).1 (within t at allows, (allows.0, allows.1, (word.0, word.2, word.3))))

    candidates_listed : (t : RequestedView) (found ns : List ℕ) → IsResource (target_given t) → ((n : ℕ) → Contains found n ↔ ((w : Text) × ResourceWordMatches w (text_of (target_given t)) × Contains (listed l.by_word w) n)) → IsStrictlyIncreasing ns → ((n : ℕ) → Contains ns n ↔ IsAllowedBy ws starts found verb t n) → AreCandidates p verb t ns
    candidates_listed t found ns is are up exact = candidates_by t found ns (resource_listed t found is are) up exact

    pub listed_asked : {E : Type 0} (t : RequestedView) (found : List ℕ) (r : Result (List ℕ) E) → IsResource (target_given t) → ((n : ℕ) → Contains found n ↔ ((w : Text) × ResourceWordMatches w (text_of (target_given t)) × Contains (listed l.by_word w) n)) → IfOk r IsStrictlyIncreasing → IfOk r (λ ns. (n : ℕ) → Contains ns n ↔ IsAllowedBy ws starts found verb t n) → IfOk r (AreCandidates p verb t)
    listed_asked t found (Ok ns) is are up exact = candidates_listed t found ns is are up exact
    listed_asked t found (Err e) is are up exact = tt

-- one place more of a rule, which allows or doesn't
module _ (ws : List Written) (starts : List (List ℕ)) (places : List ℕ) (verb : Text) (t : RequestedView) (i : ℕ) (lt : i < length places) (lists : List (List ℕ)) (n : ℕ) (w : Written) (at : slice_get ws (get_or places i 0) ≡ Some w)
    (are : Any (λ x. Contains x n) lists ↔ IsAllowedBy ws starts (take i places) verb t n) where
  pub skipped : ¬ AllowsRequested w.rule.now verb t → Any (λ x. Contains x n) lists ↔ IsAllowedBy ws starts (take (i + 1) places) verb t n
  skipped denied =
      let more : take (i + 1) places ≡ take i places ++ get_or places i 0 ∷ [] = take_more places i 0 lt in (
        λ a. let b = are.0 a in (b.0, rw more (Contains-append_left (take i places) (get_or places i 0 ∷ []) b.0 b.1), b.2),
        λ b. elim (Contains-push_cases (take i places) (get_or places i 0) b.0 (rw more at b.1)) [
          | inl c ↦ are.1 (b.0, c, b.2)
          | inr e ↦
              let same : b.2.0 ≡ w = same_Some b.2.0 w (sym b.2.1 ∙ ap (slice_get ws) (sym e) ∙ at) in
              let P : Written → Type 0 = λ x. AllowsRequested x.rule.now verb t in
              absurd (denied (subst P same b.2.2))
        ],
      )

  pub added : AllowsRequested w.rule.now verb t → (x : List ℕ) → x ≡ numbers_by starts w → Any (λ x. Contains x n) (lists ++ x ∷ []) ↔ IsAllowedBy ws starts (take (i + 1) places) verb t n
  added allows x is =
      let more : take (i + 1) places ≡ take i places ++ get_or places i 0 ∷ [] = take_more places i 0 lt in (
        λ a. elim (Contains-push_cases lists x a.1 (a.0, a.2, a.3)) [
          | inl c ↦ let b = are.0 (c.0, a.1, c.1, c.2, a.4) in (b.0, rw more (Contains-append_left (take i places) (get_or places i 0 ∷ []) b.0 b.1), b.2)
          | inr e ↦ (get_or places i 0, rw more (Contains-push (take i places) (get_or places i 0)), (w, at, allows, rw (← is, e) a.4))
        ],
        λ b. elim (Contains-push_cases (take i places) (get_or places i 0) b.0 (rw more at b.1)) [
          | inl c ↦ let a = are.1 (b.0, c, b.2) in let v = Contains-append_left lists (x ∷ []) a.1 (a.0, a.2, a.3) in (v.0, a.1, v.1, v.2, a.4)
          | inr e ↦
              let same : b.2.0 ≡ w = same_Some b.2.0 w (sym b.2.1 ∙ ap (slice_get ws) (sym e) ∙ at) in
              let v = Contains-push lists x in
              (v.0, x, v.1, v.2, subst (λ (l : List ℕ). Contains l n) (ap (numbers_by starts) same ∙ sym is) b.2.3)
        ],
      )
