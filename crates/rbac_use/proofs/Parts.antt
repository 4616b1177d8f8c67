-- The rules of groups are added, one group after another.
use Rattle.std.proofs.Common.{◌≡◌, ◌≢◌, ◌⊎◌, ◌↔◌, ◌∙◌, ◌++◌, ◌∷◌, [], Any, Bool, Contains, List, ap, ap₂, arith, cond, false, inl, inr, map, refl, subst, suc, sym, true, zero}
use Rattle.std.specs.Prelude.{AllPairs, bytes_eq, filter}
use Rattle.std.specs.declared.cmp.Ordering.TheVariants.{Less}
use Rattle.std.proofs.lemmas.Bool.{false_from_ne_true}
use Rattle.std.proofs.lemmas.Cmp.{nat_list_cmp_total, tied_itself}
use Rattle.std.proofs.lemmas.List.{append-nil, map-append}
use Rattle.std.proofs.lemmas.List.Elements.{Contains-append_left, Contains-push, filter-append}
use Rattle.std.proofs.lemmas.Slice.Eq.{bytes_eq-Decides}
use Rattle.rbac_terms.specs.Text.{Text, text_cmp}
use Rattle.rbac_terms.specs.declared.matching.Rule.{Rule}
use Rattle.rbac_model.proofs.OneList.{one_list}
use Rattle.rbac_model.proofs.OwnWords.{any_from}
use Rattle.rbac_use.specs.Grouping.{AreInOrder, key_cmp}
use Rattle.rbac_use.specs.LeastRules.{ArePartsOf, HasRulesOf, IsPartOf, part_of, rule_of, rules_in}
use Rattle.rbac_use.specs.declared.grouping.Group.{Group}
use Rattle.rbac_use.specs.declared.least.Least.{Least}
use Rattle.rbac_use.specs.declared.least.NamespaceRules.{NamespaceRules}
use Rattle.rbac_use.proofs.Grouped.{keys_before}
use Rattle.rbac_use.proofs.Pushed.{any_pushed, before_last, cases_text, contains_pushed, front_pairs, pairs_pushed}

abbrev IsBefore : NamespaceRules → NamespaceRules → Type 0
IsBefore a b = text_cmp a.namespace b.namespace ≡ Less

abbrev IsIn : Text → Group → Type 0
IsIn namespace g = g.key.namespace ≡ namespace

not_before_itself : (t : Text) → text_cmp t t ≡ Less → ⊥
not_before_itself t e = let f = tied_itself nat_list_cmp_total t in cc

-- a text isn't another that comes after it
apart : (a b : Text) → text_cmp a b ≡ Less → a ≢ b
apart a b l e = not_before_itself b (subst (λ (t : Text). text_cmp t b ≡ Less) e l)

-- ---- the rules of one namespace

module _ (m : Text) where
  abbrev Test : Group → Bool
  Test g = bytes_eq g.key.namespace m

  one_more : (done : List Group) (g : Group) (b : Bool) → Test g ≡ b → filter Test (done ++ g ∷ []) ≡ filter Test done ++ cond b (g ∷ []) []
  one_more done g b e = filter-append Test done (g ∷ []) ∙ ap (λ (t : Bool). filter Test done ++ cond t (g ∷ []) []) e

  pub rules_more : (done : List Group) (g : Group) → IsIn m g → rules_in m (done ++ g ∷ []) ≡ rules_in m done ++ rule_of g ∷ []
  rules_more done g is =
      ap (map rule_of) (one_more done g true ((bytes_eq-Decides g.key.namespace m).1 is)) ∙ map-append rule_of (filter Test done) (g ∷ [])

  pub rules_same : (done : List Group) (g : Group) → (IsIn m g → ⊥) → rules_in m (done ++ g ∷ []) ≡ rules_in m done
  rules_same done g not =
      ap (map rule_of) (one_more done g false (false_from_ne_true (Test g) (λ t. not ((bytes_eq-Decides g.key.namespace m).0 t))) ∙ append-nil (filter Test done))

  none_first : (g : Group) (gs : List Group) (b : Bool) → Test g ≡ b → (IsIn m g → ⊥) → rules_in m gs ≡ [] → rules_in m (g ∷ gs) ≡ []
  none_first g gs true e not none = absurd (not ((bytes_eq-Decides g.key.namespace m).0 e))
  none_first g gs false e not none = ap (λ (t : Bool). map rule_of (cond t (g ∷ filter Test gs) (filter Test gs))) e ∙ none

  pub no_rules : (gs : List Group) → ((g : Group) → Contains gs g → IsIn m g → ⊥) → rules_in m gs ≡ []
  no_rules [] not = refl
  no_rules (g ∷ gs) not = none_first g gs (Test g) refl (not g (0, omega arith, refl)) (no_rules gs (λ h c. not h (suc c.0, omega (arith, c.1), c.2)))

  -- what the rules in the namespace are, one by one
  abbrev IsRuleIn : Rule → Group → Type 0
  IsRuleIn rule g = IsIn m g × (rule_of g ≡ rule)

  first_or_later : {X : Type 0} (P : X → Type 0) (x : X) (xs : List X) → Any P (x ∷ xs) → P x ⊎ Any P xs
  first_or_later P x xs (zero, y, low, e, h) = inl (subst P (sym e) h)
  first_or_later P x xs (suc k, y, low, e, h) = inr (k, y, omega (arith, low), e, h)

  later : {X : Type 0} (P : X → Type 0) (x : X) (xs : List X) → Any P xs → Any P (x ∷ xs)
  later P x xs w = (suc w.0, w.1, omega (arith, w.2), w.3, w.4)

  kept_first : (rule : Rule) (g : Group) (gs : List Group) (b : Bool) → Test g ≡ b → (Contains (rules_in m gs) rule ↔ Any (IsRuleIn rule) gs) → Contains (map rule_of (cond b (g ∷ filter Test gs) (filter Test gs))) rule ↔ Any (IsRuleIn rule) (g ∷ gs)
  kept_first rule g gs true e rest =
      let is = (bytes_eq-Decides g.key.namespace m).0 e in (
        λ c. elim (first_or_later (λ (r : Rule). r ≡ rule) (rule_of g) (rules_in m gs) (c.0, rule, c.1, c.2, refl)) [
          | inl same ↦ (0, g, omega arith, refl, (is, same))
          | inr w ↦ later (IsRuleIn rule) g gs (rest.0 (subst (Contains (rules_in m gs)) w.4 (w.0, w.2, w.3)))
        ],
        λ w. elim (first_or_later (IsRuleIn rule) g gs w) [
          | inl h ↦ (0, omega arith, h.1)
          | inr v ↦ (let c = rest.1 v in (suc c.0, omega (arith, c.1), c.2))
        ],
      )
  kept_first rule g gs false e rest = (
    λ c. later (IsRuleIn rule) g gs (rest.0 c),
    λ w. elim (first_or_later (IsRuleIn rule) g gs w) [
      | inl h ↦ absurd (let both : true ≡ false = sym ((bytes_eq-Decides g.key.namespace m).1 h.0) ∙ e in cc)
      | inr v ↦ rest.1 v
    ],
  )

  pub rule_in : (rule : Rule) (gs : List Group) → Contains (rules_in m gs) rule ↔ Any (IsRuleIn rule) gs
  rule_in rule [] = (λ c. absurd (omega (arith, c.1)), λ w. absurd (omega (arith, w.2)))
  rule_in rule (g ∷ gs) = kept_first rule g gs (Test g) refl (rule_in rule gs)

-- ---- parts

-- the rules of a namespace are one list
pub one_part : (groups : List Group) (a b : NamespaceRules) → IsPartOf groups a → IsPartOf groups b → a.namespace ≡ b.namespace → a ≡ b
one_part groups a b p q e =
    ap₂ (λ (n : Text) (rs : List Rule). part_of n rs) e (p.rules ∙ ap (λ (n : Text). rules_in n groups) e ∙ sym q.rules)

pub one_parts : (groups : List Group) (xs ys : List NamespaceRules) → ArePartsOf groups xs → ArePartsOf groups ys → xs ≡ ys
one_parts groups xs ys a b =
    one_list (λ (part : NamespaceRules). part.namespace ∷ []) xs ys (λ i j d lt low. rw (a.ordered i j d lt low) refl) (λ i j d lt low. rw (b.ordered i j d lt low) refl) (λ x c. (b.exact x).1 ((a.exact x).0 c)) (λ x c. (a.exact x).1 ((b.exact x).0 c))

module _ (done : List Group) (g : Group) (part : NamespaceRules) where
  -- a group of another namespace changes nothing
  pub part_same : (IsIn part.namespace g → ⊥) → IsPartOf done part ↔ IsPartOf (done ++ g ∷ []) part
  part_same not = (
    λ p. record {
      named = p.named;
      some = (any_pushed (IsIn part.namespace) done g).1 (inl p.some);
      rules = p.rules ∙ sym (rules_same part.namespace done g not);
    },
    λ p. record {
      named = p.named;
      some = elim ((any_pushed (IsIn part.namespace) done g).0 p.some) [ inl w ↦ w | inr h ↦ absurd (not h) ];
      rules = p.rules ∙ rules_same part.namespace done g not;
    },
  )

-- what is in order of namespaces, and one more group
module _ (done : List Group) (g : Group) (parts : List NamespaceRules) (are : ArePartsOf done parts) where
  -- a group without a namespace adds no part
  pub parts_same : g.key.namespace ≡ [] → ArePartsOf (done ++ g ∷ []) parts
  parts_same none = record {
    ordered = are.ordered;
    exact = λ part. (
      λ c. (let p = (are.exact part).0 c in (part_same done g part (λ e. p.named (sym e ∙ none))).0 p),
      λ p. (are.exact part).1 ((part_same done g part (λ e. p.named (sym e ∙ none))).1 p),
    );
  }

  module _ (named : g.key.namespace ≢ []) where
    abbrev n : Text
    n = g.key.namespace

    own_some : Any (IsIn n) (done ++ g ∷ [])
    own_some = (any_pushed (IsIn n) done g).1 (inr refl)

    -- its namespace is that of the last part
    module _ (front : List NamespaceRules) (last : NamespaceRules) (cut : parts ≡ front ++ last ∷ []) (own : last.namespace ≡ n) where
      abbrev longer : NamespaceRules
      longer = part_of last.namespace (last.rules ++ rule_of g ∷ [])

      in_order : AllPairs IsBefore (front ++ last ∷ [])
      in_order = subst (λ (ps : List NamespaceRules). AllPairs IsBefore ps) cut are.ordered

      of_parts : (part : NamespaceRules) → Contains (front ++ last ∷ []) part → IsPartOf done part
      of_parts part c = (are.exact part).0 (subst (λ (ps : List NamespaceRules). Contains ps part) (sym cut) c)

      to_parts : (part : NamespaceRules) → IsPartOf done part → Contains (front ++ last ∷ []) part
      to_parts part p = subst (λ (ps : List NamespaceRules). Contains ps part) cut ((are.exact part).1 p)

      longer_part : IsPartOf (done ++ g ∷ []) longer
      longer_part = (let p = of_parts last (Contains-push front last) in record {
        named = p.named;
        some = subst (λ (t : Text). Any (IsIn t) (done ++ g ∷ [])) (sym own) own_some;
        rules = ap (λ (rs : List Rule). rs ++ rule_of g ∷ []) p.rules ∙ sym (rules_more last.namespace done g (sym own));
      })

      front_apart : (part : NamespaceRules) → Contains front part → IsIn part.namespace g → ⊥
      front_apart part c e = apart part.namespace last.namespace (before_last IsBefore front last in_order part c) (sym e ∙ sym own)

      pub part_longer : ArePartsOf (done ++ g ∷ []) (front ++ part_of last.namespace (last.rules ++ rule_of g ∷ []) ∷ [])
      part_longer = record {
        ordered = pairs_pushed IsBefore front longer (front_pairs IsBefore front (last ∷ []) in_order) (λ x c. before_last IsBefore front last in_order x c);
        exact = λ part. (
          λ c. elim ((contains_pushed front longer part).0 c) [
            | inl d ↦ (part_same done g part (front_apart part d)).0 (of_parts part (Contains-append_left front (last ∷ []) part d))
            | inr e ↦ subst (IsPartOf (done ++ g ∷ [])) e longer_part
          ],
          λ p. (contains_pushed front longer part).1 (elim (cases_text part.namespace n) [
            | inl e ↦ inr (one_part (done ++ g ∷ []) longer part longer_part p (own ∙ sym e))
            | inr not ↦ elim ((contains_pushed front last part).0 (to_parts part ((part_same done g part (λ e. not (sym e))).1 p))) [
              | inl d ↦ inl d
              | inr e ↦ absurd (not (sym (ap (λ (x : NamespaceRules). x.namespace) e) ∙ own))
            ]
          ]),
        );
      }

    -- no part has its namespace
    module _ (before : (part : NamespaceRules) → Contains parts part → text_cmp part.namespace n ≡ Less) where
      abbrev first_part : NamespaceRules
      first_part = part_of n (rule_of g ∷ [])

      none_of_it : (h : Group) → Contains done h → IsIn n h → ⊥
      none_of_it h c e =
          let part = part_of n (rules_in n done) in
          let is : IsPartOf done part = record { named = named; some = any_from (IsIn n) done h c e; rules = refl } in
          not_before_itself n (before part ((are.exact part).1 is))

      part_first : IsPartOf (done ++ g ∷ []) first_part
      part_first = record {
        named = named;
        some = own_some;
        rules = sym (rules_more n done g refl ∙ ap (λ (rs : List Rule). rs ++ rule_of g ∷ []) (no_rules n done none_of_it));
      }

      part_pushed : ArePartsOf (done ++ g ∷ []) (parts ++ part_of n (rule_of g ∷ []) ∷ [])
      part_pushed = record {
        ordered = pairs_pushed IsBefore parts first_part are.ordered before;
        exact = λ part. (
          λ c. elim ((contains_pushed parts first_part part).0 c) [
            | inl d ↦ (part_same done g part (λ e. apart part.namespace n (before part d) (sym e))).0 ((are.exact part).0 d)
            | inr e ↦ subst (IsPartOf (done ++ g ∷ [])) e part_first
          ],
          λ p. (contains_pushed parts first_part part).1 (elim (cases_text part.namespace n) [
            | inl e ↦ inr (one_part (done ++ g ∷ []) first_part part part_first p (sym e))
            | inr not ↦ inl ((are.exact part).1 ((part_same done g part (λ e. not (sym e))).1 p))
          ]),
        );
      }

    -- the first part of all
    pub first_pushed : parts ≡ [] → ArePartsOf (done ++ g ∷ []) (parts ++ part_of g.key.namespace (rule_of g ∷ []) ∷ [])
    first_pushed none = part_pushed (λ part c. absurd (let d = subst (λ (ps : List NamespaceRules). Contains ps part) none c in omega (arith, d.1)))

    -- groups come in order, so a namespace that isn't the last one's comes after all
    module _ (up : AreInOrder (done ++ g ∷ [])) (front : List NamespaceRules) (last : NamespaceRules) (cut : parts ≡ front ++ last ∷ []) (not : last.namespace ≢ n) where
      last_before : text_cmp last.namespace n ≡ Less
      last_before =
          let p = (are.exact last).0 (subst (λ (ps : List NamespaceRules). Contains ps last) (sym cut) (Contains-push front last)) in
          let h = p.some.1 in
          let c : Contains done h = (p.some.0, p.some.2, p.some.3) in
          let l = before_last (λ (a b : Group). key_cmp a.key b.key ≡ Less) done g up h c in
          elim (keys_before h.key g.key l) [
            | inl e ↦ absurd (not (sym p.some.4 ∙ e))
            | inr less ↦ subst (λ (t : Text). text_cmp t n ≡ Less) p.some.4 less
          ]

      pub next_pushed : ArePartsOf (done ++ g ∷ []) (parts ++ part_of g.key.namespace (rule_of g ∷ []) ∷ [])
      next_pushed = part_pushed (λ part c. elim ((contains_pushed front last part).0 (subst (λ (ps : List NamespaceRules). Contains ps part) cut c)) [
        | inl d ↦ nat_list_cmp_total.trans part.namespace last.namespace n (before_last IsBefore front last (subst (λ (ps : List NamespaceRules). AllPairs IsBefore ps) cut are.ordered) part d) last_before
        | inr e ↦ subst (λ (x : NamespaceRules). text_cmp x.namespace n ≡ Less) e last_before
      ])

-- ---- all rules

pub none_of_groups : (l : Least) → l.everywhere ≡ [] → l.namespaces.items ≡ [] → HasRulesOf [] l
none_of_groups l everywhere parts = (
  everywhere,
  subst (ArePartsOf []) (sym parts) (record {
    ordered = λ i j d lt low. absurd (omega (arith, low));
    exact = λ part. (λ c. absurd (omega (arith, c.1)), λ p. absurd (let low = p.some.2 in omega (arith, low)));
  }),
)

module _ (done : List Group) (g : Group) (old new : Least) (are : HasRulesOf done old) where
  -- a rule for the whole cluster
  pub everywhere_added : g.key.namespace ≡ [] → new.everywhere ≡ old.everywhere ++ rule_of g ∷ [] → new.namespaces.items ≡ old.namespaces.items → HasRulesOf (done ++ g ∷ []) new
  everywhere_added none more same = (
    more ∙ ap (λ (rs : List Rule). rs ++ rule_of g ∷ []) are.0 ∙ sym (rules_more [] done g none),
    subst (ArePartsOf (done ++ g ∷ [])) (sym same) (parts_same done g old.namespaces.items are.1 none),
  )

  -- a rule of a namespace
  pub part_added : g.key.namespace ≢ [] → new.everywhere ≡ old.everywhere → ArePartsOf (done ++ g ∷ []) new.namespaces.items → HasRulesOf (done ++ g ∷ []) new
  part_added named same parts = (same ∙ are.0 ∙ sym (rules_same [] done g named), parts)
