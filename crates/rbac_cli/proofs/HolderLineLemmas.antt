-- The lines of holders: each holder has one line, and no other.
use Rattle.std.proofs.Common.{◌≡◌, ◌∙◌, ℕ, ◌<◌, ◌≤◌, Bool, true, false, List, [], ◌∷◌, ◌++◌, length, get_or, drop, drop-cons, add-one, ◌+◌, Contains, ap, sym, subst, refl, arith, suc, zero, ◌⊎◌, inl, inr}
use Rattle.std.specs.Prelude.{◌↔◌, AllPairs, Option, Some, None, Any, IsTrue, MatchOption, slice_get}
use Rattle.std.proofs.lemmas.Bool.{cases_eq}
use Rattle.std.proofs.lemmas.List.{drop_all}
use Rattle.std.proofs.lemmas.List.Elements.{Contains-append_cases}
use Rattle.std.proofs.lemmas.Option.{same_Some, slice_get_within, slice_get-get_or, get_or_from_slice_get}
use Rattle.rbac_terms.specs.Text.{Text}
use Rattle.rbac_terms.specs.Targets.{What}
use Rattle.rbac_terms.specs.Principals.{AsUser}
use Rattle.rbac_terms.specs.Matching.{RuleAllows}
use Rattle.rbac_terms.specs.declared.matching.Rule.{Rule}
use Rattle.rbac_terms.specs.declared.granting.ClusterRole.{ClusterRole}
use Rattle.rbac_terms.specs.declared.granting.RoleRef.TheVariants as ref
use Rattle.rbac_terms.specs.declared.granting.Binding.{Binding}
use Rattle.rbac_terms.specs.declared.granting.Subject.TheVariants.{User}
use Rattle.rbac_model.specs.Policies.{Held, IsHeld, PolicyView, IsPolicy, GrantView, Source, SourcedRule, InClusterRole, AreRulesFor, IsOfBinding}
use Rattle.rbac_model.specs.Holders.{HolderView}
use Rattle.rbac_model.specs.Sources.{source_of}
use Rattle.rbac_model.proofs.BindingPlaces.{one_binding_place, of_some_binding, grant_of_rule}
use Rattle.rbac_model.proofs.GrantNumbers.{grant_by}
use Rattle.rbac_model.proofs.OneList.{one_rules_for}
use Rattle.rbac_groups.specs.declared.membership.Membership.{Membership}
use Rattle.rbac_index.specs.Deciding.{AllowsOf, IsFirstAllowing, NoneAllowing}
use Rattle.rbac_index.specs.Holding.{IsEarlier}
use Rattle.rbac_members.specs.Members.{AreHoldersAndMembers, AreMembers}
use Rattle.rbac_terms.specs.declared.scope.Scope.{Scope}
use Rattle.rbac_terms.specs.declared.scope.Scope.TheVariants.{Namespace}
use Rattle.rbac_index.specs.WhoCan.{HoldsAt, IsHolderBy, IsListedHolder, AreListedHolders}
use Rattle.rbac_index.specs.Requested.{RequestedView, ThisTarget, AnyName, AllowsRequested, with_name}
use Rattle.rbac_index.specs.WhyHeld.{IsFirstShown}
use Rattle.rbac_index.proofs.NameLemmas.{chosen_name}
use Rattle.rbac_model.specs.declared.why.Why.{Why}
use Rattle.rbac_matrix.proofs.Decided.{Decided, grants}
use Rattle.rbac_text.specs.Row.{holder_text}
use Rattle.rbac_text.specs.Why.{holder_why_text}
use Rattle.rbac_catalogue.specs.Catalogue.{CatalogueView}
use Rattle.rbac_catalogue.specs.declared.entry.Entry.{Entry}
use Rattle.rbac_manifest.specs.Load.{LoadedView}
use Rattle.rbac_question.specs.declared.command.Action.TheVariants.{WhoCan}
use Rattle.rbac_question.specs.declared.command.HolderOptions.{HolderOptions}
use Rattle.rbac_question.specs.declared.command.Question.{Question}
use Rattle.rbac_cli.specs.HolderLines.{IsHolderLine, AreHolderLines, joined_lines}
use Rattle.rbac_cli.specs.Meant.{IsMeant, IsTargetMeant, IsNamespaceMeant, IsOutside, IsScopeMeant, requested_meant, scope_given}
use Rattle.rbac_cli.specs.Out.{Answers}
use Rattle.rbac_cli.specs.declared.exports.Exports.TheVariants.{Single}
use Rattle.rbac_cli.specs.declared.outcome.Status.TheVariants.{Zero}
use Rattle.rbac_cli.proofs.OneHolderLines.{one_why_by}

-- what is found to explain a holder makes its line
shown_text : (p : PolicyView) (verb : Text) (t : RequestedView) (x : HolderView) (why : Why) (text : Text) → IsFirstShown p verb t x.binding_place x.subject_place why → IsHolderLine p true verb t x text
    → holder_why_text x.key why.binding.now (source_of why.source) why.rule_place why.subject_place ≡ text
shown_text p verb t x why text found (k, by, e) =
    let g = found.grant in
    let shown = found.shown in
    ap (λ (b : Binding). holder_why_text x.key b (source_of why.source) why.rule_place why.subject_place) shown.0
    ∙ ap (λ (s : Source). holder_why_text x.key g.binding s why.rule_place why.subject_place) shown.1
    ∙ ap (λ (n : ℕ). holder_why_text x.key g.binding g.rule.source n why.subject_place) shown.2
    ∙ ap (λ (n : ℕ). holder_why_text x.key g.binding g.rule.source g.rule.place n) found.subject
    ∙ ap (λ (v : GrantView). holder_why_text x.key v.binding v.rule.source v.rule.place x.subject_place) (one_why_by p verb t x g k (found.number, found.first, found.granted) by)
    ∙ sym e

-- and something is found, or the holder would have no line
pub told_text : (p : PolicyView) (verb : Text) (t : RequestedView) (x : HolderView) (found : Option Why) (text : Text) → MatchOption found (NoneAllowing p verb t x.binding_place) (IsFirstShown p verb t x.binding_place x.subject_place)
    → IsHolderLine p true verb t x text → MatchOption found (text ≡ holder_text x.key x.binding) (λ why. text ≡ holder_why_text x.key why.binding.now (source_of why.source) why.rule_place why.subject_place)
told_text p verb t x None text none (g, by, e) = absurd (none by.0 by.1.0)
told_text p verb t x (Some why) text found line = sym (shown_text p verb t x why text found line)

-- ---- whether a rule allows is decided: it's the only rule of the only binding of a cluster

module _ (r : Rule) (verb : Text) (t : What) where
  abbrev lone_role : ClusterRole
  lone_role = record { name = []; labels = []; rules = r ∷ []; aggregation = None }

  abbrev lone_binding : Binding
  lone_binding = record { namespace = None; name = []; role = ref.ClusterRole []; subjects = User [] ∷ [] }

  abbrev lone_held : Held
  lone_held = record { roles = []; cluster_roles = lone_role ∷ []; bindings = [] }

  abbrev lone_rule : SourcedRule
  lone_rule = record { source = InClusterRole lone_role; rule = r; place = 0 }

  is_held : IsHeld lone_held
  is_held = record {
    roles = λ i j d lt l. absurd (omega (arith, l));
    cluster_roles = λ i j d lt l. absurd (omega (arith, lt, l));
    bindings = λ i j d lt l. absurd (omega (arith, l));
  }

  lone_rules : AreRulesFor lone_held lone_binding (lone_rule ∷ [])
  lone_rules = inl (InClusterRole lone_role, ((0, omega arith, refl), refl), inl (refl, refl))

  of_one : (k : ℕ) (x : SourcedRule) → slice_get (lone_rule ∷ []) k ≡ Some x → RuleAllows x.rule verb t → RuleAllows r verb t
  of_one zero x e allows = subst (λ (v : SourcedRule). RuleAllows v.rule verb t) (sym (same_Some lone_rule x e)) allows
  of_one (suc k) x e allows = cc

  rule_decided : Decided (RuleAllows r verb t)
  rule_decided = elim (grants lone_held is_held (AsUser [] []) [] verb t lone_binding (lone_rule ∷ []) lone_rules) [
    | inl granted ↦
        let brings = granted.2 in
        let one = one_rules_for lone_held lone_binding brings.0 (lone_rule ∷ []) is_held brings.1 lone_rules in
        let any = subst (λ (rs : List SourcedRule). Any (λ x. RuleAllows x.rule verb t) rs) one brings.2 in
        inl (of_one any.0 any.1 (slice_get-get_or (lone_rule ∷ []) any.0 any.1 any.2 ∙ ap (λ (v : SourcedRule). Some v) any.3) any.4)
    | inr refused ↦ inr (λ allows. refused (tt, (0, User [], omega arith, refl, refl), (lone_rule ∷ [], lone_rules, (0, lone_rule, omega arith, refl, allows))))
  ]

-- so whether it allows what is requested is decided: by one object name, if it may be any
requested_decided : (r : Rule) (verb : Text) (t : RequestedView) → Decided (AllowsRequested r verb t)
requested_decided r verb (ThisTarget t) = rule_decided r verb t
requested_decided r verb (AnyName t) =
    let chosen = chosen_name r verb t in
    elim (rule_decided r verb (with_name chosen.0 t)) [
      | inl allows ↦ inl (chosen.0, allows)
      | inr refused ↦ inr (λ some. refused (chosen.1 some))
    ]

-- ---- the first number that has a decided property

module _ (P : ℕ → Type 0) (len : ℕ) (decide : (n : ℕ) → n < len → Decided (P n)) where
  abbrev IsLeast : ℕ → Type 0
  IsLeast n = P n × ((m : ℕ) → m < n → ¬ P m)

  none_still : (n : ℕ) → ¬ P n → ((m : ℕ) → m < n → ¬ P m) → (m : ℕ) → m < suc n → ¬ P m
  none_still n here before m lt p = elim (cases_eq m n) [
    | inl e ↦ here (subst P e p)
    | inr ne ↦ before m (omega arith) p
  ]

  least_below : (n : ℕ) → n ≤ len → ((m : ℕ) × IsLeast m) ⊎ ((m : ℕ) → m < n → ¬ P m)
  least_below zero le = inr (λ m lt p. omega (arith, lt))
  least_below (suc n) le = elim (least_below n (omega arith)) [
    | inl found ↦ inl found
    | inr none ↦ elim (decide n (omega arith)) [
      | inl here ↦ inl (n, (here, none))
      | inr absent ↦ inr (none_still n absent none)
    ]
  ]

  least : (n : ℕ) → n < len → P n → (m : ℕ) × IsLeast m
  least n lt p = elim (least_below len (omega arith)) [
    | inl found ↦ found
    | inr none ↦ absurd (none n lt p)
  ]

-- ---- each holder has a line

module _ (p : PolicyView) (ok : IsPolicy p) (verb : Text) (t : RequestedView) where
  allows_decided : (at n : ℕ) → n < length p.grants → Decided (AllowsOf p verb t at n)
  allows_decided at n lt =
      let of = of_some_binding p ok n lt in
      let g = of.1.0 in
      elim (cases_eq of.0 at) [
        | inl e ↦ elim (requested_decided g.rule.rule verb t) [
          | inl allows ↦ inl (subst (IsOfBinding p n) e of.1, (g, of.1.1, allows))
          | inr denies ↦ inr (λ w. denies (subst (λ (v : GrantView). AllowsRequested v.rule.rule verb t) (same_Some w.1.0 g (sym w.1.1 ∙ of.1.1)) w.1.2))
        ]
        | inr ne ↦ inr (λ w. ne (one_binding_place p ok n of.0 at of.1 w.0))
      ]

  first_of : (scope : Scope) (x : HolderView) → HoldsAt p.held scope verb t x.key x.binding_place x.subject_place → (n : ℕ) × IsFirstAllowing p verb t x.binding_place n
  first_of scope x a =
      let brings = a.4.1 in
      let any = brings.2 in
      let of = grant_of_rule p ok x.binding_place a.0 brings.0 any.1 a.2 brings.1 (any.0, any.2, any.3) in
      least (AllowsOf p verb t x.binding_place) (length p.grants) (allows_decided x.binding_place) of.0 (slice_get_within p.grants of.0 (grant_by a.0 any.1) of.1) (of.2, (grant_by a.0 any.1, of.1, any.4))

  -- some rule of its binding allows what is requested
  abbrev IsAllowedBy : HolderView → Type 0
  IsAllowedBy x = (n : ℕ) × IsFirstAllowing p verb t x.binding_place n

  line_of : (why : Bool) (x : HolderView) → IsAllowedBy x → (line : Text) × IsHolderLine p why verb t x line
  line_of false x first = (holder_text x.key x.binding, refl)
  line_of true x first =
      let g = first.1.0.0.0 in (
        holder_why_text x.key g.binding g.rule.source g.rule.place x.subject_place,
        (g, (first.0, first.1, first.1.0.0.1), refl),
      )

  lines_of : (why : Bool) (xs : List HolderView) → ((x : HolderView) → Contains xs x → IsAllowedBy x) → (lines : List Text) × AreHolderLines p why verb t xs lines
  lines_of why [] all = ([], refl)
  lines_of why (x ∷ xs) all =
      let line = line_of why x (all x (0, omega arith, refl)) in
      let rest = lines_of why xs (λ y w. all y (suc w.0, omega (arith, w.1), w.2)) in
      (line.0 ∷ rest.0, (line.0, rest.0, line.1, rest.1, refl))

  -- the binding of a member is that of its group
  member_allowed : (ms : List Membership) (every : Bool) (xs ys : List HolderView) → ((x : HolderView) → Contains xs x → IsAllowedBy x) → AreMembers ms every xs ys → (y : HolderView) → Contains ys y → IsAllowedBy y
  member_allowed ms every xs ys all are y w =
      let (k, x, lt, at, (group, user, key, given, e)) = ((are.exact y).0 w).0 in
      subst IsAllowedBy (sym e) (all x (k, lt, at))

  all_allowed : (ms : List Membership) (members every : Bool) (xs told : List HolderView) → ((x : HolderView) → Contains xs x → IsAllowedBy x) → AreHoldersAndMembers ms members every xs told → (y : HolderView) → Contains told y → IsAllowedBy y
  all_allowed ms false every xs told all e y w = all y (subst (λ (zs : List HolderView). Contains zs y) e w)
  all_allowed ms true every xs told all (ys, are, e) y w = elim (Contains-append_cases xs ys y (subst (λ (zs : List HolderView). Contains zs y) e w)) [
    | inl v ↦ all y v
    | inr v ↦ member_allowed ms every xs ys all are y v
  ]

-- ---- the line at a place

pub line_at : (p : PolicyView) (why : Bool) (verb : Text) (t : RequestedView) (xs more : List HolderView) (i : ℕ) (x : HolderView) (lines : List Text) → slice_get xs i ≡ Some x
    → AreHolderLines p why verb t (drop i xs ++ more) lines
    → (line : Text) × (rest : List Text) × IsHolderLine p why verb t x line × AreHolderLines p why verb t (drop (i + 1) xs ++ more) rest × (lines ≡ line ∷ rest)
line_at p why verb t xs more i x lines at are =
    let lt : i < length xs = slice_get_within xs i x at in
    let e : get_or xs i x ≡ x = get_or_from_slice_get xs i x x at in
    let here : drop i xs ≡ x ∷ drop (i + 1) xs = rw (add-one, drop-cons xs i x lt, e) refl in
    subst (λ (ys : List HolderView). AreHolderLines p why verb t (ys ++ more) lines) here are

-- after the holders come the members
module _ (p : PolicyView) (why : Bool) (verb : Text) (t : RequestedView) (xs more : List HolderView) (i : ℕ) (lines : List Text) (all : length xs ≤ i) (are : AreHolderLines p why verb t (drop i xs ++ more) lines) where
  of_more : AreHolderLines p why verb t more lines
  of_more = subst (λ (ys : List HolderView). AreHolderLines p why verb t (ys ++ more) lines) (drop_all i xs all) are

  pub line_of_more : (x : HolderView) (rest : List HolderView) → more ≡ x ∷ rest
      → (line : Text) × (others : List Text) × IsHolderLine p why verb t x line × AreHolderLines p why verb t (drop i xs ++ rest) others × (lines ≡ line ∷ others)
  line_of_more x rest e =
      let (line, others, is, left, f) = subst (λ (ys : List HolderView). AreHolderLines p why verb t ys lines) e of_more in
      (line, others, is, subst (λ (ys : List HolderView). AreHolderLines p why verb t (ys ++ rest) others) (sym (drop_all i xs all)) left, f)

  pub no_line_of_more : more ≡ [] → joined_lines lines ≡ []
  no_line_of_more e = ap joined_lines (subst (λ (ys : List HolderView). AreHolderLines p why verb t ys lines) e of_more)

-- who is listed is a holder by its binding
by_binding : (h : Held) (scope : Scope) (every : Bool) (verb : Text) (t : RequestedView) (x : HolderView) → IsListedHolder h scope every verb t x → IsHolderBy h scope verb t x
by_binding h scope true verb t x listed = listed
by_binding h scope false verb t x listed = listed.0

-- where holders are asked for is what was made of the question
scope_of_meant : (entries : List Entry) (q : Question) (anywhere outside : Bool) (target : What) (namespace : Text) (scope : Scope) → IsNamespaceMeant entries q target namespace
    → (IsTrue outside ↔ IsOutside entries q target) → (outside ≡ true → scope ≡ Namespace namespace) → (outside ≡ false → scope ≡ scope_given anywhere namespace)
    → IsScopeMeant entries q anywhere target scope
scope_of_meant entries q anywhere true target namespace scope (inl a) is out given = inl (a.0, out refl ∙ ap Namespace a.1)
scope_of_meant entries q anywhere true target namespace scope (inr a) is out given = absurd (a.0 (is.0 refl))
scope_of_meant entries q anywhere false target namespace scope (inl a) is out given = let off = is.1 a.0 in cc
scope_of_meant entries q anywhere false target namespace scope (inr a) is out given = inr (a.0, given refl ∙ ap (scope_given anywhere) a.1)

-- the holders of what is asked have lines, which answer it
pub answered : (l : LoadedView) (options : HolderOptions) (q : Question) (target : What) (namespace : Text) (outside : Bool) (scope : Scope) (xs ys : List HolderView) (ms : List Membership) (listed : CatalogueView) (held shown : PolicyView)
    → ms ≡ l.memberships → (AllPairs IsEarlier xs → AreHoldersAndMembers ms options.members options.every xs (xs ++ ys)) → listed ≡ l.catalogue → held ≡ l.policy → shown ≡ l.policy → IsMeant listed.entries q target namespace → (IsTrue outside ↔ IsOutside listed.entries q target)
    → (outside ≡ true → scope ≡ Namespace namespace) → (outside ≡ false → scope ≡ scope_given options.anywhere namespace)
    → IsPolicy held → AreListedHolders held.held scope options.every q.verb (requested_meant options.any_name target) xs
    → (lines : List Text) × AreHolderLines shown options.why q.verb (requested_meant options.any_name target) (xs ++ ys) lines × Answers (Single l) (WhoCan options q) (joined_lines lines) Zero
answered l options q target namespace outside scope xs ys ms listed held shown documents tells catalogue policy again meant is out given ok holders =
    let requested = requested_meant options.any_name target in
    let are = subst (λ (p : PolicyView). AreListedHolders p.held scope options.every q.verb requested xs) policy holders in
    let told = subst (λ (ds : List Membership). AreHoldersAndMembers ds options.members options.every xs (xs ++ ys)) documents (tells are.ordered) in
    let loaded = subst IsPolicy policy ok in
    let firsts : (x : HolderView) → Contains xs x → (n : ℕ) × IsFirstAllowing l.policy q.verb requested x.binding_place n =
    λ x w. first_of l.policy loaded q.verb requested scope x (by_binding l.policy.held scope options.every q.verb requested x ((are.exact x).0 w)).1 in
    let lines = lines_of l.policy loaded q.verb requested options.why (xs ++ ys) (all_allowed l.policy loaded q.verb requested l.memberships options.members options.every xs (xs ++ ys) firsts told) in
    let place = scope_of_meant listed.entries q options.anywhere outside target namespace scope meant.1 is out given in (
      lines.0,
      subst (λ (p : PolicyView). AreHolderLines p options.why q.verb requested (xs ++ ys) lines.0) (sym again) lines.1,
      (
        target,
        scope,
        subst (λ (v : CatalogueView). IsTargetMeant v.entries q.asked target) catalogue meant.0,
        subst (λ (v : CatalogueView). IsScopeMeant v.entries q options.anywhere target scope) catalogue place,
        (xs, xs ++ ys, lines.0, are, told, lines.1, refl, refl),
      ),
    )
