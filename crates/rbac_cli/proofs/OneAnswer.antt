-- What an action means is one text and one status.
use Rattle.std.proofs.Common.{◌≡◌, ◌∙◌, ◌↔◌, ℕ, Bool, true, false, List, [], ◌∷◌, ◌++◌, map, inl, inr, Contains, Less, ap, ap₂, sym, subst, refl, codes}
use Rattle.std.specs.Prelude.{Option, Some, None, option_map, vec_items}
use Rattle.std.proofs.lemmas.List.{append_cancel_left}
use Rattle.rbac_terms.specs.Text.{Text}
use Rattle.rbac_terms.specs.Keys.{KeyTexts, texts}
use Rattle.rbac_terms.specs.Targets.{What}
use Rattle.rbac_terms.specs.Principals.{Who, AsUser, AsMember, who_key, given_of, IsInGroup, IsUserNamed, IsSignInGroup, IsImpliedGroup, account_user}
use Rattle.rbac_terms.specs.Granting.{Names}
use Rattle.rbac_terms.specs.declared.granting.Binding.{Binding}
use Rattle.rbac_terms.specs.declared.granting.Subject.{Subject}
use Rattle.rbac_terms.specs.declared.granting.Subject.TheVariants.{User, Group, Account}
use Rattle.rbac_terms.proofs.Groups.{apart}
use Rattle.rbac_model.specs.Lists.{by_name, IsAscendingBy}
use Rattle.rbac_model.specs.Policies.{Held, Grants, Allows, IsFirst, PolicyView, binding_name}
use Rattle.rbac_model.specs.Unions.{AreUnited, who_texts}
use Rattle.rbac_model.specs.Universes.{UniverseView, RowView, Cell, IsRow, IsMatrix, cell_key}
use Rattle.rbac_index.specs.WhoCan.{AreListedHolders}
use Rattle.rbac_model.proofs.OneList.{one_list, one_of_name}
use Rattle.rbac_catalogue.specs.declared.entry.Entry.{Entry}
use Rattle.rbac_universe.specs.declared.lists.UniverseLists.{UniverseLists}
use Rattle.rbac_universe.specs.Sets.{AreSets}
use Rattle.rbac_universe.proofs.Flattened.{contains_map, map_contains, pairs_map}
use Rattle.rbac_universe.proofs.OneMore.{as_any}
use Rattle.rbac_universe.proofs.OneUniverse.{one_sets}
use Rattle.rbac_groups.specs.Memberships.{with_memberships}
use Rattle.rbac_groups.specs.declared.membership.Membership.{Membership}
use Rattle.rbac_index.proofs.ListedLemmas.{one_listed}
use Rattle.rbac_members.specs.Members.{AreHoldersAndMembers}
use Rattle.rbac_members.proofs.OneMembers.{one_members}
use Rattle.rbac_model.specs.Holders.{HolderView}
use Rattle.rbac_manifest.specs.Load.{LoadedView}
use Rattle.rbac_lint.proofs.OneLines.{one_wanted}
use Rattle.rbac_diff.specs.Requests.{RequestView}
use Rattle.rbac_use.specs.LeastRules.{HaveSameRules, IsLeastOf}
use Rattle.rbac_use.specs.Unused.{AreUnused}
use Rattle.rbac_use.specs.declared.least.Least.{Least as LeastPolicy}
use Rattle.rbac_document.specs.LeastDocument.{least_text}
use Rattle.rbac_use.specs.declared.unused.Unused.{Unused as UnusedPart}
use Rattle.rbac_diff.proofs.OneChanges.{one_changes}
use Rattle.rbac_paths.specs.Nodes.{Somebody}
use Rattle.rbac_paths.specs.OnePath.{IsPathTo}
use Rattle.rbac_paths.specs.Paths.{ArePathsOf, PathView}
use Rattle.rbac_paths.specs.Powers.{ArePowers, PowerView}
use Rattle.rbac_paths.specs.Access.{AccessView}
use Rattle.rbac_paths.specs.WaysTo.{AreWaysTo, WayView}
use Rattle.rbac_steps.specs.declared.steps.Step.{Step}
use Rattle.rbac_document.proofs.OneDocument.{one_document}
use Rattle.rbac_question.specs.declared.command.Action.{Action}
use Rattle.rbac_question.specs.declared.command.Action.TheVariants.{CanI, WhoCan, WaysTo, Rules, Matrix, Universe, Least, Lint, Unused, Powers, Paths, Diff}
use Rattle.rbac_question.specs.declared.command.HolderOptions.{HolderOptions}
use Rattle.rbac_question.specs.declared.command.MatrixOptions.{MatrixOptions}
use Rattle.rbac_question.specs.declared.command.Question.{Question}
use Rattle.rbac_question.specs.declared.path_end.PathEnd.{PathEnd}
use Rattle.rbac_cli.specs.Groups.{named_in}
use Rattle.rbac_cli.specs.HolderLines.{AreHolderLines, joined_lines}
use Rattle.rbac_cli.specs.Out.{Answers, AreListed, IsAllowed, IsDenied, rules_text, findings_text, findings_status, wanted_meant, powers_text, paths_status, paths_text, ways_text, changes_text, changes_status, line_unless, unused_status, unused_text}
use Rattle.rbac_cli.specs.MatrixPage.{AreRows, AreListedRows}
use Rattle.rbac_cli.specs.Meant.{IsScopeMeant, access_meant, requested_meant}
use Rattle.rbac_cli.specs.declared.exports.Exports.{Exports}
use Rattle.rbac_cli.specs.declared.exports.Exports.TheVariants.{Single, Pair, Used}
use Rattle.rbac_cli.specs.declared.outcome.Status.{Status}
use Rattle.rbac_matrix.specs.Every.{IsEvery, IsEveryRow, every_name}
use Rattle.rbac_matrix.proofs.OneMatrix.{key_name, by_keys}
use Rattle.rbac_rules.proofs.RuleLists.{one_list as one_rules}
use Rattle.rbac_cli.proofs.OneHolderLines.{one_holder_lines}
use Rattle.rbac_cli.proofs.OneMatrixText.{Line, line_of, listed_alike, one_matrix_text}
use Rattle.rbac_cli.proofs.OneMeant.{one_meant, one_target, one_scope}
use Rattle.rbac_cli.proofs.OneReason.{one_lacking, one_reason}

-- ---- two of one key with the same groups are named alike

record AreAlike (p q : Who) : Type 0 where
  pub key : who_key p ≡ who_key q
  pub given : (g : Text) → Contains (given_of p) g ↔ Contains (given_of q) g

alike_back : (p q : Who) → AreAlike p q → AreAlike q p
alike_back p q a = record { key = sym a.key; given = λ g. ((a.given g).1, (a.given g).0) }

same_user : (m n : Text) (gs hs : List Text) → AreAlike (AsUser m gs) (AsUser n hs) → m ≡ n
same_user m n gs hs a = append_cancel_left (codes "u:") m n a.key

same_member : (m n : Text) → AreAlike (AsMember m) (AsMember n) → m ≡ n
same_member m n a = append_cancel_left (codes "g:") m n a.key

signed_in : (user : Text) (gs hs : List Text) (g : Text) → (Contains hs (codes "system:unauthenticated") → Contains gs (codes "system:unauthenticated"))
    → IsSignInGroup user gs g → IsSignInGroup user hs g
signed_in user gs hs g f (inl h) = inl h
signed_in user gs hs g f (inr h) = inr (h.0, λ w. h.1 (f w), h.2)

in_group : (p q : Who) (g : Text) → AreAlike p q → IsInGroup p g → IsInGroup q g
in_group (AsUser m gs) (AsUser n hs) g a h = let same = same_user m n gs hs a in elim h [
  | inl w ↦ inl ((a.given g).0 w)
  | inr i ↦ inr (subst (λ user. IsImpliedGroup user hs g) same (elim i [
    | inl account ↦ inl account
    | inr s ↦ inr (signed_in m gs hs g (a.given (codes "system:unauthenticated")).1 s)
  ]))
]
in_group (AsUser m gs) (AsMember n) g a h = absurd (apart m n a.key)
in_group (AsMember m) (AsUser n hs) g a h = absurd (apart n m (sym a.key))
in_group (AsMember m) (AsMember n) g a h = h ∙ same_member m n a

user_named : (p q : Who) (name : Text) → AreAlike p q → IsUserNamed p name → IsUserNamed q name
user_named (AsUser m gs) (AsUser n hs) name a h = sym (same_user m n gs hs a) ∙ h
user_named (AsUser m gs) (AsMember n) name a h = absurd (apart m n a.key)
user_named (AsMember m) q name a h = absurd h

names : (s : Subject) (namespace : Option Text) (p q : Who) → AreAlike p q → Names s namespace p → Names s namespace q
names (User name) namespace p q a h = user_named p q name a h
names (Group name) namespace p q a h = in_group p q name a h
names (Account (Some own) name) namespace p q a h = user_named p q (account_user own name) a h
names (Account None name) (Some namespace) p q a h = user_named p q (account_user namespace name) a h
names (Account None name) None p q a h = h

grants : (held : Held) (b : Binding) (p q : Who) (namespace verb : Text) (t : What) → AreAlike p q → Grants held b p namespace verb t → Grants held b q namespace verb t
grants held b p q namespace verb t a h =
    let (k, s, lt, at, named) = h.1 in (h.0, (k, s, lt, at, names s b.namespace p q a named), h.2)

first : (held : Held) (p q : Who) (namespace verb : Text) (t : What) (b : Binding) → AreAlike p q → IsFirst held p namespace verb t b → IsFirst held q namespace verb t b
first held p q namespace verb t b a (i, f) = (
  i,
  record {
    here = f.here;
    holds = grants held b p q namespace verb t a f.holds;
    none_before = λ k c lt at g. f.none_before k c lt at (grants held c q p namespace verb t (alike_back p q a) g);
  },
)

-- ---- united lists of one list have such principals

module _ (listed ps qs : List Who) (m : AreUnited listed ps) (n : AreUnited listed qs) where
  given_there : (p q : Who) → Contains ps p → Contains qs q → who_key p ≡ who_key q → (g : Text) → Contains (given_of p) g → Contains (given_of q) g
  given_there p q inp inq e g w =
      let (k, other, lt, at, has) = (n.given (who_key p) g).1 ((m.given (who_key p) g).0 (as_any (λ x. (who_key x ≡ who_key p) × Contains (given_of x) g) ps p inp (refl, w))) in
      let same : other ≡ q = one_of_name who_texts qs other q n.ordered (k, lt, at) inq (ap (λ (x : Text). x ∷ []) (has.0 ∙ e)) in
      subst (λ x. Contains (given_of x) g) same has.1

  there : (p : Who) → Contains ps p → (q : Who) × Contains qs q × (who_key q ≡ who_key p)
  there p inp = let (k, q, lt, at, e) = (n.keys (who_key p)).1 ((m.keys (who_key p)).0 (as_any (λ x. who_key x ≡ who_key p) ps p inp refl)) in
      (q, (k, lt, at), e)

alike_there : (listed ps qs : List Who) → AreUnited listed ps → AreUnited listed qs → (p : Who) → Contains ps p → (q : Who) × Contains qs q × AreAlike p q
alike_there listed ps qs m n p inp = let (q, inq, e) = there listed ps qs m n p inp in (
  q,
  inq,
  record {
    key = sym e;
    given = λ g. (given_there listed ps qs m n p q inp inq (sym e) g, given_there listed qs ps n m q p inq inp e g);
  },
)

-- ---- the matrices of such universes print alike

abbrev line_name : Line → List Text
line_name l = texts l.0

same_key : (p q : Who) (c : Cell) → who_key p ≡ who_key q → cell_key (record c { who = p }) ≡ cell_key (record c { who = q })
same_key p q c e = cc

module _ (held : Held) (lists : UniverseLists) (u v : UniverseView) (m : AreSets lists u) (n : AreSets lists v) where
  row_there : (row : RowView) → IsRow held u row → (other : RowView) × IsRow held v other × (line_of other ≡ line_of row)
  row_there row (cell, fits, is_first) =
      let one = one_sets lists u v m n in
      let (q, inq, a) = alike_there lists.principals u.principals v.principals m.principals n.principals row.cell.who cell.0 in (
        record { cell = record row.cell { who = q }; binding = row.binding },
        (
          (
            inq,
            subst (λ xs. Contains xs row.cell.namespace) one.1 cell.1,
            subst (λ xs. Contains xs row.cell.verb) one.2 cell.2,
            subst (λ xs. Contains xs row.cell.target) one.3 cell.3,
          ),
          fits,
          first held row.cell.who q row.cell.namespace row.cell.verb row.cell.target.0 row.binding a is_first,
        ),
        ap (λ (k : KeyTexts). (k, row.binding)) (sym (same_key row.cell.who q row.cell a.key)),
      )

  line_there : (rows others : List RowView) → IsMatrix held u rows → IsMatrix held v others → (l : Line) → Contains (map line_of rows) l → Contains (map line_of others) l
  line_there rows others x y l w =
      let (row, inrows, e) = contains_map line_of rows l w in
      let (other, is_row, same) = row_there row ((x.exact row).0 inrows) in
      subst (Contains (map line_of others)) (same ∙ e) (map_contains line_of others other ((y.exact other).1 is_row))

lines_ascend : (rows : List RowView) → IsAscendingBy key_name rows → IsAscendingBy line_name (map line_of rows)
lines_ascend rows up = pairs_map (λ a b. by_name line_name a b ≡ Less) line_of rows up

one_lines : (held : Held) (lists : UniverseLists) (u v : UniverseView) (rows others : List RowView) → AreSets lists u → AreSets lists v
    → IsMatrix held u rows → IsMatrix held v others → map line_of rows ≡ map line_of others
one_lines held lists u v rows others m n x y =
    one_list line_name (map line_of rows) (map line_of others) (lines_ascend rows (by_keys held u rows x)) (lines_ascend others (by_keys held v others y))
    (line_there held lists u v m n rows others x y) (line_there held lists v u n m others rows y x)

-- ---- and so do the rows of every granting binding

abbrev every_line_name : Line → List Text
every_line_name l = texts l.0 ++ binding_name l.1

module _ (held : Held) (lists : UniverseLists) (u v : UniverseView) (m : AreSets lists u) (n : AreSets lists v) where
  every_there : (row : RowView) → IsEveryRow held u row → (other : RowView) × IsEveryRow held v other × (line_of other ≡ line_of row)
  every_there row (cell, fits, here, grant) =
      let one = one_sets lists u v m n in
      let (q, inq, a) = alike_there lists.principals u.principals v.principals m.principals n.principals row.cell.who cell.0 in (
        record { cell = record row.cell { who = q }; binding = row.binding },
        (
          (
            inq,
            subst (λ xs. Contains xs row.cell.namespace) one.1 cell.1,
            subst (λ xs. Contains xs row.cell.verb) one.2 cell.2,
            subst (λ xs. Contains xs row.cell.target) one.3 cell.3,
          ),
          fits,
          here,
          grants held row.binding row.cell.who q row.cell.namespace row.cell.verb row.cell.target.0 a grant,
        ),
        ap (λ (k : KeyTexts). (k, row.binding)) (sym (same_key row.cell.who q row.cell a.key)),
      )

  every_line_there : (rows others : List RowView) → IsEvery held u rows → IsEvery held v others → (l : Line) → Contains (map line_of rows) l → Contains (map line_of others) l
  every_line_there rows others x y l w =
      let (row, inrows, e) = contains_map line_of rows l w in
      let (other, is_row, same) = every_there row ((x.exact row).0 inrows) in
      subst (Contains (map line_of others)) (same ∙ e) (map_contains line_of others other ((y.exact other).1 is_row))

every_lines_ascend : (rows : List RowView) → IsAscendingBy every_name rows → IsAscendingBy every_line_name (map line_of rows)
every_lines_ascend rows up = pairs_map (λ a b. by_name every_line_name a b ≡ Less) line_of rows up

one_every_lines : (held : Held) (lists : UniverseLists) (u v : UniverseView) (rows others : List RowView) → AreSets lists u → AreSets lists v
    → IsEvery held u rows → IsEvery held v others → map line_of rows ≡ map line_of others
one_every_lines held lists u v rows others m n x y =
    one_list every_line_name (map line_of rows) (map line_of others) (every_lines_ascend rows x.ordered) (every_lines_ascend others y.ordered)
    (every_line_there held lists u v m n rows others x y) (every_line_there held lists v u n m others rows y x)

-- ---- so whichever rows are listed print alike

one_row_lines : (every : Bool) (held : Held) (lists : UniverseLists) (u v : UniverseView) (rows others : List RowView) → AreSets lists u → AreSets lists v
    → AreRows every held u rows → AreRows every held v others → map line_of rows ≡ map line_of others
one_row_lines false held lists u v rows others m n x y = one_lines held lists u v rows others m n x y
one_row_lines true held lists u v rows others m n x y = one_every_lines held lists u v rows others m n x y

one_listed_lines : (options : MatrixOptions) (held : Held) (lists : UniverseLists) (u v : UniverseView) (all others : List RowView) → AreSets lists u → AreSets lists v
    → AreListedRows options held u all → AreListedRows options held v others → map line_of all ≡ map line_of others
one_listed_lines options held lists u v all others m n (rows, x, e) (those, y, f) =
    ap (map line_of) e ∙ listed_alike options.once rows those (one_row_lines options.every held lists u v rows those m n x y) ∙ sym (ap (map line_of) f)

-- ---- the holders are one list, and so are they with the members of groups

one_with_members : (ms : List Membership) (members every : Bool) (xs all others : List HolderView) → AreHoldersAndMembers ms members every xs all → AreHoldersAndMembers ms members every xs others → all ≡ others
one_with_members ms false every xs all others a b = a ∙ sym b
one_with_members ms true every xs all others (ys, are, e) (zs, these, f) = e ∙ ap (λ (ks : List HolderView). xs ++ ks) (one_members ms every xs ys zs are these) ∙ sym f

one_holders_text : (l : LoadedView) (options : HolderOptions) (q : Question) (text other : List ℕ) (status ending : Status)
    → Answers (Single l) (WhoCan options q) text status → Answers (Single l) (WhoCan options q) other ending → (text ≡ other) × (status ≡ ending)
one_holders_text l options q text other status ending (t, v, target, meant, (xs, all, lines, a, told, these, e, s)) (u, w, means, meaning, (ys, others, those, b, tell, them, f, z)) =
    let p = l.policy in
    let every = options.every in
    let any_name = options.any_name in
    let entries = l.catalogue.entries in
    let same = one_target entries q.asked t u target means in
    let place = one_scope entries q options.anywhere u v w (subst (λ x. IsScopeMeant entries q options.anywhere x v) same meant) meaning in
    let r = requested_meant any_name u in
    let here = subst (λ x. AreListedHolders p.held x every q.verb r xs) place (subst (λ x. AreListedHolders p.held v every q.verb (requested_meant any_name x) xs) same a) in
    let one = one_listed p.held w every q.verb r xs ys here b in
    let shown = one_with_members l.memberships options.members every ys all others (subst (λ hs. AreHoldersAndMembers l.memberships options.members every hs all) one told) tell in
    let lined = subst (λ hs. AreHolderLines p options.why q.verb r hs lines) shown (subst (λ x. AreHolderLines p options.why q.verb (requested_meant any_name x) all lines) same these) in
    (e ∙ ap joined_lines (one_holder_lines p q.verb r options.why others lines those lined them) ∙ sym f, s ∙ sym z)

-- the one target and namespace that are meant aren't both allowed and denied
not_both : (held : Held) (entries : List Entry) (who : Who) (q : Question) → IsAllowed held entries who q → IsDenied held entries who q → ⊥
not_both held entries who q (t, n, meant, allows) (u, m, means, none) =
    let same = one_meant entries q t u n m meant means in
    none (subst (λ x. Allows held who m q.verb x) same.0 (subst (λ x. Allows held who x q.verb t) same.1 allows))

-- what is known of powers, of paths and of ways
abbrev pub PowersOne : Type 0
PowersOne = (p : PolicyView) (xs others : List PowerView) → ArePowers p xs → ArePowers p others → xs ≡ others

abbrev pub PathsOne : Type 0
PathsOne = (p : PolicyView) (principals : List Who) (steps : List Step) (who : Who) (xs others : List PathView) → ArePathsOf p principals steps who xs
    → ArePathsOf p principals steps who others → xs ≡ others

abbrev pub WaysOne : Type 0
WaysOne = (p : PolicyView) (principals : List Who) (steps : List Step) (asked : AccessView) (xs others : List WayView) → AreWaysTo p principals steps asked xs
    → AreWaysTo p principals steps asked others → xs ≡ others

abbrev pub PathOne : Type 0
PathOne = (p : PolicyView) (principals : List Who) (steps : List Step) (who : Who) (to : Text) (scope : Option Text) (xs chain other : List PathView)
    → ArePathsOf p principals steps who xs → IsPathTo (Somebody who) to scope xs chain → IsPathTo (Somebody who) to scope xs other → chain ≡ other

abbrev pub UnusedOne : Type 0
UnusedOne = (p : PolicyView) (log other : List RequestView) (skip : Bool) (xs others : List UnusedPart) → ((r : RequestView) → Contains log r ↔ Contains other r)
    → AreUnused p log skip xs → AreUnused p other skip others → xs ≡ others

abbrev pub LeastOne : Type 0
LeastOne = (p : PolicyView) (log other : List RequestView) (user : Text) (names : Bool) (a b : LeastPolicy) → ((r : RequestView) → Contains log r ↔ Contains other r)
    → IsLeastOf p log user names a → IsLeastOf p other user names b → HaveSameRules a b

-- least policies with the same rules have one document
least_alike : (name user : Text) (a b : LeastPolicy) → HaveSameRules a b → least_text name user a ≡ least_text name user b
least_alike name user a b (everywhere, namespaces) = rw (everywhere, namespaces) refl

module _ (powers_one : PowersOne) (paths_one : PathsOne) (path_one : PathOne) (ways_one : WaysOne) (unused_one : UnusedOne) (least_one : LeastOne) where
  one_listing : (l : LoadedView) (who : Who) (steps : List Step) (to : Option PathEnd) (xs listed others : List PathView) → ArePathsOf l.policy (named_in l) steps who xs
      → AreListed (Somebody who) to xs listed → AreListed (Somebody who) to xs others → listed ≡ others
  one_listing l who steps None xs listed others are e f = e ∙ sym f
  one_listing l who steps (Some to) xs listed others are is too = path_one l.policy (named_in l) steps who to.what to.namespace xs listed others are is too

  -- logs with the same requests have one answer
  pub one_unused : (l : LoadedView) (log logged : List RequestView) (skip : Bool) (text other : List ℕ) (status ending : Status) → ((r : RequestView) → Contains log r ↔ Contains logged r)
      → Answers (Used l log) (Unused skip) text status → Answers (Used l logged) (Unused skip) other ending → (text ≡ other) × (status ≡ ending)
  one_unused l log logged skip text other status ending same (xs, are, e, s) (ys, those, f, t) =
      let one = unused_one l.policy log logged skip xs ys same are those in
      (e ∙ ap (unused_text l.policy) one ∙ sym f, s ∙ ap unused_status one ∙ sym t)

  pub one_least : (l : LoadedView) (log logged : List RequestView) (user : Text) (names : Bool) (name text other : Text) (status ending : Status) → ((r : RequestView) → Contains log r ↔ Contains logged r)
      → Answers (Used l log) (Least user names name) text status → Answers (Used l logged) (Least user names name) other ending → (text ≡ other) × (status ≡ ending)
  one_least l log logged user names name text other status ending same ((a, is, e), s) ((b, too, f), t) =
      let one = least_one l.policy log logged user names a b same is too in
      (e ∙ least_alike name user a b one ∙ sym f, s ∙ sym t)

  pub one_answer : (e : Exports) (action : Action) (text other : List ℕ) (status ending : Status) → Answers e action text status → Answers e action other ending
      → (text ≡ other) × (status ≡ ending)
  one_answer (Single l) (CanI who options q) text other status ending (inl (a, (r, is, e), s)) (inl (b, (o, are, f), t)) = (
    e ∙ ap (λ (reason : List ℕ). line_unless options.quiet (codes "yes") ++ reason) (one_reason l.policy l.catalogue.entries (with_memberships l.memberships who) q r o options.quiet options.why is are) ∙ sym f,
    s ∙ sym t,
  )
  one_answer (Single l) (CanI who options q) text other status ending (inl a) (inr b) = absurd (not_both l.policy.held l.catalogue.entries (with_memberships l.memberships who) q a.0 b.0)
  one_answer (Single l) (CanI who options q) text other status ending (inr a) (inl b) = absurd (not_both l.policy.held l.catalogue.entries (with_memberships l.memberships who) q b.0 a.0)
  one_answer (Single l) (CanI who options q) text other status ending (inr (a, (r, is, e), s)) (inr (b, (o, are, f), t)) = (
    e ∙ ap (λ (lacking : List ℕ). line_unless options.quiet (codes "no") ++ lacking) (one_lacking l.policy l.catalogue.entries (with_memberships l.memberships who) q r o options.quiet options.why_not is are) ∙ sym f,
    s ∙ sym t,
  )
  one_answer (Single l) (WhoCan options q) text other status ending a b = one_holders_text l options q text other status ending a b
  one_answer (Single l) (WaysTo steps q) text other status ending (t, n, meant, (xs, are, e, s)) (u, m, means, (ys, those, f, z)) =
      let same = one_meant l.catalogue.entries q t u n m meant means in
      let here = subst (λ (a : AccessView). AreWaysTo l.policy (named_in l) (vec_items steps) a xs) (ap₂ (access_meant q) same.0 same.1) are in
      (e ∙ ap ways_text (ways_one l.policy (named_in l) (vec_items steps) (access_meant q u m) xs ys here those) ∙ sym f, s ∙ sym z)
  one_answer (Single l) (Rules who scope) text other status ending (xs, are, e, s) (ys, those, f, t) =
      (e ∙ ap rules_text (one_rules (with_memberships l.memberships who) scope l.policy.grants xs ys are those) ∙ sym f, s ∙ sym t)
  one_answer (Single l) (Matrix options after limit) text other status ending (u, rows, m, x, e, s) (v, others, n, y, f, t) = (
    e ∙ one_matrix_text options.every after limit rows others (one_listed_lines options l.policy.held l.lists u v rows others m.sets n.sets x y) ∙ sym f,
    s ∙ sym t,
  )
  one_answer (Single l) (Lint only skip) text other status ending (found, are, e, s) (others, these, f, t) =
      let one = one_wanted (wanted_meant (option_map vec_items only) skip) l.policy.held l.replaced found others are these in
      (e ∙ ap findings_text one ∙ sym f, s ∙ ap findings_status one ∙ sym t)
  one_answer (Single l) Universe text other status ending (is, few, s) (are, others, t) = (one_document l.lists text other is are, s ∙ sym t)
  one_answer (Single l) Powers text other status ending (xs, are, e, s) (ys, those, f, t) =
      (e ∙ ap powers_text (powers_one l.policy xs ys are those) ∙ sym f, s ∙ sym t)
  one_answer (Single l) (Paths who steps to) text other status ending (xs, listed, are, lists, e, s) (ys, others, those, list, f, t) =
      let given = with_memberships l.memberships who in
      let same = paths_one l.policy (named_in l) (vec_items steps) given xs ys are those in
      let one = one_listing l given (vec_items steps) to ys listed others those (subst (λ (zs : List PathView). AreListed (Somebody given) to zs listed) same lists) list in
      (e ∙ ap paths_text one ∙ sym f, s ∙ ap (paths_status to) one ∙ sym t)
  one_answer (Single l) (Diff n change) text other status ending a b = absurd a
  one_answer (Pair before after) (Diff n change) text other status ending (xs, are, e, s) (ys, those, f, t) =
      let one = one_changes before after xs ys are those in
      (e ∙ ap changes_text one ∙ sym f, s ∙ ap changes_status one ∙ sym t)
  one_answer (Pair before after) (CanI who options q) text other status ending a b = absurd a
  one_answer (Pair before after) (WhoCan options q) text other status ending a b = absurd a
  one_answer (Pair before after) (WaysTo steps q) text other status ending a b = absurd a
  one_answer (Pair before after) (Rules who scope) text other status ending a b = absurd a
  one_answer (Pair before after) (Matrix options mark limit) text other status ending a b = absurd a
  one_answer (Pair before after) Universe text other status ending a b = absurd a
  one_answer (Pair before after) (Lint only skip) text other status ending a b = absurd a
  one_answer (Pair before after) Powers text other status ending a b = absurd a
  one_answer (Pair before after) (Paths who steps to) text other status ending a b = absurd a
  one_answer (Single l) (Unused skip) text other status ending a b = absurd a
  one_answer (Single l) (Least user names name) text other status ending a b = absurd a
  one_answer (Pair before after) (Unused skip) text other status ending a b = absurd a
  one_answer (Pair before after) (Least user names name) text other status ending a b = absurd a
  one_answer (Used l log) (CanI who options q) text other status ending a b = absurd a
  one_answer (Used l log) (WhoCan options q) text other status ending a b = absurd a
  one_answer (Used l log) (WaysTo steps q) text other status ending a b = absurd a
  one_answer (Used l log) (Rules who scope) text other status ending a b = absurd a
  one_answer (Used l log) (Matrix options mark limit) text other status ending a b = absurd a
  one_answer (Used l log) Universe text other status ending a b = absurd a
  one_answer (Used l log) (Lint only skip) text other status ending a b = absurd a
  one_answer (Used l log) Powers text other status ending a b = absurd a
  one_answer (Used l log) (Paths who steps to) text other status ending a b = absurd a
  one_answer (Used l log) (Diff n change) text other status ending a b = absurd a
  one_answer (Used l log) (Unused skip) text other status ending a b = one_unused l log log skip text other status ending (λ r. (λ h. h, λ h. h)) a b
  one_answer (Used l log) (Least user names name) text other status ending a b = one_least l log log user names name text other status ending (λ r. (λ h. h, λ h. h)) a b
