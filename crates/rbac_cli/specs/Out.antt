-- What a command writes, and its status.
use Rattle.std.specs.Prelude.{◌≡◌, ◌↔◌, ℕ, ◌⊎◌, Bool, true, false, List, [], ◌∷◌, ◌++◌, codes}
use Rattle.std.specs.Prelude.{Option, None, Some, option_map, vec_items}
use Rattle.std.specs.List.{flat_map}
use Rattle.rbac_terms.specs.Text.{Text}
use Rattle.rbac_terms.specs.Targets.{What}
use Rattle.rbac_terms.specs.Principals.{Who}
use Rattle.rbac_terms.specs.declared.scope.Scope.{Scope}
use Rattle.rbac_model.specs.Policies.{Held, Allows, PolicyView, GrantView, IsWhy}
use Rattle.rbac_model.specs.Universes.{UniverseView, RowView}
use Rattle.rbac_model.specs.Holders.{HolderView}
use Rattle.rbac_catalogue.specs.declared.entry.Entry.{Entry}
use Rattle.rbac_universe.specs.Sets.{IsUniverseOf}
use Rattle.rbac_document.specs.Document.{IsDocument}
use Rattle.rbac_document.specs.LeastDocument.{least_text}
use Rattle.rbac_document.specs.Names.{resource_name}
use Rattle.rbac_lists.specs.Wide.{AreTooMany}
use Rattle.rbac_text.specs.Rule.{grant_text}
use Rattle.rbac_text.specs.Why.{why_text}
use Rattle.rbac_text.specs.Finding.{finding_text}
use Rattle.rbac_lint.specs.declared.finding.Finding.{Finding}
use Rattle.rbac_lint.specs.Wanted.{WantedView, AreWanted}
use Rattle.rbac_paths.specs.Powers.{ArePowers, PowerView}
use Rattle.rbac_paths.specs.Lines.{power_text}
use Rattle.rbac_paths.specs.Nodes.{NodeView, Somebody}
use Rattle.rbac_paths.specs.OnePath.{IsPathTo}
use Rattle.rbac_paths.specs.Paths.{ArePathsOf, PathView}
use Rattle.rbac_paths.specs.PathLines.{path_text}
use Rattle.rbac_paths.specs.WaysTo.{AreWaysTo, WayView}
use Rattle.rbac_paths.specs.WayLines.{way_text}
use Rattle.rbac_diff.specs.Changes.{ChangeView, AreChanges}
use Rattle.rbac_diff.specs.Requests.{RequestView as LoggedRequest}
use Rattle.rbac_diff.specs.Lines.{change_text}
use Rattle.rbac_question.specs.declared.command.Action.{Action}
use Rattle.rbac_question.specs.declared.command.Action.TheVariants.{CanI, WhoCan, WaysTo}
use Rattle.rbac_question.specs.declared.command.Action.TheVariants.{Rules, Matrix, Universe, Lint}
use Rattle.rbac_question.specs.declared.command.Action.TheVariants.{Powers, Paths, Diff, Unused}
use Rattle.rbac_question.specs.declared.command.Action.TheVariants.{Least}
use Rattle.rbac_question.specs.declared.command.Question.{Question}
use Rattle.rbac_question.specs.declared.command.VerdictOptions.{VerdictOptions}
use Rattle.rbac_question.specs.declared.path_end.PathEnd.{PathEnd}
use Rattle.rbac_rules.specs.Effective.{RuleView, AreEffective}
use Rattle.rbac_groups.specs.Memberships.{with_memberships}
use Rattle.rbac_index.specs.WhoCan.{AreListedHolders}
use Rattle.rbac_manifest.specs.Load.{LoadedView}
use Rattle.rbac_members.specs.Members.{AreHoldersAndMembers}
use Rattle.rbac_near.specs.Near.{AreNear, RequestView}
use Rattle.rbac_near.specs.NearLines.{near_line}
use Rattle.rbac_near.specs.declared.near.Near.{Near}
use Rattle.rbac_use.specs.LeastRules.{IsLeastOf}
use Rattle.rbac_use.specs.Unused.{AreUnused}
use Rattle.rbac_use.specs.UnusedTexts.{unused_line}
use Rattle.rbac_use.specs.declared.least.Least.{Least as LeastPolicy}
use Rattle.rbac_use.specs.declared.unused.Unused.{Unused as UnusedPart}
use Rattle.rbac_cli.specs.Groups.{named_in}
use Rattle.rbac_cli.specs.HolderLines.{AreHolderLines, joined_lines}
use Rattle.rbac_cli.specs.declared.exports.Exports.{Exports}
use Rattle.rbac_cli.specs.declared.exports.Exports.TheVariants.{Single, Pair, Used}
use Rattle.rbac_cli.specs.MatrixPage.{AreListedRows, matrix_text}
use Rattle.rbac_cli.specs.Meant.{IsMeant, IsTargetMeant, IsScopeMeant, access_meant}
use Rattle.rbac_cli.specs.Meant.{IsOutside, request_meant, requested_meant}
use Rattle.rbac_cli.specs.declared.outcome.Status.{Status}
use Rattle.rbac_cli.specs.declared.outcome.Status.TheVariants.{Zero, One}

-- a word on a line of its own
abbrev pub word_line : List ℕ → List ℕ
word_line word = word ++ 10 ∷ []

-- a word on a line of its own, or with `-q` nothing at all
abbrev pub line_unless : Bool → List ℕ → List ℕ
line_unless true word = []
line_unless false word = word_line word

-- `who` is allowed what the question asks, by the objects that are held and the entries of the
-- catalogue
abbrev pub IsAllowed : Held → List Entry → Who → Question → Type 0
IsAllowed held entries who q =
    (target : What) × (namespace : Text) × IsMeant entries q target namespace
    × Allows held who namespace q.verb target

-- `who` isn't allowed what the question asks: it means some target and namespace, and `who` isn't
-- allowed its verb on that target there
abbrev pub IsDenied : Held → List Entry → Who → Question → Type 0
IsDenied held entries who q =
    (target : What) × (namespace : Text) × IsMeant entries q target namespace
    × (¬ Allows held who namespace q.verb target)

-- the line that explains a yes: the first grant that allows it, and the first subject of its
-- binding that names the principal
abbrev pub IsWhyText : PolicyView → List Entry → Who → Question → Text → Type 0
IsWhyText p entries who q text =
    (target : What) × (namespace : Text) × IsMeant entries q target namespace
    × ((g : GrantView) × (subject : ℕ) × IsWhy p who namespace q.verb target g subject
    × (text ≡ why_text g.binding g.rule.source g.rule.place subject))

-- what comes after `yes`: with `--why` and without `-q`, the line that explains it; otherwise
-- nothing
abbrev pub ComesAfterYes : PolicyView → List Entry → Who → Bool → Bool → Question → Text → Type 0
ComesAfterYes p entries who false true q text = IsWhyText p entries who q text
ComesAfterYes p entries who false false q text = text ≡ []
ComesAfterYes p entries who true why q text = text ≡ []

-- the lines of the near grants for a request, in order
abbrev pub AreNearLines : PolicyView → RequestView → Text → Type 0
AreNearLines p request text =
    (found : List Near) × AreNear p request found × (text ≡ flat_map (near_line p) found)

-- what follows `no`: with `--why-not` and without `-q`, the lines of near grants; otherwise nothing
abbrev pub FollowsNo : PolicyView → RequestView → Bool → Bool → Text → Type 0
FollowsNo p request false true text = AreNearLines p request text
FollowsNo p request false false text = text ≡ []
FollowsNo p request true why_not text = text ≡ []

-- the same, of what the question asks; another namespace can make a difference unless the target is
-- asked for outside all namespaces
abbrev pub ComesAfterNo : PolicyView → List Entry → Who → Bool → Bool → Question → Text → Type 0
ComesAfterNo p entries who quiet why_not q text =
    (target : What) × (namespace : Text) × (is_namespaced : Bool)
    × IsMeant entries q target namespace
    × ((is_namespaced ≡ true) ↔ (¬ IsOutside entries q target))
    × FollowsNo p (request_meant who q target namespace is_namespaced) quiet why_not text

-- the verdict on whether `who` is allowed what the question asks: `yes` and 0, or `no` and 1
-- (kubectl auth can-i)
abbrev pub IsVerdict : LoadedView → Who → VerdictOptions → Question → Text → Status → Type 0
IsVerdict l who options q text status =
    (IsAllowed l.policy.held l.catalogue.entries who q
    × ((reason : Text)
    × ComesAfterYes l.policy l.catalogue.entries who options.quiet options.why q reason
    × (text ≡ line_unless options.quiet (codes "yes") ++ reason))
    × (status ≡ Zero))
    ⊎ (IsDenied l.policy.held l.catalogue.entries who q
    × ((lacking : Text)
    × ComesAfterNo l.policy l.catalogue.entries who options.quiet options.why_not q lacking
    × (text ≡ line_unless options.quiet (codes "no") ++ lacking))
    × (status ≡ One))

-- the line of a rule that a principal has
abbrev pub effective_line : RuleView → Text
effective_line x = grant_text x.grant x.subject_place

-- a line for each of these rules, in order
abbrev pub rules_text : List RuleView → Text
rules_text xs = flat_map effective_line xs

-- which findings are asked for: those of the codes of `--only`, if it is given, and with
-- `--skip-system` not those about Kubernetes' own objects
abbrev pub wanted_meant : Option (List ℕ) → Bool → WantedView
wanted_meant only skip_system = record { only = only; skip_system = skip_system }

-- the line of a finding
abbrev pub finding_line : Finding → Text
finding_line f = finding_text f.code f.object f.place f.other

-- a line for each finding, in order
abbrev pub findings_text : List Finding → Text
findings_text found = flat_map finding_line found

-- the status of `lint`: 1 if anything is found, otherwise 0 (own)
abbrev pub findings_status : List Finding → Status
findings_status [] = Zero
findings_status (f ∷ found) = One

-- a line for each step that somebody can take, in order
abbrev pub powers_text : List PowerView → Text
powers_text xs = flat_map power_text xs

-- a line for each path, in order
abbrev pub paths_text : List PathView → Text
paths_text xs = flat_map path_text xs

-- which of the paths from the start are listed: all; with `--to`, those that lead to TO one after
-- the other (own)
abbrev pub AreListed : NodeView → Option PathEnd → List PathView → List PathView → Type 0
AreListed start None xs listed = listed ≡ xs
AreListed start (Some to) xs listed = IsPathTo start to.what to.namespace xs listed

-- the status of `paths`: with `--to` 1 if no path leads to TO, otherwise 0 (own)
abbrev pub paths_status : Option PathEnd → List PathView → Status
paths_status None xs = Zero
paths_status (Some to) [] = One
paths_status (Some to) (x ∷ xs) = Zero

-- a line for each way, in order
abbrev pub ways_text : List WayView → Text
ways_text xs = flat_map way_text xs

-- a line for each change, in order
abbrev pub changes_text : List ChangeView → Text
changes_text xs = flat_map change_text xs

-- the status of `diff`: 1 if anything changes, otherwise 0 (diff(1))
abbrev pub changes_status : List ChangeView → Status
changes_status [] = Zero
changes_status (x ∷ xs) = One

-- a line for each unused part, in order
abbrev pub unused_text : PolicyView → List UnusedPart → Text
unused_text p xs = flat_map (unused_line p) xs

-- the status of `unused`: 1 if anything is unused, otherwise 0
abbrev pub unused_status : List UnusedPart → Status
unused_status [] = Zero
unused_status (x ∷ xs) = One

-- the document of the least policy of the user, by these logged requests
abbrev pub IsLeastText : PolicyView → List LoggedRequest → Text → Bool → Text → Text → Type 0
IsLeastText p log user names name text =
    (least : LeastPolicy) × IsLeastOf p log user names least × (text ≡ least_text name user least)

-- the text and the status that an action means over what was loaded: `can-i` answers `yes` and 0,
-- or `no` and 1 (kubectl auth can-i); `who-can` answers a line for each holder, with `--members`
-- also for each other member of a group that is one, and 0, or with `--indirect` a line for each
-- node from which the given steps, or none, lead to one that allows what is asked, and 0 (own);
-- `rules` a line for each rule that the principal has, and 0 (own); `matrix` a page of the rows
-- that are listed over a universe of the lists, and 0 (own); `universe` the Universe document of
-- the lists, unless they have more resources than a universe may have targets, and 0 (own); `lint`
-- a line for each finding that is asked for, and 1 if there is one, otherwise 0 (own); `powers` a
-- line for each step that a user or a group can take, and 0 (own); `paths` a line for each node
-- that the principal comes to by the given steps, and 0, or with `--to` a line for each step of the
-- one path to TO, and 0, or nothing and 1 if no path leads there (own); `diff` a line for each
-- change from the first policy to the second, and 1 if there is one, otherwise 0 (own); `unused` a
-- line for each part of a binding that no request of the log used, and 1 if there is one, otherwise
-- 0 (own); `least` the document of the least policy of the user by the requests of the log, and 0
-- (own). Whoever `can-i`, `rules` and `paths` are about has the groups that documents give it, too
-- (own)
abbrev pub Answers : Exports → Action → List ℕ → Status → Type 0
Answers (Single l) (CanI who options q) text status =
    IsVerdict l (with_memberships l.memberships who) options q text status
Answers (Single l) (WhoCan options q) text status =
    (target : What) × (scope : Scope) × IsTargetMeant l.catalogue.entries q.asked target
    × IsScopeMeant l.catalogue.entries q options.anywhere target scope
    × ((xs all : List HolderView) × (lines : List Text)
    × AreListedHolders l.policy.held scope options.every q.verb
    (requested_meant options.any_name target) xs
    × AreHoldersAndMembers l.memberships options.members options.every xs all
    × AreHolderLines l.policy options.why q.verb (requested_meant options.any_name target) all lines
    × (text ≡ joined_lines lines) × (status ≡ Zero))
Answers (Single l) (WaysTo steps q) text status =
    (target : What) × (namespace : Text) × IsMeant l.catalogue.entries q target namespace
    × ((xs : List WayView)
    × AreWaysTo l.policy (named_in l) (vec_items steps) (access_meant q target namespace) xs
    × (text ≡ ways_text xs) × (status ≡ Zero))
Answers (Single l) (Rules who scope) text status =
    (xs : List RuleView) × AreEffective l.policy (with_memberships l.memberships who) scope xs
    × (text ≡ rules_text xs) × (status ≡ Zero)
Answers (Single l) (Matrix options after limit) text status =
    (u : UniverseView) × (rows : List RowView) × IsUniverseOf l.lists u
    × AreListedRows options l.policy.held u rows
    × (text ≡ matrix_text options.every after limit rows) × (status ≡ Zero)
Answers (Single l) Universe text status = IsDocument l.lists text
    × (¬ AreTooMany resource_name l.lists.resources) × (status ≡ Zero)
Answers (Single l) (Lint only skip_system) text status =
    (found : List Finding)
    × AreWanted (wanted_meant (option_map vec_items only) skip_system) l.policy.held l.replaced
    found
    × (text ≡ findings_text found) × (status ≡ findings_status found)
Answers (Single l) Powers text status =
    (xs : List PowerView) × ArePowers l.policy xs × (text ≡ powers_text xs) × (status ≡ Zero)
Answers (Single l) (Paths who steps to) text status =
    (xs listed : List PathView)
    × ArePathsOf l.policy (named_in l) (vec_items steps) (with_memberships l.memberships who) xs
    × AreListed (Somebody (with_memberships l.memberships who)) to xs listed
    × (text ≡ paths_text listed) × (status ≡ paths_status to listed)
Answers (Pair before after) (Diff n change) text status =
    (xs : List ChangeView) × AreChanges before after xs
    × (text ≡ changes_text xs) × (status ≡ changes_status xs)
Answers (Used l log) (Unused skip_system) text status =
    (xs : List UnusedPart) × AreUnused l.policy log skip_system xs
    × (text ≡ unused_text l.policy xs) × (status ≡ unused_status xs)
Answers (Used l log) (Least user names name) text status =
    IsLeastText l.policy log user names name text × (status ≡ Zero)
Answers e action text status = ⊥
