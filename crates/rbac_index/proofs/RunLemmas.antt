-- the grants of a policy are runs: each is of one binding, by the rules of one role in order
use Rattle.std.proofs.Common.{◌≡◌, ℕ, ◌+◌, ◌<◌, ◌≤◌, List, [], ◌∷◌, ◌++◌, map, length, slice_get, ap, sym, ◌∙◌, refl, zero, suc, arith, inl, inr}
use Rattle.std.specs.Prelude.{Option, Some, None, option_and_then}
use Rattle.std.specs.List.{flat_map}
use Rattle.std.specs.Option.{option_map}
use Rattle.std.proofs.lemmas.List.{length-map, length-append, map-append, append_assoc, append-nil}
use Rattle.std.proofs.lemmas.Grind.{flat_map-append}
use Rattle.std.proofs.lemmas.Option.{same_Some, slice_get-map, slice_get_within}
use Rattle.rbac_terms.specs.declared.matching.Rule.{Rule}
use Rattle.rbac_terms.specs.declared.granting.Role.{Role}
use Rattle.rbac_terms.specs.declared.granting.ClusterRole.{ClusterRole}
use Rattle.rbac_terms.specs.declared.granting.Binding.{Binding}
use Rattle.rbac_terms.proofs.Reading.{read_left, read_right, read_some}
use Rattle.rbac_model.specs.Policies.{Held, PolicyView, IsPolicy, GrantView, AreGrantsOf, AreRulesFor, AreRulesOf, Source, InRole, InClusterRole, SourcedRule, written_from, rule_at, sourced_at, grant_at}
use Rattle.rbac_model.specs.declared.places.GrantPlace.{GrantPlace}
use Rattle.rbac_model.specs.declared.places.RolePlace.{RolePlace}
use Rattle.rbac_model.specs.declared.places.RolePlace.TheVariants.{RoleAt, ClusterRoleAt}
use Rattle.rbac_model.specs.Places.{rules_of, granted_by}
use Rattle.rbac_index.specs.Written.{written_rules, row_of}
use Rattle.rbac_index.specs.Indexed.{IsRun}

-- the grants of a binding by the rules of a role
abbrev pub run_of : Binding × Source → List GrantView
run_of x = granted_by x.0 (written_from x.1 0 (rules_of x.1))

abbrev pub AreInRuns : List GrantView → Type 0
AreInRuns gs = (xs : List (Binding × Source)) × (gs ≡ flat_map run_of xs)

in_both : (gs hs : List GrantView) → AreInRuns gs → AreInRuns hs → AreInRuns (gs ++ hs)
in_both gs hs (xs, e) (ys, d) = (xs ++ ys, rw (e, d) (sym (flat_map-append run_of xs ys)))

in_one : (b : Binding) (s : Source) → AreInRuns (granted_by b (written_from s 0 (rules_of s)))
in_one b s = ((b, s) ∷ [], sym (append-nil (run_of (b, s))))

in_gathered : (b : Binding) (ss : List ClusterRole) → AreInRuns (granted_by b (flat_map (λ s. written_from (InClusterRole s) 0 s.rules) ss))
in_gathered b [] = ([], refl)
in_gathered b (s ∷ ss) =
    let rest = flat_map (λ (s : ClusterRole). written_from (InClusterRole s) 0 s.rules) ss in
    let grant : SourcedRule → GrantView = λ rule. record { binding = b; rule = rule } in
    rw (map-append grant (written_from (InClusterRole s) 0 s.rules) rest) (in_both (granted_by b (written_from (InClusterRole s) 0 s.rules)) (granted_by b rest) (in_one b (InClusterRole s)) (in_gathered b ss))

in_rules_of : (h : Held) (b : Binding) (role : Source) (rules : List SourcedRule) → AreRulesOf h role rules → AreInRuns (granted_by b rules)
in_rules_of h b (InRole r) rules are = rw are (in_one b (InRole r))
in_rules_of h b (InClusterRole r) rules are = elim are [
  | inl a ↦ rw a.1 (in_one b (InClusterRole r))
  | inr a ↦ rw a.1.2 (in_gathered b a.1.0)
]

in_rules_for : (h : Held) (b : Binding) (rules : List SourcedRule) → AreRulesFor h b rules → AreInRuns (granted_by b rules)
in_rules_for h b rules are = elim are [
  | inl a ↦ in_rules_of h b a.0 rules a.2
  | inr a ↦ rw a.1 ([], refl)
]

in_runs : (h : Held) (bs : List Binding) (gs : List GrantView) → AreGrantsOf h bs gs → AreInRuns gs
in_runs h [] gs e = ([], e)
in_runs h (b ∷ bs) gs are = rw are.4 (in_both (granted_by b are.0) are.1 (in_rules_for h b are.0 are.2) (in_runs h bs are.1 are.3))

-- the first run that isn't empty, and what follows
record IsLed (gs : List GrantView) : Type 0 where
  pub binding : Binding
  pub source : Source
  pub rest : List GrantView
  pub is : gs ≡ run_of (binding, source) ++ rest
  pub some : 0 < length (rules_of source)
  pub others : AreInRuns rest

led_by : (b : Binding) (s : Source) (rs : List Rule) (rest : List GrantView) → rs ≡ rules_of s → AreInRuns rest → (0 < length rest → IsLed rest) → 0 < length (granted_by b (written_from s 0 rs) ++ rest) → IsLed (granted_by b (written_from s 0 rs) ++ rest)
led_by b s [] rest e others more some = more some
led_by b s (r ∷ rs) rest e others more some = record {
  binding = b;
  source = s;
  rest = rest;
  is = ap (λ (qs : List Rule). granted_by b (written_from s 0 qs) ++ rest) e;
  some = omega (arith, ap length e);
  others = others;
}

led : (xs : List (Binding × Source)) → 0 < length (flat_map run_of xs) → IsLed (flat_map run_of xs)
led [] some = absurd (omega arith)
led ((b, s) ∷ xs) some = led_by b s (rules_of s) (flat_map run_of xs) refl (xs, refl) (led xs) some

written_read : (s : Source) (i : ℕ) (rs : List Rule) (k : ℕ) (r : Rule) → slice_get rs k ≡ Some r → slice_get (written_from s i rs) k ≡ Some (record { source = s; rule = r; place = i + k })
written_read s i [] zero r e = cc
written_read s i [] (suc k) r e = cc
written_read s i (x ∷ xs) zero r e =
    let same : i ≡ i + 0 = omega arith in
    ap (option_map (λ (q : Rule). let v : SourcedRule = record { source = s; rule = q; place = i } in v)) e ∙ ap (λ (n : ℕ). let v : SourcedRule = record { source = s; rule = r; place = n } in Some v) same
written_read s i (x ∷ xs) (suc k) r e =
    let moved : i + 1 + k ≡ i + suc k = omega arith in
    written_read s (i + 1) xs k r e ∙ ap (λ (n : ℕ). let v : SourcedRule = record { source = s; rule = r; place = n } in Some v) moved

length-written : (s : Source) (i : ℕ) (rs : List Rule) → length (written_from s i rs) ≡ length rs
length-written s i [] = refl
length-written s i (r ∷ rs) = ap suc (length-written s (i + 1) rs)

length-run : (b : Binding) (s : Source) → length (run_of (b, s)) ≡ length (rules_of s)
length-run b s =
    let grant : SourcedRule → GrantView = λ rule. record { binding = b; rule = rule } in
    length-map (written_from s 0 (rules_of s)) grant ∙ length-written s 0 (rules_of s)

-- a run begins at that number, or nothing is left
abbrev pub BeginsRun : List GrantView → ℕ → Type 0
BeginsRun gs n = (before rest : List GrantView) × (gs ≡ before ++ rest) × (length before ≡ n) × AreInRuns rest

pub first_begins : (p : PolicyView) → IsPolicy p → BeginsRun p.grants 0
first_begins p ok = ([], p.grants, refl, refl, in_runs p.held p.held.bindings p.grants ok.1)

-- the grants from that number on are by all rules of the role, and another run follows
record IsRunOf (p : PolicyView) (n : ℕ) (b : Binding) (s : Source) : Type 0 where
  pub some : 0 < length (rules_of s)
  pub within : n + length (rules_of s) ≤ length p.grants
  pub each : (k : ℕ) (r : Rule) → slice_get (rules_of s) k ≡ Some r → slice_get p.grants (n + k) ≡ Some (record { binding = b; rule = record { source = s; rule = r; place = k } })
  pub next : BeginsRun p.grants (n + length (rules_of s))

run_from : (p : PolicyView) (n : ℕ) → BeginsRun p.grants n → n < length p.grants → (b : Binding) × (s : Source) × IsRunOf p n b s
run_from p n (before, rest, is, len, (xs, e)) lt =
    let some : 0 < length rest = omega (arith, lt, len, ap length is, length-append before rest) in
    let first : IsLed rest = rw e (led xs (omega (arith, some, ap length e))) in
    let b = first.binding in
    let s = first.source in
    let run = run_of (b, s) in
    let whole : p.grants ≡ (before ++ run) ++ first.rest = is ∙ ap (λ (gs : List GrantView). before ++ gs) first.is ∙ sym (append_assoc before run first.rest) in
    let more : length (before ++ run) ≡ n + length (rules_of s) = omega (arith, length-append before run, len, length-run b s) in (
      b,
      s,
      record {
        some = first.some;
        within = omega (arith, more, ap length whole, length-append (before ++ run) first.rest);
        each = λ k r at.
            let grant : SourcedRule → GrantView = λ rule. record { binding = b; rule = rule } in
            let low : k < length run = omega (arith, slice_get_within (rules_of s) k r at, length-run b s) in
            let counted : 0 + k ≡ k = omega arith in
            let there : slice_get run k ≡ Some (grant (record { source = s; rule = r; place = k })) =
            slice_get-map grant (written_from s 0 (rules_of s)) k ∙ ap (option_map grant) (written_read s 0 (rules_of s) k r at) ∙ ap (λ (n : ℕ). Some (grant (record { source = s; rule = r; place = n }))) counted in
            ap (λ (gs : List GrantView). slice_get gs (n + k)) (is ∙ ap (λ (gs : List GrantView). before ++ gs) first.is) ∙ read_right before (run ++ first.rest) (n + k) k (omega (arith, len)) ∙ read_left run first.rest k low ∙ there;
        next = (before ++ run, first.rest, whole, more, first.others);
      },
    )

rule_of_parts : (o : Option Binding) (r : Option SourcedRule) (g : GrantView) → option_and_then (λ (b : Binding). option_map (λ (rule : SourcedRule). let v : GrantView = record { binding = b; rule = rule } in v) r) o ≡ Some g → r ≡ Some g.rule
rule_of_parts None r g e = cc
rule_of_parts (Some b) None g e = cc
rule_of_parts (Some b) (Some r) g e = ap (λ (o : Option GrantView). option_map (λ (v : GrantView). v.rule) o) e

source_of_rule : (source : Source) (i : ℕ) (o : Option Rule) (r : SourcedRule) → option_map (λ (x : Rule). let v : SourcedRule = record { source = source; rule = x; place = i } in v) o ≡ Some r → source ≡ r.source
source_of_rule source i None r e = cc
source_of_rule source i (Some x) r e = same_Some source r.source (ap (option_map (λ (v : SourcedRule). v.source)) e)

in_role : (o : Option Role) (i : ℕ) (r : SourcedRule) → option_and_then (λ role. rule_at (InRole role) role.rules i) o ≡ Some r → (role : Role) × (o ≡ Some role) × (InRole role ≡ r.source)
in_role None i r e = cc
in_role (Some role) i r e = (role, refl, source_of_rule (InRole role) i (slice_get role.rules i) r e)

in_cluster_role : (o : Option ClusterRole) (i : ℕ) (r : SourcedRule) → option_and_then (λ role. rule_at (InClusterRole role) role.rules i) o ≡ Some r → (role : ClusterRole) × (o ≡ Some role) × (InClusterRole role ≡ r.source)
in_cluster_role None i r e = cc
in_cluster_role (Some role) i r e = (role, refl, source_of_rule (InClusterRole role) i (slice_get role.rules i) r e)

-- the rules of a role stand at its row
row_at : (h : Held) (at : RolePlace) (i : ℕ) (r : SourcedRule) → sourced_at h at i ≡ Some r → slice_get (written_rules h) (row_of (length h.roles) at) ≡ Some (rules_of r.source)
row_at h (RoleAt at) i r e =
    let found = in_role (slice_get h.roles at) i r e in
    let row = map (λ (x : Role). x.rules) h.roles in
    let read : slice_get row at ≡ Some found.0.rules = slice_get-map (λ (x : Role). x.rules) h.roles at ∙ ap (option_map (λ (x : Role). x.rules)) found.1 in
    read_left row (map (λ (x : ClusterRole). x.rules) h.cluster_roles) at (slice_get_within row at found.0.rules read) ∙ read ∙ ap (λ (s : Source). Some (rules_of s)) found.2
row_at h (ClusterRoleAt at) i r e =
    let found = in_cluster_role (slice_get h.cluster_roles at) i r e in
    let row = map (λ (x : ClusterRole). x.rules) h.cluster_roles in
    let read : slice_get row at ≡ Some found.0.rules = slice_get-map (λ (x : ClusterRole). x.rules) h.cluster_roles at ∙ ap (option_map (λ (x : ClusterRole). x.rules)) found.1 in
    read_right (map (λ (x : Role). x.rules) h.roles) row (length h.roles + at) at (ap (λ n. n + at) (sym (length-map {A = Role} {B = List Rule} h.roles (λ (x : Role). x.rules)))) ∙ read ∙ ap (λ (s : Source). Some (rules_of s)) found.2

-- the grants from that number on are by all rules of the row, and another run follows
pub record IsRunOfRow (p : PolicyView) (row n : ℕ) : Type 0 where
  pub rules : List Rule
  pub there : slice_get (written_rules p.held) row ≡ Some rules
  pub some : 0 < length rules
  pub within : n + length rules ≤ length p.grants
  pub run : IsRun p rules n
  pub next : BeginsRun p.grants (n + length rules)

-- where the places of a run's first grant lead
pub run_at : (p : PolicyView) (n row : ℕ) (roles : List Role) (place : GrantPlace) → roles ≡ p.held.roles → row ≡ row_of (length roles) place.role → BeginsRun p.grants n → n < length p.grants → grant_at p.held place ≡ slice_get p.grants n → IsRunOfRow p row n
run_at p n row roles place same is begins lt at =
    let found = run_from p n begins lt in
    let s = found.1 in
    let run = found.2 in
    let first = read_some (rules_of s) 0 run.some in
    let g : GrantView = record { binding = found.0; rule = record { source = s; rule = first.0; place = 0 } } in
    let start : n ≡ n + 0 = omega arith in
    let read : slice_get p.grants n ≡ Some g = ap (slice_get p.grants) start ∙ run.each 0 first.0 first.1 in
    let sourced : sourced_at p.held place.role place.rule ≡ Some g.rule = rule_of_parts (slice_get p.held.bindings place.binding) (sourced_at p.held place.role place.rule) g (at ∙ read) in
    record {
      rules = rules_of s;
      there = rw (is, same) (row_at p.held place.role place.rule g.rule sourced);
      some = run.some;
      within = run.within;
      run = λ k r there. (record { binding = found.0; rule = record { source = s; rule = r; place = k } }, run.each k r there, refl);
      next = run.next;
    }
