-- the findings that are asked for, one code after the other
use Rattle.std.proofs.Common.{◌≡◌, ◌<◌, ◌⊎◌, inl, inr, List, [], subst, arith}
use Rattle.rbac_model.specs.Policies.{Held}
use Rattle.rbac_manifest.specs.declared.replacement.Replaced.{Replaced}
use Rattle.rbac_lint.specs.Replaced.{IsReplaced}
use Rattle.rbac_lint.specs.declared.finding.Finding.{Finding}
use Rattle.rbac_lint.specs.Lines.{Line, AddsLines}
use Rattle.rbac_lint.specs.Findings.{IsDangling, IsUnused, IsRedundant, IsEscalation, IsAccountWithout, IsStale, IsFinding}
use Rattle.rbac_lint.specs.Wanted.{WantedView, IsWanted, AreWanted, OfWanted}
use Rattle.rbac_lint.proofs.Exact.{AddsLines-code, AreShown-all}
use Rattle.rbac_lint.proofs.Named.{dangling_names, unused_names, redundant_names, escalation_names, account_names, stale_names, replaced_names}

abbrev pub After6 : Held → List Replaced → Line → Type 0
After6 h rs x = IsStale h x ⊎ IsReplaced rs x

abbrev pub After5 : Held → List Replaced → Line → Type 0
After5 h rs x = IsAccountWithout h x ⊎ After6 h rs x

abbrev pub After4 : Held → List Replaced → Line → Type 0
After4 h rs x = IsEscalation h x ⊎ After5 h rs x

abbrev pub After3 : Held → List Replaced → Line → Type 0
After3 h rs x = IsRedundant h x ⊎ After4 h rs x

abbrev pub After2 : Held → List Replaced → Line → Type 0
After2 h rs x = IsUnused h x ⊎ After3 h rs x

dangling_code : (h : Held) (x : Line) → IsDangling h x → x.code ≡ 1
dangling_code h x p = (dangling_names h).code_is p.1 x p.3

unused_code : (h : Held) (x : Line) → IsUnused h x → x.code ≡ 2
unused_code h x p = (unused_names h).code_is p.1 x p.3

redundant_code : (h : Held) (x : Line) → IsRedundant h x → x.code ≡ 3
redundant_code h x p = redundant_names.code_is p.1 x p.3

escalation_code : (h : Held) (x : Line) → IsEscalation h x → x.code ≡ 4
escalation_code h x p = escalation_names.code_is p.1 x p.3

account_code : (h : Held) (x : Line) → IsAccountWithout h x → x.code ≡ 5
account_code h x p = account_names.code_is p.1 x p.3

stale_code : (h : Held) (x : Line) → IsStale h x → x.code ≡ 6
stale_code h x p = (stale_names h).code_is p.1 x p.3

replaced_code : (rs : List Replaced) (x : Line) → IsReplaced rs x → x.code ≡ 7
replaced_code rs x p = replaced_names.code_is p.1 x p.3

past6 : (rs : List Replaced) (x : Line) → IsReplaced rs x → 6 < x.code
past6 rs x p = omega (arith, replaced_code rs x p)

past5 : (h : Held) (rs : List Replaced) (x : Line) → After6 h rs x → 5 < x.code
past5 h rs x (inl p) = omega (arith, stale_code h x p)
past5 h rs x (inr p) = omega (arith, past6 rs x p)

past4 : (h : Held) (rs : List Replaced) (x : Line) → After5 h rs x → 4 < x.code
past4 h rs x (inl p) = omega (arith, account_code h x p)
past4 h rs x (inr p) = omega (arith, past5 h rs x p)

past3 : (h : Held) (rs : List Replaced) (x : Line) → After4 h rs x → 3 < x.code
past3 h rs x (inl p) = omega (arith, escalation_code h x p)
past3 h rs x (inr p) = omega (arith, past4 h rs x p)

past2 : (h : Held) (rs : List Replaced) (x : Line) → After3 h rs x → 2 < x.code
past2 h rs x (inl p) = omega (arith, redundant_code h x p)
past2 h rs x (inr p) = omega (arith, past3 h rs x p)

past1 : (h : Held) (rs : List Replaced) (x : Line) → After2 h rs x → 1 < x.code
past1 h rs x (inl p) = omega (arith, unused_code h x p)
past1 h rs x (inr p) = omega (arith, past2 h rs x p)

pub all_found : (w : WantedView) (h : Held) (rs : List Replaced) (a b c d e f g k : List Finding) → a ≡ [] → AddsLines (OfWanted w (IsDangling h)) a b → AddsLines (OfWanted w (IsUnused h)) b c → AddsLines (OfWanted w (IsRedundant h)) c d → AddsLines (OfWanted w (IsEscalation h)) d e → AddsLines (OfWanted w (IsAccountWithout h)) e f → AddsLines (OfWanted w (IsStale h)) f g → AddsLines (OfWanted w (IsReplaced rs)) g k → AreWanted w h rs k
all_found w h rs a b c d e f g k none p1 p2 p3 p4 p5 p6 p7 =
    let W = IsWanted w in
    let q6 = AddsLines-code W (IsStale h) (IsReplaced rs) 6 f g k (stale_code h) (past6 rs) p6 p7 in
    let q5 = AddsLines-code W (IsAccountWithout h) (After6 h rs) 5 e f k (account_code h) (past5 h rs) p5 q6 in
    let q4 = AddsLines-code W (IsEscalation h) (After5 h rs) 4 d e k (escalation_code h) (past4 h rs) p4 q5 in
    let q3 = AddsLines-code W (IsRedundant h) (After4 h rs) 3 c d k (redundant_code h) (past3 h rs) p3 q4 in
    let q2 = AddsLines-code W (IsUnused h) (After3 h rs) 2 b c k (unused_code h) (past2 h rs) p2 q3 in
    let q1 = AddsLines-code W (IsDangling h) (After2 h rs) 1 a b k (dangling_code h) (past1 h rs) p1 q2 in
    let P : List Finding → Type 0 = λ fs. AddsLines (OfWanted w (IsFinding h rs)) fs k in
    AreShown-all (OfWanted w (IsFinding h rs)) k (subst P none q1)
