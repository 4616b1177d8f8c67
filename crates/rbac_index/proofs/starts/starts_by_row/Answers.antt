use Rattle.std.proofs.Common.{◌≡◌, rules, ◌∙◌, refl, ap, ℕ, ◌<◌, List, [], ◌∷◌, ◌++◌, Bor, length, get_or, set, arith}
use Rattle.std.proofs.lemmas.List.{length-map, get_or_default}
use Rattle.std.proofs.lemmas.Option.{slice_get_within}
use Rattle.rbac_terms.specs.declared.matching.Rule.{Rule}
use Rattle.rbac_model.specs.Policies.{Held}
use Rattle.rbac_index.specs.Written.{written_rules, row_of}
use Rattle.rbac_index.proofs.RunLemmas.{run_at, first_begins}
use Rattle.rbac_index.proofs.RowLemmas.{starts_none, starts_more, starts_below, row_within, row_read}
use Rattle.rbac_index.proofs.starts.starts_by_row.Goals as goal

pub loop-no-init : goal.loop-no-init
loop-no-init c =
    let rows : List (List Rule) = written_rules c.args.policy.now.held in
    let len : length c.args.rows.now ≡ length rows = omega (arith, ap length c.requires, length-map {A = Bor (List Rule)} {B = List Rule} c.args.rows.now (λ r. r.now)) in
    record {
      starts = rw (c.in_ok-starts.ensures, len) (starts_none c.args.policy.now rows);
      begins = first_begins c.args.policy.now c.objects.ensures.policy;
      within = omega arith;
    }

pub row_at-row-requires : goal.row_at-row-requires
row_at-row-requires c =
    let roles : c.roles-roles.result.now ≡ c.args.policy.now.held.roles = c.roles-roles.ensures.roles ∙ ap (λ (h : Held). h.roles) c.objects.ensures.held in
    let run = run_at c.args.policy.now c.loop-no.no (row_of (length c.roles-roles.result.now) c.place.result.role) c.roles-roles.result.now c.place.result roles refl c.loop-no.invariant.begins (omega (arith, c.len.ensures.len, c.loop-no-test.true)) c.place.ensures.grant in
    let low = slice_get_within (written_rules c.args.policy.now.held) (row_of (length c.roles-roles.result.now) c.place.result.role) run.rules run.there in
    omega (arith, low, c.loop-no.invariant.starts.len, c.loop-no.starts.ok, c.loop-no.starts.small)

pub index_mut-requires : goal.index_mut-requires
index_mut-requires c =
    let roles : c.roles-roles.result.now ≡ c.args.policy.now.held.roles = c.roles-roles.ensures.roles ∙ ap (λ (h : Held). h.roles) c.objects.ensures.held in
    let run = run_at c.args.policy.now c.loop-no.no c.row_at-row.result c.roles-roles.result.now c.place.result roles c.row_at-row.ensures c.loop-no.invariant.begins (omega (arith, c.len.ensures.len, c.loop-no-test.true)) c.place.ensures.grant in
    let fits : c.row_at-row.result < length c.loop-no.starts.items = omega (arith, slice_get_within (written_rules c.args.policy.now.held) c.row_at-row.result run.rules run.there, c.loop-no.invariant.starts.len) in
    omega (arith, fits, c.loop-no.starts.ok)

pub push-requires : goal.push-requires
push-requires c =
    let roles : c.roles-roles.result.now ≡ c.args.policy.now.held.roles = c.roles-roles.ensures.roles ∙ ap (λ (h : Held). h.roles) c.objects.ensures.held in
    let run = run_at c.args.policy.now c.loop-no.no c.row_at-row.result c.roles-roles.result.now c.place.result roles c.row_at-row.ensures c.loop-no.invariant.begins (omega (arith, c.len.ensures.len, c.loop-no-test.true)) c.place.ensures.grant in
    let fits : c.row_at-row.result < length c.loop-no.starts.items = omega (arith, slice_get_within (written_rules c.args.policy.now.held) c.row_at-row.result run.rules run.there, c.loop-no.invariant.starts.len) in
    let here : c.index_mut.result.now ≡ get_or c.loop-no.starts.items c.row_at-row.result [] = c.index_mut.ensures.value ∙ get_or_default c.loop-no.starts.items c.row_at-row.result c.index_mut.result.now [] fits in
    rw here (starts_below c.args.policy.now (written_rules c.args.policy.now.held) c.loop-no.no c.row_at-row.result run.rules c.loop-no.starts.items run.there run.some c.loop-no.invariant.starts)

pub offset_bounds-rows-row : goal.offset_bounds-rows-row
offset_bounds-rows-row c =
    let roles : c.roles-roles.result.now ≡ c.args.policy.now.held.roles = c.roles-roles.ensures.roles ∙ ap (λ (h : Held). h.roles) c.objects.ensures.held in
    let run = run_at c.args.policy.now c.loop-no.no c.row_at-row.result c.roles-roles.result.now c.place.result roles c.row_at-row.ensures c.loop-no.invariant.begins (omega (arith, c.len.ensures.len, c.loop-no-test.true)) c.place.ensures.grant in
    let low = row_within c.args.rows.now (written_rules c.args.policy.now.held) c.requires c.row_at-row.result run.rules run.there in
    search rules

pub bounds-rows-row : goal.bounds-rows-row
bounds-rows-row c =
    let roles : c.roles-roles.result.now ≡ c.args.policy.now.held.roles = c.roles-roles.ensures.roles ∙ ap (λ (h : Held). h.roles) c.objects.ensures.held in
    let run = run_at c.args.policy.now c.loop-no.no c.row_at-row.result c.roles-roles.result.now c.place.result roles c.row_at-row.ensures c.loop-no.invariant.begins (omega (arith, c.len.ensures.len, c.loop-no-test.true)) c.place.ensures.grant in
    let low = row_within c.args.rows.now (written_rules c.args.policy.now.held) c.requires c.row_at-row.result run.rules run.there in
    low

pub overflow_cast-no : goal.overflow_cast-no
overflow_cast-no c =
    let roles : c.roles-roles.result.now ≡ c.args.policy.now.held.roles = c.roles-roles.ensures.roles ∙ ap (λ (h : Held). h.roles) c.objects.ensures.held in
    let run = run_at c.args.policy.now c.loop-no.no c.row_at-row.result c.roles-roles.result.now c.place.result roles c.row_at-row.ensures c.loop-no.invariant.begins (omega (arith, c.len.ensures.len, c.loop-no-test.true)) c.place.ensures.grant in
    let same : c.index-rows-row.result.now ≡ run.rules = row_read c.args.rows.now (written_rules c.args.policy.now.held) c.requires c.row_at-row.result run.rules run.there c.index-rows-row.result c.index-rows-row.is in
    let count : length c.as_slice.result.now ≡ length run.rules = ap length (c.as_slice.ensures ∙ same) in
    omega (arith, count, run.within, c.len.ensures.few)

pub overflow_add-no : goal.overflow_add-no
overflow_add-no c =
    let roles : c.roles-roles.result.now ≡ c.args.policy.now.held.roles = c.roles-roles.ensures.roles ∙ ap (λ (h : Held). h.roles) c.objects.ensures.held in
    let run = run_at c.args.policy.now c.loop-no.no c.row_at-row.result c.roles-roles.result.now c.place.result roles c.row_at-row.ensures c.loop-no.invariant.begins (omega (arith, c.len.ensures.len, c.loop-no-test.true)) c.place.ensures.grant in
    let same : c.index-rows-row.result.now ≡ run.rules = row_read c.args.rows.now (written_rules c.args.policy.now.held) c.requires c.row_at-row.result run.rules run.there c.index-rows-row.result c.index-rows-row.is in
    let count : length c.as_slice.result.now ≡ length run.rules = ap length (c.as_slice.ensures ∙ same) in
    omega (arith, count, run.within, c.len.ensures.few)

pub loop-no-smaller : goal.loop-no-smaller
loop-no-smaller c =
    let roles : c.roles-roles.result.now ≡ c.args.policy.now.held.roles = c.roles-roles.ensures.roles ∙ ap (λ (h : Held). h.roles) c.objects.ensures.held in
    let run = run_at c.args.policy.now c.loop-no.no c.row_at-row.result c.roles-roles.result.now c.place.result roles c.row_at-row.ensures c.loop-no.invariant.begins (omega (arith, c.len.ensures.len, c.loop-no-test.true)) c.place.ensures.grant in
    let same : c.index-rows-row.result.now ≡ run.rules = row_read c.args.rows.now (written_rules c.args.policy.now.held) c.requires c.row_at-row.result run.rules run.there c.index-rows-row.result c.index-rows-row.is in
    let count : length c.as_slice.result.now ≡ length run.rules = ap length (c.as_slice.ensures ∙ same) in
    omega (arith, count, run.within, run.some)

pub loop-no-preserved : goal.loop-no-preserved
loop-no-preserved c =
    let roles : c.roles-roles.result.now ≡ c.args.policy.now.held.roles = c.roles-roles.ensures.roles ∙ ap (λ (h : Held). h.roles) c.objects.ensures.held in
    let run = run_at c.args.policy.now c.loop-no.no c.row_at-row.result c.roles-roles.result.now c.place.result roles c.row_at-row.ensures c.loop-no.invariant.begins (omega (arith, c.len.ensures.len, c.loop-no-test.true)) c.place.ensures.grant in
    let same : c.index-rows-row.result.now ≡ run.rules = row_read c.args.rows.now (written_rules c.args.policy.now.held) c.requires c.row_at-row.result run.rules run.there c.index-rows-row.result c.index-rows-row.is in
    let count : length c.as_slice.result.now ≡ length run.rules = ap length (c.as_slice.ensures ∙ same) in
    let fits : c.row_at-row.result < length c.loop-no.starts.items = omega (arith, slice_get_within (written_rules c.args.policy.now.held) c.row_at-row.result run.rules run.there, c.loop-no.invariant.starts.len) in
    let here : c.index_mut.result.now ≡ get_or c.loop-no.starts.items c.row_at-row.result [] = c.index_mut.ensures.value ∙ get_or_default c.loop-no.starts.items c.row_at-row.result c.index_mut.result.now [] fits in
    let more : set c.loop-no.starts.items c.row_at-row.result c.push.new.self ≡ set c.loop-no.starts.items c.row_at-row.result (get_or c.loop-no.starts.items c.row_at-row.result [] ++ c.loop-no.no ∷ []) = ap (set c.loop-no.starts.items c.row_at-row.result) (c.in_ok-push.ensures ∙ ap (λ (l : List ℕ). l ++ c.loop-no.no ∷ []) here) in
    record {
      starts = rw count (starts_more c.args.policy.now (written_rules c.args.policy.now.held) c.loop-no.no c.row_at-row.result run.rules c.loop-no.starts.items (set c.loop-no.starts.items c.row_at-row.result c.push.new.self) run.there run.run more c.loop-no.invariant.starts);
      begins = rw count run.next;
      within = omega (arith, count, run.within);
    }
