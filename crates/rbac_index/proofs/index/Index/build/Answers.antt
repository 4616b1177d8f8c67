use Rattle.std.proofs.Common.{◌≡◌, ◌∙◌, ap, List, Bor, map, subst}
use Rattle.rbac_terms.specs.declared.matching.Rule.{Rule}
use Rattle.rbac_index.specs.Written.{written_rules, AreWritten}
use Rattle.rbac_index.proofs.index.Index.build.Goals as goal

pub invariant_of-result : goal.invariant_of-result
invariant_of-result c =
    let rows : map (λ (r : Bor (List Rule)). r.now) c.as_slice.result.now ≡ written_rules c.args.policy.now.held = ap (map (λ (r : Bor (List Rule)). r.now)) c.as_slice.ensures.value ∙ c.in_ok-rows.ensures ∙ ap written_rules c.objects.ensures.held in (
      record {
        written = subst (λ (rs : List (List Rule)). AreWritten rs c.in_ok-listed.listed.rules.items) rows c.in_ok-listed.ensures.written;
        listed = c.in_ok-listed.ensures.listed;
        granted = c.in_ok-starts.ensures.starts;
        few = c.in_ok-starts.ensures.few;
      },
      c.in_ok-subjects.ensures,
    )
