use Rattle.std.proofs.Common.{◌∙◌, sym}
use Rattle.std.proofs.lemmas.Bool.{both_ways}
use Rattle.std.proofs.lemmas.Slice.Eq.{bytes_eq-Decides}
use Rattle.rbac_near.proofs.Parts.{of_resource, one_resource, same_part}
use Rattle.rbac_near.proofs.lacking.is_of_resource.Goals as goal

pub returns-then-is_one_resource : goal.returns-then-is_one_resource
returns-then-is_one_resource c =
    let text = c.args.text.now in
    let word = c.args.word.now in
    let part = c.before_subresource-part.result.now in
    let other = c.before_subresource.result.now in
    let of = c.before_subresource-part.ensures in
    let own = c.before_subresource.ensures in
    let one = c.is_one_resource.ensures.0 c.if-is_one_resource.true in
    let same = bytes_eq-Decides part other in (
      λ h. of_resource text word part of other own one (same.0 (sym c.eq.ensures ∙ h)),
      λ h. c.eq.ensures ∙ same.1 (same_part text word part of other own h),
    )

pub returns-else-is_one_resource : goal.returns-else-is_one_resource
returns-else-is_one_resource c = (
  λ h. absurd (both_ways _ c.if-is_one_resource.false h),
  λ h. c.is_one_resource.ensures.1 (one_resource c.args.text.now c.args.word.now c.before_subresource-part.result.now c.before_subresource-part.ensures h),
)
