-- What is missing, where the binding counts and the verb matches, is something of the target.
use Rattle.std.proofs.Common.{◌↔◌}
use Rattle.rbac_terms.specs.Matching.{VerbOk}
use Rattle.rbac_model.specs.Policies.{GrantView}
use Rattle.rbac_near.specs.Lacking.{LacksOfTarget}
use Rattle.rbac_near.specs.Near.{CountsThere, LacksPart, RequestView}
use Rattle.rbac_near.specs.declared.near.Missing.{Missing}
use Rattle.rbac_near.specs.declared.near.Missing.TheVariants.{Namespace, Verb, Group, Subresource, Name, Member}

pub of_target : (q : RequestView) (g : GrantView) → CountsThere q g → VerbOk g.rule.rule q.verb → (m : Missing) → LacksOfTarget m g.rule.rule q.target ↔ LacksPart q m g
of_target q g there ok Namespace = (λ l. absurd l, λ l. absurd (l.0.1 there))
of_target q g there ok Verb = (λ l. absurd l, λ l. absurd (l.1 ok))
of_target q g there ok Group = (λ l. (there, ok, l), λ l. l.2)
of_target q g there ok Subresource = (λ l. (there, ok, l), λ l. l.2)
of_target q g there ok Name = (λ l. (there, ok, l), λ l. l.2)
of_target q g there ok Member = (λ l. absurd l, λ l. absurd l)
