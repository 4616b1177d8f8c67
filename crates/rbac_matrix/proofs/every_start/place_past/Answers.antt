use Rattle.std.proofs.Common.{rules, refl, ◌≡◌, Ok, Err}
use Rattle.std.proofs.lemmas.Fn.{answers_by}
use Rattle.std.proofs.lemmas.Cmp.{nat_list_cmp_total, lists_total}
use Rattle.std.specs.Prelude.{Some}
use Rattle.std.specs.Cmp.Lexicographic.{slice_cmp}
use Rattle.rbac_terms.specs.Text.{text_cmp}
use Rattle.rbac_model.specs.Policies.{binding_name}
use Rattle.rbac_token.specs.Marks.{name_texts}
use Rattle.rbac_matrix.proofs.SearchLemmas.{place_from}
use Rattle.rbac_matrix.proofs.EveryStartLemmas.{past_found, past_gap}
use Rattle.rbac_matrix.proofs.every_start.place_past.Goals as goal

pub returns-in-Ok : goal.returns-in-Ok
returns-in-Ok c =
    let at = c.in-Ok.ensures.position (λ b. slice_cmp text_cmp (binding_name b) (name_texts (Some c.args.name.now))) (answers_by _ _ (λ f. f.0 ≡ c.args.name) (λ f a r h called same. (search rules, search rules)) _ refl) in
    past_found c.args.bindings.now c.args.name.now c.in-Ok.place (place_from (slice_cmp text_cmp) (lists_total nat_list_cmp_total) binding_name c.args.bindings.now c.requires (name_texts (Some c.args.name.now)) (Ok c.in-Ok.place) c.in-Ok.ensures.bound at).0

pub returns-in-Err : goal.returns-in-Err
returns-in-Err c =
    let at = c.in-Err.ensures.position (λ b. slice_cmp text_cmp (binding_name b) (name_texts (Some c.args.name.now))) (answers_by _ _ (λ f. f.0 ≡ c.args.name) (λ f a r h called same. (search rules, search rules)) _ refl) in
    past_gap c.args.bindings.now c.args.name.now c.in-Err.place (place_from (slice_cmp text_cmp) (lists_total nat_list_cmp_total) binding_name c.args.bindings.now c.requires (name_texts (Some c.args.name.now)) (Err c.in-Err.place) c.in-Err.ensures.bound at).1
