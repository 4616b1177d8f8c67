-- No two permissions are printed alike.
use Rattle.std.proofs.Common.{◌≡◌, List, [], ◌∷◌, ◌++◌, sym, ap, ap₂, ◌∙◌, arith, Option, append_assoc}
use Rattle.std.proofs.lemmas.List.{same_from_push}
use Rattle.rbac_terms.specs.Text.{Text}
use Rattle.rbac_terms.specs.Principals.{Who, AsUser, AsMember, who_key, given_of}
use Rattle.rbac_text.specs.Choice.{choice_text, choice_and_tab}
use Rattle.rbac_text.specs.Row.{tab, field_and_tab}
use Rattle.rbac_text.proofs.Choices.{choice_text-one, field-one, choice-one, namespace_tells}
use Rattle.rbac_text.proofs.Unlike.{first_is, rest_is}
use Rattle.rbac_diff.specs.Permissions.{Permitted, OnResource, OnUrl, PermissionView}
use Rattle.rbac_diff.specs.Covering.{IsAskedFor}
use Rattle.rbac_diff.specs.Texts.{namespace_text, target_text, permission_text}

who_key-one : (p q : Who) → given_of p ≡ [] → given_of q ≡ [] → who_key p ≡ who_key q → p ≡ q
who_key-one (AsUser a g) (AsUser b h) i j e =
    ap₂ (λ (x : Text) (y : List Text). AsUser x y) (rest_is 58 58 a b (rest_is 117 117 (58 ∷ a) (58 ∷ b) e)) (i ∙ sym j)
who_key-one (AsUser a g) (AsMember b) i j e = absurd (omega (arith, first_is 117 103 (58 ∷ a) (58 ∷ b) e))
who_key-one (AsMember a) (AsUser b h) i j e = absurd (omega (arith, first_is 103 117 (58 ∷ a) (58 ∷ b) e))
who_key-one (AsMember a) (AsMember b) i j e = ap (λ (x : Text). AsMember x) (rest_is 58 58 a b (rest_is 103 103 (58 ∷ a) (58 ∷ b) e))

-- what follows the principal: the namespace, the verb and the rest
abbrev verb_and_target : Text → Permitted → Text
verb_and_target verb target = namespace_text target ++ (field_and_tab verb ++ target_text target)

verb_and_target-one : (v w : Text) (s t : Permitted) → IsAskedFor s → IsAskedFor t → verb_and_target v s ≡ verb_and_target w t → (v ≡ w) × (s ≡ t)
verb_and_target-one v w (OnResource a g r m) (OnResource b h q n) i j e =
    let own = field_and_tab g ++ field_and_tab r ++ choice_and_tab m in
    let other = field_and_tab h ++ field_and_tab q ++ choice_and_tab n in
    let namespaces = choice-one a b (field_and_tab v ++ own) (field_and_tab w ++ other) e in
    let verbs = field-one v w own other namespaces.1 in
    let groups =
    field-one g h (field_and_tab r ++ choice_and_tab m) (field_and_tab q ++ choice_and_tab n)
    (sym (append_assoc (field_and_tab g) (field_and_tab r) (choice_and_tab m)) ∙ verbs.1 ∙ append_assoc (field_and_tab h) (field_and_tab q) (choice_and_tab n)) in
    let resources = field-one r q (choice_and_tab m) (choice_and_tab n) groups.1 in
    let names = choice_text-one m n (same_from_push (choice_text m) (choice_text n) tab tab resources.1).0 in (
      verbs.0,
      ap₂ (λ (x : Option Text) (y : Text). OnResource x y r m) namespaces.0 groups.0
          ∙ ap₂ (λ (x : Text) (y : Option Text). OnResource b h x y) resources.0 names,
    )
verb_and_target-one v w (OnResource a g r m) (OnUrl u) i j e =
    absurd (namespace_tells a (field_and_tab v ++ target_text (OnResource a g r m)) (field_and_tab w ++ target_text (OnUrl u)) i.0 e)
verb_and_target-one v w (OnUrl u) (OnResource b h q n) i j e =
    absurd (namespace_tells b (field_and_tab w ++ target_text (OnResource b h q n)) (field_and_tab v ++ target_text (OnUrl u)) j.0 (sym e))
verb_and_target-one v w (OnUrl u) (OnUrl x) i j e =
    let own = field_and_tab [] ++ field_and_tab u ++ field_and_tab [] in
    let other = field_and_tab [] ++ field_and_tab x ++ field_and_tab [] in
    let namespaces = field-one [] [] (field_and_tab v ++ own) (field_and_tab w ++ other) e in
    let verbs = field-one v w own other namespaces.1 in
    let groups =
    field-one [] [] (field_and_tab u ++ field_and_tab []) (field_and_tab x ++ field_and_tab [])
    (sym (append_assoc (field_and_tab []) (field_and_tab u) (field_and_tab [])) ∙ verbs.1 ∙ append_assoc (field_and_tab []) (field_and_tab x) (field_and_tab [])) in
    let urls = field-one u x (field_and_tab []) (field_and_tab []) groups.1 in
    (verbs.0, ap (λ (z : Text). OnUrl z) urls.0)

-- a permission is printed as its principal, and what follows
in_two : (p : PermissionView) → permission_text p ≡ field_and_tab (who_key p.principal) ++ verb_and_target p.verb p.target
in_two p =
    let who = field_and_tab (who_key p.principal) in
    let namespace = namespace_text p.target in
    let verb = field_and_tab p.verb in
    append_assoc (who ++ namespace) verb (target_text p.target) ∙ append_assoc who namespace (verb ++ target_text p.target)

abbrev made : Who → Text → Permitted → PermissionView
made principal verb target = record { principal = principal; verb = verb; target = target }

-- no two permissions that are asked for are printed alike
pub permission_text-one : (p q : PermissionView) → given_of p.principal ≡ [] → given_of q.principal ≡ [] → IsAskedFor p.target → IsAskedFor q.target
    → permission_text p ≡ permission_text q → p ≡ q
permission_text-one p q alone also_alone asked also_asked e =
    let who = field-one (who_key p.principal) (who_key q.principal) (verb_and_target p.verb p.target) (verb_and_target q.verb q.target) (sym (in_two p) ∙ e ∙ in_two q) in
    let rest = verb_and_target-one p.verb q.verb p.target q.target asked also_asked who.1 in
    ap₂ (λ (x : Who) (y : Text). made x y p.target) (who_key-one p.principal q.principal alone also_alone who.0) rest.0
    ∙ ap (λ (z : Permitted). made q.principal q.verb z) rest.1
