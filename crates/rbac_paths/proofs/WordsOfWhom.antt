-- The words of a service account, of another user and of a group.
use Rattle.std.proofs.Common.{◌≡◌, ◌↔◌, ◌∷◌, [], ◌∙◌, List, Result, Ok, Err, IfOk, ap, inl, inr, refl}
use Rattle.rbac_terms.specs.Text.{Text}
use Rattle.rbac_terms.specs.Principals.{Who, AsUser, AsMember, who_name}
use Rattle.rbac_paths.specs.Asked.{IsAnyUser, IsBootstrapperGroup}
use Rattle.rbac_paths.specs.Nodes.{IsAccountNamed}
use Rattle.rbac_paths.specs.SharedWords.{AreHadBy, account_words, any_user, bootstrapper_words, group_words, that_user}

pub if_ok : {T E : Type 0} {P Q : T → Type 0} (r : Result T E) → ((x : T) → P x → Q x) → IfOk r P → IfOk r Q
if_ok (Ok x) f p = f x p
if_ok (Err e) f p = tt

pub words_of_account : (who : Who) (namespace name user : Text) → ((n m : Text) → IsAccountNamed who n m ↔ ((n ≡ namespace) × (m ≡ name))) → user ≡ who_name who → (ws : List Text) → ws ≡ account_words user namespace name → AreHadBy who ws
words_of_account (AsUser user given) namespace name key one same ws e = inr (namespace, name, one, e ∙ ap (λ (t : Text). account_words t namespace name) same)
words_of_account (AsMember group) namespace name key one same ws e = absurd ((one namespace name).1 (refl, refl))

pub words_of_user : (who : Who) (user : Text) → IsAnyUser who → ((n m : Text) → IsAccountNamed who n m → ⊥) → user ≡ who_name who → (ws : List Text) → ws ≡ any_user ∷ that_user user ∷ [] → AreHadBy who ws
words_of_user (AsUser name given) user is none same ws e = inl (none, e ∙ ap (λ (t : Text). any_user ∷ that_user t ∷ []) same)
words_of_user (AsMember group) user is none same ws e = elim is [ ]

pub words_of_group : (who : Who) (group : Text) → (IsAnyUser who → ⊥) → (IsBootstrapperGroup who → ⊥) → group ≡ who_name who → (ws : List Text) → ws ≡ group_words group → AreHadBy who ws
words_of_group (AsUser name given) group isnt none same ws e = absurd (isnt tt)
words_of_group (AsMember name) group isnt none same ws e = inl (none, e ∙ ap group_words same)
