-- Whom or what a path is to end at, and whom a line names.
use Rattle.std.proofs.Common.{◌≡◌, ◌≢◌, ◌==◌, ◌↔◌, ◌⊎◌, ◌∙◌, ◌++◌, ◌∷◌, [], Bool, Bor, Contains, Err, IsTrue, MatchOption, MatchResult, None, Ok, Option, Result, Some, arith, codes, false, inl, inr, is_some, length, refl, subst, sym, true}
use Rattle.std.proofs.lemmas.Bool.Decides.{Decides-eqb}
use Rattle.std.proofs.lemmas.List.{append_cancel_left}
use Rattle.rbac_terms.specs.Principals.{Who}
use Rattle.rbac_terms.specs.Text.{Text, IsCutAtFirst, slash}
use Rattle.rbac_terms.proofs.Texts.{IsCutAtFirst-contains, IsCutAtFirst-one, IsCutAtFirst-prefix}
use Rattle.rbac_question.specs.Lines.{HasBadPrincipal, NamesPrincipal, RefusesWho, WhoParts}
use Rattle.rbac_question.specs.PathEnds.{HasNameAfter, IsRoleIn, IsRoleText}
use Rattle.rbac_question.specs.declared.fault.QuestionFault.{QuestionFault}
use Rattle.rbac_question.specs.declared.fault.QuestionFault.TheVariants.{EmptyWord, UrlSubresource, BadToken, BadPrincipal, BadCode, BadChange, BadStep, BadIndirect, BadEnd, BadLogs, BadRoleName, NoMemory}

pub has_name : (front text : Text) (r : Option (Bor Text)) (b : Bool) → b ≡ is_some r
    → MatchOption r ((name : Text) → text ≡ front ++ name → name ≡ []) (λ name. (text ≡ front ++ name.now) × (name.now ≢ []))
    → IsTrue b ↔ HasNameAfter front text
has_name front text None b e none = (λ t. absurd (let no : true ≡ false = sym t ∙ e in cc), λ (name, is, some). absurd (some (none name is)))
has_name front text (Some x) b e h = (λ t. (x.now, h.0, h.1), λ has. e)

-- ---- Role/NS/NAME

pub empty : (x : Text) → (length x == 0) ≡ true → x ≡ []
empty [] e = refl
empty (b ∷ x) e = absurd (omega (arith, (Decides-eqb (length (b ∷ x)) 0).0 e))

pub none_found : (text : Text) (r : Option (Bor Text)) → r ≡ None → ((other : Text) → IsRoleText text other → ⊥)
    → MatchOption r ((other : Text) → IsRoleText text other → ⊥) (λ own. IsRoleText text own.now × ((other : Text) → IsRoleText text other → other ≡ own.now))
none_found text None e none = none
none_found text (Some x) e none = cc

pub no_front : (text : Text) → ((rest : Text) → text ≢ codes "Role/" ++ rest) → (other : Text) → IsRoleText text other → ⊥
no_front text none other (rest, name, is, cut, some, has) = none rest is

module _ (text rest : Text) (is : text ≡ codes "Role/" ++ rest) where
  same_rest : (more : Text) → text ≡ codes "Role/" ++ more → more ≡ rest
  same_rest more too = append_cancel_left (codes "Role/") more rest (sym too ∙ is)

  pub no_cut : (Contains rest slash → ⊥) → (other : Text) → IsRoleText text other → ⊥
  no_cut none other (more, name, too, cut, some, has) = none (subst (λ (t : Text). Contains t slash) (same_rest more too) (IsCutAtFirst-contains more other name slash cut))

  module _ (own name : Text) (cut : IsCutAtFirst rest slash own name) where
    same_cut : (more other called : Text) → text ≡ codes "Role/" ++ more → IsCutAtFirst more slash other called → IsCutAtFirst rest slash other called
    same_cut more other called too other_cut = subst (λ (t : Text). IsCutAtFirst t slash other called) (same_rest more too) other_cut

    pub one_namespace : (other : Text) → IsRoleText text other → other ≡ own
    one_namespace other (more, called, too, other_cut, some, has) = IsCutAtFirst-prefix rest other own called name slash (same_cut more other called too other_cut) cut

    pub no_namespace : own ≡ [] → (other : Text) → IsRoleText text other → ⊥
    no_namespace none other (more, called, too, other_cut, some, has) = some (one_namespace other (more, called, too, other_cut, some, has) ∙ none)

    pub no_name : name ≡ [] → (other : Text) → IsRoleText text other → ⊥
    no_name none other (more, called, too, other_cut, some, has) =
        has (IsCutAtFirst-one rest other own called name slash (same_cut more other called too other_cut) cut ∙ none)

    pub a_role : own ≢ [] → name ≢ [] → IsRoleText text own
    a_role some has = (rest, name, is, cut, some, has)

pub role_in : (text given own : Text) (b : Bool) → IsRoleText text own × ((other : Text) → IsRoleText text other → other ≡ own) → IsTrue b ↔ ((given ≡ []) ⊎ (given ≡ own))
    → IsTrue b ↔ IsRoleIn text given
role_in text given own b (is, one) goes = (
  λ t. (own, is, goes.0 t),
  λ (other, too, inn). goes.1 (elim inn [ inl none ↦ inl none | inr same ↦ inr (same ∙ one other too) ]),
)

pub no_role_in : (text given : Text) → ((other : Text) → IsRoleText text other → ⊥) → IsRoleIn text given → ⊥
no_role_in text given none (other, is, inn) = none other is

-- ---- whom a line names

-- a line that names somebody is refused for want of memory alone
only_memory : (w : WhoParts) (e : QuestionFault) → RefusesWho w e → (HasBadPrincipal w → ⊥) → e ≡ NoMemory
only_memory w EmptyWord refused named = absurd refused
only_memory w UrlSubresource refused named = absurd refused
only_memory w BadToken refused named = absurd refused
only_memory w BadPrincipal refused named = absurd (named refused)
only_memory w BadCode refused named = absurd refused
only_memory w BadChange refused named = absurd refused
only_memory w BadStep refused named = absurd refused
only_memory w BadIndirect refused named = absurd refused
only_memory w BadEnd refused named = absurd refused
only_memory w BadLogs refused named = absurd refused
only_memory w BadRoleName refused named = absurd refused
only_memory w NoMemory refused named = refl

pub named_or_memory : (w : WhoParts) (r : Result Who QuestionFault) → MatchResult r (NamesPrincipal w) (RefusesWho w) → (HasBadPrincipal w → ⊥)
    → MatchResult r (NamesPrincipal w) (λ e. e ≡ NoMemory)
named_or_memory w (Ok who) names named = names
named_or_memory w (Err e) refused named = only_memory w e refused named
