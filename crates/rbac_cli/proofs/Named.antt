-- What a type word means can be asked for.
use Rattle.std.proofs.Common.{◌≡◌, ◌≢◌, ◌∙◌, ℕ, List, [], ◌∷◌, ◌++◌, inl, inr, Contains, ap, sym, subst, refl, arith}
use Rattle.std.specs.Prelude.{Option, Some, None}
use Rattle.std.proofs.lemmas.List.Elements.{Contains-append_left, Contains-get_or}
use Rattle.rbac_terms.specs.Text.{Text, slash}
use Rattle.rbac_terms.specs.Targets.{IsProper, Resource}
use Rattle.rbac_question.specs.Asked.{IsTypeWord}
use Rattle.rbac_catalogue.specs.declared.entry.Entry.{Entry}
use Rattle.rbac_catalogue.specs.declared.lookup.Found.{Found}
use Rattle.rbac_catalogue.specs.Lookups.{dot, HasWords, IsNamedInGroup, IsMeantIn, IsWordAndGroup, IsFound}
use Rattle.rbac_cli.specs.Meant.{with_subresource}

-- a word, without a slash
abbrev IsPlain : Text → Type 0
IsPlain t = (t ≢ []) × (¬ Contains t slash)

-- what stands before the first dot of a type word is one
word_plain : (typed word : Text) (group : Option Text) → IsTypeWord typed → IsWordAndGroup typed word group → IsPlain word
word_plain typed word None t h = (λ none. t.0 (h.0 ∙ none), λ w. t.2 (subst (λ x. Contains x slash) (sym h.0) w))
word_plain typed word (Some group) t h = (
  λ none. t.1 (group, h.0 ∙ ap (λ (x : Text). x ++ dot ∷ group) none),
  λ w. t.2 (subst (λ x. Contains x slash) (sym h.0) (Contains-append_left word (dot ∷ group) slash w)),
)

has_words : (group : Option Text) (word : Text) (e : Entry) → IsNamedInGroup group word e → HasWords e
has_words None word e h = h.1
has_words (Some group) word e h = h.1.1

meant_plain : (entries : List Entry) (group : Option Text) (word : Text) (f : Found) → IsPlain word → IsMeantIn entries group word f → IsPlain f.resource
meant_plain entries group word f plain (inl l) = let (k, e, lt, at, here) = l.listed in
    subst IsPlain (ap (λ (r : Found). r.resource) here.1) (has_words group word e here.0)
meant_plain entries group word f plain (inr m) = subst IsPlain (sym (ap (λ (r : Found). r.resource) m.1)) plain

found_plain : (entries : List Entry) (typed : Text) (f : Found) → IsTypeWord typed → IsFound entries typed f → IsPlain f.resource
unfolding IsFound
found_plain entries typed f t (word, group, reads, means) = meant_plain entries group word f (word_plain typed word group t reads) means

starts : (t : Text) (b : ℕ) (rest group name : Text) → t ≡ b ∷ rest → b ≢ slash → IsProper (Resource group t name)
starts t b rest group name e n = (
  λ z. let bad = sym e ∙ z in cc,
  λ p. n (let same = sym e ∙ p.1 in cc),
)

plain_proper : (resource sub group name : Text) → IsPlain resource → IsProper (Resource group (with_subresource resource sub) name)
plain_proper [] sub group name p = absurd (p.0 refl)
plain_proper (b ∷ rest) [] group name p =
    starts (b ∷ rest) b rest group name refl (λ e. p.1 (subst (Contains (b ∷ rest)) e (Contains-get_or (b ∷ rest) 0 0 (omega arith))))
plain_proper (b ∷ rest) (c ∷ cs) group name p =
    starts ((b ∷ rest) ++ slash ∷ c ∷ cs) b (rest ++ slash ∷ c ∷ cs) group name refl
    (λ e. p.1 (subst (Contains (b ∷ rest)) e (Contains-get_or (b ∷ rest) 0 0 (omega arith))))

pub proper : (entries : List Entry) (typed sub group name : Text) (f : Found) → IsTypeWord typed → IsFound entries typed f
    → IsProper (Resource group (with_subresource f.resource sub) name)
proper entries typed sub group name f t h = plain_proper f.resource sub group name (found_plain entries typed f t h)
