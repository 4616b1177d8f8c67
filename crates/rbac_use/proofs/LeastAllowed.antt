-- The rules of a least policy allow exactly what is needed.
use Rattle.std.proofs.Common.{◌≡◌, ◌≢◌, ◌↔◌, ◌∙◌, [], ◌∷◌, Any, Bool, Contains, List, None, Option, Some, ap, arith, false, inl, inr, length, refl, subst, sym, true}
use Rattle.std.specs.Prelude.{codes}
use Rattle.std.proofs.lemmas.List.Elements.{All-contains}
use Rattle.std.proofs.lemmas.Option.{same_Some}
use Rattle.rbac_terms.specs.Text.{Text, BeginsWith}
use Rattle.rbac_terms.specs.Targets.{What, Resource, Url}
use Rattle.rbac_terms.specs.Matching.{EndsInStar, NameMatches, ResourceWordMatches, RuleAllows, UrlWordMatches, WordMatches}
use Rattle.rbac_terms.specs.declared.matching.Rule.{Rule}
use Rattle.rbac_model.specs.Policies.{Live, PolicyView}
use Rattle.rbac_model.proofs.OwnWords.{any_from}
use Rattle.rbac_diff.specs.Requests.{RequestView}
use Rattle.rbac_use.specs.Least.{AllowsNeeded, HasRuleIn, IsAlike, home_at, home_of}
use Rattle.rbac_use.specs.LeastRules.{AreByVerbs, HasRulesOf, HasSameVerbs, HaveSameRules, IsAsked, IsLeastOf, IsPartOf, key_of, kind_rule, part_of, rule_of, rules_in, target_key, with_words}
use Rattle.rbac_use.specs.Needs.{IsNeeded, IsPlainTarget}
use Rattle.rbac_use.specs.declared.grouping.Group.{Group}
use Rattle.rbac_use.specs.declared.grouping.Kind.{Kind}
use Rattle.rbac_use.specs.declared.grouping.Kind.TheVariants.{AnyName, Names, Resources, Urls}
use Rattle.rbac_use.specs.declared.grouping.RuleKey.{RuleKey}
use Rattle.rbac_use.specs.declared.least.Least.{Least}
use Rattle.rbac_use.specs.declared.least.NamespaceRules.{NamespaceRules}
use Rattle.rbac_use.proofs.ByVerbs.{one_by_verbs, word_of_target}
use Rattle.rbac_use.proofs.NeededRequests.{star_at_end}
use Rattle.rbac_use.proofs.Parts.{one_parts, rule_in}
use Rattle.rbac_use.proofs.Pushed.{a_word, only_at}

-- ---- from requests to groups of words, and back

-- the request has these words: a verb under the words of its target
record HasWords (names : Bool) (k : RuleKey) (verb item : Text) (r : RequestView) : Type 0 where
  verb_is : r.verb ≡ verb
  key_is : with_words (key_of names r) k.words ≡ k
  item_is : Contains (key_of names r).words item

module _ (p : PolicyView) (log : List RequestView) (user : Text) (names : Bool) (groups : List Group) (are : AreByVerbs (IsAsked p log user names) groups) where
  same_verbs : (g : Group) → Contains groups g → HasSameVerbs (IsAsked p log user names) g
  same_verbs g c = All-contains (HasSameVerbs (IsAsked p log user names)) groups g are.each c

  request_from : (g : Group) → Contains groups g → (verb item : Text) → Contains g.key.words verb → Contains g.words item → (r : RequestView) × IsNeeded p log user r × HasWords names g.key verb item r
  request_from g c verb item has_verb has_item =
      let a = (((same_verbs g c).exact item).0 has_item verb).0 has_verb in (
        a.0,
        a.1,
        record {
          verb_is = a.2;
          key_is = ap (λ (k : RuleKey). with_words k g.key.words) a.3;
          item_is = subst (λ (k : RuleKey). Contains k.words item) (sym a.3) (0, omega arith, refl);
        },
      )

  group_for : (r : RequestView) → IsNeeded p log user r → (item : Text) → Contains (key_of names r).words item → (g : Group) × Contains groups g × Contains g.key.words r.verb × Contains g.words item × (with_words (key_of names r) g.key.words ≡ g.key)
  group_for r is item has_item =
      let w = are.all (key_of names r) item r.verb (r, is, refl, word_of_target names r item has_item) in
      (w.1, (w.0, w.2, w.3), w.4.2, w.4.1, w.4.0)

-- ---- which rules a least policy has, and where

-- the rule for a group, and where it is bound
abbrev IsRuleOf : Option Text → Rule → Group → Type 0
IsRuleOf home rule g = (home_at g.key.namespace ≡ home) × (rule_of g ≡ rule)

home_some : (n : Text) → n ≢ [] → home_at n ≡ Some n
home_some [] not = absurd (not refl)
home_some (a ∷ n) not = refl

home_none : (n : Text) → home_at n ≡ None → n ≡ []
home_none [] e = refl
home_none (a ∷ n) e = absurd (let both : Some (a ∷ n) ≡ None = e in cc)

home_named : (n m : Text) → home_at n ≡ Some m → (n ≢ []) × (n ≡ m)
home_named [] m e = absurd (let both : None ≡ Some m = e in cc)
home_named (a ∷ n) m e = (λ none. omega (arith, ap length none), same_Some (a ∷ n) m e)

rules_are : (groups : List Group) (l : Least) → HasRulesOf groups l → (home : Option Text) (rule : Rule) → HasRuleIn l home rule ↔ Any (IsRuleOf home rule) groups
rules_are groups l has None rule = (
  λ c.
      (let w = (rule_in [] rule groups).0 (subst (λ (rs : List Rule). Contains rs rule) has.0 c) in
      any_from (IsRuleOf None rule) groups w.1 (w.0, w.2, w.3) (ap home_at w.4.0, w.4.1)),
  λ w.
      (let c = (rule_in [] rule groups).1 (any_from (λ (g : Group). (g.key.namespace ≡ []) × (rule_of g ≡ rule)) groups w.1 (w.0, w.2, w.3) (home_none w.1.key.namespace w.4.0, w.4.1)) in
      subst (λ (rs : List Rule). Contains rs rule) (sym has.0) c),
)
rules_are groups l has (Some n) rule = (
  λ h.
      (let part = h.1 in
      let p = (has.1.exact part).0 (h.0, h.2, h.3) in
      let w = (rule_in part.namespace rule groups).0 (subst (λ (rs : List Rule). Contains rs rule) p.rules h.4.1) in
      let home : home_at w.1.key.namespace ≡ Some n = ap home_at w.4.0 ∙ home_some part.namespace p.named ∙ ap (λ (t : Text). Some t) h.4.0 in
      any_from (IsRuleOf (Some n) rule) groups w.1 (w.0, w.2, w.3) (home, w.4.1)),
  λ w.
      (let at = home_named w.1.key.namespace n w.4.0 in
      let part = part_of n (rules_in n groups) in
      let there : Contains groups w.1 = (w.0, w.2, w.3) in
      let is : IsPartOf groups part = record {
        named = λ none. at.0 (at.1 ∙ none);
        some = any_from (λ (g : Group). g.key.namespace ≡ n) groups w.1 there at.1;
        rules = refl;
      } in
      let c = (rule_in n rule groups).1 (any_from (λ (g : Group). (g.key.namespace ≡ n) × (rule_of g ≡ rule)) groups w.1 there (at.1, w.4.1)) in
      any_from (λ (x : NamespaceRules). (x.namespace ≡ n) × Contains x.rules rule) l.namespaces.items part ((has.1.exact part).1 is) (refl, c)),
)

-- ---- what a rule of these words allows

-- the rule's words of a target match this one, by one of the words that differ
abbrev pub ItemMatches : Kind → RuleKey → Text → What → Type 0
ItemMatches AnyName k item (Resource group text name) = WordMatches k.group group × ResourceWordMatches k.resource text
ItemMatches Names k item (Resource group text name) = WordMatches k.group group × ResourceWordMatches k.resource text × (item ≡ name)
ItemMatches Resources k item (Resource group text name) = WordMatches k.group group × ResourceWordMatches item text
ItemMatches Urls k item (Url path) = UrlWordMatches item path
ItemMatches _ _ _ _ = ⊥

-- a verb and an item of a rule's words match
pub record WordsMatch (kind : Kind) (k : RuleKey) (words : List Text) (v : Text) (t : What) : Type 0 where
  pub verb : Text
  pub has_verb : Contains k.words verb
  pub verb_matches : WordMatches verb v
  pub item : Text
  pub has_item : Contains words item
  pub item_matches : ItemMatches kind k item t

none_of : {X : Type 0} (P : X → Type 0) → Any P [] → ⊥
none_of P w = omega (arith, w.2)

only : {X : Type 0} (P : X → Type 0) (x : X) → Any P (x ∷ []) → P x
only P x w = subst P (sym (only_at x w.1 w.0 w.2 w.3)) w.4

alone : {X : Type 0} (P : X → Type 0) (x : X) → P x → Any P (x ∷ [])
alone P x h = (0, x, omega arith, refl, h)

names_match : (words : List Text) (name : Text) → words ≢ [] → NameMatches words name → Contains words name
names_match words name not (inl e) = absurd (not e)
names_match words name not (inr c) = c

module _ (k : RuleKey) (words : List Text) (v : Text) where
  abbrev Verb : Text → Type 0
  Verb w = WordMatches w v

  pub words_of_rule : (kind : Kind) (t : What) → words ≢ [] → RuleAllows (kind_rule kind k words) v t → WordsMatch kind k words v t
  words_of_rule AnyName (Resource group text name) not h = (let item = a_word words not in record {
    verb = h.0.1;
    has_verb = (h.0.0, h.0.2, h.0.3);
    verb_matches = h.0.4;
    item = item.0;
    has_item = item.1;
    item_matches = (only (λ (w : Text). WordMatches w group) k.group h.1.0, only (λ (w : Text). ResourceWordMatches w text) k.resource h.1.1);
  })
  words_of_rule Names (Resource group text name) not h = record {
    verb = h.0.1;
    has_verb = (h.0.0, h.0.2, h.0.3);
    verb_matches = h.0.4;
    item = name;
    has_item = names_match words name not h.1.2;
    item_matches = (only (λ (w : Text). WordMatches w group) k.group h.1.0, only (λ (w : Text). ResourceWordMatches w text) k.resource h.1.1, refl);
  }
  words_of_rule Resources (Resource group text name) not h = record {
    verb = h.0.1;
    has_verb = (h.0.0, h.0.2, h.0.3);
    verb_matches = h.0.4;
    item = h.1.1.1;
    has_item = (h.1.1.0, h.1.1.2, h.1.1.3);
    item_matches = (only (λ (w : Text). WordMatches w group) k.group h.1.0, h.1.1.4);
  }
  words_of_rule Urls (Resource group text name) not h = absurd (none_of (λ (w : Text). WordMatches w group) h.1.0)
  words_of_rule AnyName (Url path) not h = absurd (none_of (λ (w : Text). UrlWordMatches w path) h.1)
  words_of_rule Names (Url path) not h = absurd (none_of (λ (w : Text). UrlWordMatches w path) h.1)
  words_of_rule Resources (Url path) not h = absurd (none_of (λ (w : Text). UrlWordMatches w path) h.1)
  words_of_rule Urls (Url path) not h = record {
    verb = h.0.1;
    has_verb = (h.0.0, h.0.2, h.0.3);
    verb_matches = h.0.4;
    item = h.1.1;
    has_item = (h.1.0, h.1.2, h.1.3);
    item_matches = h.1.4;
  }

  pub rule_of_words : (kind : Kind) (t : What) → WordsMatch kind k words v t → RuleAllows (kind_rule kind k words) v t
  rule_of_words AnyName (Resource group text name) m = (
    any_from Verb k.words m.verb m.has_verb m.verb_matches,
    (alone (λ (w : Text). WordMatches w group) k.group m.item_matches.0, alone (λ (w : Text). ResourceWordMatches w text) k.resource m.item_matches.1, inl refl),
  )
  rule_of_words Names (Resource group text name) m = (
    any_from Verb k.words m.verb m.has_verb m.verb_matches,
    (
      alone (λ (w : Text). WordMatches w group) k.group m.item_matches.0,
      alone (λ (w : Text). ResourceWordMatches w text) k.resource m.item_matches.1,
      inr (subst (Contains words) m.item_matches.2 m.has_item),
    ),
  )
  rule_of_words Resources (Resource group text name) m = (
    any_from Verb k.words m.verb m.has_verb m.verb_matches,
    (
      alone (λ (w : Text). WordMatches w group) k.group m.item_matches.0,
      any_from (λ (w : Text). ResourceWordMatches w text) words m.item m.has_item m.item_matches.1,
      inl refl,
    ),
  )
  rule_of_words Urls (Resource group text name) m = absurd m.item_matches
  rule_of_words AnyName (Url path) m = absurd m.item_matches
  rule_of_words Names (Url path) m = absurd m.item_matches
  rule_of_words Resources (Url path) m = absurd m.item_matches
  rule_of_words Urls (Url path) m = (
    any_from Verb k.words m.verb m.has_verb m.verb_matches,
    any_from (λ (w : Text). UrlWordMatches w path) words m.item m.has_item m.item_matches,
  )

-- ---- words that aren't wildcards match themselves alone

plain_word : (w x : Text) → w ≢ codes "*" → WordMatches w x → w ≡ x
plain_word w x not (inl e) = absurd (not e)
plain_word w x not (inr e) = e

plain_resource : (w x : Text) → w ≢ codes "*" → ¬ BeginsWith w (codes "*/") → ResourceWordMatches w x → w ≡ x
plain_resource w x not front (inl m) = plain_word w x not m
plain_resource w x not front (inr (s, e, some, rest)) = absurd (front (s, e))

plain_url : (w x : Text) → ¬ EndsInStar w → UrlWordMatches w x → w ≡ x
plain_url w x not (inl e) = e
plain_url w x not (inr (q, k, e, front, rest)) = absurd (not (star_at_end w q k e))

-- ---- the words of a needed target match what is alike, and nothing else

abbrev Matches : Bool → Text → What → Text → What → Type 0
Matches names namespace wanted item t = ItemMatches (target_key names namespace wanted).kind (target_key names namespace wanted) item t

alike : (names : Bool) (namespace : Text) (wanted t : What) → IsPlainTarget wanted → (item : Text) → Contains (target_key names namespace wanted).words item → Matches names namespace wanted item t → IsAlike names wanted t
alike names namespace (Url path) (Url p) plain item c m = sym (plain_url path p plain.0 (subst (λ (w : Text). UrlWordMatches w p) (sym (only_at path item c.0 c.1 c.2)) m))
alike names namespace (Url path) (Resource h y n) plain item c m = absurd m
alike true namespace (Resource g x []) (Resource h y n) plain item c m = (
  sym (plain_word g h plain.0 m.0),
  sym (plain_resource x y plain.1 plain.2 m.1),
  λ is not. absurd (not refl),
)
alike true namespace (Resource g x (a ∷ name)) (Resource h y n) plain item c m = (
  sym (plain_word g h plain.0 m.0),
  sym (plain_resource x y plain.1 plain.2 m.1),
  λ is not. sym (only_at (a ∷ name) item c.0 c.1 c.2 ∙ m.2),
)
alike true namespace (Resource g x []) (Url p) plain item c m = absurd m
alike true namespace (Resource g x (a ∷ name)) (Url p) plain item c m = absurd m
alike false namespace (Resource g x name) (Resource h y n) plain item c m = (
  sym (plain_word g h plain.0 m.0),
  sym (plain_resource x y plain.1 plain.2 (subst (λ (w : Text). ResourceWordMatches w y) (sym (only_at x item c.0 c.1 c.2)) m.1)),
  λ is not. absurd (let both : false ≡ true = is in cc),
)
alike false namespace (Resource g x name) (Url p) plain item c m = absurd m

matched : (names : Bool) (namespace : Text) (wanted t : What) → IsAlike names wanted t → (item : Text) × Contains (target_key names namespace wanted).words item × Matches names namespace wanted item t
matched names namespace (Url path) (Url p) e = (path, (0, omega arith, refl), inl (sym e))
matched names namespace (Url path) (Resource h y n) e = absurd e
matched true namespace (Resource g x []) (Resource h y n) e = ([], (0, omega arith, refl), (inr (sym e.0), inl (inr (sym e.1))))
matched true namespace (Resource g x (a ∷ name)) (Resource h y n) e = (
  a ∷ name,
  (0, omega arith, refl),
  (inr (sym e.0), inl (inr (sym e.1)), sym (e.2 refl (λ none. omega (arith, ap length none)))),
)
matched true namespace (Resource g x []) (Url p) e = absurd e
matched true namespace (Resource g x (a ∷ name)) (Url p) e = absurd e
matched false namespace (Resource g x name) (Resource h y n) e = (x, (0, omega arith, refl), (inr (sym e.0), inl (inr (sym e.1))))
matched false namespace (Resource g x name) (Url p) e = absurd e

-- the words that a key has do not matter for that
same_item : (kind : Kind) (k : RuleKey) (words : List Text) (item : Text) (t : What) → ItemMatches kind (with_words k words) item t ↔ ItemMatches kind k item t
same_item AnyName k words item (Resource group text name) = (λ h. h, λ h. h)
same_item Names k words item (Resource group text name) = (λ h. h, λ h. h)
same_item Resources k words item (Resource group text name) = (λ h. h, λ h. h)
same_item Urls k words item (Resource group text name) = (λ h. h, λ h. h)
same_item AnyName k words item (Url path) = (λ h. h, λ h. h)
same_item Names k words item (Url path) = (λ h. h, λ h. h)
same_item Resources k words item (Url path) = (λ h. h, λ h. h)
same_item Urls k words item (Url path) = (λ h. h, λ h. h)

home_is : (names : Bool) (namespace : Text) (t : What) → home_at (target_key names namespace t).namespace ≡ home_of namespace t
home_is names namespace (Url path) = refl
home_is true namespace (Resource group text name) = refl
home_is false namespace (Resource group text name) = refl

-- ---- all steps together

pub allows_needed : (p : PolicyView) (log : List RequestView) (user : Text) (names : Bool) (least : Least) → IsLeastOf p log user names least → AllowsNeeded p log user names least
allows_needed p log user names least (groups, are, has) namespace v t = (
  λ allowed.
      (let home = allowed.0 in
      let w = (rules_are groups least has home allowed.1).0 allowed.2 in
      let g = w.1 in
      let c : Contains groups g = (w.0, w.2, w.3) in
      let not : g.words ≢ [] = (same_verbs p log user names groups are g c).words.some in
      let m = words_of_rule g.key g.words v g.key.kind t not (subst (λ (rule : Rule). RuleAllows rule v t) (sym w.4.1) allowed.4) in
      let f = request_from p log user names groups are g c m.verb m.item m.has_verb m.has_item in
      let r = f.0 in
      let k = key_of names r in
      let is = f.1 in
      let has_words = f.2 in
      let verb : m.verb ≡ v = plain_word m.verb v (λ e. is.1.written.0 (has_words.verb_is ∙ e)) m.verb_matches in
      let matches = (same_item k.kind k g.key.words m.item t).0 (subst (λ (x : RuleKey). ItemMatches x.kind x m.item t) (sym has_words.key_is) m.item_matches) in
      let bound : home ≡ home_of r.namespace r.target = sym w.4.0 ∙ ap (λ (x : RuleKey). home_at x.namespace) (sym has_words.key_is) ∙ home_is names r.namespace r.target in (
        r,
        is,
        (
          sym (has_words.verb_is ∙ verb),
          alike names r.namespace r.target t is.1.written.1 m.item has_words.item_is matches,
          subst (λ (o : Option Text). Live o namespace t) bound allowed.3,
        ),
      )),
  λ lets.
      (let s = lets.0 in
      let by = lets.2 in
      let m = matched names s.namespace s.target t by.1 in
      let f = group_for p log user names groups are s lets.1 m.0 m.1 in
      let g = f.0 in
      let k = key_of names s in
      let home = home_of s.namespace s.target in
      let bound : home_at g.key.namespace ≡ home = ap (λ (x : RuleKey). home_at x.namespace) (sym f.4) ∙ home_is names s.namespace s.target in
      let matches = subst (λ (x : RuleKey). ItemMatches x.kind x m.0 t) f.4 ((same_item k.kind k g.key.words m.0 t).1 m.2) in (
        home,
        rule_of g,
        (rules_are groups least has home (rule_of g)).1 (any_from (IsRuleOf home (rule_of g)) groups g f.1 (bound, refl)),
        by.2,
        rule_of_words g.key g.words v g.key.kind t (record {
          verb = s.verb;
          has_verb = f.2;
          verb_matches = inr (sym by.0);
          item = m.0;
          has_item = f.3;
          item_matches = matches;
        }),
      )),
)

-- ---- the requests alone decide

pub one_least : (p : PolicyView) (log other : List RequestView) (user : Text) (names : Bool) (a b : Least) → ((r : RequestView) → Contains log r ↔ Contains other r) → IsLeastOf p log user names a → IsLeastOf p other user names b → HaveSameRules a b
one_least p log other user names a b same (gs, are, has) (hs, also, too) =
    let groups : gs ≡ hs = one_by_verbs p log other user names gs hs same are also in
    let now : HasRulesOf hs a = subst (λ (xs : List Group). HasRulesOf xs a) groups has in
    (now.0 ∙ sym too.0, one_parts hs a.namespaces.items b.namespaces.items now.1 too.1)
