-- What is kept of members that are put in one after another.
use Rattle.std.proofs.Common.{◌≡◌, ℕ, List, [], ◌∷◌, map, Ordering, Less, Equal, Greater, nat_cmp, is_eq, Option, Some, None, option_map, refl, sym, ap, ap₂, ◌∙◌}
use Rattle.std.specs.Prelude.{MatchOption}
use Rattle.std.proofs.lemmas.Cmp.{nat_list_cmp_total}
use Rattle.std.proofs.lemmas.Map.Text.{is_eq-slice_cmp}
use Rattle.std.proofs.lemmas.Slice.Eq.{bytes_eq-Decides}
use Rattle.std.specs.Ordering.{match_ordering, ordering_reverse}
use Rattle.std.specs.Cmp.Lexicographic.{slice_cmp}
use Rattle.serde_json.specs.Data.{Data, null, boolean, number, string, array, object, Items, no_items, item, Members, no_members, member, put}
use Rattle.serde_json.specs.Find.{get_member}
use Rattle.serde_json.specs.View.{items_of}
use Rattle.json_list.specs.Lean.{with_member, lean, lean_items, lean_members}
use Rattle.json_list.specs.Places.{IsPutIn}

abbrev cmp : List ℕ → List ℕ → Ordering
cmp = slice_cmp nat_cmp

back : (a b : List ℕ) (o : Ordering) → cmp a b ≡ o → cmp b a ≡ ordering_reverse o
back a b o e = nat_list_cmp_total.antisymm b a ∙ ap ordering_reverse e

same_text : (k l : List ℕ) → cmp k l ≡ Equal → k ≡ l
same_text k l tied = (bytes_eq-Decides k l).0 (sym (is_eq-slice_cmp k l) ∙ ap is_eq tied)

-- ---- members in order

-- each name is greater than this one
abbrev AllAfter : List ℕ → Members → Type 0
AllAfter k no_members = Unit {0}
AllAfter k (member l d ms) = (cmp k l ≡ Less) × AllAfter k ms

-- the names ascend
abbrev pub InOrder : Members → Type 0
InOrder no_members = Unit {0}
InOrder (member k d ms) = AllAfter k ms × InOrder ms

after_all : (k l : List ℕ) (ms : Members) → cmp k l ≡ Less → AllAfter l ms → AllAfter k ms
after_all k l no_members less all = tt
after_all k l (member m d ms) less all = (nat_list_cmp_total.trans k l m less all.0, after_all k l ms less all.1)

after_put_at : (j k l : List ℕ) (d e : Data) (ms : Members) (o : Ordering) → cmp j k ≡ Less → AllAfter j (member l e ms) → AllAfter j (put k d ms)
    → AllAfter j (match_ordering o (member k d (member l e ms)) (member l d ms) (member l e (put k d ms)))
after_put_at j k l d e ms Less less all more = (less, all)
after_put_at j k l d e ms Equal less all more = all
after_put_at j k l d e ms Greater less all more = (all.0, more)

after_put : (j k : List ℕ) (d : Data) (ms : Members) → cmp j k ≡ Less → AllAfter j ms → AllAfter j (put k d ms)
after_put j k d no_members less all = (less, tt)
after_put j k d (member l e ms) less all = after_put_at j k l d e ms (cmp k l) less all (after_put j k d ms less all.1)

order_put_at : (k l : List ℕ) (d e : Data) (ms : Members) (o : Ordering) → cmp k l ≡ o → InOrder (member l e ms) → InOrder (put k d ms)
    → InOrder (match_ordering o (member k d (member l e ms)) (member l d ms) (member l e (put k d ms)))
order_put_at k l d e ms Less is order more = ((is, after_all k l ms is order.0), order)
order_put_at k l d e ms Equal is order more = order
order_put_at k l d e ms Greater is order more = (after_put l k d ms (back k l Greater is) order.0, more)

pub order_put : (k : List ℕ) (d : Data) (ms : Members) → InOrder ms → InOrder (put k d ms)
order_put k d no_members order = (tt, tt)
order_put k d (member l e ms) order = order_put_at k l d e ms (cmp k l) refl order (order_put k d ms order.1)

put_first : (k : List ℕ) (d : Data) (ms : Members) → AllAfter k ms → put k d ms ≡ member k d ms
put_first k d no_members all = refl
put_first k d (member l e ms) all = rw (all.0) refl

-- ---- one member more

module _ {K : Type 0} (under : K → List ℕ → Option K) (kept : K) where
  abbrev kept_of : Data → Option K → Option Data
  kept_of d o = option_map (λ inner. lean under inner d) o

  after_with : (k l : List ℕ) (o : Option Data) (ms : Members) → cmp k l ≡ Less → AllAfter k ms → AllAfter k (with_member l o ms)
  after_with k l None ms less all = all
  after_with k l (Some d) ms less all = (less, all)

  after_lean : (k : List ℕ) (ms : Members) → AllAfter k ms → AllAfter k (lean_members under kept ms)
  after_lean k no_members all = tt
  after_lean k (member l d ms) all = after_with k l (kept_of d (under kept l)) (lean_members under kept ms) all.0 (after_lean k ms all.1)

  module _ (k : List ℕ) (d : Data) where
    left_out_at : (l : List ℕ) (e : Data) (ms : Members) (o : Ordering) → under kept k ≡ None → cmp k l ≡ o → lean_members under kept (put k d ms) ≡ lean_members under kept ms
        → lean_members under kept (match_ordering o (member k d (member l e ms)) (member l d ms) (member l e (put k d ms))) ≡ lean_members under kept (member l e ms)
    left_out_at l e ms Less none is more = ap (λ o. with_member k (kept_of d o) (lean_members under kept (member l e ms))) none
    left_out_at l e ms Equal none is more =
        let none_there : under kept l ≡ None = ap (under kept) (sym (same_text k l is)) ∙ none in
        ap (λ o. with_member l (kept_of d o) (lean_members under kept ms)) none_there ∙ sym (ap (λ o. with_member l (kept_of e o) (lean_members under kept ms)) none_there)
    left_out_at l e ms Greater none is more = ap (with_member l (kept_of e (under kept l))) more

    -- a member that is left out changes nothing
    pub left_out : (ms : Members) → under kept k ≡ None → lean_members under kept (put k d ms) ≡ lean_members under kept ms
    left_out no_members none = ap (λ o. with_member k (kept_of d o) no_members) none
    left_out (member l e ms) none = left_out_at l e ms (cmp k l) none refl (left_out ms none)

    module _ (inner : K) (some : under kept k ≡ Some inner) where
      first : (ms : Members) → AllAfter k ms → lean_members under kept (member k d ms) ≡ put k (lean under inner d) (lean_members under kept ms)
      first ms all = ap (λ o. with_member k (kept_of d o) (lean_members under kept ms)) some ∙ sym (put_first k (lean under inner d) (lean_members under kept ms) (after_lean k ms all))

      instead : (l : List ℕ) (e : Data) (ms : Members) → cmp k l ≡ Equal → lean_members under kept (member l d ms) ≡ put k (lean under inner d) (lean_members under kept (member l e ms))
      instead l e ms is =
          let there : under kept l ≡ Some inner = ap (under kept) (sym (same_text k l is)) ∙ some in
          let rest = lean_members under kept ms in
          ap (λ o. with_member l (kept_of d o) rest) there
          ∙ sym (ap (λ o. put k (lean under inner d) (with_member l (kept_of e o) rest)) there ∙ ap (λ o. match_ordering o (member k (lean under inner d) (member l (lean under inner e) rest)) (member l (lean under inner d) rest) (member l (lean under inner e) (put k (lean under inner d) rest))) is)

      later : (l : List ℕ) (o : Option Data) (more rest : Members) → cmp k l ≡ Greater → more ≡ put k (lean under inner d) rest → with_member l o more ≡ put k (lean under inner d) (with_member l o rest)
      later l None more rest is e = e
      later l (Some f) more rest is e =
          ap (member l f) e ∙ sym (ap (λ o. match_ordering o (member k (lean under inner d) (member l f rest)) (member l (lean under inner d) rest) (member l f (put k (lean under inner d) rest))) is)

      put_in_at : (l : List ℕ) (e : Data) (ms : Members) (o : Ordering) → cmp k l ≡ o → InOrder (member l e ms) → lean_members under kept (put k d ms) ≡ put k (lean under inner d) (lean_members under kept ms)
          → lean_members under kept (match_ordering o (member k d (member l e ms)) (member l d ms) (member l e (put k d ms))) ≡ put k (lean under inner d) (lean_members under kept (member l e ms))
      put_in_at l e ms Less is order more = first (member l e ms) (is, after_all k l ms is order.0)
      put_in_at l e ms Equal is order more = instead l e ms is
      put_in_at l e ms Greater is order more = later l (kept_of e (under kept l)) (lean_members under kept (put k d ms)) (lean_members under kept ms) is more

      -- a member that is kept is put in
      pub put_in : (ms : Members) → InOrder ms → lean_members under kept (put k d ms) ≡ put k (lean under inner d) (lean_members under kept ms)
      put_in no_members order = first no_members tt
      put_in (member l e ms) order = put_in_at l e ms (cmp k l) refl order (put_in ms order.1)

    module _ (ms old new : Members) (order : InOrder ms) (so_far : old ≡ lean_members under kept ms) where
      put_kept_at : (o : Option K) → under kept k ≡ o → MatchOption o (new ≡ old) (λ inner. new ≡ put k (lean under inner d) old) → new ≡ lean_members under kept (put k d ms)
      put_kept_at None is e = e ∙ so_far ∙ sym (left_out ms is)
      put_kept_at (Some inner) is e = e ∙ ap (put k (lean under inner d)) so_far ∙ sym (put_in inner is ms order)

      pub put_kept : IsPutIn under kept k d old new → new ≡ lean_members under kept (put k d ms)
      put_kept e = put_kept_at (under kept k) refl e

    pub is_put_in : (inner : K) → under kept k ≡ Some inner → (old new : Members) → new ≡ put k (lean under inner d) old → IsPutIn under kept k d old new
    is_put_in inner some old new e = rw some e

    pub is_left_out : under kept k ≡ None → (old : Members) → IsPutIn under kept k d old old
    is_left_out none old = rw none refl

  pub lean_of : (ds : List Data) → lean_items under kept (items_of ds) ≡ items_of (map (lean under kept) ds)
  lean_of [] = refl
  lean_of (d ∷ ds) = ap (item (lean under kept d)) (lean_of ds)

-- ---- where nothing is left out

module _ {K : Type 0} (under : K → List ℕ → Option K) (kept : K) (all : (name : List ℕ) → under kept name ≡ Some kept) where
  mutual
    pub whole : (d : Data) → lean under kept d ≡ d
    whole null = refl
    whole (boolean b) = refl
    whole (number n) = refl
    whole (string s) = refl
    whole (array ds) = ap array (whole_items ds)
    whole (object ms) = ap object (whole_members ms)

    whole_items : (ds : Items) → lean_items under kept ds ≡ ds
    whole_items no_items = refl
    whole_items (item d ds) = ap₂ item (whole d) (whole_items ds)

    whole_members : (ms : Members) → lean_members under kept ms ≡ ms
    whole_members no_members = refl
    whole_members (member name d ms) =
        ap (λ o. with_member name (option_map (λ inner. lean under inner d) o) (lean_members under kept ms)) (all name)
        ∙ ap₂ (member name) (whole d) (whole_members ms)

-- ---- a member that is looked up

module _ {K : Type 0} (under : K → List ℕ → Option K) (kept inner : K) (name : List ℕ) (some : under kept name ≡ Some inner) where
  found_here : (l : List ℕ) (e : Data) (ms : Members) → cmp name l ≡ Equal → get_member name (lean_members under kept (member l e ms)) ≡ Some (lean under inner e)
  found_here l e ms is =
      let there : under kept l ≡ Some inner = ap (under kept) (sym (same_text name l is)) ∙ some in
      let rest = lean_members under kept ms in
      ap (λ o. get_member name (with_member l (option_map (λ i. lean under i e) o) rest)) there ∙ ap (λ o. match_ordering o (get_member name rest) (Some (lean under inner e)) (get_member name rest)) is

  passed_by : (l : List ℕ) (o : Option Data) (rest : Members) (u : Ordering) → cmp name l ≡ u → (u ≡ Equal → ⊥) → get_member name (with_member l o rest) ≡ get_member name rest
  passed_by l None rest u is other = refl
  passed_by l (Some f) rest Less is other = ap (λ o. match_ordering o (get_member name rest) (Some f) (get_member name rest)) is
  passed_by l (Some f) rest Equal is other = absurd (other refl)
  passed_by l (Some f) rest Greater is other = ap (λ o. match_ordering o (get_member name rest) (Some f) (get_member name rest)) is

  abbrev inner_of : Option Data → Option Data
  inner_of o = option_map (λ e. lean under inner e) o

  found_at : (l : List ℕ) (e : Data) (ms : Members) (u : Ordering) → cmp name l ≡ u → get_member name (lean_members under kept ms) ≡ inner_of (get_member name ms)
      → get_member name (lean_members under kept (member l e ms)) ≡ inner_of (match_ordering u (get_member name ms) (Some e) (get_member name ms))
  found_at l e ms Less is more = passed_by l (kept_of under kept e (under kept l)) (lean_members under kept ms) Less is (λ no. absurd (cc)) ∙ more
  found_at l e ms Equal is more = found_here l e ms is
  found_at l e ms Greater is more = passed_by l (kept_of under kept e (under kept l)) (lean_members under kept ms) Greater is (λ no. absurd (cc)) ∙ more

  -- of a member that is kept, what is kept of its value
  pub member_kept : (ms : Members) → get_member name (lean_members under kept ms) ≡ option_map (λ e. lean under inner e) (get_member name ms)
  member_kept no_members = refl
  member_kept (member l e ms) = found_at l e ms (cmp name l) refl (member_kept ms)
