-- lines in order are one list, by what is among them
use Rattle.std.proofs.Common.{◌≡◌, ◌<◌, ◌⊎◌, get_or, ℕ, inl, inr, List, [], ◌∷◌, ◌++◌, length, sym, ap, ◌∙◌, refl, subst, arith, map, Less, Equal, Greater, Ordering}
use Rattle.std.specs.Cmp.{nat_cmp_is}
use Rattle.std.specs.Cmp.Lexicographic.{slice_cmp}
use Rattle.std.specs.Ordering.{ordering_then}
use Rattle.std.proofs.lemmas.Cmp.{nat_list_cmp_total, tied_itself}
use Rattle.rbac_terms.specs.Text.{Text, text_cmp}
use Rattle.rbac_model.specs.Lists.{by_name}
use Rattle.rbac_model.specs.Policies.{Held}
use Rattle.rbac_model.proofs.OneList.{one_list}
use Rattle.rbac_manifest.specs.declared.replacement.Replaced.{Replaced}
use Rattle.rbac_lint.specs.declared.finding.Finding.{Finding}
use Rattle.rbac_lint.specs.Lines.{Line, object_texts, place_key, IsLineBefore, AreShown, shown}
use Rattle.rbac_lint.specs.Findings.{IsFinding}
use Rattle.rbac_lint.specs.Wanted.{WantedView, AreWanted, OfWanted}

-- all that lines are ordered by, as a name
abbrev rest_texts : Line → List Text
rest_texts x = (place_key x.place ∷ []) ∷ x.other ∷ []

abbrev line_name : Line → List Text
line_name x = (x.code ∷ []) ∷ (object_texts x.object ++ rest_texts x)

then_less : (o p q : Ordering) → ordering_then o p ≡ Less → (p ≡ Less → q ≡ Less) → ordering_then o q ≡ Less
then_less Less p q e f = refl
then_less Equal p q e f = f e
then_less Greater p q e f = cc

then_same : (x y : Text) (o : Ordering) → x ≡ y → o ≡ Less → ordering_then (text_cmp x y) o ≡ Less
then_same x y o e l = ap (λ t. ordering_then (text_cmp t y) o) e ∙ ap (λ c. ordering_then c o) (tied_itself nat_list_cmp_total y) ∙ l

number_less : (i j : ℕ) (o : Ordering) → i < j → ordering_then (text_cmp (i ∷ []) (j ∷ [])) o ≡ Less
number_less i j o l = ap (λ c. ordering_then (ordering_then c Equal) o) (sym (nat_cmp_is i j Less l))

-- texts that are less, or the same, before what follows
less_longer : (xs ys zs ws : List Text) → length xs ≡ length ys → slice_cmp text_cmp xs ys ≡ Less → slice_cmp text_cmp (xs ++ zs) (ys ++ ws) ≡ Less
less_longer [] [] zs ws n e = cc
less_longer [] (y ∷ ys) zs ws n e = absurd (omega (arith, n))
less_longer (x ∷ xs) [] zs ws n e = absurd (omega (arith, n))
less_longer (x ∷ xs) (y ∷ ys) zs ws n e = then_less (text_cmp x y) (slice_cmp text_cmp xs ys) (slice_cmp text_cmp (xs ++ zs) (ys ++ ws)) e (less_longer xs ys zs ws (omega (arith, n)))

same_longer : (xs zs ws : List Text) → slice_cmp text_cmp zs ws ≡ Less → slice_cmp text_cmp (xs ++ zs) (xs ++ ws) ≡ Less
same_longer [] zs ws l = l
same_longer (x ∷ xs) zs ws l = then_same x x (slice_cmp text_cmp (xs ++ zs) (xs ++ ws)) refl (same_longer xs zs ws l)

rest_less : (a b : Line) → ((place_key a.place < place_key b.place) ⊎ ((a.place ≡ b.place) × (text_cmp a.other b.other ≡ Less))) → slice_cmp text_cmp (rest_texts a) (rest_texts b) ≡ Less
rest_less a b (inl l) = number_less (place_key a.place) (place_key b.place) (slice_cmp text_cmp (a.other ∷ []) (b.other ∷ [])) l
rest_less a b (inr o) = then_same (place_key a.place ∷ []) (place_key b.place ∷ []) (slice_cmp text_cmp (a.other ∷ []) (b.other ∷ [])) (ap (λ p. place_key p ∷ []) o.0) (ap (λ c. ordering_then c Equal) o.1)

named : (a b : Line) → IsLineBefore a b → by_name line_name a b ≡ Less
named a b (inl l) = number_less a.code b.code (slice_cmp text_cmp (object_texts a.object ++ rest_texts a) (object_texts b.object ++ rest_texts b)) l
named a b (inr (e, objects)) =
    then_same (a.code ∷ []) (b.code ∷ []) (slice_cmp text_cmp (object_texts a.object ++ rest_texts a) (object_texts b.object ++ rest_texts b)) (ap (λ n. n ∷ []) e) (elim objects [
      | inl less ↦ less_longer (object_texts a.object) (object_texts b.object) (rest_texts a) (rest_texts b) refl less
      | inr h ↦ subst (λ (ts : List Text). slice_cmp text_cmp (object_texts a.object ++ rest_texts a) (ts ++ rest_texts b) ≡ Less) h.0 (same_longer (object_texts a.object) (rest_texts a) (rest_texts b) (rest_less a b h.1))
    ])

pub one_shown : (P : Line → Type 0) (found others : List Finding) → AreShown P found → AreShown P others → found ≡ others
unfolding AreShown
one_shown P found others p q =
    let same : p.0 ≡ q.0 = one_list line_name p.0 q.0 (λ i j d lt l. named (get_or p.0 i d) (get_or p.0 j d) (p.1.ordered i j d lt l)) (λ i j d lt l. named (get_or q.0 i d) (get_or q.0 j d) (q.1.ordered i j d lt l)) (λ x w. (q.1.exact x).1 ((p.1.exact x).0 w)) (λ x w. (p.1.exact x).1 ((q.1.exact x).0 w)) in
    p.2 ∙ ap (map shown) same ∙ sym q.2

pub one_wanted : (w : WantedView) (h : Held) (rs : List Replaced) (found others : List Finding) → AreWanted w h rs found → AreWanted w h rs others → found ≡ others
one_wanted w h rs found others p q = one_shown (OfWanted w (IsFinding h rs)) found others p q
