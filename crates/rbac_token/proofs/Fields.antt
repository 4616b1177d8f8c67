-- Texts read from their fields, one by one.
use Rattle.std.proofs.Common.{◌≡◌, ◌≢◌, ℕ, ◌+◌, ◌<◌, ◌≤◌, [], ◌∷◌, ◌++◌, sym, ap, ◌∙◌, refl, subst, arith, false, Bor, List, length, map, take, get_or, All, codes}
use Rattle.std.specs.Prelude.{◌==◌, Option, Some, None, slice_get}
use Rattle.std.specs.List.{flat_map, slice_split}
use Rattle.std.proofs.lemmas.Bool.{ne_eqb}
use Rattle.std.proofs.lemmas.Grind.{flat_map-append}
use Rattle.std.proofs.lemmas.Option.{slice_get_within, get_or_from_slice_get}
use Rattle.std.proofs.lemmas.List.{append-nil, append_assoc, get_or-map, length-map, take_more, take_all}
use Rattle.std.proofs.lemmas.List.Elements.{All-weaker}
use Rattle.std.proofs.lemmas.List.Splits.{slice_split_none, slice_split_at}
use Rattle.rbac_terms.specs.Text.{Text}
use Rattle.rbac_terms.specs.Keys.{KeyTexts, texts}
use Rattle.rbac_text.specs.Field.{field_text, is_control}
use Rattle.rbac_text.specs.Row.{tab}
use Rattle.rbac_text.proofs.Unlike.{field_text-plain}
use Rattle.rbac_token.specs.Marks.{name_texts, printed_mark, version_of}
use Rattle.rbac_token.specs.Token.{after_tab}
use Rattle.rbac_token.specs.declared.mark.BindingName.{BindingName}

-- a text more is read
pub one_more : (fields : List (Bor (List ℕ))) (texts : List Text) (i : ℕ) (d : Bor (List ℕ)) (before after : List Text) → map (λ f. f.now) fields ≡ map field_text texts
    → i < length fields → ((t : Text) → (get_or fields i d).now ≡ field_text t → after ≡ before ++ t ∷ []) → before ≡ take i texts → after ≡ take (i + 1) texts
one_more fields texts i d before after same within reads so_far =
    let long : length fields ≡ length texts = sym (length-map fields (λ f. f.now)) ∙ ap length same ∙ length-map texts field_text in
    let shown : (get_or fields i d).now ≡ field_text (get_or texts i []) =
    sym (get_or-map (λ f. f.now) fields i d [] within) ∙ ap (λ l. get_or l i []) same ∙ get_or-map field_text texts i [] [] (omega (arith, long, within)) in
    reads (get_or texts i []) shown ∙ ap (λ l. l ++ get_or texts i [] ∷ []) so_far ∙ sym (take_more texts i [] (omega (arith, long, within)))

-- all texts are read
pub all_read : (fields : List (Bor (List ℕ))) (texts : List Text) (i : ℕ) (read : List Text) → map (λ f. f.now) fields ≡ map field_text texts
    → length fields ≤ i → read ≡ take i texts → read ≡ texts
all_read fields texts i read same over so_far =
    let long : length fields ≡ length texts = sym (length-map fields (λ f. f.now)) ∙ ap length same ∙ length-map texts field_text in
    so_far ∙ take_all i texts (omega (arith, long, over))

-- a field more is printed, after its tab
pub fields_more : (base printed put : Text) (ts : List Text) (i : ℕ) (t : Text) → printed ≡ base ++ flat_map after_tab (take i ts)
    → put ≡ printed ++ after_tab t → slice_get ts i ≡ Some t → put ≡ base ++ flat_map after_tab (take (i + 1) ts)
fields_more base printed put ts i t before puts e =
    let last : take (i + 1) ts ≡ take i ts ++ t ∷ [] =
    take_more ts i t (slice_get_within ts i t e) ∙ ap (λ u. take i ts ++ u ∷ []) (get_or_from_slice_get ts i t t e) in
    let more : flat_map after_tab (take (i + 1) ts) ≡ flat_map after_tab (take i ts) ++ after_tab t =
    ap (λ l. flat_map after_tab l) last
    ∙ flat_map-append after_tab (take i ts) (t ∷ [])
    ∙ ap (λ l. flat_map after_tab (take i ts) ++ l) (append-nil (after_tab t)) in
    puts ∙ ap (λ l. l ++ after_tab t) before ∙ append_assoc base (flat_map after_tab (take i ts)) (after_tab t) ∙ ap (λ l. base ++ l) (sym more)

-- ---- what stands between the tabs

abbrev NoTab : ℕ → Type 0
NoTab b = (b == tab) ≡ false

stands_no_tab : (b : ℕ) → is_control b ≡ false → b ≢ tab
stands_no_tab b plain e = let bad : is_control tab ≡ false = subst (λ x. is_control x ≡ false) e plain in cc

field_has_no_tab : (t : Text) → All NoTab (field_text t)
field_has_no_tab t = All-weaker (λ b. is_control b ≡ false) NoTab (λ b plain. ne_eqb b tab (stands_no_tab b plain)) (field_text t) (field_text-plain t)

-- fields joined by tabs are found between the tabs
fields_between : (t : Text) (ts : List Text)
    → slice_split (λ b. b == tab) (field_text t ++ flat_map (λ u. tab ∷ field_text u) ts) ≡ map field_text (t ∷ ts)
fields_between t [] =
    ap (λ l. slice_split (λ b. b == tab) l) (append-nil (field_text t)) ∙ slice_split_none (λ b. b == tab) (field_text t) (field_has_no_tab t)
fields_between t (u ∷ us) =
    slice_split_at (λ b. b == tab) (field_text t) tab (field_text u ++ flat_map (λ v. tab ∷ field_text v) us) (field_has_no_tab t) refl
    ∙ ap (λ l. field_text t ∷ l) (fields_between u us)

-- a printed mark has the version, the key's texts and those of the binding's name between its tabs
pub mark_between : (k : KeyTexts) (b : Option BindingName)
    → slice_split (λ c. c == tab) (printed_mark k b) ≡ map field_text (version_of b ∷ texts k ++ name_texts b)
mark_between k None = fields_between (codes "1") (texts k)
mark_between k (Some name) = fields_between (codes "2") (texts k ++ name_texts (Some name))
