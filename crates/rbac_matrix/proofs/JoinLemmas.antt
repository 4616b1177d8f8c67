-- how pages of rows join
use Rattle.std.proofs.Common.{◌≡◌, ◌≢◌, ℕ, zero, suc, ◌<◌, Bool, true, false, List, [], ◌∷◌, ◌++◌, length, drop, take, refl, ap, ◌∙◌, sym, arith, Contains, ◌⊎◌, inl, inr, Less, Equal, Greater, Ordering, subst, get_or}
use Rattle.std.specs.Prelude.{Option, Some, None, filter, nat_lt, ◌↔◌}
use Rattle.std.specs.Ordering.{is_gt, ordering_reverse, ordering_then}
use Rattle.std.specs.Cmp.Lexicographic.{slice_cmp}
use Rattle.std.proofs.lemmas.Bool.{false≢true}
use Rattle.std.proofs.lemmas.Bool.Decides.{nat_tests}
use Rattle.std.proofs.lemmas.Cmp.{tied_itself}
use Rattle.std.proofs.lemmas.List.{take-append-drop}
use Rattle.std.proofs.lemmas.List.Kept.{AllPairs-filter}
use Rattle.std.proofs.lemmas.List.Elements.{filter_passes}
use Rattle.rbac_terms.specs.Text.{Text, text_cmp}
use Rattle.rbac_terms.specs.Keys.{KeyTexts, key_cmp, texts}
use Rattle.rbac_terms.specs.KeyOrder.{key_cmp_total}
use Rattle.rbac_terms.proofs.Orderings.{then_less}
use Rattle.rbac_model.specs.Lists.{by_name, IsAscendingBy}
use Rattle.rbac_model.specs.Universes.{RowView, cell_key}
use Rattle.rbac_model.specs.Policies.{binding_name}
use Rattle.rbac_model.proofs.NamePlaces.{exact_names, total}
use Rattle.rbac_token.specs.Marks.{name_texts}
use Rattle.rbac_token.specs.declared.mark.BindingName.{BindingName}
use Rattle.rbac_token.specs.declared.mark.Mark.{Mark}
use Rattle.rbac_matrix.specs.Every.{EveryPagesJoin, StandsPast, comes_after, every_name, mark_of}
use Rattle.rbac_matrix.specs.Paging.{PagesJoin}
use Rattle.rbac_universe.proofs.Flattened.{there}
use Rattle.rbac_matrix.proofs.OneMatrix.{by_keys, key_name}
use Rattle.rbac_matrix.proofs.Orders.{cmp_append, first_greater, first_tied, greater}
use Rattle.rbac_matrix.proofs.RowLemmas.{head_below, tail_ascends}
use Rattle.rbac_matrix.proofs.StartLemmas.{filter_all}

bool_cases : (b : Bool) → (b ≡ true) ⊎ (b ≡ false)
bool_cases true = inl refl
bool_cases false = inr refl

in_taken : (n : ℕ) (rows before : List RowView) (last : RowView) → take n rows ≡ before ++ last ∷ [] → Contains rows last
in_taken zero rows [] last e = cc
in_taken zero rows (b ∷ before) last e = cc
in_taken (suc n) [] [] last e = cc
in_taken (suc n) [] (b ∷ before) last e = cc
in_taken (suc n) (row ∷ rows) [] last e = let same : row ≡ last = cc in (0, omega arith, same)
in_taken (suc n) (row ∷ rows) (b ∷ before) last e =
    let rest : take n rows ≡ before ++ last ∷ [] = cc in there row rows last (in_taken n rows before last rest)

some_left : (n : ℕ) (rows : List RowView) → n < length rows → drop n rows ≢ []
some_left zero [] l e = absurd (omega (arith, l))
some_left zero (row ∷ rows) l e = cc
some_left (suc n) [] l e = absurd (omega (arith, l))
some_left (suc n) (row ∷ rows) l e = some_left n rows (omega (arith, l)) e

left_some : (n : ℕ) (rows : List RowView) → drop n rows ≢ [] → n < length rows
left_some zero [] f = absurd (f refl)
left_some zero (row ∷ rows) f = omega arith
left_some (suc n) [] f = absurd (f refl)
left_some (suc n) (row ∷ rows) f = let l = left_some n rows f in omega (arith, l)

is_lt_from : (n m : ℕ) → nat_lt n m ≡ true → n < m
is_lt_from n m e = grind (arith, nat_tests)

lt_is : (n m : ℕ) → n < m → nat_lt n m ≡ true
lt_is n m l = grind (arith, nat_tests)

-- these rows are their first n and the others; there are others exactly if there are more than n
joins : (n : ℕ) (kept rest : List RowView) → rest ≡ drop n kept → (kept ≡ take n kept ++ rest) × ((nat_lt n (length kept) ≡ true) ↔ (rest ≢ []))
joins n kept rest e = (
  sym (take-append-drop n kept) ∙ ap (λ (others : List RowView). take n kept ++ others) (sym e),
  (
    (λ more f. some_left n kept (is_lt_from n (length kept) more) (sym e ∙ f)),
    (λ f. lt_is n (length kept) (left_some n kept (λ d. f (e ∙ d)))),
  ),
)

-- rows in order of a name, each with a mark of its own; a row comes after another row's own mark
-- exactly if its name is greater, and a row that follows one after a mark comes after this mark too
module _ {M : Type 0} (name : RowView → List Text) (own : RowView → M) (is_after : M → RowView → Bool)
    (of_own : (a b : RowView) → is_after (own a) b ≡ is_gt (by_name name b a))
    (still : (m : M) (last row : RowView) → is_after m last ≡ true → by_name name last row ≡ Less → is_after m row ≡ true) where
  turned : (a b : RowView) → by_name name a b ≡ Less → by_name name b a ≡ Greater
  turned a b e = (total name).antisymm b a ∙ ap ordering_reverse e

  turned_back : (a b : RowView) → by_name name a b ≡ Greater → by_name name b a ≡ Less
  turned_back a b e = (total name).antisymm b a ∙ ap ordering_reverse e

  later : (a b : RowView) → by_name name a b ≡ Less → is_after (own a) b ≡ true
  later a b e = of_own a b ∙ ap is_gt (turned a b e)

  earlier : (a b : RowView) → by_name name a b ≡ Less → is_after (own b) a ≡ false
  earlier a b e = of_own b a ∙ ap is_gt e

  not_after_itself : (a : RowView) → is_after (own a) a ≡ false
  not_after_itself a = of_own a a ∙ ap is_gt (tied_itself (total name) a)

  -- if a row comes after a mark, each row after this row's own mark does too
  still_after : (m : M) (last row : RowView) → is_after m last ≡ true → is_after (own last) row ≡ true → is_after m row ≡ true
  still_after m last row e f = still m last row e (turned_back row last (greater (by_name name row last) (sym (of_own last row) ∙ f)))

  -- the rows after the last row of a page are those that follow the page
  filter-last : (n : ℕ) (rows before : List RowView) (last : RowView) → IsAscendingBy name rows → take n rows ≡ before ++ last ∷ [] → filter (is_after (own last)) rows ≡ drop n rows
  filter-last zero rows [] last up e = cc
  filter-last zero rows (b ∷ before) last up e = cc
  filter-last (suc n) [] [] last up e = cc
  filter-last (suc n) [] (b ∷ before) last up e = cc
  filter-last (suc n) (row ∷ rows) [] last up e =
      let same : row ≡ last = cc in
      let none : take n rows ≡ [] = cc in
      let left : drop n rows ≡ rows = ap (λ (taken : List RowView). taken ++ drop n rows) (sym none) ∙ take-append-drop n rows in
      let all : filter (is_after (own row)) (row ∷ rows) ≡ rows =
      rw (not_after_itself row) (filter_all (is_after (own row)) rows (λ other w. later row other (head_below name row rows other up w))) in
      subst (λ (x : RowView). filter (is_after (own x)) (row ∷ rows) ≡ drop n rows) same (all ∙ sym left)
  filter-last (suc n) (row ∷ rows) (b ∷ before) last up e =
      let rest : take n rows ≡ before ++ last ∷ [] = cc in
      let first = earlier row last (head_below name row rows last up (in_taken n rows before last rest)) in
      rw first (filter-last n rows before last (tail_ascends name row rows up) rest)

  filter-filter : (m : M) (last : RowView) (rows : List RowView) → is_after m last ≡ true → filter (is_after (own last)) (filter (is_after m) rows) ≡ filter (is_after (own last)) rows
  filter-filter m last [] e = refl
  filter-filter m last (row ∷ rows) e = elim (bool_cases (is_after m row)) [
    | inl here ↦ rw here (elim (bool_cases (is_after (own last) row)) [
      | inl also ↦ rw also (ap (λ (rest : List RowView). row ∷ rest) (filter-filter m last rows e))
      | inr past ↦ rw past (filter-filter m last rows e)
    ])
    | inr none ↦ elim (bool_cases (is_after (own last) row)) [
      | inl also ↦ absurd (false≢true (sym none ∙ still_after m last row e also))
      | inr past ↦ rw (none, past) (filter-filter m last rows e)
    ]
  ]

  join_all : (n : ℕ) (rows before : List RowView) (last : RowView) → IsAscendingBy name rows → take n rows ≡ before ++ last ∷ []
      → (rows ≡ take n rows ++ filter (is_after (own last)) rows) × ((nat_lt n (length rows) ≡ true) ↔ (filter (is_after (own last)) rows ≢ []))
  join_all n rows before last up e = joins n rows (filter (is_after (own last)) rows) (filter-last n rows before last up e)

  join_after : (m : M) (n : ℕ) (rows before : List RowView) (last : RowView) → IsAscendingBy name rows → take n (filter (is_after m) rows) ≡ before ++ last ∷ []
      → (filter (is_after m) rows ≡ take n (filter (is_after m) rows) ++ filter (is_after (own last)) rows) × ((nat_lt n (length (filter (is_after m) rows)) ≡ true) ↔ (filter (is_after (own last)) rows ≢ []))
  join_after m n rows before last ascend e =
      let kept = filter (is_after m) rows in
      let up : IsAscendingBy name kept = AllPairs-filter (λ (a b : RowView). by_name name a b ≡ Less) (is_after m) rows ascend in
      let w = in_taken n kept before last e in
      let after : is_after m last ≡ true = rw w.2 at (filter_passes (is_after m) rows w.0 last w.1) in
      joins n kept (filter (is_after (own last)) rows) (sym (filter-filter m last rows after) ∙ filter-last n kept before last up e)

-- if b is less than a, and greater than c, a is greater than c
greater_then : (a b c : List Text) → slice_cmp text_cmp b a ≡ Less → slice_cmp text_cmp b c ≡ Greater → slice_cmp text_cmp a c ≡ Greater
greater_then a b c less more =
    let order = total (λ (t : List Text). t) in
    let below : slice_cmp text_cmp c b ≡ Less = order.antisymm c b ∙ ap ordering_reverse more in
    order.antisymm a c ∙ ap ordering_reverse (order.trans c b a below less)

-- ---- by keys

abbrev key : RowView → KeyTexts
key row = cell_key row.cell

abbrev past_key : KeyTexts → RowView → Bool
past_key k row = is_gt (key_cmp (key row) k)

key_still : (k : KeyTexts) (last row : RowView) → past_key k last ≡ true → by_name key_name last row ≡ Less → past_key k row ≡ true
key_still k last row e less = ap is_gt (greater_then (texts (key row)) (texts (key last)) (texts k) less (greater (key_cmp (key last) k) e))

pub pages_join : PagesJoin
pages_join held u rows m None n before last e = join_all key_name key past_key (λ a b. refl) key_still n rows before last (by_keys held u rows m) e
pages_join held u rows m (Some k) n before last e = join_after key_name key past_key (λ a b. refl) key_still k n rows before last (by_keys held u rows m) e

-- ---- by marks

abbrev past_mark : Mark → RowView → Bool
past_mark m row = comes_after m.key m.binding row

-- if a row's key is greater than k, the keys of the rows after it are too
key_onward : (k : KeyTexts) (last row : RowView) → past_key k last ≡ true → by_name every_name last row ≡ Less → past_key k row ≡ true
key_onward k last row e less =
    let whole = sym (cmp_append (texts (key last)) (texts (key row)) refl (binding_name last.binding) (binding_name row.binding)) ∙ less in
    elim (then_less (key_cmp (key last) (key row)) (slice_cmp text_cmp (binding_name last.binding) (binding_name row.binding)) whole) [
      | inl below ↦ key_still k last row e below
      | inr tied ↦ let same : texts (key last) ≡ texts (key row) = exact_names (texts (key last)) (texts (key row)) tied in ap (λ (t : List Text). is_gt (slice_cmp text_cmp t (texts k))) (sym same) ∙ e
    ]

mark_still : (k : KeyTexts) (b : Option BindingName) (last row : RowView) → comes_after k b last ≡ true → by_name every_name last row ≡ Less → comes_after k b row ≡ true
mark_still k None last row e less = key_onward k last row e less
mark_still k (Some b) last row e less =
    let mark = texts k ++ name_texts (Some b) in
    ap is_gt (greater_then (every_name row) (every_name last) mark less (greater (slice_cmp text_cmp (every_name last) mark) e))

pub every_pages_join : EveryPagesJoin
every_pages_join held u rows every None n before last e =
    join_all every_name mark_of past_mark (λ a b. refl) (λ m. mark_still m.key m.binding) n rows before last every.ordered e
every_pages_join held u rows every (Some m) n before last e =
    join_after every_name mark_of past_mark (λ a b. refl) (λ j. mark_still j.key j.binding) m n rows before last every.ordered e

-- ---- what comes after a mark with a binding, part by part

-- keys with the same texts are the same key
pub same_key : (a b : KeyTexts) → texts a ≡ texts b → a ≡ b
same_key a b e =
    let of : List Text → KeyTexts = λ ts. record {
      principal = get_or ts 0 [];
      namespace = get_or ts 1 [];
      verb = get_or ts 2 [];
      group = get_or ts 3 [];
      resource = get_or ts 4 [];
      name = get_or ts 5 [];
    } in
    ap of e

greater_parts : (o p : Ordering) → ordering_then o p ≡ Greater → (o ≡ Greater) ⊎ ((o ≡ Equal) × (p ≡ Greater))
greater_parts Less p e = cc
greater_parts Equal p e = inr (refl, e)
greater_parts Greater p e = inl refl

pub stands_past : (k : KeyTexts) (b : BindingName) (row : RowView) → (comes_after k (Some b) row ≡ true) ↔ StandsPast k b row
stands_past k b row =
    let mark = texts k ++ name_texts (Some b) in
    let by_key = key_cmp (key row) k in
    let by_binding = slice_cmp text_cmp (binding_name row.binding) (name_texts (Some b)) in
    let parts : slice_cmp text_cmp (every_name row) mark ≡ ordering_then by_key by_binding = cmp_append (texts (key row)) (texts k) refl (binding_name row.binding) (name_texts (Some b)) in (
      λ after. elim (greater_parts by_key by_binding (sym parts ∙ greater (slice_cmp text_cmp (every_name row) mark) after)) [
        | inl above ↦ inl above
        | inr tied ↦ inr (same_key (key row) k (exact_names (texts (key row)) (texts k) tied.0), tied.1)
      ],
      λ past. ap is_gt (parts ∙ elim past [
        | inl above ↦ first_greater by_key by_binding above
        | inr tied ↦ first_tied by_key by_binding (ap (λ (j : KeyTexts). key_cmp j k) tied.0 ∙ tied_itself key_cmp_total k) ∙ tied.1
      ]),
    )
