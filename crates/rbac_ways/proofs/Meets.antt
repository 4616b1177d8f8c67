-- nodes that are met, one after the other
use Rattle.std.proofs.Common.{◌≡◌, ◌≢◌, ◌⊎◌, ◌↔◌, ◌+◌, ◌<◌, ◌≤◌, ◌++◌, ◌∷◌, [], ℕ, zero, suc, List, Option, Some, None, IsSome, Contains, length, length-append, set, inl, inr, refl, sym, ap, ◌∙◌, subst, arith, true, false, get_or-set_same, get_or-set_other}
use Rattle.std.proofs.Math.ListN.{length-set}
use Rattle.std.proofs.lemmas.Bool.{cases_eq}
use Rattle.std.proofs.lemmas.List.Elements.{Contains-append_left, Contains-append_right, Contains-append_cases}
use Rattle.std.proofs.lemmas.Option.{same_Some}
use Rattle.rbac_ways.specs.Meeting.{MeetsNodes, stop_at, unmet}
use Rattle.rbac_ways.specs.declared.graph.Stop.{Stop}

-- a stop or none
pub either : {X : Type 0} (o : Option X) → (o ≡ None) ⊎ ((x : X) × (o ≡ Some x))
either None = inl refl
either (Some x) = inr (x, refl)

pub is_some_of : {X : Type 0} (o : Option X) (x : X) → o ≡ Some x → IsSome o
is_some_of {X = X} o x e = subst (λ (p : Option X). IsSome p) (sym e) refl

pub some_of : {X : Type 0} (o : Option X) → IsSome o → (x : X) × (o ≡ Some x)
some_of None is = absurd (let both : false ≡ true = is in cc)
some_of (Some x) is = (x, refl)

pub none_some : {X : Type 0} (o : Option X) → o ≡ None → IsSome o → ⊥
none_some None e is = let both : false ≡ true = is in cc
none_some (Some y) e is = let both : Some y ≡ None = e in cc

-- what was met stays so
pub still_met : (old new : List (Option Stop)) → ((j : ℕ) (s : Stop) → stop_at old j ≡ Some s → stop_at new j ≡ Some s) → (j : ℕ) → IsSome (stop_at old j) → IsSome (stop_at new j)
still_met old new kept j is = let w = some_of (stop_at old j) is in is_some_of (stop_at new j) w.0 (kept j w.0 w.1)

-- one meeting after another
module _ (DueFirst DueNext Due : ℕ → Type 0) (MayFirst MayNext May : ℕ → Stop → Type 0) (old between new : List (Option Stop)) (before middle after : List ℕ)
    (first : MeetsNodes DueFirst MayFirst old between before middle) (second : MeetsNodes DueNext MayNext between new middle after) where
  was_none : (j : ℕ) → stop_at between j ≡ None → stop_at old j ≡ None
  was_none j none = elim (either (stop_at old j)) [
    | inl e ↦ e
    | inr w ↦ absurd (none_some (stop_at between j) none (is_some_of (stop_at between j) w.0 (first.kept j w.0 w.1)))
  ]

  still : (j : ℕ) → IsSome (stop_at between j) → IsSome (stop_at new j)
  still j is = still_met between new second.kept j is

  pub meets_then : ((j : ℕ) → Due j → DueFirst j ⊎ DueNext j) → ((j : ℕ) (s : Stop) → MayFirst j s → May j s) → ((j : ℕ) (s : Stop) → (DueFirst j → j < length old → ⊥) → MayNext j s → May j s) → MeetsNodes Due May old new before after
  meets_then due one other = record {
    len = second.len ∙ first.len;
    kept = λ j s e. second.kept j s (first.kept j s e);
    due = λ j is low. elim (due j is) [
      | inl d ↦ still j (first.due j d low)
      | inr d ↦ second.due j d (let same = first.len in omega (arith, same, low))
    ];
    may = λ j s none e. elim (either (stop_at between j)) [
      | inl mid ↦ other j s (λ d low. none_some (stop_at between j) mid (first.due j d low)) (second.may j s mid e)
      | inr w ↦ one j s (first.may j s none (w.1 ∙ ap (λ (t : Stop). Some t) (same_Some w.0 s (sym (second.kept j w.0 w.1) ∙ e))))
    ];
    joins = λ j. (
      λ h. elim ((second.joins j).0 h) [
        | inl at ↦ elim ((first.joins j).0 at) [ inl x ↦ inl x | inr x ↦ inr (x.0, still j x.1) ]
        | inr x ↦ inr (was_none j x.0, x.1)
      ],
      λ h. (second.joins j).1 (elim h [
        | inl x ↦ inl ((first.joins j).1 (inl x))
        | inr x ↦ elim (either (stop_at between j)) [
          | inl mid ↦ inr (mid, x.1)
          | inr w ↦ inl ((first.joins j).1 (inr (x.0, is_some_of (stop_at between j) w.0 w.1)))
        ]
      ]),
    );
    room = let r = first.room in let t = second.room in omega (arith, r, t);
  }

-- a node gets a stop
unmet_set : (stops : List (Option Stop)) (j : ℕ) (s : Stop) → j < length stops → stop_at stops j ≡ None → unmet (set stops j (Some s)) + 1 ≡ unmet stops
unmet_set [] j s low none = absurd (omega (arith, low))
unmet_set (o ∷ stops) zero s low none = subst (λ (p : Option Stop). unmet (Some s ∷ stops) + 1 ≡ unmet (p ∷ stops)) (sym none) refl
unmet_set (None ∷ stops) (suc j) s low none = let rest = unmet_set stops j s (omega (arith, low)) none in omega (arith, rest)
unmet_set (Some t ∷ stops) (suc j) s low none = unmet_set stops j s (omega (arith, low)) none

pub one : (x j : ℕ) → Contains (x ∷ []) j → j ≡ x
one x j (zero, low, e) = sym e
one x j (suc k, low, e) = absurd (omega (arith, low))

pub of_pushed : (xs : List ℕ) (x j : ℕ) → Contains (xs ++ x ∷ []) j → Contains xs j ⊎ (j ≡ x)
of_pushed xs x j w = elim (Contains-append_cases xs (x ∷ []) j w) [ inl h ↦ inl h | inr h ↦ inr (one x j h) ]

pub pushed_here : (xs : List ℕ) (x j : ℕ) → j ≡ x → Contains (xs ++ x ∷ []) j
pushed_here xs x j same = Contains-append_right xs (x ∷ []) j (0, omega arith, sym same)

-- one more of several nodes, where each has a stop of its own
pub meets_push : (of : ℕ → Stop) (xs : List ℕ) (x : ℕ) (old between new : List (Option Stop)) (before middle after : List ℕ)
    → MeetsNodes (Contains xs) (λ j s. Contains xs j × (s ≡ of j)) old between before middle → MeetsNodes (λ j. j ≡ x) (λ j s. (j ≡ x) × (s ≡ of x)) between new middle after
    → MeetsNodes (Contains (xs ++ x ∷ [])) (λ j s. Contains (xs ++ x ∷ []) j × (s ≡ of j)) old new before after
meets_push of xs x old between new before middle after first second =
    meets_then (Contains xs) (λ j. j ≡ x) (Contains (xs ++ x ∷ [])) (λ j s. Contains xs j × (s ≡ of j)) (λ j s. (j ≡ x) × (s ≡ of x)) (λ j s. Contains (xs ++ x ∷ []) j × (s ≡ of j)) old between new before middle after first second
    (of_pushed xs x)
    (λ j s w. (Contains-append_left xs (x ∷ []) j w.0, w.1))
    (λ j s not w. (pushed_here xs x j w.0, w.1 ∙ ap of (sym w.0)))

pub meets_one : (node : ℕ) (stop : Stop) (stops : List (Option Stop)) (level : List ℕ) → node < length stops → stop_at stops node ≡ None
    → MeetsNodes (λ j. j ≡ node) (λ j s. (j ≡ node) × (s ≡ stop)) stops (set stops node (Some stop)) level (level ++ node ∷ [])
meets_one node stop stops level low none =
    let new = set stops node (Some stop) in
    let here : stop_at new node ≡ Some stop = get_or-set_same stops node (Some stop) None low in
    let there : (j : ℕ) → j ≢ node → stop_at new j ≡ stop_at stops j = λ j ne. get_or-set_other stops node j (Some stop) None ne in
    record {
      len = length-set stops node (Some stop);
      kept = λ j s e. elim (cases_eq j node) [
        | inl same ↦ absurd (none_some (stop_at stops j) (subst (λ (k : ℕ). stop_at stops k ≡ None) (sym same) none) (is_some_of (stop_at stops j) s e))
        | inr ne ↦ there j ne ∙ e
      ];
      due = λ j same l. subst (λ (k : ℕ). IsSome (stop_at new k)) (sym same) (is_some_of (stop_at new node) stop here);
      may = λ j s was e. elim (cases_eq j node) [
        | inl same ↦ (same, sym (same_Some stop s (sym here ∙ subst (λ (k : ℕ). stop_at new k ≡ Some s) same e)))
        | inr ne ↦ absurd (none_some (stop_at stops j) was (is_some_of (stop_at stops j) s (sym (there j ne) ∙ e)))
      ];
      joins = λ j. (
        λ h. elim (Contains-append_cases level (node ∷ []) j h) [
          | inl x ↦ inl x
          | inr x ↦ (let same : j ≡ node = one node j x in inr (subst (λ (k : ℕ). stop_at stops k ≡ None) (sym same) none, subst (λ (k : ℕ). IsSome (stop_at new k)) (sym same) (is_some_of (stop_at new node) stop here)))
        ],
        λ h. elim h [
          | inl x ↦ Contains-append_left level (node ∷ []) j x
          | inr x ↦ elim (cases_eq j node) [
            | inl same ↦ Contains-append_right level (node ∷ []) j (0, omega arith, sym same)
            | inr ne ↦ absurd (none_some (stop_at new j) (there j ne ∙ x.0) x.1)
          ]
        ],
      );
      room = let less = unmet_set stops node stop low none in let more = length-append level (node ∷ []) in omega (arith, less, more);
    }

-- the nodes that were met now, put in order
pub meets_in_order : (Due : ℕ → Type 0) (May : ℕ → Stop → Type 0) (old new : List (Option Stop)) (level ordered : List ℕ)
    → ((n : ℕ) → Contains ordered n ↔ Contains level n) → length ordered ≤ length level → MeetsNodes Due May old new [] level → MeetsNodes Due May old new [] ordered
meets_in_order Due May old new level ordered same fewer meets = record {
  len = meets.len;
  kept = meets.kept;
  due = meets.due;
  may = meets.may;
  joins = λ j. (λ h. (meets.joins j).0 ((same j).0 h), λ h. (same j).1 ((meets.joins j).1 h));
  room = let r = meets.room in omega (arith, fewer, r);
}
