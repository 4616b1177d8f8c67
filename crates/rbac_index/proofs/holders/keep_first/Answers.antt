use Rattle.std.proofs.Common.{◌≡◌, ◌∙◌, sym, refl, inl, inr, is_some, nat_eq, false, Option}
use Rattle.std.specs.Prelude.{Some, None}
use Rattle.std.proofs.lemmas.Cmp.{nat_eq_equiv}
use Rattle.std.proofs.lemmas.Map.Views.{exact_unsigned_eq, hash_map_contains_key_iff}
use Rattle.indexmap.specs.IndexMap.{get}
use Rattle.indexmap.proofs.CallerLemmas.{insert_entry-new}
use Rattle.rbac_index.proofs.holders.keep_first.Goals as goal

is_none_of : {X : Type 0} (o : Option X) → is_some o ≡ false → o ≡ None
is_none_of None e = refl
is_none_of (Some x) e = cc

pub returns-in_ok-insert : goal.returns-in_ok-insert
returns-in_ok-insert c =
    let old = c.args.firsts.now in
    let off : is_some (get nat_eq old c.args.rank) ≡ false = sym c.contains_key.ensures ∙ c.if-not-contains_key.true in
    let none : get nat_eq old c.args.rank ≡ None = is_none_of (get nat_eq old c.args.rank) off in
    inr (
      c.in_ok-insert.ensures.entries ∙ insert_entry-new nat_eq old c.args.rank c.args.sighting none,
      λ w.
          let on = (hash_map_contains_key_iff nat_eq_equiv exact_unsigned_eq old c.args.rank).1 w in
          cc,
    )

pub returns-else-not-contains_key : goal.returns-else-not-contains_key
returns-else-not-contains_key c = inl (refl, (hash_map_contains_key_iff nat_eq_equiv exact_unsigned_eq c.args.firsts.now c.args.rank).0 (sym c.contains_key.ensures ∙ c.if-not-contains_key.false))
