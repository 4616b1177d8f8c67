-- Contents, with more after them.
use Rattle.std.proofs.Common.{◌≡◌, ℕ, List, [], ◌∷◌, ◌++◌, ◌+◌, ◌<◌, length, drop, get_or, refl, sym, ap, ◌∙◌, append_assoc}
use Rattle.std.specs.List.{flat_map, list_any}
use Rattle.std.proofs.Math.Bool.{or_assoc, or-false}
use Rattle.std.proofs.lemmas.List.{append-nil, drop_more}
use Rattle.std.proofs.lemmas.List.Elements.{filter_map-append}
use Rattle.std.proofs.lemmas.List.Folds.{list_any-append}
use Rattle.std.proofs.lemmas.Grind.{flat_map-append}
use Rattle.rbac_manifest.specs.declared.content.Content.{Content}
use Rattle.rbac_manifest.specs.Load.{all_contents, contents_of_file}
use Rattle.rbac_manifest.specs.Contents.{ContentsView, sorted_contents, with_contents, objects_in, namespaces_in, accounts_in, documents_in, memberships_in, as_object, as_namespace, as_account, as_lists, as_membership, is_api_list, api_entries}

-- nothing more
pub contents_none : (g : ContentsView) → with_contents g [] ≡ g
unfolding with_contents
contents_none g = rw (append-nil g.objects, append-nil g.namespaces, append-nil g.accounts, append-nil g.documents, append-nil g.memberships, append-nil g.catalogue.entries, or-false g.catalogue.is_given) refl

-- what is given first, and what is given after it
pub contents_more : (g : ContentsView) (xs ys : List Content) → with_contents (with_contents g xs) ys ≡ with_contents g (xs ++ ys)
unfolding with_contents
contents_more g xs ys = rw (
  filter_map-append as_object xs ys,
  ← append_assoc g.objects (objects_in xs) (objects_in ys),
  filter_map-append as_namespace xs ys,
  ← append_assoc g.namespaces (namespaces_in xs) (namespaces_in ys),
  filter_map-append as_account xs ys,
  ← append_assoc g.accounts (accounts_in xs) (accounts_in ys),
  filter_map-append as_lists xs ys,
  ← append_assoc g.documents (documents_in xs) (documents_in ys),
  filter_map-append as_membership xs ys,
  ← append_assoc g.memberships (memberships_in xs) (memberships_in ys),
  list_any-append is_api_list xs ys,
  or_assoc g.catalogue.is_given (list_any is_api_list xs) (list_any is_api_list ys),
  flat_map-append api_entries xs ys,
  ← append_assoc g.catalogue.entries (flat_map api_entries xs) (flat_map api_entries ys),
) refl

-- what is given at all, begun with nothing
pub contents_first : (xs : List Content) → with_contents (sorted_contents []) xs ≡ sorted_contents xs
unfolding sorted_contents with_contents
contents_first xs = refl

-- nothing is left
pub contents_all : (g whole : ContentsView) (gs : List Content) → gs ≡ [] → with_contents g gs ≡ whole → g ≡ whole
contents_all g whole gs none e = sym (contents_none g) ∙ ap (with_contents g) (sym none) ∙ e

-- one file more
pub contents_next : (g next whole : ContentsView) (inputs : List (List ℕ)) (file : ℕ) (bytes : List ℕ)
    → file < length inputs
    → bytes ≡ get_or inputs file bytes
    → next ≡ with_contents g (contents_of_file bytes)
    → with_contents g (all_contents (drop file inputs)) ≡ whole
    → with_contents next (all_contents (drop (file + 1) inputs)) ≡ whole
contents_next g next whole inputs file bytes h at took e =
    let more : drop file inputs ≡ bytes ∷ drop (file + 1) inputs = drop_more inputs file bytes h ∙ ap (λ b. b ∷ drop (file + 1) inputs) (sym at) in
    ap (λ x. with_contents x (all_contents (drop (file + 1) inputs))) took
    ∙ contents_more g (contents_of_file bytes) (all_contents (drop (file + 1) inputs))
    ∙ ap (λ bs. with_contents g (all_contents bs)) (sym more)
    ∙ e
