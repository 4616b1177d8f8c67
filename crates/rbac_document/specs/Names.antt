-- Names by which the entries of lists are ordered: each entry has one of its own.
use Rattle.std.specs.Prelude.{◌≡◌, refl, ◌==◌, Bool, true, false, List, [], ◌∷◌, codes, slice_index}
use Rattle.std.specs.Str.{bytes_eq}
use Rattle.rbac_terms.specs.Text.{Text}
use Rattle.rbac_terms.specs.Principals.{Who, AsUser, AsMember, who_key, given_of, who_of}
use Rattle.rbac_universe.specs.declared.lists.ListedResource.{ListedResource}

-- a text is its own name
abbrev pub word_name : Text → List Text
word_name word = word ∷ []

-- a principal's key, and the groups that it is given
abbrev pub principal_name : Who → List Text
principal_name who = who_key who ∷ given_of who

-- a flag as a text; false is less
abbrev pub flag_text : Bool → Text
flag_text true = codes "true"
flag_text false = codes "false"

-- a resource's group and text, and whether it is namespaced
abbrev pub resource_name : ListedResource → List Text
resource_name r = r.group ∷ r.text ∷ flag_text r.namespaced ∷ []

-- ---- the entry of a name

-- the text with this name
abbrev pub word_named : List Text → Text
word_named [] = []
word_named (word ∷ names) = word

-- a text has a name of its own
pub word_named_name : (word : Text) → word_named (word_name word) ≡ word
word_named_name word = refl

-- whether the key is a user's
abbrev pub is_user_key : Text → Bool
is_user_key key = slice_index key 0 == 117

-- the principal with this name
abbrev pub principal_named : List Text → Who
principal_named [] = AsMember []
principal_named (key ∷ given) = who_of (is_user_key key) key given

-- a principal has a name of its own
pub principal_named_name : (who : Who) → principal_named (principal_name who) ≡ who
principal_named_name (AsUser name given) = refl
principal_named_name (AsMember group) = refl

-- the resource with this name
abbrev pub resource_named : List Text → ListedResource
resource_named (group ∷ text ∷ flag ∷ []) = record {
  group = group;
  text = text;
  namespaced = bytes_eq flag (codes "true");
}
resource_named _ = record { group = []; text = []; namespaced = false }

-- a flag is read back from its text
resource_flag : (flag : Bool) → bytes_eq (flag_text flag) (codes "true") ≡ flag
resource_flag true = refl
resource_flag false = refl

-- a resource has a name of its own
pub resource_named_name : (r : ListedResource) → resource_named (resource_name r) ≡ r
resource_named_name r =
    λ i. record { group = r.group; text = r.text; namespaced = resource_flag r.namespaced i }
