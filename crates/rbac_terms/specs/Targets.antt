use Rattle.std.specs.Prelude.{◌≡◌, ◌≢◌, [], Bool, true, false, codes, nat_eq}
use Rattle.std.specs.List.{starts_with}
use Rattle.rbac_terms.specs.Text.{Text, BeginsWith}

-- what a request is for: a resource by API group, resource text and object name, or a URL by its
-- path (Using RBAC Authorization)
pub data What : Type 0 where
  Resource : (group text name : Text) → What
  Url : (path : Text) → What

-- a path begins with a slash (own, after the paths of API requests)
abbrev pub IsPath : Text → Type 0
IsPath text = BeginsWith text (codes "/")

-- whether a text is a path
abbrev pub is_path : Text → Bool
is_path text = starts_with nat_eq text (codes "/")

-- a resource text isn't empty, and isn't a path (own)
abbrev pub IsResourceText : Text → Type 0
IsResourceText text = (text ≢ []) × (¬ IsPath text)

-- a target is a resource by its resource text, or a URL by its path (own)
abbrev pub IsProper : What → Type 0
IsProper (Resource group text name) = IsResourceText text
IsProper (Url path) = IsPath path

-- the API group of a target; empty for the core group and for a URL
abbrev pub group_of : What → Text
group_of (Resource group text name) = group
group_of (Url path) = []

-- the resource text of a target, or its path
abbrev pub text_of : What → Text
text_of (Resource group text name) = text
text_of (Url path) = path

-- the object name of a target; empty if no object is named, and for a URL
abbrev pub name_of : What → Text
name_of (Resource group text name) = name
name_of (Url path) = []

-- the target is a URL
abbrev pub IsUrl : What → Type 0
IsUrl t = t ≡ Url (text_of t)

-- the target is a resource
abbrev pub IsResource : What → Type 0
IsResource t = t ≡ Resource (group_of t) (text_of t) (name_of t)

-- the target, from the program's fields: a flag that is true for a URL, and three texts
abbrev pub what_of : Bool → Text → Text → Text → What
what_of true group text name = Url text
what_of false group text name = Resource group text name
