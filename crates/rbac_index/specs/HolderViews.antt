use Rattle.std.specs.Prelude.{◌≡◌, ◌⊎◌, ◌++◌, ◌∷◌, [], ℕ, Bool, true, false, List, Contains, map}
use Rattle.indexmap.specs.IndexMap.{IndexMap, keys}
use Rattle.rbac_terms.specs.Text.{Text}
use Rattle.rbac_model.specs.Holders.{HolderView}
use Rattle.rbac_index.specs.declared.sightings.Sighting.{Sighting}
use Rattle.rbac_index.specs.declared.holders.Holder.{Holder}
use Rattle.rbac_index.specs.declared.requested.Requested.{Requested}
use Rattle.rbac_index.specs.declared.requested.Requested.TheVariants.{ThisTarget as This}
use Rattle.rbac_index.specs.declared.requested.Requested.TheVariants.{AnyName as OfAnyName}
use Rattle.rbac_index.specs.Requested.{RequestedView, ThisTarget, AnyName}

-- what contracts see of what is requested
abbrev pub requested_of : Requested → RequestedView
requested_of (This target) = ThisTarget target.now
requested_of (OfAnyName target) = AnyName target.now

-- the holder of a sighting
abbrev pub holder_of : Sighting → HolderView
holder_of s = record {
  key = s.key;
  binding = s.binding.now;
  binding_place = s.binding_place;
  subject_place = s.subject_place;
}

-- the holders of sightings, in order
abbrev pub sighted : List Sighting → List HolderView
sighted ss = map holder_of ss

-- the number in a label: the binding's place if each key is listed with every binding, otherwise 0
abbrev pub once_in : Bool → ℕ → ℕ
once_in true binding_place = binding_place
once_in false binding_place = 0

-- the label of a sighting, which is listed once: the key after that number
abbrev pub label_of : Bool → Sighting → Text
label_of every s = once_in every s.binding_place ∷ s.key

-- the labels of sightings, in order
abbrev pub labels_seen : Bool → List Sighting → List Text
labels_seen every ss = map (label_of every) ss

-- new is old if the rank is among old's, and otherwise old with the sighting added at the end
abbrev pub KeepsFirst : {S : Type 0} → IndexMap ℕ Sighting S → IndexMap ℕ Sighting S → ℕ
    → Sighting → Type 0
KeepsFirst old new rank s = ((new ≡ old) × Contains (keys old) rank)
    ⊎ ((new.entries ≡ old.entries ++ (rank, s) ∷ []) × ¬ Contains (keys old) rank)

-- what contracts see of a holder
abbrev pub holder_shown : Holder → HolderView
holder_shown x = record {
  key = x.principal.now;
  binding = x.binding.now;
  binding_place = x.binding_place;
  subject_place = x.subject_place;
}
