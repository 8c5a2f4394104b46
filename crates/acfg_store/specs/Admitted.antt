-- Private: a set that was loaded, as a container takes it or as an update of it is refused. No public clause cites it.
use Rattle.std.specs.Prelude.{◌≡◌, ℕ, List, Option, Some, None, Result, Ok, Err}
use Rattle.acfg_images.specs.declared.fault.ImageFault.{ImageFault}
use Rattle.acfg_images.specs.declared.fault.ImageFault.TheVariants as fault
use Rattle.acfg_images.specs.declared.purpose.Use.TheVariants as purpose
use Rattle.acfg_images.specs.Faults.{Opened, checked, parts_in}
use Rattle.acfg_images.specs.Files as four
use Rattle.acfg_images.specs.Set.{IsSetOf}
use Rattle.acfg_model.specs.declared.refusals.Refusal.{Refusal}
use Rattle.acfg_model.specs.declared.refusals.Refusal.TheVariants.{BadImage, FilesDisagree, MissingFile}
use Rattle.acfg_model.specs.declared.requests.Loaded.{Loaded}
use Rattle.acfg_model.specs.declared.requests.Loaded.TheVariants as loaded
use Rattle.acfg_store.specs.declared.admitting.Listing.{Listing}
use Rattle.acfg_store.specs.declared.installing.Incoming.{Incoming}
use Rattle.acfg_store.specs.Loading.{set_loads}
use Rattle.acfg_store.specs.Updated.{IsIncoming}

-- what loads as an update that is refused so
abbrev pub refusing : Refusal → Option Loaded
refusing MissingFile = Some loaded.Missing
refusing BadImage = Some loaded.Bad
refusing FilesDisagree = Some loaded.Disagree
refusing other = None

-- the fault of a check, as what it loads as
abbrev pub IsRefusalOf : ImageFault → Refusal → Type 0
IsRefusalOf (fault.TooLarge bytes) refusal = refusal ≡ BadImage
IsRefusalOf (fault.View file why) refusal = refusal ≡ BadImage
IsRefusalOf (fault.Node file at) refusal = refusal ≡ BadImage
IsRefusalOf (fault.Twice file at) refusal = refusal ≡ BadImage
IsRefusalOf (fault.Chain file at) refusal = refusal ≡ BadImage
IsRefusalOf (fault.Bits file at) refusal = refusal ≡ BadImage
IsRefusalOf (fault.Disagree what a b) refusal = refusal ≡ FilesDisagree
IsRefusalOf fault.OutOfMemory refusal = ⊥

-- what is known of a set that passed its check
pub record IsChecked (set : four.Files) (opened : Opened) : Type 0 where
  pub passes : checked purpose.Release set ≡ Ok opened
  pub is_set : IsSetOf set purpose.Release (parts_in opened)

-- a set with what is listed of it
abbrev pub incoming_of : four.Files → Listing → Incoming
incoming_of set listing = record {
  set = set;
  digest = listing.digest;
  release = listing.release;
  indexes = listing.indexes;
  count = listing.count;
}

-- what a set loads as for a container: the release that the container takes, or what is refused so
abbrev pub IsAdmitted : (name : List ℕ) (set : four.Files) → Result Incoming Refusal → Type 0
IsAdmitted name set (Ok incoming) =
    IsIncoming name incoming × (set_loads name (Some set) ≡ loaded.Release incoming.digest incoming.release)
IsAdmitted name set (Err refusal) = refusing refusal ≡ Some (set_loads name (Some set))

abbrev pub IsListing : (name : List ℕ) (set : four.Files) → Result Listing Refusal → Type 0
IsListing name set (Ok listing) =
    IsIncoming name (incoming_of set listing)
    × (set_loads name (Some set) ≡ loaded.Release listing.digest listing.release)
IsListing name set (Err refusal) = refusing refusal ≡ Some (set_loads name (Some set))
