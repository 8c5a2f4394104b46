-- Private structs as what they stand for, and answers of private functions. No public clause cites them.
use Rattle.std.specs.Prelude.{◌≡◌, ℕ, ◌+◌, ◌⊎◌, ◌<◌, List, length, map, All, Bool, nat_lt, ◌==◌, ◌||◌, not, false}
use Rattle.std.specs.Prelude.{slice_index, slice_set, Option, Some, None, Result, Ok, Err, if◌then◌else◌}
use Rattle.std.specs.List.{list_all}
use Rattle.std.specs.Option.{option_map}
use Rattle.acfg_base.specs.Release.{is_read_write}
use Rattle.acfg_views.specs.Layout.{Package, Flag}
use Rattle.acfg_views.specs.Reading.{OpenList, byte_in}
use Rattle.acfg_images.specs.Faults.{same_bit}
use Rattle.acfg_images.specs.Set.{start_of, has_read_write}
use Rattle.acfg_images.specs.declared.fault.ImageFault.{ImageFault}
use Rattle.acfg_images.specs.declared.fault.ImageFault.TheVariants.{OutOfMemory, Disagree}
use Rattle.acfg_images.specs.declared.fault.Point2.TheVariants.{Kind}
use Rattle.acfg_images.specs.Words.{least}
use Rattle.acfg_images.specs.declared.links.NodeLink.{NodeLink}
use Rattle.acfg_images.specs.Links.{Link, bucket_of}

-- an answer, with its value seen by view, is this one, but for want of memory
abbrev pub Tells : {X Y : Type 0} → (X → Y) → Result X ImageFault → Result Y ImageFault → Type 0
Tells view (Ok x) read = read ≡ Ok (view x)
Tells view (Err e) read = (e ≡ OutOfMemory) ⊎ (read ≡ Err e)

abbrev pub link_of : NodeLink → Link
link_of link = record { at = link.at; key = record { owner = link.owner; name = link.name.now }; next = link.next }

abbrev pub links_of : List NodeLink → List Link
links_of links = map link_of links

-- a link has its bucket among so many
abbrev pub HasBucket : ℕ → NodeLink → Type 0
HasBucket count link = link.bucket ≡ bucket_of count (record { owner = link.owner; name = link.name.now })

abbrev pub HaveBuckets : ℕ → List NodeLink → Type 0
HaveBuckets count links = All (HasBucket count) links

-- links whose buckets are those of one count
abbrev pub KnowBuckets : List NodeLink → Type 0
KnowBuckets links = (count : ℕ) × HaveBuckets count links

-- a flag's global index, by a table of starts
abbrev pub table_index : List ℕ → Flag → ℕ
table_index starts flag = slice_index starts flag.package_id + flag.index

-- whether the bit that stands at an index is a flag's type
abbrev pub bit_agrees : OpenList → ℕ → Flag → Bool
bit_agrees infos k flag = same_bit (has_read_write (byte_in infos k)) (is_read_write flag.kind)

abbrev pub kind_fits : OpenList → List ℕ → ℕ → Flag → Bool
kind_fits infos starts k flag = not (table_index starts flag == k) || bit_agrees infos k flag

-- the flag's index, where it is below the count and the bit there isn't the flag's type
abbrev pub misfit : OpenList → List ℕ → Flag → Option ℕ
misfit infos starts flag =
    if nat_lt (table_index starts flag) infos.count then (if bit_agrees infos
    (table_index starts flag) flag then None else Some (table_index starts flag)) else None

-- marks without the one of a place
abbrev pub unmarked : Option ℕ → List Bool → List Bool
unmarked None marks = marks
unmarked (Some k) marks = slice_set marks k false

-- a table of starts holds, at each id in it, where the package's flags start
abbrev pub HasStarts : List ℕ → List Package → Type 0
HasStarts starts packages = (id : ℕ) → id < length starts → slice_index starts id ≡ start_of packages id

-- the fault of a flag's type, by a table of starts and over all infos
abbrev pub kind_fault_by : List ℕ → List Flag → OpenList → Option ImageFault
kind_fault_by starts flags infos =
    option_map (λ k. Disagree Kind k (byte_in infos k)) (least (λ k. not (list_all
    (kind_fits infos starts k) flags)) 0 infos.count)
