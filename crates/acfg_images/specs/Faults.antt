-- The first fault of four files, in the order in which it is told: sizes, headers, nodes with their buckets and links
-- (package.map and then flag.map), bits, and what has to agree.
use Rattle.std.specs.Prelude.{◌≡◌, ℕ, zero, suc, ◌+◌, ◌-◌, ◌*◌, ◌^◌, List, [], ◌∷◌, ◌++◌, length, map, drop, min}
use Rattle.std.specs.Prelude.{count_by, slice_index, Bool, true, false, nat_lt, ◌==◌, ◌||◌, not, Option}
use Rattle.std.specs.Prelude.{Some, None, Result, Ok, Err, if◌then◌else◌}
use Rattle.std.specs.List.{list_any, list_all}
use Rattle.std.specs.Option.{option_map}
use Rattle.std.specs.Str.{bytes_eq}
use Rattle.acfg_base.specs.Release.{is_read_write}
use Rattle.acfg_views.specs.declared.fault.ViewFault.{ViewFault}
use Rattle.acfg_views.specs.Fields.{numbers}
use Rattle.acfg_views.specs.Layout.{Package, Flag, package_map_type, flag_map_type, flag_val_type}
use Rattle.acfg_views.specs.Layout.{flag_info_type, MOST_BYTES}
use Rattle.acfg_views.specs.Reading.{OpenMap, OpenList, opened_map, opened_list, package_at, flag_at, bucket_count}
use Rattle.acfg_views.specs.Reading.{byte_in}
use Rattle.acfg_views.specs.Parts.{parts_of, list_parts_of}
use Rattle.acfg_images.specs.declared.fault.FileType.{FileType}
use Rattle.acfg_images.specs.declared.fault.FileType.TheVariants.{PackageMap, FlagMap, FlagVal, FlagInfo}
use Rattle.acfg_images.specs.declared.fault.Point2.TheVariants.{Container, Id, Count, Index}
use Rattle.acfg_images.specs.declared.fault.Point2.TheVariants as on
use Rattle.acfg_images.specs.declared.fault.ImageFault.{ImageFault}
use Rattle.acfg_images.specs.declared.fault.ImageFault.TheVariants.{TooLarge, View, Node, Twice, Chain, Bits, Disagree}
use Rattle.acfg_images.specs.declared.purpose.Use.{Use}
use Rattle.acfg_images.specs.declared.purpose.Use.TheVariants.{Release, Copy}
use Rattle.acfg_images.specs.Files.{Files, bytes_in_all}
use Rattle.acfg_images.specs.Words.{least}
use Rattle.acfg_images.specs.Links.{NodeKey, Link, same_key, bucket_of, first_in, package_links, flag_links}
use Rattle.acfg_images.specs.Set.{SetParts, index_of, has_read_write}

-- what comes of a step, where the one before it found no fault
infixl 10 ◌>>=◌
abbrev pub ◌>>=◌ : {A B : Type 0} → Result A ImageFault → (A → Result B ImageFault) → Result B ImageFault
(Ok x) >>= f = f x
(Err e) >>= f = Err e

abbrev pub unless : {A : Type 0} → Option ImageFault → Result A ImageFault → Result A ImageFault
unless None read = read
unless (Some fault) read = Err fault

-- the first of two faults
abbrev pub or_else : {A : Type 0} → Option A → Option A → Option A
or_else None later = later
or_else (Some first) later = Some first

-- ---- sizes

abbrev pub too_large : Files → Option ImageFault
too_large files =
    if nat_lt MOST_BYTES (bytes_in_all files) then Some (TooLarge (min (bytes_in_all files) (2 ^ 64 - 1))) else None

-- ---- headers

-- the four files, opened
pub record Opened : Type 0 where
  pub package_map : OpenMap
  pub flag_map : OpenMap
  pub values : OpenList
  pub infos : OpenList

abbrev pub view_of : {A : Type 0} → FileType → Result A ViewFault → Result A ImageFault
view_of file (Ok view) = Ok view
view_of file (Err fault) = Err (View file fault)

unfoldable pub opened_files : Files → Result Opened ImageFault
opened_files files = do
  packages ← view_of PackageMap (opened_map package_map_type files.package_map)
  flags ← view_of FlagMap (opened_map flag_map_type files.flag_map)
  values ← view_of FlagVal (opened_list flag_val_type files.flag_val)
  infos ← view_of FlagInfo (opened_list flag_info_type files.flag_info)
  Ok (record { package_map = packages; flag_map = flags; values = values; infos = infos })

-- ---- nodes

-- Nodes are read one after another, as many as there have to be. Where one is refused, or bytes stand behind the last
-- one, these are the bytes from there on.
abbrev pub next_node : {N : Type 0} → Result (N × List ℕ) ViewFault → List ℕ → (List ℕ
    → Result (List N) (List ℕ)) → Result (List N) (List ℕ)
next_node (Err fault) tail others = Err tail
next_node (Ok (node, rest)) tail others = behind node (others rest)
  where
    behind : {N : Type 0} → N → Result (List N) (List ℕ) → Result (List N) (List ℕ)
    behind node (Ok nodes) = Ok (node ∷ nodes)
    behind node (Err rest) = Err rest

abbrev pub nodes_from : {N : Type 0} → (List ℕ → Result (N × List ℕ) ViewFault) → ℕ → List ℕ → Result (List N) (List ℕ)
nodes_from read zero [] = Ok []
nodes_from read zero (byte ∷ bytes) = Err (byte ∷ bytes)
nodes_from read (suc count) tail = next_node (read tail) tail (nodes_from read count)

-- the nodes of an open map, or the bytes from the first fault among them on
unfoldable pub nodes_in : {N : Type 0} → (List ℕ → Result (N × List ℕ) ViewFault) → OpenMap → Result (List N) (List ℕ)
nodes_in read map = nodes_from read map.count (drop map.first_node map.file)

abbrev pub nodes_of : {N : Type 0} → FileType → ℕ → Result (List N) (List ℕ) → Result (List N) ImageFault
nodes_of file size (Ok nodes) = Ok nodes
nodes_of file size (Err rest) = Err (Node file (size - length rest))

-- ---- keys, buckets and links

-- where the first node stands whose key an earlier node has
abbrev pub twice_behind : List NodeKey → List Link → Option ℕ
twice_behind earlier [] = None
twice_behind earlier (link ∷ links) =
    if list_any (same_key link.key) earlier then Some link.at else twice_behind (earlier ++ link.key ∷ []) links

abbrev pub twice : List Link → Option ℕ
twice links = twice_behind [] links

-- the first bucket that doesn't hold where its first node stands
abbrev pub wrong_bucket : List ℕ → List Link → Option ℕ
wrong_bucket buckets links =
    least (λ b. not (slice_index buckets b == first_in (length buckets) b links)) 0 (length buckets)

-- where the first node stands whose next isn't that of the next node of its bucket
abbrev pub wrong_next : ℕ → List Link → Option ℕ
wrong_next count [] = None
wrong_next count (link ∷ links) =
    if link.next == first_in count (bucket_of count link.key) links then wrong_next count links else Some link.at

-- the first wrong bucket, at its own place, or else the first node with a wrong next
abbrev pub wrong_chain : (first_bucket : ℕ) → List ℕ → List Link → Option ℕ
wrong_chain first_bucket buckets links =
    or_else (option_map (λ b. first_bucket + 4 * b) (wrong_bucket buckets links)) (wrong_next (length buckets) links)

abbrev pub buckets_in : OpenMap → List ℕ
buckets_in map = numbers (bucket_count map) (drop map.first_bucket map.file)

-- the first key that comes twice, or else the first wrong bucket or link
abbrev pub wrong_links : FileType → (first_bucket : ℕ) → List ℕ → List Link → Option ImageFault
wrong_links file first_bucket buckets links =
    or_else (option_map (Twice file) (twice links)) (option_map (Chain file) (wrong_chain first_bucket buckets links))

abbrev pub link_fault : FileType → OpenMap → List Link → Option ImageFault
link_fault file map links = wrong_links file map.first_bucket (buckets_in map) links

-- ---- bits

abbrev pub is_info : Use → ℕ → Bool
is_info Release byte = byte == 0 || byte == 2
is_info Copy byte = byte == 0 || byte == 2 || byte == 3 || byte == 6 || byte == 7

abbrev pub bits_fault : Use → Opened → Option ImageFault
bits_fault purpose opened = or_else
    (option_map (Bits FlagVal) (least (λ i. nat_lt 1 (byte_in opened.values i)) 0 opened.values.count))
    (option_map (Bits FlagInfo) (least (λ i. not (is_info purpose (byte_in opened.infos i))) 0 opened.infos.count))

-- ---- what has to agree

abbrev pub container_fault : Opened → Option ImageFault
container_fault opened =
    let container = opened.package_map.container in
    if not (bytes_eq opened.flag_map.container container) then Some (Disagree Container 1 0)
    else (if not (bytes_eq opened.values.container container) then Some (Disagree Container 2 0)
    else (if not (bytes_eq opened.infos.container container) then Some (Disagree Container 3 0)
    else None))

abbrev pub id_fault : List Package → Option ImageFault
id_fault packages =
    let count = length packages in
    option_map (λ k. Disagree Id k count) (least (λ k. not (list_any (λ node. node.id == k) packages)) 0 count)

abbrev pub count_fault : Opened → Option ImageFault
count_fault opened =
    let count = opened.flag_map.count in
    if not (opened.values.count == count) then Some (Disagree Count opened.values.count count)
    else (if not (opened.infos.count == count) then Some (Disagree Count opened.infos.count count)
    else None)

-- the first package id of a flag that is none of so many
abbrev pub stray_id : ℕ → List Flag → Option ℕ
stray_id count [] = None
stray_id count (flag ∷ flags) = if nat_lt flag.package_id count then stray_id count flags else Some flag.package_id

abbrev pub package_fault : ℕ → List Flag → Option ImageFault
package_fault count flags = option_map (λ id. Disagree on.Package id count) (stray_id count flags)

-- how many of these global indexes are this one
abbrev pub having : List ℕ → ℕ → ℕ
having indexes index = count_by (λ n. n == index) indexes

abbrev pub index_fault : List ℕ → Option ImageFault
index_fault indexes =
    option_map (λ k. Disagree Index k (having indexes k)) (least (λ k. not (having indexes k == 1)) 0 (length indexes))

abbrev pub same_bit : Bool → Bool → Bool
same_bit true bit = bit
same_bit false bit = not bit

-- whether a flag, if it has this index, has the type of the read-write bit
abbrev pub bit_fits : List Package → OpenList → ℕ → Flag → Bool
bit_fits packages infos index flag =
    not (index_of packages flag == index) || same_bit (has_read_write (byte_in infos index)) (is_read_write flag.kind)

abbrev pub kind_fault : List Package → List Flag → OpenList → Option ImageFault
kind_fault packages flags infos =
    option_map (λ k. Disagree on.Kind k (byte_in infos k)) (least (λ k. not (list_all
    (bit_fits packages infos k) flags)) 0 (length flags))

-- the first fault of global indexes, or else of the flags' types
abbrev pub indexed_fault : List Package → List Flag → OpenList → Option ImageFault
indexed_fault packages flags infos =
    or_else (index_fault (map (index_of packages) flags)) (kind_fault packages flags infos)

abbrev pub disagreement : Opened → List Package → List Flag → Option ImageFault
disagreement opened packages flags =
    or_else (container_fault opened)
    (or_else (id_fault packages)
    (or_else (count_fault opened)
    (or_else (package_fault (length packages) flags)
    (indexed_fault packages flags opened.infos))))

-- ---- the whole set

abbrev pub nodes_or_none : {N : Type 0} → Result (List N) (List ℕ) → List N
nodes_or_none (Ok nodes) = nodes
nodes_or_none (Err rest) = []

abbrev pub packages_in : Opened → List Package
packages_in opened = nodes_or_none (nodes_in package_at opened.package_map)

abbrev pub flags_in : Opened → List Flag
flags_in opened = nodes_or_none (nodes_in flag_at opened.flag_map)

-- the parts of four open files
abbrev pub parts_in : Opened → SetParts
parts_in opened = record {
  package_map = parts_of opened.package_map (packages_in opened);
  flag_map = parts_of opened.flag_map (flags_in opened);
  values = list_parts_of opened.values;
  infos = list_parts_of opened.infos;
}

-- the packages, where no fault stands in package.map
unfoldable pub package_part : OpenMap → Result (List Package) ImageFault
package_part map =
    nodes_of PackageMap (length map.file) (nodes_in package_at map) >>= λ packages.
    unless (link_fault PackageMap map (package_links map.first_node packages)) (Ok packages)

-- the flags, where no fault stands in flag.map
unfoldable pub flag_part : OpenMap → Result (List Flag) ImageFault
flag_part map =
    nodes_of FlagMap (length map.file) (nodes_in flag_at map) >>= λ flags.
    unless (link_fault FlagMap map (flag_links map.first_node flags)) (Ok flags)

-- four open files, where no fault stands behind their headers, or the first fault
unfoldable pub checked_files : Use → Opened → Result Opened ImageFault
checked_files purpose opened =
    package_part opened.package_map >>= λ packages.
    flag_part opened.flag_map >>= λ flags.
    unless (bits_fault purpose opened)
    (unless (disagreement opened packages flags)
    (Ok opened))

-- the four files opened, where they aren't too large together
unfoldable pub opened_set : Files → Result Opened ImageFault
opened_set files = unless (too_large files) (opened_files files)

-- the four files opened, where no fault stands, or the first fault
unfoldable pub checked : Use → Files → Result Opened ImageFault
checked purpose files =
    opened_set files >>= checked_files purpose

-- the bytes of four open files
abbrev pub files_in : Opened → Files
files_in opened = record {
  package_map = opened.package_map.file;
  flag_map = opened.flag_map.file;
  flag_val = opened.values.file;
  flag_info = opened.infos.file;
}

-- no fault stands in four open files, for some use
abbrev pub HasNoFault : Opened → Type 0
HasNoFault opened = (purpose : Use) × (checked purpose (files_in opened) ≡ Ok opened)
