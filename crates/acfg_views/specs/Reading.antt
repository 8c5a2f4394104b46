-- What opening a file and reading a node answer: the fields in byte order, or the first fault among them. A field that
-- isn't whole in the bytes is `Short`, and then the field's own test comes.
use Rattle.std.specs.Prelude.{◌≡◌, ℕ, ◌+◌, ◌-◌, ◌*◌, ◌/◌, ◌%◌, List, length, slice_index, take, drop, Result, Ok, Err}
use Rattle.std.specs.Prelude.{Bool, nat_lt, nat_le, ◌==◌, ◌&&◌, if◌then◌else◌}
use Rattle.acfg_base.specs.declared.releases.Kind.{Kind}
use Rattle.acfg_base.specs.declared.releases.Kind.TheVariants.{ReadWrite, ReadOnly, Fixed}
use Rattle.acfg_views.specs.declared.fault.ViewFault.{ViewFault}
use Rattle.acfg_views.specs.declared.fault.ViewFault.TheVariants.{Short, BadVersion, BadText, BadFileType, BadSize}
use Rattle.acfg_views.specs.declared.fault.ViewFault.TheVariants.{BadOffsets, BadKind}
use Rattle.acfg_views.specs.declared.nodes.PackageNode.{PackageNode}
use Rattle.acfg_views.specs.declared.nodes.FlagNode.{FlagNode}
use Rattle.acfg_views.specs.Fields.{IsBytes, number_of}
use Rattle.acfg_views.specs.Layout.{VERSION, Package, Flag}
use Rattle.acfg_views.specs.Tests.{is_container, is_name, is_package}

-- the next field, where the one before it was no fault
infixl 10 ◌>>=◌
abbrev pub ◌>>=◌ : {A B : Type 0} → Result A ViewFault → (A → Result B ViewFault) → Result B ViewFault
(Ok x) >>= f = f x
(Err e) >>= f = Err e

-- an answer, with its value seen by view, is this one
abbrev pub Answers : {X Y : Type 0} → (X → Y) → Result X ViewFault → Result Y ViewFault → Type 0
Answers view (Ok x) read = read ≡ Ok (view x)
Answers view (Err e) read = read ≡ Err e

-- ---- fields, each with the bytes behind it

abbrev pub number_at : ℕ → List ℕ → Result (ℕ × List ℕ) ViewFault
number_at width bytes = if nat_lt (length bytes) width then Err Short else Ok (number_of width bytes, drop width bytes)

unfoldable pub string_at : List ℕ → Result (List ℕ × List ℕ) ViewFault
string_at bytes = do
  len ← number_at 4 bytes
  if nat_lt (length len.1) len.0 then Err Short else Ok (take len.0 len.1, drop len.0 len.1)

-- a field that a test lets through
abbrev pub tested : {X : Type 0} → (X → Bool) → (X → ViewFault) → Result (X × List ℕ) ViewFault
    → Result (X × List ℕ) ViewFault
tested test fault read = read >>= λ field. if test field.0 then Ok field else Err (fault field.0)

unfoldable pub version_at : List ℕ → Result (ℕ × List ℕ) ViewFault
version_at bytes = tested (λ n. n == VERSION) BadVersion (number_at 4 bytes)

unfoldable pub container_at : List ℕ → Result (List ℕ × List ℕ) ViewFault
container_at bytes = tested is_container (λ _. BadText) (string_at bytes)

unfoldable pub package_name_at : List ℕ → Result (List ℕ × List ℕ) ViewFault
package_name_at bytes = tested is_package (λ _. BadText) (string_at bytes)

unfoldable pub flag_name_at : List ℕ → Result (List ℕ × List ℕ) ViewFault
flag_name_at bytes = tested is_name (λ _. BadText) (string_at bytes)

unfoldable pub file_type_at : ℕ → List ℕ → Result (ℕ × List ℕ) ViewFault
file_type_at file_type bytes = tested (λ n. n == file_type) BadFileType (number_at 1 bytes)

unfoldable pub size_at : ℕ → List ℕ → Result (ℕ × List ℕ) ViewFault
size_at size bytes = tested (λ n. n == size) BadSize (number_at 4 bytes)

abbrev pub kind_of : ℕ → Result Kind ViewFault
kind_of n =
    if n == 0 then Ok ReadWrite
    else (if n == 1 then Ok ReadOnly
    else (if n == 2 then Ok Fixed
    else Err (BadKind n)))

unfoldable pub kind_at : List ℕ → Result (Kind × List ℕ) ViewFault
kind_at bytes = do
  n ← number_at 2 bytes
  kind ← kind_of n.0
  Ok (kind, n.1)

-- ---- whole files

-- a map file that is open: its bytes, and what its header says
pub record OpenMap : Type 0 where
  pub file : List ℕ
  pub version : ℕ
  pub container : List ℕ
  pub count : ℕ
  pub first_bucket : ℕ
  pub first_node : ℕ

-- flag.val or flag.info, opened
pub record OpenList : Type 0 where
  pub file : List ℕ
  pub version : ℕ
  pub container : List ℕ
  pub count : ℕ
  pub first_byte : ℕ

-- buckets begin at the header's end; behind a whole number of them, at least one, nodes begin, not past the file's end
abbrev pub are_map_offsets : (header size first_bucket first_node : ℕ) → Bool
are_map_offsets header size first_bucket first_node =
    first_bucket == header && nat_lt header first_node && (first_node - header) % 4 == 0 && nat_le first_node size

-- bytes begin at the header's end, and end, one a flag, at the file's end
abbrev pub are_list_offsets : (header size first_byte count : ℕ) → Bool
are_list_offsets header size first_byte count = first_byte == header && header + count == size

unfoldable pub opened_map : ℕ → List ℕ → Result OpenMap ViewFault
opened_map file_type bytes = do
  version ← version_at bytes
  container ← container_at version.1
  type ← file_type_at file_type container.1
  size ← size_at (length bytes) type.1
  count ← number_at 4 size.1
  bucket ← number_at 4 count.1
  node ← number_at 4 bucket.1
  if are_map_offsets (length bytes - length node.1) (length bytes) bucket.0 node.0
      then Ok (record {
        file = bytes;
        version = version.0;
        container = container.0;
        count = count.0;
        first_bucket =
            bucket.0;
        first_node = node.0;
      })
      else Err BadOffsets

unfoldable pub opened_list : ℕ → List ℕ → Result OpenList ViewFault
opened_list file_type bytes = do
  version ← version_at bytes
  container ← container_at version.1
  type ← file_type_at file_type container.1
  size ← size_at (length bytes) type.1
  count ← number_at 4 size.1
  byte ← number_at 4 count.1
  if are_list_offsets (length bytes - length byte.1) (length bytes) byte.0 count.0
      then Ok (record {
        file = bytes;
        version = version.0;
        container = container.0;
        count = count.0;
        first_byte =
            byte.0;
      })
      else Err BadOffsets

-- the file of this type, opened
pub record IsOpenMap (file_type : ℕ) (map : OpenMap) : Type 0 where
  pub opened : opened_map file_type map.file ≡ Ok map
  pub bytes : IsBytes map.file

pub record IsOpenList (file_type : ℕ) (list : OpenList) : Type 0 where
  pub opened : opened_list file_type list.file ≡ Ok list
  pub bytes : IsBytes list.file

-- how many buckets an open map has
abbrev pub bucket_count : OpenMap → ℕ
bucket_count map = (map.first_node - map.first_bucket) / 4

-- what stands in a bucket
abbrev pub bucket_in : OpenMap → ℕ → ℕ
bucket_in map i = number_of 4 (drop (map.first_bucket + 4 * i) map.file)

-- what stands at an index of flag.val or flag.info
abbrev pub byte_in : OpenList → ℕ → ℕ
byte_in list i = slice_index list.file (list.first_byte + i)

-- ---- nodes

unfoldable pub package_at : List ℕ → Result (Package × List ℕ) ViewFault
package_at bytes = do
  name ← package_name_at bytes
  id ← number_at 4 name.1
  start ← number_at 4 id.1
  next ← number_at 4 start.1
  Ok (record { name = name.0; id = id.0; start = start.0; next = next.0 }, next.1)

unfoldable pub flag_at : List ℕ → Result (Flag × List ℕ) ViewFault
flag_at bytes = do
  id ← number_at 4 bytes
  name ← flag_name_at id.1
  kind ← kind_at name.1
  index ← number_at 2 kind.1
  next ← number_at 4 index.1
  Ok (record { package_id = id.0; name = name.0; kind = kind.0; index = index.0; next = next.0 }, next.1)

-- a node that was read from the bytes at the end of a file of this size, and the offset behind it
abbrev pub with_end : {N : Type 0} → ℕ → Result (N × List ℕ) ViewFault → Result (N × ℕ) ViewFault
with_end size read = read >>= λ node. Ok (node.0, size - length node.1)

-- the node at an offset of an open map, and the offset behind it
unfoldable pub node_at : {N : Type 0} → (List ℕ → Result (N × List ℕ) ViewFault) → OpenMap → ℕ
    → Result (N × ℕ) ViewFault
node_at read map off =
    if nat_lt off map.first_node then Err BadOffsets
    else with_end (length map.file) (read (drop off map.file))

-- a node as the code has it, without the offset behind it
abbrev pub package_of : PackageNode → Package
package_of node = record { name = node.name.now; id = node.id; start = node.start; next = node.next }

abbrev pub flag_of : FlagNode → Flag
flag_of node = record {
  package_id = node.package_id;
  name = node.name.now;
  kind = node.kind;
  index =
      node.index;
  next = node.next;
}
