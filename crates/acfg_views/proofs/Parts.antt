-- Whole files: what opens is made of parts, and the file of parts opens.
use Rattle.std.proofs.Common.{◌≡◌, ℕ, ◌+◌, ◌-◌, ◌*◌, ◌<◌, ◌≤◌, List, [], ◌∷◌, ◌++◌, length, drop, All, Ok, refl, sym, ap, subst, ◌∙◌, append_assoc, arith}
use Rattle.std.specs.List.{flat_map}
use Rattle.std.proofs.lemmas.List.{length-append, length-drop, drop_at, drop-drop}
use Rattle.acfg_views.specs.Fields.{IsBytes, numbers, number}
use Rattle.acfg_views.specs.Layout.{MapParts, ListParts, map_header, list_header, map_header_size, list_header_size, first_node_of, map_size, list_size, map_file, list_file, IsMapFile, IsListFile}
use Rattle.acfg_views.specs.Reading.{OpenMap, OpenList, opened_map, opened_list, bucket_count}
use Rattle.acfg_views.specs.Parts.{open_parts, parts_of, open_list_parts, list_parts_of, MapPartsOpen, OpenMapHasParts, ListPartsOpen, OpenListHasParts}
use Rattle.acfg_views.proofs.Exact.{IsBytes-drop, length-number}
use Rattle.acfg_views.proofs.FileFacts.{length-map_header, length-list_header, opened_map-offsets, opened_map-header, opened_map-first_bucket, opened_map-again, opened_list-offsets, opened_list-header, opened_list-first_byte, opened_list-again}
use Rattle.acfg_views.proofs.Buckets.{numbers-again, length-numbers, numbers-spelled, numbers-below}

length-buckets : (buckets : List ℕ) → length (flat_map (number 4) buckets) ≡ 4 * length buckets
length-buckets [] = refl
length-buckets (b ∷ bs) = let h = length-buckets bs in omega (arith, length-append (number 4 b) (flat_map (number 4) bs), length-number 4 b, h)

module _ {N : Type 0} (file_type : ℕ) (node : N → List ℕ) (IsNode : N → Type 0) where
  pub length-map_file : (parts : MapParts N) → length (map_file file_type node parts) ≡ map_size node parts
  unfolding map_file
  length-map_file parts =
      let header = map_header parts.version parts.container file_type (map_size node parts) (length parts.nodes) (map_header_size parts.container) (first_node_of parts) in
      omega (
        arith,
        length-append header (flat_map (number 4) parts.buckets ++ flat_map node parts.nodes),
        length-append (flat_map (number 4) parts.buckets) (flat_map node parts.nodes),
        length-buckets parts.buckets,
        length-map_header parts.version parts.container file_type (map_size node parts) (length parts.nodes) (map_header_size parts.container) (first_node_of parts),
      )

  -- the file of parts opens
  pub map_file-opens : (bytes : List ℕ) (parts : MapParts N) → file_type < 256 → IsMapFile file_type node IsNode bytes parts → opened_map file_type bytes ≡ Ok (open_parts bytes parts)
  unfolding map_file
  map_file-opens bytes parts type is =
      let len : length bytes ≡ map_size node parts = ap length is.spelled ∙ length-map_file parts in
      let spelled : bytes ≡ map_header parts.version parts.container file_type (length bytes) (length parts.nodes) (map_header_size parts.container) (first_node_of parts) ++ (flat_map (number 4) parts.buckets ++ flat_map node parts.nodes) =
      is.spelled ∙ ap (λ (k : ℕ). map_header parts.version parts.container file_type k (length parts.nodes) (map_header_size parts.container) (first_node_of parts) ++ (flat_map (number 4) parts.buckets ++ flat_map node parts.nodes)) (sym len) in
      opened_map-again file_type bytes (open_parts bytes parts) (record {
        header = record { rest = flat_map (number 4) parts.buckets ++ flat_map node parts.nodes; spelled = spelled; version = is.version; container = is.container; count = is.count; size = is.size };
        file = refl;
        type = type;
        offsets = record { bucket = refl; some = omega (arith, is.some_bucket); whole = omega arith; within = omega (arith, len) };
      })

  -- its nodes stand behind its buckets
  pub map_file-nodes : (bytes : List ℕ) (parts : MapParts N) → IsMapFile file_type node IsNode bytes parts → drop (first_node_of parts) bytes ≡ flat_map node parts.nodes
  unfolding map_file
  map_file-nodes bytes parts is =
      let header = map_header parts.version parts.container file_type (map_size node parts) (length parts.nodes) (map_header_size parts.container) (first_node_of parts) in
      let front : length (header ++ flat_map (number 4) parts.buckets) ≡ first_node_of parts =
      omega (arith, length-append header (flat_map (number 4) parts.buckets), length-buckets parts.buckets, length-map_header parts.version parts.container file_type (map_size node parts) (length parts.nodes) (map_header_size parts.container) (first_node_of parts)) in
      ap (drop (first_node_of parts)) (is.spelled ∙ sym (append_assoc header (flat_map (number 4) parts.buckets) (flat_map node parts.nodes)))
      ∙ drop_at (header ++ flat_map (number 4) parts.buckets) (flat_map node parts.nodes) (first_node_of parts) front

  -- and its buckets behind its header
  pub map_file-buckets : (bytes : List ℕ) (parts : MapParts N) → IsMapFile file_type node IsNode bytes parts → drop (map_header_size parts.container) bytes ≡ flat_map (number 4) parts.buckets ++ flat_map node parts.nodes
  unfolding map_file
  map_file-buckets bytes parts is =
      let header = map_header parts.version parts.container file_type (map_size node parts) (length parts.nodes) (map_header_size parts.container) (first_node_of parts) in
      ap (drop (map_header_size parts.container)) is.spelled
      ∙ drop_at header (flat_map (number 4) parts.buckets ++ flat_map node parts.nodes) (map_header_size parts.container)
      (length-map_header parts.version parts.container file_type (map_size node parts) (length parts.nodes) (map_header_size parts.container) (first_node_of parts))

  -- what opens is made of parts, where nodes stand to the end
  pub opened_map-parts : (bytes : List ℕ) (map : OpenMap) (nodes : List N) → IsBytes bytes → opened_map file_type bytes ≡ Ok map
      → drop map.first_node bytes ≡ flat_map node nodes → All IsNode nodes → map.count ≡ length nodes → IsMapFile file_type node IsNode bytes (parts_of map nodes)
  unfolding map_file
  opened_map-parts bytes map nodes fits e tail lawful count =
      let o = opened_map-offsets file_type bytes map e in
      let h = opened_map-header file_type bytes map fits e in
      let first = opened_map-first_bucket file_type bytes map fits e in
      let k : ℕ = bucket_count map in
      let len : length (numbers k (drop map.first_bucket map.file)) ≡ k = length-numbers k (drop map.first_bucket map.file) in
      let file_len : length map.file ≡ length bytes = ap length o.file in
      let room : 4 * k ≤ length (drop map.first_bucket map.file) = omega (arith, length-drop map.first_bucket map.file, o.offsets.some, o.offsets.whole, o.offsets.within, file_len) in
      let file_fits : IsBytes map.file = subst IsBytes (sym o.file) fits in
      let node_place : map_header_size map.container + 4 * length (numbers k (drop map.first_bucket map.file)) ≡ map.first_node = omega (arith, len, first, o.offsets.some, o.offsets.whole) in
      let header : List ℕ = map_header map.version map.container file_type (length bytes) map.count map.first_bucket map.first_node in
      let header_len : length header ≡ map.first_bucket = length-map_header map.version map.container file_type (length bytes) map.count map.first_bucket map.first_node ∙ sym first in
      let rest_is : h.rest ≡ drop map.first_bucket map.file = sym (ap (drop map.first_bucket) (o.file ∙ h.spelled) ∙ drop_at header h.rest map.first_bucket header_len) in
      let behind : drop (4 * k) (drop map.first_bucket map.file) ≡ flat_map node nodes =
      drop-drop (4 * k) map.first_bucket map.file ∙ ap (λ (n : ℕ). drop n map.file) (let e : map.first_bucket + 4 * k ≡ map.first_node = omega (arith, len, first, o.offsets.some, o.offsets.whole) in e) ∙ ap (drop map.first_node) o.file ∙ tail in
      let body : h.rest ≡ flat_map (number 4) (numbers k (drop map.first_bucket map.file)) ++ flat_map node nodes =
      rest_is ∙ sym (numbers-spelled k (drop map.first_bucket map.file) (IsBytes-drop map.first_bucket map.file file_fits) room) ∙ ap (λ (r : List ℕ). flat_map (number 4) (numbers k (drop map.first_bucket map.file)) ++ r) behind in
      let size_is : map_size node (parts_of map nodes) ≡ length bytes =
      let tail_len : length (flat_map node nodes) ≡ length bytes - map.first_node = ap length (sym tail) ∙ length-drop map.first_node bytes in
      omega (arith, node_place, tail_len, o.offsets.within) in
      record {
        spelled = h.spelled ∙ ap (λ (r : List ℕ). header ++ r) body ∙ same_header (map_header map.version map.container file_type) (length bytes) map.count map.first_bucket map.first_node _ _ _ _ _ (sym size_is) count first (sym node_place);
        version = h.version;
        container = h.container;
        some_bucket = omega (arith, len, o.offsets.some, o.offsets.whole);
        buckets = numbers-below k (drop map.first_bucket map.file) (IsBytes-drop map.first_bucket map.file file_fits);
        nodes = lawful;
        count = omega (arith, count, h.count);
        size = h.size;
      }
    where
      same_header : (f : ℕ → ℕ → ℕ → ℕ → List ℕ) (a b c d a' b' c' d' : ℕ) (r : List ℕ) → a ≡ a' → b ≡ b' → c ≡ c' → d ≡ d' → f a b c d ++ r ≡ f a' b' c' d' ++ r
      same_header f a b c d a' b' c' d' r p q s t = cc

  pub map_parts_open : file_type < 256 → MapPartsOpen file_type node IsNode
  map_parts_open type bytes parts is =
      let k : ℕ = length parts.buckets in
      let count : bucket_count (open_parts bytes parts) ≡ k = omega arith in
      let again : numbers (bucket_count (open_parts bytes parts)) (drop (map_header_size parts.container) bytes) ≡ parts.buckets =
      rw (count, map_file-buckets bytes parts is) (numbers-again parts.buckets (flat_map node parts.nodes) is.buckets) in (
        map_file-opens bytes parts type is,
        record { spelled = map_file-nodes bytes parts is; lawful = is.nodes; count = refl },
        ap (λ (buckets : List ℕ). record parts { buckets = buckets }) again,
      )

  pub open_map_has_parts : OpenMapHasParts file_type node IsNode
  open_map_has_parts bytes map nodes fits e has =
      let o = opened_map-offsets file_type bytes map e in
      opened_map-parts bytes map nodes fits e (ap (drop map.first_node) (sym o.file) ∙ has.spelled) has.lawful (sym has.count)

-- ---- flag.val and flag.info

pub length-list_file : (file_type : ℕ) (parts : ListParts) → length (list_file file_type parts) ≡ list_size parts
unfolding list_file
length-list_file file_type parts =
    let header = list_header parts.version parts.container file_type (list_size parts) (length parts.bytes) (list_header_size parts.container) in
    omega (arith, length-append header parts.bytes, length-list_header parts.version parts.container file_type (list_size parts) (length parts.bytes) (list_header_size parts.container))

pub list_file-opens : (file_type : ℕ) (bytes : List ℕ) (parts : ListParts) → file_type < 256 → IsListFile file_type bytes parts → opened_list file_type bytes ≡ Ok (open_list_parts bytes parts)
unfolding list_file
list_file-opens file_type bytes parts type is =
    let len : length bytes ≡ list_size parts = ap length is.spelled ∙ length-list_file file_type parts in
    let spelled : bytes ≡ list_header parts.version parts.container file_type (length bytes) (length parts.bytes) (list_header_size parts.container) ++ parts.bytes =
    is.spelled ∙ ap (λ (k : ℕ). list_header parts.version parts.container file_type k (length parts.bytes) (list_header_size parts.container) ++ parts.bytes) (sym len) in
    opened_list-again file_type bytes (open_list_parts bytes parts) (record {
      header = record { rest = parts.bytes; spelled = spelled; version = is.version; container = is.container; size = is.size };
      file = refl;
      type = type;
      first = refl;
      ends = omega (arith, len);
    })

-- its bytes stand behind its header
pub list_file-bytes : (file_type : ℕ) (bytes : List ℕ) (parts : ListParts) → IsListFile file_type bytes parts → drop (list_header_size parts.container) bytes ≡ parts.bytes
unfolding list_file
list_file-bytes file_type bytes parts is =
    let header = list_header parts.version parts.container file_type (list_size parts) (length parts.bytes) (list_header_size parts.container) in
    ap (drop (list_header_size parts.container)) is.spelled
    ∙ drop_at header parts.bytes (list_header_size parts.container) (length-list_header parts.version parts.container file_type (list_size parts) (length parts.bytes) (list_header_size parts.container))

pub opened_list-parts : (file_type : ℕ) (bytes : List ℕ) (list : OpenList) → IsBytes bytes → opened_list file_type bytes ≡ Ok list → IsListFile file_type bytes (list_parts_of list)
unfolding list_file
opened_list-parts file_type bytes list fits e =
    let o = opened_list-offsets file_type bytes list e in
    let h = opened_list-header file_type bytes list fits e in
    let first = opened_list-first_byte file_type bytes list fits e in
    let header : List ℕ = list_header list.version list.container file_type (length bytes) list.count list.first_byte in
    let header_len : length header ≡ list.first_byte = length-list_header list.version list.container file_type (length bytes) list.count list.first_byte ∙ sym first in
    let rest_is : h.rest ≡ drop list.first_byte list.file = sym (ap (drop list.first_byte) (o.file ∙ h.spelled) ∙ drop_at header h.rest list.first_byte header_len) in
    let file_len : length list.file ≡ length bytes = ap length o.file in
    let count : list.count ≡ length (drop list.first_byte list.file) = omega (arith, length-drop list.first_byte list.file, o.ends, file_len) in
    let size_is : length bytes ≡ list_header_size list.container + length (drop list.first_byte list.file) = omega (arith, o.ends, first, count) in
    record {
      spelled = h.spelled ∙ ap (λ (r : List ℕ). header ++ r) rest_is ∙ same_list_header (list_header list.version list.container file_type) (length bytes) list.count list.first_byte _ _ _ _ size_is count first;
      version = h.version;
      container = h.container;
      size = h.size;
    }
  where
    same_list_header : (f : ℕ → ℕ → ℕ → List ℕ) (a b c a' b' c' : ℕ) (r : List ℕ) → a ≡ a' → b ≡ b' → c ≡ c' → f a b c ++ r ≡ f a' b' c' ++ r
    same_list_header f a b c a' b' c' r p q s = cc

pub list_parts_open : (file_type : ℕ) → file_type < 256 → ListPartsOpen file_type
list_parts_open file_type type bytes parts is =
    (list_file-opens file_type bytes parts type is, ap (λ (b : List ℕ). record parts { bytes = b }) (list_file-bytes file_type bytes parts is))

pub open_list_has_parts : (file_type : ℕ) → OpenListHasParts file_type
open_list_has_parts file_type = opened_list-parts file_type
