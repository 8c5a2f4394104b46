-- Headers and nodes: what opens is spelled so, and what is spelled so opens.
use Rattle.std.proofs.Common.{◌≡◌, ℕ, ◌+◌, ◌-◌, ◌%◌, ◌^◌, ◌<◌, ◌≤◌, true, cond, eqb, List, [], ◌∷◌, ◌++◌, length, Result, Ok, Err, refl, sym, ap, subst, ◌∙◌, append_assoc, arith}
use Rattle.std.specs.List.{concat}
use Rattle.std.proofs.lemmas.Bool.Decides.{nat_tests}
use Rattle.std.proofs.lemmas.List.{length-append}
use Rattle.acfg_base.specs.Release.{kind_number}
use Rattle.acfg_base.specs.declared.releases.Kind.{Kind}
use Rattle.acfg_base.specs.Names.{IsContainer}
use Rattle.acfg_views.specs.declared.fault.ViewFault.{ViewFault}
use Rattle.acfg_views.specs.declared.fault.ViewFault.TheVariants.{BadVersion, BadText, BadFileType, BadSize, BadOffsets}
use Rattle.acfg_views.specs.Fields.{IsBytes, number, string}
use Rattle.acfg_views.specs.Layout.{VERSION, Package, Flag, package_node, flag_node, IsPackageNode, IsFlagNode, map_header, list_header, map_header_size, list_header_size}
use Rattle.acfg_views.specs.Tests.{is_container, is_package, is_name}
use Rattle.acfg_views.specs.Reading.{◌>>=◌, number_at, string_at, version_at, container_at, package_name_at, flag_name_at, file_type_at, size_at, kind_at, OpenMap, OpenList, are_map_offsets, are_list_offsets, opened_map, opened_list, package_at, flag_at}
use Rattle.acfg_views.proofs.Exact.{Takes, Takes-then, Takes-none, IsExact, bind_ok, passed, ok_is, length-number, one_byte, two_bytes, four_bytes, number_exact, string_exact, IsStringText, tested_exact, kind_exact}
use Rattle.acfg_views.proofs.NameFacts.{is_container-decides, is_package-decides, is_name-decides}

-- ---- fields with tests

version_exact : IsExact version_at (number 4) (λ n. (n < 256 ^ 4) × (eqb n VERSION ≡ true))
unfolding version_at
version_exact = tested_exact (number_at 4) (number 4) (λ n. n < 256 ^ 4) (λ n. eqb n VERSION) BadVersion (number_exact 4 four_bytes)

container_exact : IsExact container_at string (λ text. IsStringText text × (is_container text ≡ true))
unfolding container_at
container_exact = tested_exact string_at string IsStringText is_container (λ _. BadText) string_exact

package_name_exact : IsExact package_name_at string (λ text. IsStringText text × (is_package text ≡ true))
unfolding package_name_at
package_name_exact = tested_exact string_at string IsStringText is_package (λ _. BadText) string_exact

flag_name_exact : IsExact flag_name_at string (λ text. IsStringText text × (is_name text ≡ true))
unfolding flag_name_at
flag_name_exact = tested_exact string_at string IsStringText is_name (λ _. BadText) string_exact

file_type_exact : (file_type : ℕ) → IsExact (file_type_at file_type) (number 1) (λ n. (n < 256 ^ 1) × (eqb n file_type ≡ true))
unfolding file_type_at
file_type_exact file_type = tested_exact (number_at 1) (number 1) (λ n. n < 256 ^ 1) (λ n. eqb n file_type) BadFileType (number_exact 1 one_byte)

size_exact : (size : ℕ) → IsExact (size_at size) (number 4) (λ n. (n < 256 ^ 4) × (eqb n size ≡ true))
unfolding size_at
size_exact size = tested_exact (number_at 4) (number 4) (λ n. n < 256 ^ 4) (λ n. eqb n size) BadSize (number_exact 4 four_bytes)

same : (a b : ℕ) → eqb a b ≡ true → a ≡ b
same a b e = grind (arith, nat_tests)

equal : (a b : ℕ) → a ≡ b → eqb a b ≡ true
equal a b e = grind (arith, nat_tests)

-- ---- nodes

abbrev p_next : List ℕ → ℕ → ℕ → ℕ × List ℕ → Result (Package × List ℕ) ViewFault
p_next name id start next = Ok (record { name = name; id = id; start = start; next = next.0 }, next.1)

abbrev p_start : List ℕ → ℕ → ℕ × List ℕ → Result (Package × List ℕ) ViewFault
p_start name id start = number_at 4 start.1 >>= p_next name id start.0

abbrev p_id : List ℕ → ℕ × List ℕ → Result (Package × List ℕ) ViewFault
p_id name id = number_at 4 id.1 >>= p_start name id.0

abbrev p_name : List ℕ × List ℕ → Result (Package × List ℕ) ViewFault
p_name name = number_at 4 name.1 >>= p_id name.0

pub package_exact : IsExact package_at package_node IsPackageNode
unfolding package_at package_node
package_exact = record {
  found = λ bytes x rest fits e.
      let a = bind_ok (package_name_at bytes) p_name (x, rest) e in
      let b = bind_ok (number_at 4 a.0.1) (p_id a.0.0) (x, rest) a.2 in
      let c = bind_ok (number_at 4 b.0.1) (p_start a.0.0 b.0.0) (x, rest) b.2 in
      let d = bind_ok (number_at 4 c.0.1) (p_next a.0.0 b.0.0 c.0.0) (x, rest) c.2 in
      let t0 = package_name_exact.found bytes a.0.0 a.0.1 fits a.1 in
      let t1 = (number_exact 4 four_bytes).found a.0.1 b.0.0 b.0.1 t0.0.rest_fits b.1 in
      let t2 = (number_exact 4 four_bytes).found b.0.1 c.0.0 c.0.1 t1.0.rest_fits c.1 in
      let t3 = (number_exact 4 four_bytes).found c.0.1 d.0.0 d.0.1 t2.0.rest_fits d.1 in
      let u3 = Takes-then c.0.1 (number 4 d.0.0) d.0.1 [] d.0.1 t3.0 (Takes-none d.0.1 t3.0.rest_fits) in
      let u2 = Takes-then b.0.1 (number 4 c.0.0) c.0.1 _ d.0.1 t2.0 u3 in
      let u1 = Takes-then a.0.1 (number 4 b.0.0) b.0.1 _ d.0.1 t1.0 u2 in
      let u0 = Takes-then bytes (string a.0.0) a.0.1 _ d.0.1 t0.0 u1 in
      let made : Package × List ℕ = (record { name = a.0.0; id = b.0.0; start = c.0.0; next = d.0.0 }, d.0.1) in
      subst (λ (y : Package × List ℕ). Takes bytes (concat (string y.0.name ∷ number 4 y.0.id ∷ number 4 y.0.start ∷ number 4 y.0.next ∷ [])) y.1 × IsPackageNode y.0) (ok_is made (x, rest) d.2)
      (u0, record { name = (is_package-decides a.0.0).0 t0.1.1; id = t1.1; start = t2.1; next = t3.1 });
  again = λ x rest lawful.
      let regrouped : concat (string x.name ∷ number 4 x.id ∷ number 4 x.start ∷ number 4 x.next ∷ []) ++ rest ≡ string x.name ++ (number 4 x.id ++ (number 4 x.start ++ (number 4 x.next ++ rest))) = simp append_assoc in
      let n = number_exact 4 four_bytes in
      let first : package_name_at (concat (string x.name ∷ number 4 x.id ∷ number 4 x.start ∷ number 4 x.next ∷ []) ++ rest) ≡ Ok (x.name, number 4 x.id ++ (number 4 x.start ++ (number 4 x.next ++ rest))) =
      ap package_name_at regrouped ∙ package_name_exact.again x.name _ (omega (arith, lawful.name.bound), (is_package-decides x.name).1 lawful.name) in
      rw (first, n.again x.id (number 4 x.start ++ (number 4 x.next ++ rest)) lawful.id, n.again x.start (number 4 x.next ++ rest) lawful.start, n.again x.next rest lawful.next) refl;
}

abbrev f_next : ℕ → List ℕ → Kind → ℕ → ℕ × List ℕ → Result (Flag × List ℕ) ViewFault
f_next id name kind index next = Ok (record { package_id = id; name = name; kind = kind; index = index; next = next.0 }, next.1)

abbrev f_index : ℕ → List ℕ → Kind → ℕ × List ℕ → Result (Flag × List ℕ) ViewFault
f_index id name kind index = number_at 4 index.1 >>= f_next id name kind index.0

abbrev f_kind : ℕ → List ℕ → Kind × List ℕ → Result (Flag × List ℕ) ViewFault
f_kind id name kind = number_at 2 kind.1 >>= f_index id name kind.0

abbrev f_name : ℕ → List ℕ × List ℕ → Result (Flag × List ℕ) ViewFault
f_name id name = kind_at name.1 >>= f_kind id name.0

abbrev f_id : ℕ × List ℕ → Result (Flag × List ℕ) ViewFault
f_id id = flag_name_at id.1 >>= f_name id.0

pub flag_exact : IsExact flag_at flag_node IsFlagNode
unfolding flag_at flag_node
flag_exact = record {
  found = λ bytes x rest fits e.
      let a = bind_ok (number_at 4 bytes) f_id (x, rest) e in
      let b = bind_ok (flag_name_at a.0.1) (f_name a.0.0) (x, rest) a.2 in
      let c = bind_ok (kind_at b.0.1) (f_kind a.0.0 b.0.0) (x, rest) b.2 in
      let d = bind_ok (number_at 2 c.0.1) (f_index a.0.0 b.0.0 c.0.0) (x, rest) c.2 in
      let g = bind_ok (number_at 4 d.0.1) (f_next a.0.0 b.0.0 c.0.0 d.0.0) (x, rest) d.2 in
      let t0 = (number_exact 4 four_bytes).found bytes a.0.0 a.0.1 fits a.1 in
      let t1 = flag_name_exact.found a.0.1 b.0.0 b.0.1 t0.0.rest_fits b.1 in
      let t2 = kind_exact.found b.0.1 c.0.0 c.0.1 t1.0.rest_fits c.1 in
      let t3 = (number_exact 2 two_bytes).found c.0.1 d.0.0 d.0.1 t2.0.rest_fits d.1 in
      let t4 = (number_exact 4 four_bytes).found d.0.1 g.0.0 g.0.1 t3.0.rest_fits g.1 in
      let u4 = Takes-then d.0.1 (number 4 g.0.0) g.0.1 [] g.0.1 t4.0 (Takes-none g.0.1 t4.0.rest_fits) in
      let u3 = Takes-then c.0.1 (number 2 d.0.0) d.0.1 _ g.0.1 t3.0 u4 in
      let u2 = Takes-then b.0.1 (number 2 (kind_number c.0.0)) c.0.1 _ g.0.1 t2.0 u3 in
      let u1 = Takes-then a.0.1 (string b.0.0) b.0.1 _ g.0.1 t1.0 u2 in
      let u0 = Takes-then bytes (number 4 a.0.0) a.0.1 _ g.0.1 t0.0 u1 in
      let made : Flag × List ℕ = (record { package_id = a.0.0; name = b.0.0; kind = c.0.0; index = d.0.0; next = g.0.0 }, g.0.1) in
      subst (λ (y : Flag × List ℕ). Takes bytes (concat (number 4 y.0.package_id ∷ string y.0.name ∷ number 2 (kind_number y.0.kind) ∷ number 2 y.0.index ∷ number 4 y.0.next ∷ [])) y.1 × IsFlagNode y.0) (ok_is made (x, rest) g.2)
      (u0, record { package_id = t0.1; name = (is_name-decides b.0.0).0 t1.1.1; index = t3.1; next = t4.1 });
  again = λ x rest lawful.
      let regrouped : concat (number 4 x.package_id ∷ string x.name ∷ number 2 (kind_number x.kind) ∷ number 2 x.index ∷ number 4 x.next ∷ []) ++ rest ≡ number 4 x.package_id ++ (string x.name ++ (number 2 (kind_number x.kind) ++ (number 2 x.index ++ (number 4 x.next ++ rest)))) = simp append_assoc in
      let n = number_exact 4 four_bytes in
      let first : number_at 4 (concat (number 4 x.package_id ∷ string x.name ∷ number 2 (kind_number x.kind) ∷ number 2 x.index ∷ number 4 x.next ∷ []) ++ rest) ≡ Ok (x.package_id, string x.name ++ (number 2 (kind_number x.kind) ++ (number 2 x.index ++ (number 4 x.next ++ rest)))) =
      ap (number_at 4) regrouped ∙ n.again x.package_id _ lawful.package_id in
      let name = flag_name_exact.again x.name (number 2 (kind_number x.kind) ++ (number 2 x.index ++ (number 4 x.next ++ rest))) (omega (arith, lawful.name.bound), (is_name-decides x.name).1 lawful.name) in
      rw (first, name, kind_exact.again x.kind (number 2 x.index ++ (number 4 x.next ++ rest)) tt, (number_exact 2 two_bytes).again x.index (number 4 x.next ++ rest) lawful.index, n.again x.next rest lawful.next) refl;
}

-- ---- headers

pub length-string : (text : List ℕ) → length (string text) ≡ 4 + length text
unfolding string
length-string text = simp (length-append, length-number) refl

pub length-map_header : (version : ℕ) (container : List ℕ) (file_type size count first_bucket first_node : ℕ) → length (map_header version container file_type size count first_bucket first_node) ≡ map_header_size container
unfolding map_header
length-map_header version container file_type size count first_bucket first_node = simp (length-append, length-number, length-string) (omega arith)

pub length-list_header : (version : ℕ) (container : List ℕ) (file_type size count first_byte : ℕ) → length (list_header version container file_type size count first_byte) ≡ list_header_size container
unfolding list_header
length-list_header version container file_type size count first_byte = simp (length-append, length-number, length-string) (omega arith)

-- how much a reader took
took : {bytes text rest : List ℕ} {n : ℕ} → Takes bytes text rest → length text ≡ n → length bytes ≡ n + length rest
took {bytes} {text} {rest} t e = omega (arith, ap length t.parts, length-append text rest, e)

-- offsets of a map, as its header has them
pub record AreMapOffsets (header size first_bucket first_node : ℕ) : Type 0 where
  pub bucket : first_bucket ≡ header
  pub some : header < first_node
  pub whole : (first_node - header) % 4 ≡ 0
  pub within : first_node ≤ size

map_offsets : (header size first_bucket first_node : ℕ) → are_map_offsets header size first_bucket first_node ≡ true → AreMapOffsets header size first_bucket first_node
map_offsets header size first_bucket first_node e = record { bucket = grind (arith, nat_tests); some = grind (arith, nat_tests); whole = grind (arith, nat_tests); within = grind (arith, nat_tests) }

map_offsets_fit : (header size first_bucket first_node : ℕ) → AreMapOffsets header size first_bucket first_node → are_map_offsets header size first_bucket first_node ≡ true
map_offsets_fit header size first_bucket first_node h = let a = h.bucket in let b = h.some in let c = h.whole in let d = h.within in grind (arith, nat_tests)

list_offsets : (header size first_byte count : ℕ) → are_list_offsets header size first_byte count ≡ true → (first_byte ≡ header) × (header + count ≡ size)
list_offsets header size first_byte count e = (grind (arith, nat_tests), grind (arith, nat_tests))

list_offsets_fit : (header size first_byte count : ℕ) → first_byte ≡ header → header + count ≡ size → are_list_offsets header size first_byte count ≡ true
list_offsets_fit header size first_byte count p q = grind (arith, nat_tests)

abbrev m_node : List ℕ → ℕ → List ℕ → ℕ → ℕ → ℕ × List ℕ → Result OpenMap ViewFault
m_node bytes version container count bucket node =
    cond (are_map_offsets (length bytes - length node.1) (length bytes) bucket node.0)
    (Ok (record { file = bytes; version = version; container = container; count = count; first_bucket = bucket; first_node = node.0 }))
    (Err BadOffsets)

abbrev m_bucket : List ℕ → ℕ → List ℕ → ℕ → ℕ × List ℕ → Result OpenMap ViewFault
m_bucket bytes version container count bucket = number_at 4 bucket.1 >>= m_node bytes version container count bucket.0

abbrev m_count : List ℕ → ℕ → List ℕ → ℕ × List ℕ → Result OpenMap ViewFault
m_count bytes version container count = number_at 4 count.1 >>= m_bucket bytes version container count.0

abbrev m_size : List ℕ → ℕ → List ℕ → ℕ × List ℕ → Result OpenMap ViewFault
m_size bytes version container size = number_at 4 size.1 >>= m_count bytes version container

abbrev m_type : List ℕ → ℕ → List ℕ → ℕ × List ℕ → Result OpenMap ViewFault
m_type bytes version container type = size_at (length bytes) type.1 >>= m_size bytes version container

abbrev m_container : ℕ → List ℕ → ℕ → List ℕ × List ℕ → Result OpenMap ViewFault
m_container file_type bytes version container = file_type_at file_type container.1 >>= m_type bytes version container.0

abbrev m_version : ℕ → List ℕ → ℕ × List ℕ → Result OpenMap ViewFault
m_version file_type bytes version = container_at version.1 >>= m_container file_type bytes version.0

-- what an open map is, whatever its bytes are
pub record HasMapOffsets (bytes : List ℕ) (map : OpenMap) : Type 0 where
  pub file : map.file ≡ bytes
  pub offsets : AreMapOffsets map.first_bucket (length bytes) map.first_bucket map.first_node

pub opened_map-offsets : (file_type : ℕ) (bytes : List ℕ) (map : OpenMap) → opened_map file_type bytes ≡ Ok map → HasMapOffsets bytes map
unfolding opened_map
opened_map-offsets file_type bytes map e =
    let a = bind_ok (version_at bytes) (m_version file_type bytes) map e in
    let b = bind_ok (container_at a.0.1) (m_container file_type bytes a.0.0) map a.2 in
    let c = bind_ok (file_type_at file_type b.0.1) (m_type bytes a.0.0 b.0.0) map b.2 in
    let d = bind_ok (size_at (length bytes) c.0.1) (m_size bytes a.0.0 b.0.0) map c.2 in
    let f = bind_ok (number_at 4 d.0.1) (m_count bytes a.0.0 b.0.0) map d.2 in
    let g = bind_ok (number_at 4 f.0.1) (m_bucket bytes a.0.0 b.0.0 f.0.0) map f.2 in
    let h = bind_ok (number_at 4 g.0.1) (m_node bytes a.0.0 b.0.0 f.0.0 g.0.0) map g.2 in
    let made : OpenMap = record { file = bytes; version = a.0.0; container = b.0.0; count = f.0.0; first_bucket = g.0.0; first_node = h.0.0 } in
    let p = passed (are_map_offsets (length bytes - length h.0.1) (length bytes) g.0.0 h.0.0) BadOffsets made map h.2 in
    let o = map_offsets (length bytes - length h.0.1) (length bytes) g.0.0 h.0.0 p.0 in
    subst (HasMapOffsets bytes) p.1 (record { file = refl; offsets = subst (λ (k : ℕ). AreMapOffsets k (length bytes) g.0.0 h.0.0) (sym o.bucket) o })

-- a map's header, as the bytes spell it
pub record HasMapHeader (file_type : ℕ) (bytes : List ℕ) (map : OpenMap) : Type 0 where
  pub rest : List ℕ
  pub spelled : bytes ≡ map_header map.version map.container file_type (length bytes) map.count map.first_bucket map.first_node ++ rest
  pub version : map.version ≡ VERSION
  pub container : IsContainer map.container
  pub count : map.count < 2 ^ 32
  pub size : length bytes < 2 ^ 32

pub opened_map-header : (file_type : ℕ) (bytes : List ℕ) (map : OpenMap) → IsBytes bytes → opened_map file_type bytes ≡ Ok map → HasMapHeader file_type bytes map
unfolding opened_map map_header
opened_map-header file_type bytes map fits e =
    let a = bind_ok (version_at bytes) (m_version file_type bytes) map e in
    let b = bind_ok (container_at a.0.1) (m_container file_type bytes a.0.0) map a.2 in
    let c = bind_ok (file_type_at file_type b.0.1) (m_type bytes a.0.0 b.0.0) map b.2 in
    let d = bind_ok (size_at (length bytes) c.0.1) (m_size bytes a.0.0 b.0.0) map c.2 in
    let f = bind_ok (number_at 4 d.0.1) (m_count bytes a.0.0 b.0.0) map d.2 in
    let g = bind_ok (number_at 4 f.0.1) (m_bucket bytes a.0.0 b.0.0 f.0.0) map f.2 in
    let h = bind_ok (number_at 4 g.0.1) (m_node bytes a.0.0 b.0.0 f.0.0 g.0.0) map g.2 in
    let n = number_exact 4 four_bytes in
    let t0 = version_exact.found bytes a.0.0 a.0.1 fits a.1 in
    let t1 = container_exact.found a.0.1 b.0.0 b.0.1 t0.0.rest_fits b.1 in
    let t2 = (file_type_exact file_type).found b.0.1 c.0.0 c.0.1 t1.0.rest_fits c.1 in
    let t3 = (size_exact (length bytes)).found c.0.1 d.0.0 d.0.1 t2.0.rest_fits d.1 in
    let t4 = n.found d.0.1 f.0.0 f.0.1 t3.0.rest_fits f.1 in
    let t5 = n.found f.0.1 g.0.0 g.0.1 t4.0.rest_fits g.1 in
    let t6 = n.found g.0.1 h.0.0 h.0.1 t5.0.rest_fits h.1 in
    let type_is : c.0.0 ≡ file_type = same _ _ t2.1.1 in
    let size_is : d.0.0 ≡ length bytes = same _ _ t3.1.1 in
    let u6 = Takes-then g.0.1 (number 4 h.0.0) h.0.1 [] h.0.1 t6.0 (Takes-none h.0.1 t6.0.rest_fits) in
    let u5 = Takes-then f.0.1 (number 4 g.0.0) g.0.1 _ h.0.1 t5.0 u6 in
    let u4 = Takes-then d.0.1 (number 4 f.0.0) f.0.1 _ h.0.1 t4.0 u5 in
    let u3 = Takes-then c.0.1 (number 4 (length bytes)) d.0.1 _ h.0.1 (subst (λ (k : ℕ). Takes c.0.1 (number 4 k) d.0.1) size_is t3.0) u4 in
    let u2 = Takes-then b.0.1 (number 1 file_type) c.0.1 _ h.0.1 (subst (λ (k : ℕ). Takes b.0.1 (number 1 k) c.0.1) type_is t2.0) u3 in
    let u1 = Takes-then a.0.1 (string b.0.0) b.0.1 _ h.0.1 t1.0 u2 in
    let u0 = Takes-then bytes (number 4 a.0.0) a.0.1 _ h.0.1 t0.0 u1 in
    let made : OpenMap = record { file = bytes; version = a.0.0; container = b.0.0; count = f.0.0; first_bucket = g.0.0; first_node = h.0.0 } in
    let p = passed (are_map_offsets (length bytes - length h.0.1) (length bytes) g.0.0 h.0.0) BadOffsets made map h.2 in
    let facts : HasMapHeader file_type bytes made = record {
      rest = h.0.1;
      spelled = u0.parts;
      version = same _ _ t0.1.1;
      container = (is_container-decides b.0.0).0 t1.1.1;
      count = t4.1;
      size = subst (λ (k : ℕ). k < 2 ^ 32) size_is t3.1.0;
    } in
    subst (HasMapHeader file_type bytes) p.1 facts

map_header-parts : (version : ℕ) (container : List ℕ) (file_type size count first_bucket first_node : ℕ) (rest : List ℕ) → map_header version container file_type size count first_bucket first_node ++ rest ≡ number 4 version ++ (string container ++ (number 1 file_type ++ (number 4 size ++ (number 4 count ++ (number 4 first_bucket ++ (number 4 first_node ++ rest))))))
unfolding map_header
map_header-parts version container file_type size count first_bucket first_node rest = simp append_assoc

-- the header ends where its buckets begin
pub opened_map-first_bucket : (file_type : ℕ) (bytes : List ℕ) (map : OpenMap) → IsBytes bytes → opened_map file_type bytes ≡ Ok map → map.first_bucket ≡ map_header_size map.container
unfolding opened_map
opened_map-first_bucket file_type bytes map fits e =
    let a = bind_ok (version_at bytes) (m_version file_type bytes) map e in
    let b = bind_ok (container_at a.0.1) (m_container file_type bytes a.0.0) map a.2 in
    let c = bind_ok (file_type_at file_type b.0.1) (m_type bytes a.0.0 b.0.0) map b.2 in
    let d = bind_ok (size_at (length bytes) c.0.1) (m_size bytes a.0.0 b.0.0) map c.2 in
    let f = bind_ok (number_at 4 d.0.1) (m_count bytes a.0.0 b.0.0) map d.2 in
    let g = bind_ok (number_at 4 f.0.1) (m_bucket bytes a.0.0 b.0.0 f.0.0) map f.2 in
    let h = bind_ok (number_at 4 g.0.1) (m_node bytes a.0.0 b.0.0 f.0.0 g.0.0) map g.2 in
    let n = number_exact 4 four_bytes in
    let t0 = version_exact.found bytes a.0.0 a.0.1 fits a.1 in
    let t1 = container_exact.found a.0.1 b.0.0 b.0.1 t0.0.rest_fits b.1 in
    let t2 = (file_type_exact file_type).found b.0.1 c.0.0 c.0.1 t1.0.rest_fits c.1 in
    let t3 = (size_exact (length bytes)).found c.0.1 d.0.0 d.0.1 t2.0.rest_fits d.1 in
    let t4 = n.found d.0.1 f.0.0 f.0.1 t3.0.rest_fits f.1 in
    let t5 = n.found f.0.1 g.0.0 g.0.1 t4.0.rest_fits g.1 in
    let t6 = n.found g.0.1 h.0.0 h.0.1 t5.0.rest_fits h.1 in
    let made : OpenMap = record { file = bytes; version = a.0.0; container = b.0.0; count = f.0.0; first_bucket = g.0.0; first_node = h.0.0 } in
    let p = passed (are_map_offsets (length bytes - length h.0.1) (length bytes) g.0.0 h.0.0) BadOffsets made map h.2 in
    let o = map_offsets (length bytes - length h.0.1) (length bytes) g.0.0 h.0.0 p.0 in
    let l0 = took t0.0 (length-number 4 a.0.0) in
    let l1 = took t1.0 (length-string b.0.0) in
    let l2 = took t2.0 (length-number 1 c.0.0) in
    let l3 = took t3.0 (length-number 4 d.0.0) in
    let l4 = took t4.0 (length-number 4 f.0.0) in
    let l5 = took t5.0 (length-number 4 g.0.0) in
    let l6 = took t6.0 (length-number 4 h.0.0) in
    subst (λ (m : OpenMap). m.first_bucket ≡ map_header_size m.container) p.1 (omega (arith, o.bucket, l0, l1, l2, l3, l4, l5, l6))

-- bytes that begin with a true header open
pub record CanOpenMap (file_type : ℕ) (bytes : List ℕ) (map : OpenMap) : Type 0 where
  pub header : HasMapHeader file_type bytes map
  pub file : map.file ≡ bytes
  pub type : file_type < 256
  pub offsets : AreMapOffsets (map_header_size map.container) (length bytes) map.first_bucket map.first_node

pub opened_map-again : (file_type : ℕ) (bytes : List ℕ) (map : OpenMap) → CanOpenMap file_type bytes map → opened_map file_type bytes ≡ Ok map
unfolding opened_map
opened_map-again file_type bytes map can =
    let h = can.header in
    let n = number_exact 4 four_bytes in
    let r6 : List ℕ = number 4 map.first_node ++ h.rest in
    let r5 : List ℕ = number 4 map.first_bucket ++ r6 in
    let r4 : List ℕ = number 4 map.count ++ r5 in
    let r3 : List ℕ = number 4 (length bytes) ++ r4 in
    let r2 : List ℕ = number 1 file_type ++ r3 in
    let r1 : List ℕ = string map.container ++ r2 in
    let e0 : version_at bytes ≡ Ok (map.version, r1) = ap version_at (h.spelled ∙ map_header-parts map.version map.container file_type (length bytes) map.count map.first_bucket map.first_node h.rest) ∙ version_exact.again map.version r1 (omega (arith, h.version), equal _ _ h.version) in
    let e1 = container_exact.again map.container r2 (omega (arith, h.container.bound), (is_container-decides map.container).1 h.container) in
    let e2 = (file_type_exact file_type).again file_type r3 (can.type, equal file_type file_type refl) in
    let e3 = (size_exact (length bytes)).again (length bytes) r4 (h.size, equal (length bytes) (length bytes) refl) in
    let e4 = n.again map.count r5 h.count in
    let e5 = n.again map.first_bucket r6 (omega (arith, can.offsets.bucket, can.offsets.some, can.offsets.within, h.size)) in
    let e6 = n.again map.first_node h.rest (omega (arith, can.offsets.within, h.size)) in
    let len : length bytes - length h.rest ≡ map_header_size map.container =
    let whole = ap length h.spelled ∙ length-append (map_header map.version map.container file_type (length bytes) map.count map.first_bucket map.first_node) h.rest in
    omega (arith, whole, length-map_header map.version map.container file_type (length bytes) map.count map.first_bucket map.first_node) in
    let fit : are_map_offsets (length bytes - length h.rest) (length bytes) map.first_bucket map.first_node ≡ true =
    rw len (map_offsets_fit _ _ _ _ can.offsets) in
    rw (e0, e1, e2, e3, e4, e5, e6, fit) (ap (λ (f : List ℕ). Ok (record map { file = f })) (sym can.file))

-- ---- flag.val and flag.info

abbrev l_byte : List ℕ → ℕ → List ℕ → ℕ → ℕ × List ℕ → Result OpenList ViewFault
l_byte bytes version container count byte =
    cond (are_list_offsets (length bytes - length byte.1) (length bytes) byte.0 count)
    (Ok (record { file = bytes; version = version; container = container; count = count; first_byte = byte.0 }))
    (Err BadOffsets)

abbrev l_count : List ℕ → ℕ → List ℕ → ℕ × List ℕ → Result OpenList ViewFault
l_count bytes version container count = number_at 4 count.1 >>= l_byte bytes version container count.0

abbrev l_size : List ℕ → ℕ → List ℕ → ℕ × List ℕ → Result OpenList ViewFault
l_size bytes version container size = number_at 4 size.1 >>= l_count bytes version container

abbrev l_type : List ℕ → ℕ → List ℕ → ℕ × List ℕ → Result OpenList ViewFault
l_type bytes version container type = size_at (length bytes) type.1 >>= l_size bytes version container

abbrev l_container : ℕ → List ℕ → ℕ → List ℕ × List ℕ → Result OpenList ViewFault
l_container file_type bytes version container = file_type_at file_type container.1 >>= l_type bytes version container.0

abbrev l_version : ℕ → List ℕ → ℕ × List ℕ → Result OpenList ViewFault
l_version file_type bytes version = container_at version.1 >>= l_container file_type bytes version.0

pub record HasListOffsets (bytes : List ℕ) (list : OpenList) : Type 0 where
  pub file : list.file ≡ bytes
  pub ends : list.first_byte + list.count ≡ length bytes

pub opened_list-offsets : (file_type : ℕ) (bytes : List ℕ) (list : OpenList) → opened_list file_type bytes ≡ Ok list → HasListOffsets bytes list
unfolding opened_list
opened_list-offsets file_type bytes list e =
    let a = bind_ok (version_at bytes) (l_version file_type bytes) list e in
    let b = bind_ok (container_at a.0.1) (l_container file_type bytes a.0.0) list a.2 in
    let c = bind_ok (file_type_at file_type b.0.1) (l_type bytes a.0.0 b.0.0) list b.2 in
    let d = bind_ok (size_at (length bytes) c.0.1) (l_size bytes a.0.0 b.0.0) list c.2 in
    let f = bind_ok (number_at 4 d.0.1) (l_count bytes a.0.0 b.0.0) list d.2 in
    let g = bind_ok (number_at 4 f.0.1) (l_byte bytes a.0.0 b.0.0 f.0.0) list f.2 in
    let made : OpenList = record { file = bytes; version = a.0.0; container = b.0.0; count = f.0.0; first_byte = g.0.0 } in
    let p = passed (are_list_offsets (length bytes - length g.0.1) (length bytes) g.0.0 f.0.0) BadOffsets made list g.2 in
    let o = list_offsets (length bytes - length g.0.1) (length bytes) g.0.0 f.0.0 p.0 in
    subst (HasListOffsets bytes) p.1 (record { file = refl; ends = omega (arith, o.0, o.1) })

-- a list's header, as the bytes spell it
pub record HasListHeader (file_type : ℕ) (bytes : List ℕ) (list : OpenList) : Type 0 where
  pub rest : List ℕ
  pub spelled : bytes ≡ list_header list.version list.container file_type (length bytes) list.count list.first_byte ++ rest
  pub version : list.version ≡ VERSION
  pub container : IsContainer list.container
  pub size : length bytes < 2 ^ 32

pub opened_list-header : (file_type : ℕ) (bytes : List ℕ) (list : OpenList) → IsBytes bytes → opened_list file_type bytes ≡ Ok list → HasListHeader file_type bytes list
unfolding opened_list list_header
opened_list-header file_type bytes list fits e =
    let a = bind_ok (version_at bytes) (l_version file_type bytes) list e in
    let b = bind_ok (container_at a.0.1) (l_container file_type bytes a.0.0) list a.2 in
    let c = bind_ok (file_type_at file_type b.0.1) (l_type bytes a.0.0 b.0.0) list b.2 in
    let d = bind_ok (size_at (length bytes) c.0.1) (l_size bytes a.0.0 b.0.0) list c.2 in
    let f = bind_ok (number_at 4 d.0.1) (l_count bytes a.0.0 b.0.0) list d.2 in
    let g = bind_ok (number_at 4 f.0.1) (l_byte bytes a.0.0 b.0.0 f.0.0) list f.2 in
    let n = number_exact 4 four_bytes in
    let t0 = version_exact.found bytes a.0.0 a.0.1 fits a.1 in
    let t1 = container_exact.found a.0.1 b.0.0 b.0.1 t0.0.rest_fits b.1 in
    let t2 = (file_type_exact file_type).found b.0.1 c.0.0 c.0.1 t1.0.rest_fits c.1 in
    let t3 = (size_exact (length bytes)).found c.0.1 d.0.0 d.0.1 t2.0.rest_fits d.1 in
    let t4 = n.found d.0.1 f.0.0 f.0.1 t3.0.rest_fits f.1 in
    let t5 = n.found f.0.1 g.0.0 g.0.1 t4.0.rest_fits g.1 in
    let type_is : c.0.0 ≡ file_type = same _ _ t2.1.1 in
    let size_is : d.0.0 ≡ length bytes = same _ _ t3.1.1 in
    let u5 = Takes-then f.0.1 (number 4 g.0.0) g.0.1 [] g.0.1 t5.0 (Takes-none g.0.1 t5.0.rest_fits) in
    let u4 = Takes-then d.0.1 (number 4 f.0.0) f.0.1 _ g.0.1 t4.0 u5 in
    let u3 = Takes-then c.0.1 (number 4 (length bytes)) d.0.1 _ g.0.1 (subst (λ (k : ℕ). Takes c.0.1 (number 4 k) d.0.1) size_is t3.0) u4 in
    let u2 = Takes-then b.0.1 (number 1 file_type) c.0.1 _ g.0.1 (subst (λ (k : ℕ). Takes b.0.1 (number 1 k) c.0.1) type_is t2.0) u3 in
    let u1 = Takes-then a.0.1 (string b.0.0) b.0.1 _ g.0.1 t1.0 u2 in
    let u0 = Takes-then bytes (number 4 a.0.0) a.0.1 _ g.0.1 t0.0 u1 in
    let made : OpenList = record { file = bytes; version = a.0.0; container = b.0.0; count = f.0.0; first_byte = g.0.0 } in
    let p = passed (are_list_offsets (length bytes - length g.0.1) (length bytes) g.0.0 f.0.0) BadOffsets made list g.2 in
    let facts : HasListHeader file_type bytes made = record {
      rest = g.0.1;
      spelled = u0.parts;
      version = same _ _ t0.1.1;
      container = (is_container-decides b.0.0).0 t1.1.1;
      size = subst (λ (k : ℕ). k < 2 ^ 32) size_is t3.1.0;
    } in
    subst (HasListHeader file_type bytes) p.1 facts

-- the header ends where its bytes begin
pub opened_list-first_byte : (file_type : ℕ) (bytes : List ℕ) (list : OpenList) → IsBytes bytes → opened_list file_type bytes ≡ Ok list → list.first_byte ≡ list_header_size list.container
unfolding opened_list
opened_list-first_byte file_type bytes list fits e =
    let a = bind_ok (version_at bytes) (l_version file_type bytes) list e in
    let b = bind_ok (container_at a.0.1) (l_container file_type bytes a.0.0) list a.2 in
    let c = bind_ok (file_type_at file_type b.0.1) (l_type bytes a.0.0 b.0.0) list b.2 in
    let d = bind_ok (size_at (length bytes) c.0.1) (l_size bytes a.0.0 b.0.0) list c.2 in
    let f = bind_ok (number_at 4 d.0.1) (l_count bytes a.0.0 b.0.0) list d.2 in
    let g = bind_ok (number_at 4 f.0.1) (l_byte bytes a.0.0 b.0.0 f.0.0) list f.2 in
    let n = number_exact 4 four_bytes in
    let t0 = version_exact.found bytes a.0.0 a.0.1 fits a.1 in
    let t1 = container_exact.found a.0.1 b.0.0 b.0.1 t0.0.rest_fits b.1 in
    let t2 = (file_type_exact file_type).found b.0.1 c.0.0 c.0.1 t1.0.rest_fits c.1 in
    let t3 = (size_exact (length bytes)).found c.0.1 d.0.0 d.0.1 t2.0.rest_fits d.1 in
    let t4 = n.found d.0.1 f.0.0 f.0.1 t3.0.rest_fits f.1 in
    let t5 = n.found f.0.1 g.0.0 g.0.1 t4.0.rest_fits g.1 in
    let made : OpenList = record { file = bytes; version = a.0.0; container = b.0.0; count = f.0.0; first_byte = g.0.0 } in
    let p = passed (are_list_offsets (length bytes - length g.0.1) (length bytes) g.0.0 f.0.0) BadOffsets made list g.2 in
    let o = list_offsets (length bytes - length g.0.1) (length bytes) g.0.0 f.0.0 p.0 in
    let l0 = took t0.0 (length-number 4 a.0.0) in
    let l1 = took t1.0 (length-string b.0.0) in
    let l2 = took t2.0 (length-number 1 c.0.0) in
    let l3 = took t3.0 (length-number 4 d.0.0) in
    let l4 = took t4.0 (length-number 4 f.0.0) in
    let l5 = took t5.0 (length-number 4 g.0.0) in
    subst (λ (l : OpenList). l.first_byte ≡ list_header_size l.container) p.1 (omega (arith, o.0, l0, l1, l2, l3, l4, l5))

-- bytes that begin with a true header open
pub record CanOpenList (file_type : ℕ) (bytes : List ℕ) (list : OpenList) : Type 0 where
  pub header : HasListHeader file_type bytes list
  pub file : list.file ≡ bytes
  pub type : file_type < 256
  pub first : list.first_byte ≡ list_header_size list.container
  pub ends : list.first_byte + list.count ≡ length bytes

list_header-parts : (version : ℕ) (container : List ℕ) (file_type size count first_byte : ℕ) (rest : List ℕ) → list_header version container file_type size count first_byte ++ rest ≡ number 4 version ++ (string container ++ (number 1 file_type ++ (number 4 size ++ (number 4 count ++ (number 4 first_byte ++ rest)))))
unfolding list_header
list_header-parts version container file_type size count first_byte rest = simp append_assoc

pub opened_list-again : (file_type : ℕ) (bytes : List ℕ) (list : OpenList) → CanOpenList file_type bytes list → opened_list file_type bytes ≡ Ok list
unfolding opened_list
opened_list-again file_type bytes list can =
    let h = can.header in
    let n = number_exact 4 four_bytes in
    let r5 : List ℕ = number 4 list.first_byte ++ h.rest in
    let r4 : List ℕ = number 4 list.count ++ r5 in
    let r3 : List ℕ = number 4 (length bytes) ++ r4 in
    let r2 : List ℕ = number 1 file_type ++ r3 in
    let r1 : List ℕ = string list.container ++ r2 in
    let e0 : version_at bytes ≡ Ok (list.version, r1) = ap version_at (h.spelled ∙ list_header-parts list.version list.container file_type (length bytes) list.count list.first_byte h.rest) ∙ version_exact.again list.version r1 (omega (arith, h.version), equal _ _ h.version) in
    let e1 = container_exact.again list.container r2 (omega (arith, h.container.bound), (is_container-decides list.container).1 h.container) in
    let e2 = (file_type_exact file_type).again file_type r3 (can.type, equal file_type file_type refl) in
    let e3 = (size_exact (length bytes)).again (length bytes) r4 (h.size, equal (length bytes) (length bytes) refl) in
    let e4 = n.again list.count r5 (omega (arith, can.ends, h.size)) in
    let e5 = n.again list.first_byte h.rest (omega (arith, can.ends, h.size)) in
    let len : length bytes - length h.rest ≡ list_header_size list.container =
    let whole = ap length h.spelled ∙ length-append (list_header list.version list.container file_type (length bytes) list.count list.first_byte) h.rest in
    omega (arith, whole, length-list_header list.version list.container file_type (length bytes) list.count list.first_byte) in
    let fit : are_list_offsets (length bytes - length h.rest) (length bytes) list.first_byte list.count ≡ true =
    rw len (list_offsets_fit _ _ _ _ can.first (omega (arith, can.first, can.ends))) in
    rw (e0, e1, e2, e3, e4, e5, fit) (ap (λ (f : List ℕ). Ok (record list { file = f })) (sym can.file))
