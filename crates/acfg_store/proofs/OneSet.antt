-- Four files are a set of one kind at most: the parts that they are made of, so their release and their notes.
use Rattle.std.proofs.Common.{◌≡◌, ℕ, ◌<◌, List, length, drop, Result, refl, sym, ap, ◌∙◌, subst, lit<}
use Rattle.acfg_views.specs.declared.fault.ViewFault.{ViewFault}
use Rattle.acfg_views.specs.Layout.{MapParts, ListParts, package_node, flag_node, IsPackageNode, IsFlagNode, IsMapFile, IsListFile}
use Rattle.acfg_views.specs.Parts.{HasNodes, MapPartsOpen, open_list_parts, open_parts, parts_of, list_parts_of}
use Rattle.acfg_views.specs.Reading.{OpenMap}
use Rattle.acfg_views.proofs.Exact.{IsExact, ok_is}
use Rattle.acfg_views.proofs.FileFacts.{package_exact, flag_exact}
use Rattle.acfg_views.proofs.Parts.{map_parts_open, list_parts_open}
use Rattle.acfg_images.specs.declared.purpose.Use.{Use}
use Rattle.acfg_images.specs.Files.{Files}
use Rattle.acfg_images.specs.Set.{IsSetOf, SetParts}
use Rattle.acfg_store.specs.Taken.{IsPrefix}
use Rattle.acfg_store.proofs.Listed.{one_list}

-- what a reader takes just as it is spelled stands at the front in one way
exact_prefix : {X : Type 0} (read : List ℕ → Result (X × List ℕ) ViewFault) (spelled : X → List ℕ) (IsLawful : X → Type 0) → IsExact read spelled IsLawful → IsPrefix spelled IsLawful
exact_prefix {X} read spelled IsLawful exact = record {
  one = λ x y a b x-is y-is same.
      let p = ok_is (x, a) (y, b) (sym (exact.again x a x-is) ∙ ap read same ∙ exact.again y b y-is) in
      (ap (λ (t : X × List ℕ). t.0) p, ap (λ (t : X × List ℕ). t.1) p);
}

one_map : {N : Type 0} (file_type : ℕ) (node : N → List ℕ) (IsNode : N → Type 0) → MapPartsOpen file_type node IsNode → IsPrefix node IsNode → (bytes : List ℕ) (p q : MapParts N)
    → IsMapFile file_type node IsNode bytes p → IsMapFile file_type node IsNode bytes q → p ≡ q
one_map {N} file_type node IsNode opens unique bytes p q p-is q-is =
    let op = opens bytes p p-is in
    let oq = opens bytes q q-is in
    let same : open_parts bytes p ≡ open_parts bytes q = ok_is (open_parts bytes p) (open_parts bytes q) (sym op.0 ∙ oq.0) in
    let has = subst (λ (map : OpenMap). HasNodes node IsNode map q.nodes) (sym same) oq.1 in
    let nodes = one_list node IsNode unique (length p.nodes) (drop (open_parts bytes p).first_node bytes) p.nodes q.nodes
    (record { many = refl; each = op.1.lawful; are = op.1.spelled }) (record { many = has.count; each = has.lawful; are = has.spelled }) in
    sym op.2 ∙ ap (λ (map : OpenMap). parts_of map p.nodes) same ∙ ap (λ (ns : List N). parts_of (open_parts bytes q) ns) nodes ∙ oq.2

pub one_list_file : (file_type : ℕ) → file_type < 256 → (bytes : List ℕ) (p q : ListParts) → IsListFile file_type bytes p → IsListFile file_type bytes q → p ≡ q
one_list_file file_type type bytes p q p-is q-is =
    let op = list_parts_open file_type type bytes p p-is in
    let oq = list_parts_open file_type type bytes q q-is in
    let same : open_list_parts bytes p ≡ open_list_parts bytes q = ok_is (open_list_parts bytes p) (open_list_parts bytes q) (sym op.0 ∙ oq.0) in
    sym op.1 ∙ ap list_parts_of same ∙ oq.1

pub one_parts : (files : Files) (a b : Use) (p q : SetParts) → IsSetOf files a p → IsSetOf files b q → p ≡ q
one_parts files a b p q p-is q-is =
    let packages = one_map 0 package_node IsPackageNode (map_parts_open 0 package_node IsPackageNode (lit< tt)) (exact_prefix _ package_node IsPackageNode package_exact)
    files.package_map p.package_map q.package_map p-is.package_map q-is.package_map in
    let flags = one_map 1 flag_node IsFlagNode (map_parts_open 1 flag_node IsFlagNode (lit< tt)) (exact_prefix _ flag_node IsFlagNode flag_exact)
    files.flag_map p.flag_map q.flag_map p-is.flag_map q-is.flag_map in
    let values = one_list_file 2 (lit< tt) files.flag_val p.values q.values p-is.values q-is.values in
    let infos = one_list_file 3 (lit< tt) files.flag_info p.infos q.infos p-is.infos q-is.infos in
    λ i. record { package_map = packages i; flag_map = flags i; values = values i; infos = infos i }
