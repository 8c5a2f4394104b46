-- No fault stands exactly where four files are a set.
use Rattle.std.proofs.Common.{◌≡◌, ℕ, ◌≤◌, false, ltb, List, length, drop, All, Option, Some, None, Result, Ok, Err, refl, sym, ap, subst, ◌∙◌, ◌⊎◌, inl, inr, arith, lit<}
use Rattle.std.proofs.lemmas.Bool.{le-ltb}
use Rattle.acfg_views.specs.Fields.{IsBytes}
use Rattle.acfg_views.specs.Layout.{Package, Flag, package_node, flag_node, IsPackageNode, IsFlagNode, first_node_of, MapParts, ListParts, package_map_type, flag_map_type, flag_val_type, flag_info_type, MOST_BYTES}
use Rattle.acfg_views.specs.Reading.{OpenMap, OpenList, opened_map, opened_list, bucket_count, package_at, flag_at}
use Rattle.acfg_views.specs.Parts.{parts_of, list_parts_of, open_parts, open_list_parts, HasNodes}
use Rattle.acfg_views.proofs.FileFacts.{package_exact, flag_exact, opened_map-offsets, opened_map-first_bucket, opened_list-offsets}
use Rattle.acfg_views.proofs.Parts.{open_map_has_parts, open_list_has_parts, map_parts_open, list_parts_open}
use Rattle.acfg_views.proofs.Buckets.{length-numbers}
use Rattle.acfg_images.specs.declared.purpose.Use.{Use}
use Rattle.acfg_images.specs.declared.fault.FileType.{FileType}
use Rattle.acfg_images.specs.declared.fault.FileType.TheVariants.{PackageMap, FlagMap}
use Rattle.acfg_images.specs.declared.fault.ImageFault.{ImageFault}
use Rattle.acfg_images.specs.declared.fault.ImageFault.TheVariants.{OutOfMemory}
use Rattle.acfg_images.specs.Files.{Files, bytes_in_all}
use Rattle.acfg_images.specs.Links.{package_links, flag_links, AreLinked, links_of_packages, links_of_flags}
use Rattle.acfg_images.specs.Set.{SetParts, IsInfo, Agree, IsSetOf, release_in, notes_in}
use Rattle.acfg_images.specs.Faults.{◌>>=◌, unless, Opened, opened_set, opened_files, files_in, nodes_in, nodes_of, nodes_or_none, link_fault, package_part, flag_part, packages_in, flags_in, parts_in, bits_fault, disagreement, container_fault, id_fault, count_fault, HasNoFault, checked, checked_files}
use Rattle.acfg_images.specs.Views.{AreOpenFiles}
use Rattle.acfg_images.specs.Laws.{AreBytes, IsOneSet, IsNoSet, FaultlessAreSets, SetsAreFaultless}
use Rattle.acfg_images.proofs.Walk.{length-nodes_in}
use Rattle.acfg_images.proofs.Stages.{bind_ok, AreOpened, are_opened, opened_small, opened_same, packages_linked, flags_linked, goes_on}
use Rattle.acfg_images.proofs.KeysAre.{linked, no_wrong_links, or_else_none}
use Rattle.acfg_images.proofs.NodesAre.{has_nodes, nodes_read}
use Rattle.acfg_images.proofs.AgreeAre.{HasCount, lawful_bits, no_bits_fault, parts_with, counts, agree, no_disagreement}

-- ---- steps of the check

unless_ok : {A : Type 0} (fault : Option ImageFault) (rest : Result A ImageFault) (x : A) → unless fault rest ≡ Ok x → (fault ≡ None) × (rest ≡ Ok x)
unless_ok None rest x e = (refl, e)
unless_ok (Some fault) rest x e = absurd cc

nodes_ok : {N : Type 0} (file : FileType) (size : ℕ) (r : Result (List N) (List ℕ)) (nodes : List N) → nodes_of file size r ≡ Ok nodes → r ≡ Ok nodes
nodes_ok file size (Ok ns) nodes e = let same : ns ≡ nodes = cc in ap (λ (l : _). Ok l) same
nodes_ok file size (Err rest) nodes e = absurd cc

pub record PackagesFaultless (map : OpenMap) (nodes : List Package) : Type 0 where
  pub read : nodes_in package_at map ≡ Ok nodes
  pub linked : link_fault PackageMap map (package_links map.first_node nodes) ≡ None

pub record FlagsFaultless (map : OpenMap) (nodes : List Flag) : Type 0 where
  pub read : nodes_in flag_at map ≡ Ok nodes
  pub linked : link_fault FlagMap map (flag_links map.first_node nodes) ≡ None

packages_faultless : (map : OpenMap) (nodes : List Package) → package_part map ≡ Ok nodes → PackagesFaultless map nodes
unfolding package_part
packages_faultless map nodes e =
    let a = bind_ok (nodes_of PackageMap (length map.file) (nodes_in package_at map)) (λ packages. unless (link_fault PackageMap map (package_links map.first_node packages)) (Ok packages)) nodes e in
    let b = unless_ok (link_fault PackageMap map (package_links map.first_node a.0)) (Ok a.0) nodes a.2 in
    let same : a.0 ≡ nodes = ok_is a.0 nodes b.1 in
    subst (PackagesFaultless map) same (record { read = nodes_ok PackageMap (length map.file) (nodes_in package_at map) a.0 a.1; linked = b.0 })
  where
    ok : List Package → Result (List Package) ImageFault
    ok x = Ok x

    ok_is : (x y : List Package) → ok x ≡ ok y → x ≡ y
    ok_is x y p = cc

flags_faultless : (map : OpenMap) (nodes : List Flag) → flag_part map ≡ Ok nodes → FlagsFaultless map nodes
unfolding flag_part
flags_faultless map nodes e =
    let a = bind_ok (nodes_of FlagMap (length map.file) (nodes_in flag_at map)) (λ flags. unless (link_fault FlagMap map (flag_links map.first_node flags)) (Ok flags)) nodes e in
    let b = unless_ok (link_fault FlagMap map (flag_links map.first_node a.0)) (Ok a.0) nodes a.2 in
    let same : a.0 ≡ nodes = ok_is a.0 nodes b.1 in
    subst (FlagsFaultless map) same (record { read = nodes_ok FlagMap (length map.file) (nodes_in flag_at map) a.0 a.1; linked = b.0 })
  where
    ok : List Flag → Result (List Flag) ImageFault
    ok x = Ok x

    ok_is : (x y : List Flag) → ok x ≡ ok y → x ≡ y
    ok_is x y p = cc

-- no fault stands in four open files with these nodes
pub record IsFaultless (purpose : Use) (opened : Opened) (packages : List Package) (flags : List Flag) : Type 0 where
  pub package_map : PackagesFaultless opened.package_map packages
  pub flag_map : FlagsFaultless opened.flag_map flags
  pub bits : bits_fault purpose opened ≡ None
  pub agree : disagreement opened packages flags ≡ None

abbrev behind_flags : Use → Opened → List Package → List Flag → Result Opened ImageFault
behind_flags purpose opened packages flags = unless (bits_fault purpose opened) (unless (disagreement opened packages flags) (Ok opened))

abbrev behind_packages : Use → Opened → List Package → Result Opened ImageFault
behind_packages purpose opened packages = flag_part opened.flag_map >>= behind_flags purpose opened packages

faultless : (purpose : Use) (opened made : Opened) → checked_files purpose opened ≡ Ok made → (packages : List Package) × (flags : List Flag) × IsFaultless purpose opened packages flags × (opened ≡ made)
unfolding checked_files
faultless purpose opened made e =
    let a = bind_ok (package_part opened.package_map) (behind_packages purpose opened) made e in
    let b = bind_ok (flag_part opened.flag_map) (behind_flags purpose opened a.0) made a.2 in
    let c = unless_ok (bits_fault purpose opened) (unless (disagreement opened a.0 b.0) (Ok opened)) made b.2 in
    let d = unless_ok (disagreement opened a.0 b.0) (Ok opened) made c.1 in (
      a.0,
      b.0,
      record { package_map = packages_faultless opened.package_map a.0 a.1; flag_map = flags_faultless opened.flag_map b.0 b.1; bits = c.0; agree = d.0 },
      ok_is opened made d.1,
    )
  where
    ok : Opened → Result Opened ImageFault
    ok x = Ok x

    ok_is : (x y : Opened) → ok x ≡ ok y → x ≡ y
    ok_is x y p = cc

faultless_checked : (purpose : Use) (opened : Opened) (packages : List Package) (flags : List Flag) → IsFaultless purpose opened packages flags → checked_files purpose opened ≡ Ok opened
unfolding checked_files
faultless_checked purpose opened packages flags is =
    let a : package_part opened.package_map ≡ Ok packages =
    packages_linked opened.package_map (length opened.package_map.file) packages None refl (ap (nodes_of PackageMap (length opened.package_map.file)) is.package_map.read) (sym is.package_map.linked) in
    let b : flag_part opened.flag_map ≡ Ok flags =
    flags_linked opened.flag_map (length opened.flag_map.file) flags None refl (ap (nodes_of FlagMap (length opened.flag_map.file)) is.flag_map.read) (sym is.flag_map.linked) in
    rw (a, b, is.bits, is.agree) refl

-- ---- four files, opened

opens : (files : Files) (opened : Opened) → AreOpened files opened → opened_files files ≡ Ok opened
unfolding opened_files
opens files opened are = rw (are.package_map, are.flag_map, are.values, are.infos) refl

small_enough : (files : Files) → bytes_in_all files ≤ MOST_BYTES → opened_set files ≡ opened_files files
unfolding opened_set
small_enough files small = let test : ltb MOST_BYTES (bytes_in_all files) ≡ false = le-ltb _ _ small in rw test refl

set_opened : (files : Files) (opened : Opened) → opened_set files ≡ Ok opened → AreOpened files opened
set_opened files opened e = are_opened files opened (sym (small_enough files (opened_small files opened e)) ∙ e)

-- ---- where nodes begin

first_node_is : {N : Type 0} (file_type : ℕ) (bytes : List ℕ) (map : OpenMap) (nodes : List N) → IsBytes bytes → opened_map file_type bytes ≡ Ok map → first_node_of (parts_of map nodes) ≡ map.first_node
first_node_is file_type bytes map nodes fits e =
    let o = opened_map-offsets file_type bytes map e in
    let first = opened_map-first_bucket file_type bytes map fits e in
    let len = length-numbers (bucket_count map) (drop map.first_bucket map.file) in
    omega (arith, len, first, o.offsets.some, o.offsets.whole)

pub has_count : (file_type : ℕ) (bytes : List ℕ) (list : OpenList) → opened_list file_type bytes ≡ Ok list → HasCount list
has_count file_type bytes list e = let o = opened_list-offsets file_type bytes list e in o.ends ∙ ap length (sym o.file)

-- ---- a set, where no fault stands

set_of : (purpose : Use) (files : Files) (opened : Opened) (packages : List Package) (flags : List Flag) → AreBytes files → bytes_in_all files ≤ MOST_BYTES → AreOpened files opened → IsFaultless purpose opened packages flags
    → IsSetOf files purpose (parts_with opened packages flags)
set_of purpose files opened packages flags bytes small are is =
    let p_file : IsBytes opened.package_map.file = subst IsBytes (sym (opened_map-offsets package_map_type files.package_map opened.package_map are.package_map).file) bytes.package_map in
    let f_file : IsBytes opened.flag_map.file = subst IsBytes (sym (opened_map-offsets flag_map_type files.flag_map opened.flag_map are.flag_map).file) bytes.flag_map in
    let values = has_count flag_val_type files.flag_val opened.values are.values in
    let infos = has_count flag_info_type files.flag_info opened.infos are.infos in
    let p_links = linked PackageMap opened.package_map.first_bucket _ (package_links opened.package_map.first_node packages) is.package_map.linked in
    let f_links = linked FlagMap opened.flag_map.first_bucket _ (flag_links opened.flag_map.first_node flags) is.flag_map.linked in
    let bits = lawful_bits purpose opened values infos is.bits in
    record {
      size = small;
      package_map = open_map_has_parts package_map_type package_node IsPackageNode files.package_map opened.package_map packages bytes.package_map are.package_map (has_nodes package_at package_node IsPackageNode package_exact opened.package_map packages p_file is.package_map.read);
      flag_map = open_map_has_parts flag_map_type flag_node IsFlagNode files.flag_map opened.flag_map flags bytes.flag_map are.flag_map (has_nodes flag_at flag_node IsFlagNode flag_exact opened.flag_map flags f_file is.flag_map.read);
      values = open_list_has_parts flag_val_type files.flag_val opened.values bytes.flag_val are.values;
      infos = open_list_has_parts flag_info_type files.flag_info opened.infos bytes.flag_info are.infos;
      packages_linked = subst (λ (at : ℕ). AreLinked (parts_of opened.package_map packages).buckets (package_links at packages)) (sym (first_node_is package_map_type files.package_map opened.package_map packages bytes.package_map are.package_map)) p_links;
      flags_linked = subst (λ (at : ℕ). AreLinked (parts_of opened.flag_map flags).buckets (flag_links at flags)) (sym (first_node_is flag_map_type files.flag_map opened.flag_map flags bytes.flag_map are.flag_map)) f_links;
      value_bytes = bits.0;
      info_bytes = bits.1;
      agree = agree opened packages flags values infos (length-nodes_in flag_at opened.flag_map flags is.flag_map.read) is.agree;
    }

parts_are : (opened : Opened) (packages : List Package) (flags : List Flag) → nodes_in package_at opened.package_map ≡ Ok packages → nodes_in flag_at opened.flag_map ≡ Ok flags → parts_with opened packages flags ≡ parts_in opened
parts_are opened packages flags p f =
    let ps : packages ≡ packages_in opened = sym (ap nodes_or_none p) in
    let fs : flags ≡ flags_in opened = sym (ap nodes_or_none f) in
    ap (λ (l : List Package). parts_with opened l flags) ps ∙ ap (λ (l : List Flag). parts_with opened (packages_in opened) l) fs

pub is_set_of : (purpose : Use) (files : Files) (opened : Opened) → AreBytes files → checked purpose files ≡ Ok opened → IsSetOf files purpose (parts_in opened)
unfolding checked
is_set_of purpose files opened bytes e =
    let a = bind_ok (opened_set files) (checked_files purpose) opened e in
    let b = faultless purpose a.0 opened a.2 in
    let set = set_of purpose files a.0 b.0 b.1 bytes (opened_small files a.0 a.1) (set_opened files a.0 a.1) b.2 in
    let parts = parts_are a.0 b.0 b.1 b.2.package_map.read b.2.flag_map.read in
    subst (λ (o : Opened). IsSetOf files purpose (parts_in o)) b.3 (subst (IsSetOf files purpose) parts set)

-- ---- no fault, where the files are a set

-- how a set's files open
abbrev opened_with : Files → SetParts → Opened
opened_with files parts = record {
  package_map = open_parts files.package_map parts.package_map;
  flag_map = open_parts files.flag_map parts.flag_map;
  values = open_list_parts files.flag_val parts.values;
  infos = open_list_parts files.flag_info parts.infos;
}

abbrev parts_from : MapParts Package → MapParts Flag → ListParts → ListParts → SetParts
parts_from packages flags values infos = record { package_map = packages; flag_map = flags; values = values; infos = infos }

same_parts : (a a' : MapParts Package) (b b' : MapParts Flag) (c c' d d' : ListParts) → a ≡ a' → b ≡ b' → c ≡ c' → d ≡ d' → parts_from a b c d ≡ parts_from a' b' c' d'
same_parts a a' b b' c c' d d' p q r s = cc

module _ (purpose : Use) (files : Files) (parts : SetParts) (is : IsSetOf files purpose parts) where
  p_open : (opened_map package_map_type files.package_map ≡ Ok (open_parts files.package_map parts.package_map)) × HasNodes package_node IsPackageNode (open_parts files.package_map parts.package_map) parts.package_map.nodes × (parts_of (open_parts files.package_map parts.package_map) parts.package_map.nodes ≡ parts.package_map)
  p_open = map_parts_open package_map_type package_node IsPackageNode (lit< tt) files.package_map parts.package_map is.package_map

  f_open : (opened_map flag_map_type files.flag_map ≡ Ok (open_parts files.flag_map parts.flag_map)) × HasNodes flag_node IsFlagNode (open_parts files.flag_map parts.flag_map) parts.flag_map.nodes × (parts_of (open_parts files.flag_map parts.flag_map) parts.flag_map.nodes ≡ parts.flag_map)
  f_open = map_parts_open flag_map_type flag_node IsFlagNode (lit< tt) files.flag_map parts.flag_map is.flag_map

  v_open : (opened_list flag_val_type files.flag_val ≡ Ok (open_list_parts files.flag_val parts.values)) × (list_parts_of (open_list_parts files.flag_val parts.values) ≡ parts.values)
  v_open = list_parts_open flag_val_type (lit< tt) files.flag_val parts.values is.values

  i_open : (opened_list flag_info_type files.flag_info ≡ Ok (open_list_parts files.flag_info parts.infos)) × (list_parts_of (open_list_parts files.flag_info parts.infos) ≡ parts.infos)
  i_open = list_parts_open flag_info_type (lit< tt) files.flag_info parts.infos is.infos

  made_opened : AreOpened files (opened_with files parts)
  made_opened = record { package_map = p_open.0; flag_map = f_open.0; values = v_open.0; infos = i_open.0 }

  made_parts : parts_with (opened_with files parts) parts.package_map.nodes parts.flag_map.nodes ≡ parts
  made_parts = same_parts _ parts.package_map _ parts.flag_map _ parts.values _ parts.infos p_open.2 f_open.2 v_open.1 i_open.1

  made_faultless : IsFaultless purpose (opened_with files parts) parts.package_map.nodes parts.flag_map.nodes
  made_faultless =
      let opened = opened_with files parts in
      let values = has_count flag_val_type files.flag_val opened.values v_open.0 in
      let infos = has_count flag_info_type files.flag_info opened.infos i_open.0 in
      let p_read = nodes_read package_at package_node IsPackageNode package_exact opened.package_map parts.package_map.nodes p_open.1 in
      let f_read = nodes_read flag_at flag_node IsFlagNode flag_exact opened.flag_map parts.flag_map.nodes f_open.1 in
      record {
        package_map = record {
          read = p_read;
          linked = no_wrong_links PackageMap opened.package_map.first_bucket _ _ (subst (λ (p : MapParts Package). AreLinked p.buckets (links_of_packages parts.package_map)) (sym p_open.2) is.packages_linked);
        };
        flag_map = record {
          read = f_read;
          linked = no_wrong_links FlagMap opened.flag_map.first_bucket _ _ (subst (λ (p : MapParts Flag). AreLinked p.buckets (links_of_flags parts.flag_map)) (sym f_open.2) is.flags_linked);
        };
        bits = no_bits_fault purpose opened values infos
            (subst (λ (l : ListParts). All (λ byte. byte ≤ 1) l.bytes) (sym v_open.1) is.value_bytes)
            (subst (λ (l : ListParts). All (IsInfo purpose) l.bytes) (sym i_open.1) is.info_bytes);
        agree = no_disagreement opened parts.package_map.nodes parts.flag_map.nodes values infos (length-nodes_in flag_at opened.flag_map parts.flag_map.nodes f_read)
            (subst Agree (sym made_parts) is.agree);
      }

  set_checked : checked purpose files ≡ Ok (opened_with files parts)
  set_checked = goes_on purpose files (opened_with files parts) (small_enough files is.size ∙ opens files (opened_with files parts) made_opened) ∙ faultless_checked purpose (opened_with files parts) parts.package_map.nodes parts.flag_map.nodes made_faultless

  set_parts : parts_in (opened_with files parts) ≡ parts
  set_parts = sym (parts_are (opened_with files parts) parts.package_map.nodes parts.flag_map.nodes made_faultless.package_map.read made_faultless.flag_map.read) ∙ made_parts

  -- what was opened of a set has its parts
  pub same_as_set : (opened : Opened) → checked purpose files ≡ Ok opened → parts_in opened ≡ parts
  same_as_set opened e = let same : opened_with files parts ≡ opened = ok_is _ _ (sym set_checked ∙ e) in subst (λ (o : Opened). parts_in o ≡ parts) same set_parts
    where
      ok : Opened → Result Opened ImageFault
      ok x = Ok x

      ok_is : (x y : Opened) → ok x ≡ ok y → x ≡ y
      ok_is x y p = cc

-- ---- both directions

pub one_set : FaultlessAreSets
one_set purpose files opened bytes e = record {
  is_set = record { parts = parts_in opened; files_are = is_set_of purpose files opened bytes e; container_is = refl; release_is = refl; notes_are = refl };
  container = λ set. sym set.container_is ∙ ap (λ (p : SetParts). p.package_map.container) (sym (same_as_set purpose files set.parts set.files_are opened e));
  release = λ set. sym set.release_is ∙ ap release_in (sym (same_as_set purpose files set.parts set.files_are opened e));
  notes = λ set. sym set.notes_are ∙ ap notes_in (sym (same_as_set purpose files set.parts set.files_are opened e));
}

pub no_fault : SetsAreFaultless
no_fault purpose files name release notes set = (opened_with files set.parts, set_checked purpose files set.parts set.files_are)

-- ---- what a check tells

pub checked_same : (purpose : Use) (files : Files) (opened : Opened) → checked purpose files ≡ Ok opened → files_in opened ≡ files
unfolding checked
checked_same purpose files opened e =
    let a = bind_ok (opened_set files) (checked_files purpose) opened e in
    let b = faultless purpose a.0 opened a.2 in
    ap files_in (sym b.3) ∙ opened_same files a.0 a.1

pub bytes_of : (opened : Opened) → AreOpenFiles opened → AreBytes (files_in opened)
bytes_of opened are = record { package_map = are.package_map.bytes; flag_map = are.flag_map.bytes; flag_val = are.values.bytes; flag_info = are.infos.bytes }

pub told_set : (purpose : Use) (files : Files) (opened : Opened) → AreOpenFiles opened → checked purpose files ≡ Ok opened → IsOneSet files purpose opened
told_set purpose files opened are e = one_set purpose files opened (subst AreBytes (checked_same purpose files opened e) (bytes_of opened are)) e

pub told_none : (purpose : Use) (files : Files) (fault : ImageFault) → (fault ≡ OutOfMemory) ⊎ (checked purpose files ≡ Err fault) → (fault ≡ OutOfMemory) ⊎ IsNoSet files purpose
told_none purpose files fault (inl oom) = inl oom
told_none purpose files fault (inr e) = inr (λ name release notes set. let ok = no_fault purpose files name release notes set in other ok.0 (sym ok.1 ∙ e))
  where
    ok_of : Opened → Result Opened ImageFault
    ok_of x = Ok x

    other : (opened : Opened) → ok_of opened ≡ Err fault → ⊥
    other opened p = cc

pub checked_small : (purpose : Use) (files : Files) (opened : Opened) → checked purpose files ≡ Ok opened → bytes_in_all files ≤ MOST_BYTES
unfolding checked
checked_small purpose files opened e = let a = bind_ok (opened_set files) (checked_files purpose) opened e in opened_small files a.0 a.1

-- as many values and bits as flags
pub same_counts : (opened : Opened) → HasNoFault opened → (opened.flag_map.count ≡ opened.values.count) × (opened.flag_map.count ≡ opened.infos.count)
unfolding checked
same_counts opened none =
    let a = bind_ok (opened_set (files_in opened)) (checked_files none.0) opened none.1 in
    let b = faultless none.0 a.0 opened a.2 in
    let d = b.2.agree in
    let first = or_else_none (container_fault a.0) _ d in
    let second = or_else_none (id_fault b.0) _ first.1 in
    let third = or_else_none (count_fault a.0) _ second.1 in
    let both = counts a.0 third.0 in
    subst (λ (o : Opened). (o.flag_map.count ≡ o.values.count) × (o.flag_map.count ≡ o.infos.count)) b.3 (sym both.0, sym both.1)
