-- One step of the check behind another.
use Rattle.std.proofs.Common.{◌≡◌, ℕ, ◌≤◌, ◌^◌, List, length, drop, map, Option, Some, None, Result, Ok, Err, ◌⊎◌, inl, inr, Bool, true, false, cond, ltb, ◌-◌, refl, sym, ap, subst, ◌∙◌}
use Rattle.acfg_views.specs.Layout.{Package, Flag, package_map_type, flag_map_type, flag_val_type, flag_info_type, MOST_BYTES}
use Rattle.acfg_views.specs.Reading.{OpenMap, OpenList, opened_map, opened_list, bucket_count, package_at, flag_at, package_of, flag_of}
use Rattle.acfg_views.specs.declared.nodes.PackageNode.{PackageNode}
use Rattle.acfg_views.specs.declared.nodes.FlagNode.{FlagNode}
use Rattle.acfg_views.proofs.FileFacts.{opened_map-offsets, opened_list-offsets}
use Rattle.acfg_views.proofs.Buckets.{length-numbers}
use Rattle.acfg_images.specs.declared.fault.ImageFault.{ImageFault}
use Rattle.acfg_images.specs.declared.fault.ImageFault.TheVariants.{OutOfMemory, TooLarge}
use Rattle.acfg_images.specs.declared.fault.FileType.{FileType}
use Rattle.acfg_images.specs.declared.fault.FileType.TheVariants.{PackageMap, FlagMap, FlagVal, FlagInfo}
use Rattle.acfg_images.specs.declared.purpose.Use.{Use}
use Rattle.std.specs.Prelude.{min}
use Rattle.std.proofs.lemmas.Bool.{ltb-false}
use Rattle.acfg_views.specs.declared.fault.ViewFault.{ViewFault}
use Rattle.acfg_images.specs.Files.{Files, bytes_in_all}
use Rattle.acfg_images.specs.Links.{Link, package_links, flag_links}
use Rattle.acfg_images.specs.Faults.{◌>>=◌, unless, or_else, view_of, Opened, opened_set, opened_files, files_in, bits_fault, disagreement, checked, checked_files, wrong_links, buckets_in, nodes_in, nodes_of, link_fault, package_part, flag_part}

pub length-buckets_in : (map : OpenMap) → length (buckets_in map) ≡ bucket_count map
length-buckets_in map = length-numbers (bucket_count map) (drop map.first_bucket map.file)

pub link_fault_is : (file : FileType) (map : OpenMap) (first : ℕ) (buckets : List ℕ) (links due : List Link) (r : Option ImageFault) → r ≡ wrong_links file first buckets links → first ≡ map.first_bucket → buckets ≡ buckets_in map → links ≡ due → r ≡ link_fault file map due
link_fault_is file map first buckets links due r is first_is buckets_are links_are =
    is ∙ ap (λ (n : ℕ). wrong_links file n buckets links) first_is ∙ ap (λ (bs : List ℕ). wrong_links file map.first_bucket bs links) buckets_are ∙ ap (wrong_links file map.first_bucket (buckets_in map)) links_are

-- a fault among the nodes is the part's
pub packages_stop : (map : OpenMap) (size : ℕ) (e : ImageFault) → size ≡ length map.file → (e ≡ OutOfMemory) ⊎ (nodes_of PackageMap size (nodes_in package_at map) ≡ Err e) → (e ≡ OutOfMemory) ⊎ (package_part map ≡ Err e)
unfolding package_part
packages_stop map size e size_is (inl oom) = inl oom
packages_stop map size e size_is (inr stop) = let here : nodes_of PackageMap (length map.file) (nodes_in package_at map) ≡ Err e = ap (λ (n : ℕ). nodes_of PackageMap n (nodes_in package_at map)) (sym size_is) ∙ stop in inr (rw here refl)

pub packages_linked : (map : OpenMap) (size : ℕ) (nodes : List Package) (r : Option ImageFault) → size ≡ length map.file → nodes_of PackageMap size (nodes_in package_at map) ≡ Ok nodes
    → r ≡ link_fault PackageMap map (package_links map.first_node nodes) → package_part map ≡ unless r (Ok nodes)
unfolding package_part
packages_linked map size nodes r size_is read linked =
    let here : nodes_of PackageMap (length map.file) (nodes_in package_at map) ≡ Ok nodes = ap (λ (n : ℕ). nodes_of PackageMap n (nodes_in package_at map)) (sym size_is) ∙ read in
    rw here (ap (λ (o : Option ImageFault). unless o (Ok nodes)) (sym linked))

-- a fault among the nodes is the part's
pub flags_stop : (map : OpenMap) (size : ℕ) (e : ImageFault) → size ≡ length map.file → (e ≡ OutOfMemory) ⊎ (nodes_of FlagMap size (nodes_in flag_at map) ≡ Err e) → (e ≡ OutOfMemory) ⊎ (flag_part map ≡ Err e)
unfolding flag_part
flags_stop map size e size_is (inl oom) = inl oom
flags_stop map size e size_is (inr stop) = let here : nodes_of FlagMap (length map.file) (nodes_in flag_at map) ≡ Err e = ap (λ (n : ℕ). nodes_of FlagMap n (nodes_in flag_at map)) (sym size_is) ∙ stop in inr (rw here refl)

pub flags_linked : (map : OpenMap) (size : ℕ) (nodes : List Flag) (r : Option ImageFault) → size ≡ length map.file → nodes_of FlagMap size (nodes_in flag_at map) ≡ Ok nodes
    → r ≡ link_fault FlagMap map (flag_links map.first_node nodes) → flag_part map ≡ unless r (Ok nodes)
unfolding flag_part
flags_linked map size nodes r size_is read linked =
    let here : nodes_of FlagMap (length map.file) (nodes_in flag_at map) ≡ Ok nodes = ap (λ (n : ℕ). nodes_of FlagMap n (nodes_in flag_at map)) (sym size_is) ∙ read in
    rw here (ap (λ (o : Option ImageFault). unless o (Ok nodes)) (sym linked))

pub either : {P Q : Type 0} {e : ImageFault} → (P → Q) → (e ≡ OutOfMemory) ⊎ P → (e ≡ OutOfMemory) ⊎ Q
either f (inl oom) = inl oom
either f (inr p) = inr (f p)

-- ---- the whole check

module _ (purpose : Use) (files : Files) where
  pub stops_view : (e : ImageFault) → opened_set files ≡ Err e → checked purpose files ≡ Err e
  unfolding checked
  stops_view e stop = ap (λ (o : Result Opened ImageFault). o >>= checked_files purpose) stop

  pub goes_on : (opened : Opened) → opened_set files ≡ Ok opened → checked purpose files ≡ checked_files purpose opened
  unfolding checked
  goes_on opened ok = ap (λ (o : Result Opened ImageFault). o >>= checked_files purpose) ok

module _ (purpose : Use) (opened : Opened) where
  pub stops_packages : (e : ImageFault) → package_part opened.package_map ≡ Err e → checked_files purpose opened ≡ Err e
  unfolding checked_files
  stops_packages e stop = rw stop refl

  pub stops_flags : (packages : List Package) (e : ImageFault) → package_part opened.package_map ≡ Ok packages → flag_part opened.flag_map ≡ Err e → checked_files purpose opened ≡ Err e
  unfolding checked_files
  stops_flags packages e ok stop = rw (ok, stop) refl

  pub all_ends : (packages : List Package) (flags : List Flag) (r : Option ImageFault) → package_part opened.package_map ≡ Ok packages → flag_part opened.flag_map ≡ Ok flags → r ≡ or_else (bits_fault purpose opened) (disagreement opened packages flags)
      → checked_files purpose opened ≡ unless r (Ok opened)
  unfolding checked_files
  all_ends packages flags r ok_packages ok_flags is =
      rw (ok_packages, ok_flags) (joined (bits_fault purpose opened) (disagreement opened packages flags)) ∙ ap (λ (o : Option ImageFault). unless o (Ok opened)) (sym is)
    where
      joined : (a b : Option ImageFault) → unless a (unless b (Ok opened)) ≡ unless (or_else a b) (Ok opened)
      joined None b = refl
      joined (Some f) b = refl

-- ---- what was opened

abbrev done : Opened → Result Opened ImageFault
done o = Ok o

ok_is : (x y : Opened) → done x ≡ done y → x ≡ y
ok_is x y e = cc

pub bind_ok : {A B : Type 0} (r : Result A ImageFault) (f : A → Result B ImageFault) (y : B) → (r >>= f) ≡ Ok y → (x : A) × (r ≡ Ok x) × (f x ≡ Ok y)
bind_ok (Ok x) f y e = (x, refl, e)
bind_ok (Err d) f y e = absurd cc

pub view_ok : {A : Type 0} (file : FileType) (r : Result A ViewFault) (x : A) → view_of file r ≡ Ok x → r ≡ Ok x
view_ok file (Ok a) x e = let h : a ≡ x = cc in ap (λ (b : _). Ok b) h
view_ok file (Err f) x e = absurd cc

pub opened_small : (files : Files) (opened : Opened) → opened_set files ≡ Ok opened → bytes_in_all files ≤ MOST_BYTES
unfolding opened_set
opened_small files opened e = go (ltb MOST_BYTES (bytes_in_all files)) refl e
  where
    go : (b : Bool) → ltb MOST_BYTES (bytes_in_all files) ≡ b → unless (cond b (Some (TooLarge (min (bytes_in_all files) (2 ^ 64 - 1)))) None) (opened_files files) ≡ Ok opened → bytes_in_all files ≤ MOST_BYTES
    go true is p = absurd cc
    go false is p = ltb-false _ _ is

abbrev files_from : List ℕ → List ℕ → List ℕ → List ℕ → Files
files_from a b c d = record { package_map = a; flag_map = b; flag_val = c; flag_info = d }

same_files : (a b c d a' b' c' d' : List ℕ) → a ≡ a' → b ≡ b' → c ≡ c' → d ≡ d' → files_from a b c d ≡ files_from a' b' c' d'
same_files a b c d a' b' c' d' p q r s = cc

-- each of the four files opens
pub record AreOpened (files : Files) (opened : Opened) : Type 0 where
  pub package_map : opened_map package_map_type files.package_map ≡ Ok opened.package_map
  pub flag_map : opened_map flag_map_type files.flag_map ≡ Ok opened.flag_map
  pub values : opened_list flag_val_type files.flag_val ≡ Ok opened.values
  pub infos : opened_list flag_info_type files.flag_info ≡ Ok opened.infos

abbrev o_all : OpenMap → OpenMap → OpenList → OpenList → Result Opened ImageFault
o_all packages flags values infos = Ok (record { package_map = packages; flag_map = flags; values = values; infos = infos })

abbrev o_values : Files → OpenMap → OpenMap → OpenList → Result Opened ImageFault
o_values files packages flags values = view_of FlagInfo (opened_list flag_info_type files.flag_info) >>= o_all packages flags values

abbrev o_flags : Files → OpenMap → OpenMap → Result Opened ImageFault
o_flags files packages flags = view_of FlagVal (opened_list flag_val_type files.flag_val) >>= o_values files packages flags

abbrev o_packages : Files → OpenMap → Result Opened ImageFault
o_packages files packages = view_of FlagMap (opened_map flag_map_type files.flag_map) >>= o_flags files packages

pub are_opened : (files : Files) (opened : Opened) → opened_files files ≡ Ok opened → AreOpened files opened
unfolding opened_files
are_opened files opened e =
    let a = bind_ok (view_of PackageMap (opened_map package_map_type files.package_map)) (o_packages files) opened e in
    let b = bind_ok (view_of FlagMap (opened_map flag_map_type files.flag_map)) (o_flags files a.0) opened a.2 in
    let c = bind_ok (view_of FlagVal (opened_list flag_val_type files.flag_val)) (o_values files a.0 b.0) opened b.2 in
    let d = bind_ok (view_of FlagInfo (opened_list flag_info_type files.flag_info)) (o_all a.0 b.0 c.0) opened c.2 in
    let made : Opened = record { package_map = a.0; flag_map = b.0; values = c.0; infos = d.0 } in
    subst (AreOpened files) (ok_is made opened d.2) (record {
      package_map = view_ok PackageMap _ a.0 a.1;
      flag_map = view_ok FlagMap _ b.0 b.1;
      values = view_ok FlagVal _ c.0 c.1;
      infos = view_ok FlagInfo _ d.0 d.1;
    })

opened_files-same : (files : Files) (opened : Opened) → opened_files files ≡ Ok opened → files_in opened ≡ files
opened_files-same files opened e =
    let are = are_opened files opened e in
    same_files opened.package_map.file opened.flag_map.file opened.values.file opened.infos.file files.package_map files.flag_map files.flag_val files.flag_info
    (opened_map-offsets _ _ _ are.package_map).file (opened_map-offsets _ _ _ are.flag_map).file
    (opened_list-offsets _ _ _ are.values).file (opened_list-offsets _ _ _ are.infos).file

pub opened_same : (files : Files) (opened : Opened) → opened_set files ≡ Ok opened → files_in opened ≡ files
unfolding opened_set
opened_same files opened e = go (ltb MOST_BYTES (bytes_in_all files)) e
  where
    go : (b : Bool) → unless (cond b (Some (TooLarge (min (bytes_in_all files) (2 ^ 64 - 1)))) None) (opened_files files) ≡ Ok opened → files_in opened ≡ files
    go true p = absurd cc
    go false p = opened_files-same files opened p

-- the same over the lists that were read
pub behind_same : (purpose : Use) (opened : Opened) (seen nodes : List PackageNode) (seen_flags flags : List FlagNode) {r : Option ImageFault} → seen ≡ nodes → seen_flags ≡ flags
    → r ≡ or_else (bits_fault purpose opened) (disagreement opened (map package_of seen) (map flag_of seen_flags)) → r ≡ or_else (bits_fault purpose opened) (disagreement opened (map package_of nodes) (map flag_of flags))
behind_same purpose opened seen nodes seen_flags flags {r} p q is =
    is ∙ ap (λ (ns : List PackageNode). or_else (bits_fault purpose opened) (disagreement opened (map package_of ns) (map flag_of seen_flags))) p
    ∙ ap (λ (fs : List FlagNode). or_else (bits_fault purpose opened) (disagreement opened (map package_of nodes) (map flag_of fs))) q
