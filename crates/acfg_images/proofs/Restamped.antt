-- A set with other values and bits is a set.
use Rattle.std.proofs.Common.{◌≡◌, ℕ, ◌+◌, ◌-◌, ◌<◌, ◌≤◌, List, ◌++◌, length, get_or, take, map, All, refl, sym, ap, subst, ◌∙◌, arith}
use Rattle.std.proofs.lemmas.List.{get_or-drop, length-append, length-drop, length-map, take_at}
use Rattle.std.proofs.Math.ListN.{get_or-map}
use Rattle.acfg_views.specs.Layout.{ListParts, list_header, list_header_size, list_size, list_file, IsListFile, IsPackageMapFile, IsFlagMapFile, flag_val_type, flag_info_type}
use Rattle.acfg_views.specs.Reading.{byte_in}
use Rattle.acfg_images.specs.declared.purpose.Use.{Use}
use Rattle.acfg_images.specs.declared.purpose.Use.TheVariants.{Copy}
use Rattle.acfg_images.specs.Files.{Files}
use Rattle.acfg_images.specs.Set.{SetParts, packages_of, flags_of, index_of, has_read_write, IsInfo, IsSetOf}
use Rattle.acfg_images.specs.Faults.{Opened, parts_in}
use Rattle.acfg_images.specs.Views.{AreOpenFiles}
use Rattle.acfg_images.specs.Restamp.{restamped, CanRestamp}
use Rattle.acfg_images.proofs.Law.{has_count}
use Rattle.acfg_images.proofs.Pigeon.{AreNumbered-below}

module _ (file_type : ℕ) (file bytes new : List ℕ) (parts : ListParts) (is : IsListFile file_type file parts) (count : length new ≡ length parts.bytes) (made : bytes ≡ take (length file - length new) file ++ new) where
  header : List ℕ
  header = list_header parts.version parts.container file_type (list_size parts) (length parts.bytes) (list_header_size parts.container)

  file_is : file ≡ header ++ parts.bytes
  unfolding list_file header
  file_is = is.spelled

  bytes_are : bytes ≡ header ++ new
  bytes_are =
      let front : length file - length new ≡ length header = omega (arith, ap length file_is, length-append header parts.bytes) in
      made ∙ ap (λ (t : List ℕ). t ++ new) (ap (λ (n : ℕ). take n file) front ∙ ap (take (length header)) file_is ∙ take_at header parts.bytes (length header) refl)

  pub same_length : length bytes ≡ length file
  same_length = omega (arith, ap length bytes_are, ap length file_is, length-append header new, length-append header parts.bytes)

  -- the list file with other bytes, as long as the old one
  pub list_again : IsListFile file_type bytes (record parts { bytes = new })
  unfolding list_file header
  list_again = record {
    spelled = bytes_are ∙ ap (λ (n : ℕ). list_header parts.version parts.container file_type (list_header_size parts.container + n) n (list_header_size parts.container) ++ new) (sym count);
    version = is.version;
    container = is.container;
    size = omega (arith, same_length, is.size);
  }

module _ (purpose : Use) (files made : Files) (parts : SetParts) (values infos : List ℕ) (is : IsSetOf files purpose parts) (can : CanRestamp parts values infos) (package_map : made.package_map ≡ files.package_map) (flag_map : made.flag_map ≡ files.flag_map)
    (flag_val : made.flag_val ≡ take (length files.flag_val - length values) files.flag_val ++ values) (flag_info : made.flag_info ≡ take (length files.flag_info - length infos) files.flag_info ++ infos) where
  kinds : All (λ flag. has_read_write (get_or infos (index_of (packages_of parts) flag) 0) ≡ has_read_write (get_or parts.infos.bytes (index_of (packages_of parts) flag) 0)) (flags_of parts)
  kinds j d lt =
      let flag = get_or (flags_of parts) j d in
      let index = index_of (packages_of parts) in
      let len = length-map (flags_of parts) index in
      let h = AreNumbered-below (map index (flags_of parts)) is.agree.indexes j (index d) (omega (arith, len)) in
      let e : get_or (map index (flags_of parts)) j (index d) ≡ index flag = get_or-map index (flags_of parts) j d in
      can.kinds (index flag) (omega (arith, h, e, len, can.info_count, is.agree.info_count))

  pub restamped_set : IsSetOf made Copy (restamped parts values infos)
  restamped_set =
      let v_len = same_length flag_val_type files.flag_val made.flag_val values parts.values is.values can.value_count flag_val in
      let i_len = same_length flag_info_type files.flag_info made.flag_info infos parts.infos is.infos can.info_count flag_info in
      record {
        size = omega (arith, is.size, v_len, i_len, ap length package_map, ap length flag_map);
        package_map = subst (λ (b : List ℕ). IsPackageMapFile b parts.package_map) (sym package_map) is.package_map;
        flag_map = subst (λ (b : List ℕ). IsFlagMapFile b parts.flag_map) (sym flag_map) is.flag_map;
        values = list_again flag_val_type files.flag_val made.flag_val values parts.values is.values can.value_count flag_val;
        infos = list_again flag_info_type files.flag_info made.flag_info infos parts.infos is.infos can.info_count flag_info;
        packages_linked = is.packages_linked;
        flags_linked = is.flags_linked;
        value_bytes = can.value_bytes;
        info_bytes = can.info_bytes;
        agree = record {
          flag_map_container = is.agree.flag_map_container;
          values_container = is.agree.values_container;
          infos_container = is.agree.infos_container;
          ids = is.agree.ids;
          value_count = can.value_count ∙ is.agree.value_count;
          info_count = can.info_count ∙ is.agree.info_count;
          packages = is.agree.packages;
          indexes = is.agree.indexes;
          kinds = λ j d lt. kinds j d lt ∙ is.agree.kinds j d lt;
        };
      }

-- what bytes can stand in place of those of open files, byte by byte
pub can_restamp : (opened : Opened) → AreOpenFiles opened → (values infos : List ℕ) → length values ≡ opened.values.count → length infos ≡ opened.infos.count → All (λ byte. byte ≤ 1) values → All (IsInfo Copy) infos
    → ((k : ℕ) → k < length infos → has_read_write (get_or infos k 0) ≡ has_read_write (byte_in opened.infos k)) → CanRestamp (parts_in opened) values infos
can_restamp opened are values infos value_count info_count low lawful same =
    let v = has_count flag_val_type opened.values.file opened.values are.values.opened in
    let i = has_count flag_info_type opened.infos.file opened.infos are.infos.opened in
    record {
      value_count = omega (arith, value_count, v, length-drop opened.values.first_byte opened.values.file);
      info_count = omega (arith, info_count, i, length-drop opened.infos.first_byte opened.infos.file);
      value_bytes = low;
      info_bytes = lawful;
      kinds = λ k lt. same k lt ∙ ap has_read_write (sym (get_or-drop opened.infos.first_byte opened.infos.file k 0));
    }
