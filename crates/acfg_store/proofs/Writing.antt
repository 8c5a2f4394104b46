-- The files that are written of an override slot hold the overrides, over the flags that the release's set lists.
use Rattle.std.proofs.Common.{◌≡◌, ℕ, ◌+◌, ◌-◌, ◌*◌, ◌<◌, ◌≤◌, false, List, [], ◌++◌, map, length, get_or, take, Some, None, is_some, unwrap_or, sym, ap, ◌∙◌, arith}
use Rattle.std.specs.Prelude.{All, option_and_then}
use Rattle.std.specs.FinMap.{get}
use Rattle.std.proofs.lemmas.List.{get_or_default, length-map}
use Rattle.std.proofs.lemmas.List.Elements.{All-contains}
use Rattle.acfg_base.specs.declared.releases.Kind.TheVariants.{ReadOnly}
use Rattle.acfg_base.specs.Places.{row_at}
use Rattle.acfg_base.specs.Release.{facts_of, key_cmp, is_read_write}
use Rattle.acfg_base.proofs.Keys.{key_total}
use Rattle.acfg_base.proofs.Rows.{get-map_where}
use Rattle.acfg_images.specs.declared.purpose.Use.TheVariants as purpose
use Rattle.acfg_images.specs.Files as four
use Rattle.acfg_images.specs.Set.{Listed, SetParts, flags_of, listed_flag, listed_key, listing}
use Rattle.acfg_images.proofs.Restamped.{list_again}
use Rattle.acfg_model.specs.declared.containers.FlagState.{FlagState}
use Rattle.acfg_model.specs.FlagStates.{row_key, server_in}
use Rattle.acfg_store.specs.Records.{bit}
use Rattle.acfg_store.specs.Stamped.{AreFlagsIn, IsStamped, info_byte, value_byte}
use Rattle.acfg_store.specs.Stands.{AreBytesOf, server_info, server_value}
use Rattle.acfg_store.proofs.Placing.{indexes_below}
use Rattle.acfg_store.proofs.Written.{byte_put, facts, listed_row, same_count}
use Rattle.acfg_views.specs.Layout.{IsListFile, ListParts, flag_info_type, flag_val_type, list_size}
use Rattle.acfg_views.proofs.Parts.{length-list_file}

module _ (set : four.Files) (parts : SetParts) (rows : List FlagState) (indexes : List ℕ) (are : AreFlagsIn set parts rows indexes) (count : ℕ) (count_is : count ≡ length (listing parts)) where
  -- what a file's bytes have to be, so that others can be put there
  fits : (file_type : ℕ) (file : List ℕ) (list : ListParts) → IsListFile file_type file list → length list.bytes ≡ length (flags_of parts) → count ≤ length file
  fits file_type file list is same =
      let size : length file ≡ list_size list = ap length is.spelled ∙ length-list_file file_type list in
      omega (arith, size, same, count_is, length-map (flags_of parts) (listed_flag parts))

  pub values_fit : count ≤ length set.flag_val
  values_fit = fits flag_val_type set.flag_val parts.values are.is_set.values are.is_set.agree.value_count

  pub infos_fit : count ≤ length set.flag_info
  infos_fit = fits flag_info_type set.flag_info parts.infos are.is_set.infos are.is_set.agree.info_count

  pub all_within : All (λ (index : ℕ). index < count) indexes
  all_within k d within =
      let below : k < length rows = omega (arith, same_count set parts rows indexes are, within) in
      let row = listed_row set parts rows indexes are k no_row below in
      let less : row.0.index < length (listing parts) = All-contains (λ (row : Listed). row.index < length (listing parts)) (listing parts) row.0 (indexes_below purpose.Release set parts are.is_set) row.1 in
      let same = get_or_default indexes k d 0 within in
      omega (arith, less, row.3, same, count_is)
    where
      no_row : FlagState
      no_row = record { entry = record { «package» = []; flag = []; kind = ReadOnly; value = false }; server = None; local = None }

  pub as_many : (byte_of : FlagState → ℕ) (bytes : List ℕ) → bytes ≡ map byte_of rows → length bytes ≡ length indexes
  as_many byte_of bytes is = ap length is ∙ length-map rows byte_of ∙ sym (same_count set parts rows indexes are)

  -- the server's override of a flag that is listed
  server_there : (r : Listed) (row : FlagState) → row_at key_cmp row_key rows (listed_key r) ≡ Some row → get (server_in rows) (listed_key r) ≡ row.server
  server_there r row at = get-map_where key_total row_key (λ (row : FlagState). row.server) rows are.order (listed_key r) ∙ ap (option_and_then (λ (row : FlagState). row.server)) at

  -- a file in which bytes are put holds them
  written : (file_type : ℕ) (file made : List ℕ) (list : ListParts) (container : List ℕ) (row_byte : FlagState → ℕ) (listed_byte : Listed → ℕ) (bytes : List ℕ)
      → IsListFile file_type file list → length list.bytes ≡ length (flags_of parts) → list.container ≡ container → bytes ≡ map row_byte rows → IsStamped file count indexes bytes made
      → ((r : Listed) (row : FlagState) → row_at key_cmp row_key rows (listed_key r) ≡ Some row → facts_of row.entry ≡ facts r → row_byte row ≡ listed_byte r)
      → AreBytesOf file_type made container listed_byte (listing parts)
  written file_type file made list container row_byte listed_byte bytes is same named bytes_are stamped means = record {
    parts = record list { bytes = stamped.table };
    are =
        list_again file_type file made stamped.table list is (omega (arith, stamped.size, same, count_is, length-map (flags_of parts) (listed_flag parts)))
        (stamped.is ∙ ap (λ (n : ℕ). take (length file - n) file ++ stamped.table) (sym stamped.size));
    container = named;
    count = stamped.size ∙ count_is;
    each = λ k d within.
        let r = get_or (listing parts) k d in
        let put = byte_put set parts rows indexes are row_byte bytes stamped.table bytes_are stamped.put r (k, within, get_or_default (listing parts) k r d within) in
        put.3 ∙ means r put.0 put.1 put.2;
  }

  pub values_written : (bytes made : List ℕ) → bytes ≡ map value_byte rows → IsStamped set.flag_val count indexes bytes made
      → AreBytesOf flag_val_type made parts.package_map.container (server_value (server_in rows)) (listing parts)
  values_written bytes made bytes_are stamped =
      written flag_val_type set.flag_val made parts.values parts.package_map.container value_byte (server_value (server_in rows)) bytes are.is_set.values are.is_set.agree.value_count are.is_set.agree.values_container bytes_are stamped
      (λ r row at same i. bit (unwrap_or (sym (server_there r row at) i) (same i).1))

  pub infos_written : (bytes made : List ℕ) → bytes ≡ map info_byte rows → IsStamped set.flag_info count indexes bytes made
      → AreBytesOf flag_info_type made parts.package_map.container (server_info (server_in rows)) (listing parts)
  infos_written bytes made bytes_are stamped =
      written flag_info_type set.flag_info made parts.infos parts.package_map.container info_byte (server_info (server_in rows)) bytes are.is_set.infos are.is_set.agree.info_count are.is_set.agree.infos_container bytes_are stamped
      (λ r row at same i. 2 * bit (is_read_write (same i).0) + bit (is_some (sym (server_there r row at) i)))
