-- What was opened is bytes, and opens again.
use Rattle.std.proofs.Common.{ℕ, List, Result, Ok, Err, sym, subst}
use Rattle.std.specs.Prelude.{IfOk}
use Rattle.acfg_views.specs.declared.fault.ViewFault.{ViewFault}
use Rattle.acfg_views.specs.declared.map_file.MapFile.{MapFile}
use Rattle.acfg_views.specs.declared.list_file.ListFile.{ListFile}
use Rattle.acfg_views.specs.Fields.{IsBytes}
use Rattle.acfg_views.specs.Reading.{Answers, opened_map, opened_list}
use Rattle.acfg_views.specs.Views.{open_map_of, open_list_of}
use Rattle.acfg_views.proofs.FileFacts.{opened_map-offsets, opened_list-offsets}

pub map_bytes : (file_type : ℕ) (bytes : List ℕ) (r : Result MapFile ViewFault) → IsBytes bytes → Answers open_map_of r (opened_map file_type bytes) → IfOk r (λ map. IsBytes map.bytes.now)
map_bytes file_type bytes (Ok map) fits e = subst IsBytes (sym (opened_map-offsets file_type bytes (open_map_of map) e).file) fits
map_bytes file_type bytes (Err f) fits e = tt

pub list_bytes : (file_type : ℕ) (bytes : List ℕ) (r : Result ListFile ViewFault) → IsBytes bytes → Answers open_list_of r (opened_list file_type bytes) → IfOk r (λ list. IsBytes list.bytes.now)
list_bytes file_type bytes (Ok list) fits e = subst IsBytes (sym (opened_list-offsets file_type bytes (open_list_of list) e).file) fits
list_bytes file_type bytes (Err f) fits e = tt
