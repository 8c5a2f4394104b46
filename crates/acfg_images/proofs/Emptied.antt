-- Rows that stand where there is none.
use Rattle.std.proofs.Common.{ℕ, []}
use Rattle.acfg_base.specs.declared.releases.Kind.TheVariants.{ReadWrite}
use Rattle.std.proofs.Common.{false}
use Rattle.acfg_images.specs.declared.building.groups.Row.{Row}
use Rattle.acfg_images.specs.declared.building.packages.PackageRow.{PackageRow}
use Rattle.acfg_images.specs.declared.building.flags.FlagRow.{FlagRow}

abbrev pub package_in : ℕ → PackageRow
package_in b = record { name = record { ref_ptr = (0, 0); now = [] }; id = 0; start = 0; bucket = b; next = 0 }

abbrev pub no_package : PackageRow
no_package = package_in 0

abbrev pub no_row : Row
no_row = record { «package» = record { ref_ptr = (0, 0); now = [] }; flag = record { ref_ptr = (0, 0); now = [] }; kind = ReadWrite; value = false }

abbrev pub flag_in : ℕ → FlagRow
flag_in b = record { row = no_row; package_id = 0; index = 0; bucket = b; next = 0 }

abbrev pub no_flag : FlagRow
no_flag = flag_in 0
