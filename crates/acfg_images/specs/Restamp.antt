-- Sets with other values and bits.
use Rattle.std.specs.Prelude.{◌≡◌, ℕ, List, length, slice_index, All, EachIndex, ◌≤◌}
use Rattle.acfg_images.specs.declared.purpose.Use.TheVariants.{Copy}
use Rattle.acfg_images.specs.Set.{SetParts, IsInfo, has_read_write}

-- the parts of a set with these value and info bytes
abbrev pub restamped : SetParts → (values infos : List ℕ) → SetParts
restamped parts values infos = record parts {
  values = record parts.values { bytes = values };
  infos = record parts.infos { bytes = infos };
}

-- these bytes can stand in place of those of a set, in a copy: as many, lawful, and the read-write bits as before
pub record CanRestamp (parts : SetParts) (values infos : List ℕ) : Type 0 where
  pub value_count : length values ≡ length parts.values.bytes
  pub info_count : length infos ≡ length parts.infos.bytes
  pub value_bytes : All (λ byte. byte ≤ 1) values
  pub info_bytes : All (IsInfo Copy) infos
  pub kinds : EachIndex infos (λ i. has_read_write (slice_index infos i) ≡ has_read_write
      (slice_index parts.infos.bytes i))
