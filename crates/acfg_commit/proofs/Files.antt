-- What the moves make of the files, name by name. Use these for a store's frame: that the files of an entry which
-- a commit doesn't touch are the same after it is `replaced_others` and `written_others`, one behind the other.
use Rattle.std.proofs.Common.{◌≡◌, ◌⊎◌, inl, inr, ℕ, suc, List, [], ◌∷◌, Some, None, string_bytes, refl, ◌∙◌, arith}
use Rattle.std.specs.Map.{update}
use Rattle.std.specs.Str.{bytes_eq}
use Rattle.acfg_device.specs.Left.{SameBut}
use Rattle.acfg_device.specs.Panel.{Files}
use Rattle.acfg_device.proofs.Naming.{update_apart, update_here}
use Rattle.acfg_commit.specs.Written.{IsNameAmong, replaced, written}
use Rattle.acfg_commit.specs.declared.several.NewFile.{NewFile}

-- files that are written leave the others
pub written_others : (files : List NewFile) (first : Files) → SameBut (IsNameAmong files) first (written files first)
written_others [] first name apart = refl
written_others (file ∷ files) first name apart =
    written_others files (update bytes_eq first (string_bytes file.name) (Some file.bytes.items)) name
    (λ among. apart (among.0, (suc among.1.0, omega (arith, among.1.1), among.1.2), among.2))
    ∙ update_apart first (string_bytes file.name) (Some file.bytes.items) name (λ same. apart (file, (0, omega arith, refl), same))

module _ (beside name bytes : List ℕ) (first : Files) where
  -- the file that is replaced has the new bytes
  pub replaced_here : replaced beside name bytes first name ≡ Some bytes
  replaced_here = update_here (update bytes_eq first beside None) name (Some bytes)

  -- and all others are the same
  pub replaced_others : SameBut (λ (other : List ℕ). (other ≡ beside) ⊎ (other ≡ name)) first (replaced beside name bytes first)
  replaced_others other apart =
      update_apart (update bytes_eq first beside None) name (Some bytes) other (λ same. apart (inr same)) ∙ update_apart first beside None other (λ same. apart (inl same))
