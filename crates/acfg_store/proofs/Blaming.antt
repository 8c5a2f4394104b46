-- What is found of a set: which of its files is at fault.
use Rattle.std.proofs.Common.{◌≡◌, refl, sym, subst}
use Rattle.std.specs.Prelude.{Result, Ok}
use Rattle.acfg_images.specs.declared.fault.FileType.TheVariants.{PackageMap}
use Rattle.acfg_images.specs.declared.fault.ImageFault.{ImageFault}
use Rattle.acfg_images.specs.declared.purpose.Use.{Use}
use Rattle.acfg_images.specs.Faults.{Opened, checked, parts_in}
use Rattle.acfg_images.specs.Files as four
use Rattle.acfg_images.specs.Laws.{IsOneSet}
use Rattle.acfg_images.specs.Set.{IsSetOf}
use Rattle.acfg_images.proofs.Law.{same_as_set}
use Rattle.acfg_store.specs.Judged.{IsBlamed, IsMeantSet}

module _ (IsMeant : Opened → Type 0) where
  pub not_meant : (result : Result Opened ImageFault) (opened : Opened) → result ≡ Ok opened → (IsMeant opened → ⊥) → IsBlamed IsMeant result PackageMap
  not_meant result opened is not = subst (λ (r : Result Opened ImageFault). IsBlamed IsMeant r PackageMap) (sym is) (record {
    here = λ elsewhere. not (elsewhere.meant refl);
    alone = λ other apart. record { meant = λ same. absurd (apart same) };
  })

  pub set_told : (use_of : Use) (set : four.Files) (opened : Opened) → checked use_of set ≡ Ok opened → IsOneSet set use_of opened → IsMeant opened → IsMeantSet use_of IsMeant set opened
  set_told use_of set opened passes one meant =
      let parts : parts_in opened ≡ one.is_set.parts = same_as_set use_of set one.is_set.parts one.is_set.files_are opened passes in
      record {
        passes = passes;
        is_set = subst (IsSetOf set use_of) (sym parts) one.is_set.files_are;
        meant = meant;
      }
