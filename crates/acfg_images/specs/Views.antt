-- Private structs of open files as what they stand for. No public clause cites them.
use Rattle.std.specs.Prelude.{◌≡◌, Result, Ok, Err}
use Rattle.acfg_images.specs.declared.fault.ImageFault.{ImageFault}
use Rattle.acfg_images.specs.declared.views.Views.{Views}
use Rattle.acfg_views.specs.Layout.{package_map_type, flag_map_type, flag_val_type, flag_info_type}
use Rattle.acfg_views.specs.Reading.{IsOpenMap, IsOpenList}
use Rattle.acfg_images.specs.Files.{Files}
use Rattle.acfg_images.specs.Faults.{Opened, HasNoFault, files_in}

abbrev pub opened_of : Views → Opened
opened_of views = record {
  package_map = views.package_map;
  flag_map = views.flag_map;
  values =
      views.values;
  infos = views.infos;
}

-- four open files in which no fault stands, and the set that they are of
pub record IsCheckedSet (set : Files) (opened : Opened) : Type 0 where
  pub faultless : HasNoFault opened
  pub files : set ≡ files_in opened

-- each of the four files is one that opens
pub record AreOpenFiles (opened : Opened) : Type 0 where
  pub package_map : IsOpenMap package_map_type opened.package_map
  pub flag_map : IsOpenMap flag_map_type opened.flag_map
  pub values : IsOpenList flag_val_type opened.values
  pub infos : IsOpenList flag_info_type opened.infos

-- an answer that takes no memory, with its value seen by view, is this one
abbrev pub Answers : {X Y : Type 0} → (X → Y) → Result X ImageFault → Result Y ImageFault → Type 0
Answers view (Ok x) read = read ≡ Ok (view x)
Answers view (Err e) read = read ≡ Err e
