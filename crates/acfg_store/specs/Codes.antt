-- Codes by which values of contracts are told apart: no clause speaks of them.
use Rattle.std.specs.Prelude.{◌≡◌, refl, ℕ, List, Option, Bool, true, false, if◌then◌else◌}
use Rattle.std.specs.Coded.{Coded, code_by, coded×, coded_bool, coded_list, coded_option, coded_ℕ}
use Rattle.acfg_images.specs.Files as four
use Rattle.acfg_model.specs.Codes.{container_code}
use Rattle.acfg_model.specs.State.{Container}
use Rattle.acfg_store.specs.declared.names.Slot.{Slot}
use Rattle.acfg_store.specs.declared.names.Slot.TheVariants.{Zero, One}
use Rattle.acfg_store.specs.Sets.{Sets}
use Rattle.acfg_store.specs.Stands.{Entry}
use Rattle.acfg_store.specs.Store.{StoreView}

-- a slot as a bit, and back
abbrev pub is_one : Slot → Bool
is_one Zero = false
is_one One = true

abbrev pub slot_of : Bool → Slot
slot_of one = if one then One else Zero

abbrev pub slot_code : Coded Slot
slot_code = code_by Bool coded_bool is_one slot_of back
  where
    back : (slot : Slot) → slot_of (is_one slot) ≡ slot
    back Zero = refl
    back One = refl

abbrev pub entry_code : Coded Entry
entry_code =
    code_by (List ℕ × (Slot × (Slot × (Option Slot × Container))))
    (coded× (coded_list coded_ℕ) (coded× slot_code (coded× slot_code (coded× (coded_option slot_code) container_code))))
    (λ e. (e.name, (e.release_slot, (e.override_slot, (e.boot_slot, e.container)))))
    (λ p. record {
      name = p.0;
      release_slot = p.1.0;
      override_slot = p.1.1.0;
      boot_slot = p.1.1.1.0;
      container = p.1.1.1.1;
    })
    (λ _. refl)

abbrev pub files_code : Coded four.Files
files_code =
    code_by (List ℕ × (List ℕ × (List ℕ × List ℕ)))
    (coded× (coded_list coded_ℕ) (coded× (coded_list coded_ℕ) (coded× (coded_list coded_ℕ) (coded_list coded_ℕ))))
    (λ s. (s.package_map, (s.flag_map, (s.flag_val, s.flag_info))))
    (λ p. record { package_map = p.0; flag_map = p.1.0; flag_val = p.1.1.0; flag_info = p.1.1.1 })
    (λ _. refl)

abbrev pub sets_code : Coded Sets
sets_code =
    code_by (four.Files × Option four.Files)
    (coded× files_code (coded_option files_code))
    (λ s. (s.release, s.boot))
    (λ p. record { release = p.0; boot = p.1 })
    (λ _. refl)

abbrev pub store_code : Coded StoreView
store_code =
    code_by (List ℕ × (List Entry × List Sets))
    (coded× (coded_list coded_ℕ) (coded× (coded_list entry_code) (coded_list sets_code)))
    (λ s. (s.dir, (s.entries, s.sets)))
    (λ p. record { dir = p.0; entries = p.1.0; sets = p.1.1 })
    (λ _. refl)
