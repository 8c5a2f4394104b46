-- What is found of a flag in the files of a boot copy has the value that the boot copy has.
use Rattle.std.proofs.Common.{◌≡◌, ℕ, Bool, List, Option, Some, None, option_map, refl, sym, ap, subst, ◌∙◌}
use Rattle.std.specs.Prelude.{Ok, Result}
use Rattle.std.specs.FinMap.{get}
use Rattle.acfg_base.specs.declared.releases.Kind.{Kind}
use Rattle.acfg_base.specs.Places.{row_at}
use Rattle.acfg_base.specs.Release.{Key, key_cmp}
use Rattle.acfg_images.specs.declared.purpose.Use.TheVariants as purpose
use Rattle.acfg_images.specs.Faults.{Opened, checked, parts_in}
use Rattle.acfg_images.specs.Files as four
use Rattle.acfg_images.specs.Set.{Listed, listed, listed_key, listing, release_in}
use Rattle.acfg_images.proofs.Law.{same_as_set}
use Rattle.acfg_lookup.specs.declared.found.Found.{Found}
use Rattle.acfg_lookup.specs.Lookup.{flag_found}
use Rattle.acfg_model.specs.declared.refusals.Refusal.{Refusal}
use Rattle.acfg_model.specs.State.{BootedFlag, BootMap}
use Rattle.acfg_model.specs.Step.{boot_value_in}
use Rattle.acfg_store.specs.declared.containers.BootSlot.{BootSlot}
use Rattle.acfg_store.specs.declared.containers.Kept.{Kept}
use Rattle.acfg_store.specs.Kept.{HasCopy, IsCopied}
use Rattle.acfg_store.specs.Renewing.{IsCopyWith}
use Rattle.acfg_store.specs.Stands.{boot_release}
use Rattle.acfg_store.proofs.CopyRenewed.{facts, facts_read}
use Rattle.acfg_store.proofs.Placing.{listed_is}

-- ---- values

abbrev pub value_of : Option Found → Option Bool
value_of found = option_map (λ (f : Found). f.value) found

abbrev pub is_value : Option Bool → Result (Option Bool) Refusal
is_value value = Ok value

abbrev value_in : Option (Kind × Bool) → Option Bool
value_in told = option_map (λ (f : Kind × Bool). f.1) told

of_listed : (row : Option Listed) → value_of (option_map flag_found row) ≡ value_in (option_map (λ (x : Listed). (x.kind, x.value)) row)
of_listed None = refl
of_listed (Some row) = refl

of_booted : (flag : Option BootedFlag) → value_in (option_map facts flag) ≡ option_map (λ (f : BootedFlag). f.value) flag
of_booted None = refl
of_booted (Some flag) = refl

module _ (files : four.Files) (opened : Opened) (passes : checked purpose.Copy files ≡ Ok opened) (key : Key) (name : List ℕ) (boot : BootMap) (copy : IsCopyWith files name boot) where
  release_is : release_in (parts_in opened) ≡ boot_release boot
  release_is = ap release_in (same_as_set purpose.Copy files copy.parts copy.files_are opened passes) ∙ copy.release_is

  -- what is found has the value of the boot copy
  pub value_found : (found : Option Found) → found ≡ option_map flag_found (listed (parts_in opened) key.0 key.1) → boot_value_in (Some boot) key ≡ is_value (value_of found)
  value_found found is =
      ap is_value (sym (
      ap value_of is ∙ ap (λ (row : Option Listed). value_of (option_map flag_found row)) (listed_is (parts_in opened) key.0 key.1)
      ∙ of_listed (row_at key_cmp listed_key (listing (parts_in opened)) key)
      ∙ ap value_in (facts_read (parts_in opened) boot key release_is)
      ∙ of_booted (get boot key)))

-- ---- which files are kept of a container

-- a container's boot copy, of which the files are a set
pub record HasBoot (one : Kept) (set : four.Files) : Type 0 where
  pub name : List ℕ
  pub boot : BootMap
  pub is : one.container.boot ≡ Some boot
  pub copy : IsCopyWith set name boot

module _ (one : Kept) (copied : IsCopied one) where
  copied_as : (slot : Option BootSlot) → one.boot ≡ slot → HasCopy (option_map (λ (b : BootSlot). b.set) slot) one.container.boot
  copied_as slot is = subst (λ (s : Option BootSlot). HasCopy (option_map (λ (b : BootSlot). b.set) s) one.container.boot) is copied

  pub has_boot : (was : BootSlot) → one.boot ≡ Some was → HasBoot one was.set
  has_boot was is = go one.container.boot refl (copied_as (Some was) is)
    where
      go : (found : Option BootMap) → one.container.boot ≡ found → HasCopy (Some was.set) found → HasBoot one was.set
      go None there copy = absurd copy
      go (Some boot) there copy = record { name = copy.0; boot = boot; is = there; copy = copy.1 }

  pub has_none : one.boot ≡ None → one.container.boot ≡ None
  has_none is = go one.container.boot refl (copied_as None is)
    where
      go : (found : Option BootMap) → one.container.boot ≡ found → HasCopy None found → one.container.boot ≡ None
      go None there copy = there
      go (Some boot) there copy = absurd copy
