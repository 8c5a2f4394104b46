-- `create-storage` has one outcome, and some outcome.
use Rattle.std.proofs.Common.{◌≡◌, ◌<◌, ℕ, zero, suc, false, Contains, List, [], ◌∷◌, ◌++◌, get_or, length, map, refl, sym, ◌∙◌, ap, subst, inl, inr, arith}
use Rattle.std.specs.Prelude.{codes}
use Rattle.std.specs.Fmt.{decimal}
use Rattle.std.proofs.lemmas.List.{get_or-map, length-map}
use Rattle.acfg_cache.specs.Merging.{IsMerged}
use Rattle.acfg_commit.specs.Written.{IsNameAmong}
use Rattle.acfg_commit.specs.declared.several.NewFile.{NewFile}
use Rattle.acfg_decls.specs.declared.flags.Flag.{Flag}
use Rattle.acfg_device.specs.Panel.{Files}
use Rattle.acfg_images.specs.Build.{built, compiled_flag}
use Rattle.acfg_images.specs.Files.{Files as SetFiles}
use Rattle.acfg_images.specs.declared.fault.FileType.TheVariants.{PackageMap, FlagMap, FlagVal, FlagInfo}
use Rattle.acfg_top.specs.Bodies.{input_of, inputs_of, writes_in}
use Rattle.acfg_top.specs.Caches.{Clashing, IsBadCache, IsCache}
use Rattle.acfg_top.specs.CreateStorage.{CreateStorageGives, FirstStranger, FlagsStored, IsFileIn, IsNoOwnCache, IsOwnCache, ListsStored, StoredGives, image_told, set_writes}
use Rattle.acfg_top.specs.Inputs.{AreAccepted, FirstRefused, Given, inputs_in}
use Rattle.acfg_top.specs.Outcome.{Outcome}
use Rattle.acfg_top.specs.declared.inputs.Input.{Input}
use Rattle.acfg_top.proofs.Caching.{caches, merging, some_merged}
use Rattle.acfg_top.proofs.Judging.{IsJudge, Some_, in_order, inputs_once, judged_once, some_in_order, some_inputs, some_judged}
use Rattle.acfg_top.proofs.Putting.{among_writes}
use Rattle.acfg_top.proofs.Strangers.{never_strange, one_stranger, some_stranger}

module _ (container : List ℕ) where
  reason : (input : Given) (what other : List ℕ) → IsNoOwnCache container input what → IsNoOwnCache container input other → what ≡ other
  reason input what other (inl bad) (inl also) = caches.reason input what other bad also
  reason input what other (inl bad) (inr strange) = absurd (caches.apart input what strange.0 bad strange.2)
  reason input what other (inr strange) (inl bad) = absurd (caches.apart input other strange.0 bad strange.2)
  reason input what other (inr strange) (inr also) =
      let same = caches.reading input strange.0 also.0 strange.2 also.2 in
      strange.4 ∙ ap (λ i. codes "wrong-container flag " ++ decimal i) (one_stranger container also.0 strange.1 also.1 (subst (λ flags. FirstStranger container flags strange.1) same strange.3) also.3) ∙ sym also.4

  apart : (input : Given) (what : List ℕ) (flags : List Flag) → IsNoOwnCache container input what → IsOwnCache container input flags → ⊥
  apart input what flags (inl bad) is = caches.apart input what flags bad is.0
  apart input what flags (inr strange) is =
      let same = caches.reading input strange.0 flags strange.2 is.0 in
      never_strange container flags strange.1 is.1 (subst (λ flags. FirstStranger container flags strange.1) same strange.3)

  own_caches : IsJudge (IsOwnCache container) (IsNoOwnCache container)
  own_caches = record {
    reason = reason;
    reading = λ input flags other is also. caches.reading input flags other is.0 also.0;
    apart = apart;
    some = λ input bad is. caches.some input (λ what own. bad what (inl own))
        (λ flags read. some_stranger container flags (λ all. is flags (read, all)) (λ i first. bad (codes "wrong-container flag " ++ decimal i) (inr (flags, i, read, first, refl))));
  }

  -- caches whose flags are all the container's are caches
  read_caches : (inputs : List Given) (lists : List (List Flag)) → AreAccepted (IsOwnCache container) (IsNoOwnCache container) inputs lists → AreAccepted IsCache IsBadCache inputs lists
  read_caches [] [] read = tt
  read_caches [] (flags ∷ lists) read = absurd read
  read_caches (input ∷ inputs) [] read = absurd read
  read_caches (input ∷ inputs) (flags ∷ lists) read = (read.0.0, read_caches inputs lists read.1)

module _ (container dir : List ℕ) where
  lists_once : (names : List (List ℕ)) (lists : List (List Flag)) (a b : Outcome) → ListsStored container dir names lists a → ListsStored container dir names lists b → a ≡ b
  lists_once names lists = judged_once (Clashing names lists false) (IsMerged lists false) (FlagsStored container dir) (merging names lists false) (λ flags a b merged given also. given ∙ sym also)

  pub stored_unique : (inputs : List Given) (a b : Outcome) → StoredGives container dir inputs a → StoredGives container dir inputs b → a ≡ b
  stored_unique inputs = judged_once (FirstRefused (IsOwnCache container) (IsNoOwnCache container) inputs) (AreAccepted (IsOwnCache container) (IsNoOwnCache container) inputs)
      (ListsStored container dir (map (λ input. input.name) inputs)) (in_order (IsOwnCache container) (IsNoOwnCache container) (own_caches container) inputs)
      (λ lists a b read. lists_once (map (λ input. input.name) inputs) lists a b)

  some_lists : (inputs : List Given) (lists : List (List Flag)) → AreAccepted (IsOwnCache container) (IsNoOwnCache container) inputs lists → Some_ (ListsStored container dir (map (λ input. input.name) inputs) lists)
  some_lists inputs lists read =
      let names = map (λ (input : Given). input.name) inputs in
      some_judged (Clashing names lists false) (IsMerged lists false) (FlagsStored container dir) (some_merged names inputs lists false (read_caches container inputs lists read))
      (λ flags merged none. none (image_told dir (map compiled_flag flags) (built container (map compiled_flag flags))) refl)

  pub some_stored : (inputs : List Given) → Some_ (StoredGives container dir inputs)
  some_stored inputs = some_judged (FirstRefused (IsOwnCache container) (IsNoOwnCache container) inputs) (AreAccepted (IsOwnCache container) (IsNoOwnCache container) inputs)
      (ListsStored container dir (map (λ input. input.name) inputs)) (some_in_order (IsOwnCache container) (IsNoOwnCache container) (own_caches container) inputs) (some_lists inputs)

  pub create_storage_unique : (names : List (List ℕ)) (files : Files) (a b : Outcome) → CreateStorageGives container dir names files a → CreateStorageGives container dir names files b → a ≡ b
  create_storage_unique names files = inputs_once (inputs_in files names) (StoredGives container dir) stored_unique

  pub some_create_storage : (names : List (List ℕ)) (files : Files) → Some_ (CreateStorageGives container dir names files)
  some_create_storage names files = some_inputs (inputs_in files names) (StoredGives container dir) some_stored

-- the names of a set's files
among_set : (dir : List ℕ) (set : SetFiles) (name : List ℕ) → Contains (map (λ (write : List ℕ × List ℕ). write.0) (set_writes dir set)) name → IsFileIn dir name
among_set dir set name (zero, low, is) = (PackageMap, sym is)
among_set dir set name (suc zero, low, is) = (FlagMap, sym is)
among_set dir set name (suc (suc zero), low, is) = (FlagVal, sym is)
among_set dir set name (suc (suc (suc zero)), low, is) = (FlagInfo, sym is)
among_set dir set name (suc (suc (suc (suc k))), low, is) = absurd (omega (arith, low))

pub files_in : (dir : List ℕ) (set : SetFiles) (files : List NewFile) → set_writes dir set ≡ writes_in files → (name : List ℕ) → IsNameAmong files name → IsFileIn dir name
files_in dir set files same name among =
    among_set dir set name (subst (λ writes. Contains (map (λ (write : List ℕ × List ℕ). write.0) writes) name) (sym same) (among_writes files name among))

-- the name of an input
pub name_of_input : (inputs : List Input) (i : ℕ) (input : Input) → i < length inputs → input ≡ get_or inputs i input → input.name.now ≡ get_or (map (λ (input : Given). input.name) (inputs_of inputs)) i []
name_of_input inputs i input within is =
    ap (λ (input : Input). input.name.now) is
    ∙ sym (get_or-map (λ (given : Given). given.name) (inputs_of inputs) i (input_of input) [] (omega (arith, within, length-map inputs input_of)) ∙ ap (λ (given : Given). given.name) (get_or-map input_of inputs i input (input_of input) within))
