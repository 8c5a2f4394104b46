-- One flag's entry in a boot copy is made anew.
use Rattle.std.proofs.Common.{◌≡◌, ℕ, Bool, List, get_or, set, Option, None, Some, option_map, is_some, unwrap_or, if◌then◌else◌, refl, sym, ap, ◌∙◌}
use Rattle.std.specs.FinMap.{get, insert, contains_key}
use Rattle.std.proofs.lemmas.List.{get_or_default}
use Rattle.acfg_base.specs.declared.releases.Kind.{Kind}
use Rattle.acfg_base.specs.Places.{AreInOrder, StandsAt, WouldStandAt}
use Rattle.acfg_base.specs.Release.{Key, key_cmp, is_read_write}
use Rattle.acfg_base.proofs.Rows.{AreInOrder-set, get-map_of, map_of-set, row_at-gap, row_at-stands}
use Rattle.acfg_base.proofs.Keys.{key_exact, key_total}
use Rattle.acfg_model.specs.Bodies.{renewed_row}
use Rattle.acfg_model.specs.declared.changes.Change.{Change}
use Rattle.acfg_model.specs.declared.containers.FlagState.{FlagState}
use Rattle.acfg_model.specs.declared.refusals.Refusal.{Refusal}
use Rattle.acfg_model.specs.declared.refusals.Refusal.TheVariants.{NotBooted}
use Rattle.acfg_model.specs.declared.views.Booted.{Booted}
use Rattle.acfg_model.specs.FlagStates.{boot_renewed, container_in, local_in, picked_flag, row_key, server_in}
use Rattle.acfg_model.specs.State.{BootMap, BootedFlag, Container, pick}
use Rattle.acfg_model.specs.Step.{boot_refusal, change_refusal, changed_key, entry_refusal, now_refusal, renewed, renewed_flag, with_flag}
use Rattle.acfg_model.specs.Views.{boot_of, booted_flag, booted_key}
use Rattle.acfg_model.proofs.Rowed.{local_at, release_at, server_at}

-- why a booted flag takes no other value, by its kind there
abbrev pub refusal_of : Kind → Option Refusal
refusal_of kind = if is_read_write kind then None else Some NotBooted

-- what a boot copy has at a place
module _ (flags : List Booted) (order : AreInOrder key_cmp booted_key flags) (key : Key) where
  pub entry_there : (at : ℕ) → StandsAt key_cmp booted_key flags key at → (was : Booted) → was ≡ get_or flags at was
      → get (boot_of flags) key ≡ Some (booted_flag was)
  entry_there at stands was is =
      get-map_of key_total booted_key booted_flag flags key
      ∙ ap (option_map booted_flag) (row_at-stands key_total booted_key flags order key at was stands ∙ ap Some (sym is))

  pub entry_absent : (at : ℕ) → WouldStandAt key_cmp booted_key flags key at → get (boot_of flags) key ≡ None
  entry_absent at gap =
      get-map_of key_total booted_key booted_flag flags key ∙ ap (option_map booted_flag) (row_at-gap key_total booted_key flags key at gap)

  pub refusal_there : (at : ℕ) → StandsAt key_cmp booted_key flags key at → (was : Booted) → was ≡ get_or flags at was
      → entry_refusal (get (boot_of flags) key) ≡ refusal_of was.entry.kind
  refusal_there at stands was is = ap entry_refusal (entry_there at stands was is)

  module _ (row : FlagState) where
    module _ (at : ℕ) (stands : StandsAt key_cmp booted_key flags key at) (was : Booted) (is : was ≡ get_or flags at was) where
      keyed : booted_key (get_or flags at (renewed_row row was)) ≡ booted_key (renewed_row row was)
      keyed = ap booted_key (get_or_default flags at (renewed_row row was) was stands.within ∙ sym is)

      same_key : booted_key was ≡ key
      same_key = ap booted_key is ∙ key_exact _ _ (stands.same was)

      pub order_renewed : AreInOrder key_cmp booted_key (set flags at (renewed_row row was))
      order_renewed = AreInOrder-set key_total booted_key flags order at (renewed_row row was) stands.within keyed

      pub boot_renewed_at : boot_of (set flags at (renewed_row row was)) ≡ boot_renewed row key (boot_of flags)
      boot_renewed_at =
          map_of-set key_total booted_key key_exact flags order at (renewed_row row was) stands.within keyed booted_flag
          ∙ ap (λ k. insert (boot_of flags) k (booted_flag (renewed_row row was))) same_key
          ∙ sym (ap (λ entry. with_flag (boot_of flags) key (option_map (picked_flag row) entry)) (entry_there at stands was is))

    pub boot_renewed_absent : (at : ℕ) → WouldStandAt key_cmp booted_key flags key at → boot_of flags ≡ boot_renewed row key (boot_of flags)
    boot_renewed_absent at gap = sym (ap (λ entry. with_flag (boot_of flags) key (option_map (picked_flag row) entry)) (entry_absent at gap))

-- the row of the flag tells what the container has of it
module _ (rows : List FlagState) (order : AreInOrder key_cmp row_key rows) (key : Key) (at : ℕ) (stands : StandsAt key_cmp row_key rows key at) (row : FlagState) (is : row ≡ get_or rows at row) (digest : List ℕ) (kept : Option BootMap) where
  picks : (entry : Option BootedFlag) → option_map (picked_flag row) entry ≡ renewed_flag (container_in digest rows kept) key entry
  picks None = refl
  picks (Some was) =
      let server = server_at rows order key at stands row is in
      let local = local_at rows order key at stands row is in
      let whole : Kind × Bool → BootedFlag = λ facts. record { kind = was.kind; value = pick (container_in digest rows kept) key facts.1; server = contains_key (server_in rows) key; local = contains_key (local_in rows) key } in
      (λ i. Some (record {
        kind = was.kind;
        value = unwrap_or (sym local i) (unwrap_or (sym server i) row.entry.value);
        server = is_some (sym server i);
        local = is_some (sym local i);
      }))
      ∙ ap (option_map whole) (sym (release_at rows order key at stands row is))

  pub renewed_by_row : (boot : BootMap) → kept ≡ Some boot → container_in digest rows (Some (boot_renewed row key boot)) ≡ renewed (container_in digest rows kept) key
  renewed_by_row boot there =
      ap (λ entry. container_in digest rows (Some (with_flag boot key entry))) (picks (get boot key))
      ∙ ap (λ (b : Option BootMap). container_in digest rows (option_map (λ (m : BootMap). with_flag m key (renewed_flag (container_in digest rows kept) key (get m key))) b)) (sym there)

-- where the release lacks the flag, nothing is made anew
pub renewed_absent : (c : Container) (key : Key) → get c.release key ≡ None → c ≡ renewed c key
renewed_absent c key absent = λ i. record { digest = c.digest; release = c.release; server = c.server; local = c.local; boot = sym (stays c.boot) i }
  where
    nothing : (entry : Option BootedFlag) → renewed_flag c key entry ≡ None
    nothing None = refl
    nothing (Some was) = ap (option_map (λ (facts : Kind × Bool). record { kind = was.kind; value = pick c key facts.1; server = contains_key c.server key; local = contains_key c.local key })) absent

    stays : (boot : Option BootMap) → option_map (λ (m : BootMap). with_flag m key (renewed_flag c key (get m key))) boot ≡ boot
    stays None = refl
    stays (Some m) = ap (λ entry. Some (with_flag m key entry)) (nothing (get m key))

-- ---- a change for now

module _ (c : Container) (change : Change) (boot : BootMap) (there : c.boot ≡ Some boot) where
  pub entry_refuses : change_refusal c.release c.local change ≡ None → entry_refusal (get boot (changed_key change)) ≡ now_refusal c change
  entry_refuses goes = λ i. boot_refusal (sym goes i) (sym there i) (changed_key change)

  pub boot_refuses : (why : Refusal) → change_refusal c.release c.local change ≡ Some why → Some why ≡ now_refusal c change
  boot_refuses why is = λ i. boot_refusal (sym is i) (sym there i) (changed_key change)
