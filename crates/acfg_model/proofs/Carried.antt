-- The rows of another release, and the boot copy of rows.
use Rattle.std.proofs.Common.{◌≡◌, ℕ, Bool, true, false, cond, List, [], map, get_or, Option, Some, None, option_map, option_and_then, is_some, unwrap_or, if◌then◌else◌, refl, sym, ap, subst, ◌∙◌}
use Rattle.std.specs.Option.{option_map_or}
use Rattle.std.specs.FinMap.{get, empty, contains_key, retain_keys, same_map, get-retain_keys, get-empty}
use Rattle.acfg_base.specs.declared.releases.Entry.{Entry}
use Rattle.acfg_base.specs.declared.releases.Kind.{Kind}
use Rattle.acfg_base.specs.declared.releases.Kind.TheVariants.{ReadWrite}
use Rattle.acfg_base.specs.Places.{AreInOrder, StandsAt, WouldStandAt, row_at, map_where}
use Rattle.acfg_base.specs.Release.{Key, key_cmp, key_of, facts_of, ReleaseMap, entries_of, HasLawfulKeys, is_read_write}
use Rattle.acfg_base.proofs.Rows.{AreInOrder-map, row_at-map, row_at-found, row_at-stands, row_at-gap, get-map_of, get-map_where}
use Rattle.acfg_base.proofs.Keys.{key_total, key_exact, entries_of-in_order, release_of-entries_of}
use Rattle.acfg_base.proofs.Maps.{get-map_values}
use Rattle.acfg_model.specs.Bodies.{booted_row, carried_row}
use Rattle.acfg_model.specs.declared.containers.FlagState.{FlagState}
use Rattle.acfg_model.specs.State.{BootedFlag, BootMap, IsDigest, IsValidContainer, is_writable, pick}
use Rattle.acfg_model.specs.Views.{booted_key, booted_flag, boot_of}
use Rattle.acfg_model.specs.Step.{boot_map, with_release, fresh}
use Rattle.acfg_model.specs.FlagStates.{row_key, release_in, server_in, local_in, container_in, IsLawful}
use Rattle.acfg_model.proofs.Valid.{IsValidContainer-with_release, IsValidContainer-fresh}

module _ (old : List FlagState) (order : AreInOrder key_cmp row_key old) (release : ReleaseMap) where
  rows : List FlagState
  rows = map (carried_row old) (entries_of release)

  in_order : AreInOrder key_cmp row_key rows
  unfolding rows
  in_order = AreInOrder-map key_total row_key (carried_row old) (entries_of release) (entries_of-in_order release)

  entry_there : (q : Key) → Option Entry
  entry_there q = row_at key_cmp key_of (entries_of release) q

  get_release : (q : Key) → get release q ≡ option_map facts_of (entry_there q)
  unfolding entry_there
  get_release q = ap (λ m. get m q) (sym (release_of-entries_of release)) ∙ get-map_of key_total key_of facts_of (entries_of release) q

  row_there : (q : Key) → row_at key_cmp row_key rows q ≡ option_map (carried_row old) (entry_there q)
  unfolding rows entry_there
  row_there q = row_at-map key_total row_key (carried_row old) (entries_of release) q

  release_carried : release_in rows ≡ release
  release_carried = same_map key_total key_exact _ _ (λ q.
      get-map_of key_total row_key (λ r. facts_of r.entry) rows q ∙ ap (option_map (λ (r : FlagState). facts_of r.entry)) (row_there q) ∙ facts (entry_there q) ∙ sym (get_release q))
    where
      facts : (e : Option Entry) → option_map (λ (r : FlagState). facts_of r.entry) (option_map (carried_row old) e) ≡ option_map facts_of e
      facts None = refl
      facts (Some e) = refl

  -- the overrides that a projection of rows gives
  overrides_carried : (of : FlagState → Option Bool) → ((e : Entry) → of (carried_row old e) ≡ option_and_then of (if is_read_write e.kind then row_at key_cmp row_key old (key_of e) else None))
      → map_where key_cmp row_key rows of ≡ retain_keys (map_where key_cmp row_key old of) (is_writable release)
  unfolding entry_there
  overrides_carried of by_entry = same_map key_total key_exact _ _ (λ q.
      get-map_where key_total row_key of rows in_order q ∙ ap (option_and_then of) (row_there q)
      ∙ at q (entry_there q) refl
      ∙ ap (λ o. cond (option_map_or (λ f. is_read_write f.0) o false) (get (map_where key_cmp row_key old of) q) None) (sym (get_release q))
      ∙ sym (get-retain_keys (map_where key_cmp row_key old of) (is_writable release) q (λ x t. ap (is_writable release) (sym (key_exact q x t)))))
    where
      of_kind : (q : Key) (b : Bool) → option_and_then of (if b then row_at key_cmp row_key old q else None) ≡ cond b (get (map_where key_cmp row_key old of) q) None
      of_kind q true = sym (get-map_where key_total row_key of old order q)
      of_kind q false = refl

      at : (q : Key) (e : Option Entry) → row_at key_cmp key_of (entries_of release) q ≡ e
          → option_and_then of (option_map (carried_row old) e) ≡ cond (option_map_or (λ f. is_read_write f.0) (option_map facts_of e) false) (get (map_where key_cmp row_key old of) q) None
      at q None is = refl
      at q (Some e) is =
          let key : key_of e ≡ q = key_exact _ _ (row_at-found key_total key_of (entries_of release) q e is).1 in
          by_entry e ∙ ap (λ k. option_and_then of (if is_read_write e.kind then row_at key_cmp row_key old k else None)) key ∙ of_kind q (is_read_write e.kind)

  -- a table of these rows is the container with this release
  container-with_release : (digest was : List ℕ) (boot : Option BootMap) → container_in digest rows boot ≡ with_release (container_in was old boot) digest release
  container-with_release digest was boot =
      let server = overrides_carried (λ r. r.server) (λ e. refl) in
      let local = overrides_carried (λ r. r.local) (λ e. refl) in
      λ i. record { digest = digest; release = release_carried i; server = server i; local = local i; boot = boot }

  pub rows-with_release : (digest was : List ℕ) (boot : Option BootMap) → container_in digest (map (carried_row old) (entries_of release)) boot ≡ with_release (container_in was old boot) digest release
  unfolding rows
  rows-with_release digest was boot = container-with_release digest was boot

  pub lawful-with_release : (digest was : List ℕ) (boot : Option BootMap) → IsDigest digest → HasLawfulKeys release → IsValidContainer (container_in was old boot) → IsLawful (map (carried_row old) (entries_of release)) (container_in digest (map (carried_row old) (entries_of release)) boot)
  unfolding rows
  lawful-with_release digest was boot sized keys valid = record {
    order = in_order;
    valid = subst IsValidContainer (sym (rows-with_release digest was boot)) (IsValidContainer-with_release (container_in was old boot) valid digest release sized keys);
  }

-- without old rows there are no overrides
pub rows-fresh : (release : ReleaseMap) (digest : List ℕ) → container_in digest (map (carried_row []) (entries_of release)) None ≡ fresh digest release
rows-fresh release digest = rows-with_release [] refl release digest [] None ∙ (λ i. record { digest = digest; release = release; server = nothing i; local = nothing i; boot = None })
  where
    none_of : (b : Bool) → cond {A = Option Bool} b None None ≡ None
    none_of true = refl
    none_of false = refl

    nothing : retain_keys (empty {X = Bool} {R = key_cmp}) (is_writable release) ≡ empty
    nothing = same_map key_total key_exact _ _ (λ q.
        get-retain_keys empty (is_writable release) q (λ x t. ap (is_writable release) (sym (key_exact q x t))) ∙ ap (λ o. cond (is_writable release q) o None) (get-empty key_cmp q) ∙ none_of (is_writable release q) ∙ sym (get-empty key_cmp q))

pub lawful-fresh : (release : ReleaseMap) (digest : List ℕ) → IsDigest digest → HasLawfulKeys release → IsLawful (map (carried_row []) (entries_of release)) (container_in digest (map (carried_row []) (entries_of release)) None)
lawful-fresh release digest sized keys = record {
  order = AreInOrder-map key_total row_key (carried_row []) (entries_of release) (entries_of-in_order release);
  valid = subst IsValidContainer (sym (rows-fresh release digest)) (IsValidContainer-fresh digest release sized keys);
}

module _ (digest : List ℕ) (rows : List FlagState) (boot : Option BootMap) (order : AreInOrder key_cmp row_key rows) where
  -- the flags as they are booted are in order
  pub booted-in_order : AreInOrder key_cmp booted_key (map booted_row rows)
  booted-in_order = AreInOrder-map key_total booted_key booted_row rows order

  -- and make the container's boot map
  pub boot_of-rows : boot_of (map booted_row rows) ≡ boot_map (container_in digest rows boot)
  boot_of-rows = same_map key_total key_exact _ _ (λ q.
      get-map_of key_total booted_key booted_flag (map booted_row rows) q ∙ ap (option_map booted_flag) (row_at-map key_total booted_key booted_row rows q)
      ∙ at q (row_at key_cmp row_key rows q) refl
      ∙ ap (option_map (flag_at q)) (sym (get-map_of key_total row_key (λ r. facts_of r.entry) rows q))
      ∙ sym (get-map_values key_total key_exact flag_at (release_in rows) q))
    where
      flag_at : Key → Kind × Bool → BootedFlag
      flag_at = λ key facts. record { kind = facts.0; value = pick (container_in digest rows boot) key facts.1; server = contains_key (server_in rows) key; local = contains_key (local_in rows) key }

      at : (q : Key) (r : Option FlagState) → row_at key_cmp row_key rows q ≡ r → option_map booted_flag (option_map booted_row r) ≡ option_map (flag_at q) (option_map (λ (r : FlagState). facts_of r.entry) r)
      at q None is = refl
      at q (Some row) is =
          let server : get (server_in rows) q ≡ row.server = get-map_where key_total row_key (λ r. r.server) rows order q ∙ ap (option_and_then (λ (r : FlagState). r.server)) is in
          let local : get (local_in rows) q ≡ row.local = get-map_where key_total row_key (λ r. r.local) rows order q ∙ ap (option_and_then (λ (r : FlagState). r.local)) is in
          λ i. Some (record {
            kind = row.entry.kind;
            value = unwrap_or (sym local i) (unwrap_or (sym server i) row.entry.value);
            server = is_some (sym server i);
            local = is_some (sym local i);
          })

-- what an entry carries where it is read-write
module _ (old : List FlagState) (entry : Entry) (kind : entry.kind ≡ ReadWrite) (key : Key) (has : key ≡ key_of entry) where
  looked_up : row_at key_cmp row_key old key ≡ (if is_read_write entry.kind then row_at key_cmp row_key old (key_of entry) else None)
  looked_up = ap (row_at key_cmp row_key old) has ∙ ap (λ (k : Kind). if is_read_write k then row_at key_cmp row_key old (key_of entry) else None) (sym kind)

  carries : (row : Option FlagState) → row_at key_cmp row_key old key ≡ row → record { entry = entry; server = option_and_then (λ (r : FlagState). r.server) row; local = option_and_then (λ (r : FlagState). r.local) row } ≡ carried_row old entry
  carries row is =
      let e = sym is ∙ looked_up in
      λ i. record { entry = entry; server = option_and_then (λ (r : FlagState). r.server) (e i); local = option_and_then (λ (r : FlagState). r.local) (e i) }

  pub carried-found : AreInOrder key_cmp row_key old → (at : ℕ) → StandsAt key_cmp row_key old key at → (row : FlagState) → row ≡ get_or old at row → record { entry = entry; server = row.server; local = row.local } ≡ carried_row old entry
  carried-found order at stands row is = carries (Some row) (row_at-stands key_total row_key old order key at row stands ∙ ap Some (sym is))

  pub carried-gap : (at : ℕ) → WouldStandAt key_cmp row_key old key at → record { entry = entry; server = None; local = None } ≡ carried_row old entry
  carried-gap at gap = carries None (row_at-gap key_total row_key old key at gap)
