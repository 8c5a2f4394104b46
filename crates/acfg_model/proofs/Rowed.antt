-- What a change of one row does to the container that the rows make.
use Rattle.std.proofs.Common.{◌≡◌, ℕ, Bool, List, get_or, set, Option, Some, None, option_map, option_and_then, sym, ap, ◌∙◌}
use Rattle.std.specs.FinMap.{get, insert, remove}
use Rattle.std.proofs.lemmas.List.{get_or_default}
use Rattle.acfg_base.specs.Places.{AreInOrder, StandsAt, WouldStandAt}
use Rattle.acfg_base.specs.Release.{Key, key_cmp, facts_of}
use Rattle.acfg_base.proofs.Rows.{AreInOrder-set, map_of-kept, map_where-kept, map_where-set, map_where-remove, row_at-stands, row_at-gap, get-map_of, get-map_where}
use Rattle.acfg_base.proofs.Keys.{key_total, key_exact}
use Rattle.acfg_model.specs.declared.containers.FlagState.{FlagState}
use Rattle.acfg_model.specs.State.{BootMap}
use Rattle.acfg_model.specs.FlagStates.{row_key, release_in, server_in, local_in, container_in}

module _ (rows : List FlagState) (order : AreInOrder key_cmp row_key rows) (key : Key) (at : ℕ) (stands : StandsAt key_cmp row_key rows key at) (row : FlagState) (is : row ≡ get_or rows at row) where
  -- the row has the key
  pub same_key : row_key row ≡ key
  same_key = ap row_key is ∙ key_exact _ _ (stands.same row)

  pub release_at : get (release_in rows) key ≡ Some (facts_of row.entry)
  release_at = get-map_of key_total row_key (λ r. facts_of r.entry) rows key
      ∙ ap (option_map (λ (r : FlagState). facts_of r.entry)) (row_at-stands key_total row_key rows order key at row stands ∙ ap Some (sym is))

  -- what the maps of overrides have at the key
  pub server_at : get (server_in rows) key ≡ row.server
  server_at = get-map_where key_total row_key (λ r. r.server) rows order key
      ∙ ap (option_and_then (λ (r : FlagState). r.server)) (row_at-stands key_total row_key rows order key at row stands ∙ ap Some (sym is))

  pub local_at : get (local_in rows) key ≡ row.local
  local_at = get-map_where key_total row_key (λ r. r.local) rows order key
      ∙ ap (option_and_then (λ (r : FlagState). r.local)) (row_at-stands key_total row_key rows order key at row stands ∙ ap Some (sym is))

  module _ (digest : List ℕ) (boot : Option BootMap) (new : FlagState) where
    here : (Y : Type 0) (f : FlagState → Y) → f new ≡ f row → f (get_or rows at new) ≡ f new
    here Y f e = ap f (get_or_default rows at new row stands.within ∙ sym is) ∙ sym e

    module _ (entry : new.entry ≡ row.entry) where
      keyed : row_key (get_or rows at new) ≡ row_key new
      keyed = here Key row_key (ap (λ e. (e.package, e.flag)) entry)

      new_key : row_key new ≡ key
      new_key = ap (λ e. (e.package, e.flag)) entry ∙ same_key

      pub order_set : AreInOrder key_cmp row_key (set rows at new)
      order_set = AreInOrder-set key_total row_key rows order at new stands.within keyed

      release_kept : release_in (set rows at new) ≡ release_in rows
      release_kept = map_of-kept key_total row_key key_exact rows order at new stands.within keyed (λ r. facts_of r.entry) (sym (here _ (λ r. facts_of r.entry) (ap facts_of entry)))

      pub container-server : (value : Bool) → new.server ≡ Some value → new.local ≡ row.local
          → container_in digest (set rows at new) boot ≡ record (container_in digest rows boot) { server = insert (server_in rows) key value }
      container-server value server local =
          let by_server = map_where-set key_total row_key key_exact rows order at new stands.within keyed (λ r. r.server) value server ∙ ap (λ k. insert (server_in rows) k value) new_key in
          let by_local = map_where-kept key_total row_key key_exact rows order at new stands.within keyed (λ r. r.local) (sym (here _ (λ r. r.local) local)) in
          λ i. record { digest = digest; release = release_kept i; server = by_server i; local = by_local i; boot = boot }

      pub container-local : (value : Bool) → new.server ≡ row.server → new.local ≡ Some value
          → container_in digest (set rows at new) boot ≡ record (container_in digest rows boot) { local = insert (local_in rows) key value }
      container-local value server local =
          let by_server = map_where-kept key_total row_key key_exact rows order at new stands.within keyed (λ r. r.server) (sym (here _ (λ r. r.server) server)) in
          let by_local = map_where-set key_total row_key key_exact rows order at new stands.within keyed (λ r. r.local) value local ∙ ap (λ k. insert (local_in rows) k value) new_key in
          λ i. record { digest = digest; release = release_kept i; server = by_server i; local = by_local i; boot = boot }

      pub container-unset : new.server ≡ row.server → new.local ≡ None
          → container_in digest (set rows at new) boot ≡ record (container_in digest rows boot) { local = remove (local_in rows) key }
      container-unset server local =
          let by_server = map_where-kept key_total row_key key_exact rows order at new stands.within keyed (λ r. r.server) (sym (here _ (λ r. r.server) server)) in
          let by_local = map_where-remove key_total row_key key_exact rows order at new stands.within keyed (λ r. r.local) local ∙ ap (remove (local_in rows)) new_key in
          λ i. record { digest = digest; release = release_kept i; server = by_server i; local = by_local i; boot = boot }

-- where no row has the key, the release hasn't either
pub release_absent : (rows : List FlagState) (key : Key) (at : ℕ) → WouldStandAt key_cmp row_key rows key at → get (release_in rows) key ≡ None
release_absent rows key at gap = get-map_of key_total row_key (λ r. facts_of r.entry) rows key ∙ ap (option_map (λ (r : FlagState). facts_of r.entry)) (row_at-gap key_total row_key rows key at gap)
