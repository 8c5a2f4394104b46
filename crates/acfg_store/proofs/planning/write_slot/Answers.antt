use Rattle.std.proofs.Common.{ℕ, List, map, Some, ap, ◌∙◌, subst, sym}
use Rattle.acfg_base.specs.Release.{ReleaseMap, entries_of}
use Rattle.acfg_images.specs.Set.{listing}
use Rattle.acfg_model.specs.State.{OverrideMap}
use Rattle.acfg_store.specs.Kept.{index_listed}
use Rattle.acfg_store.specs.Stamped.{AreFlagsIn}
use Rattle.acfg_store.specs.Stands.{AreBytesOf, AreLocalsOf, server_info, server_value}
use Rattle.acfg_store.proofs.planning.write_slot.Goals as goal
use Rattle.acfg_views.specs.Layout.{flag_info_type, flag_val_type}

pub returns : goal.returns
returns c =
    let one = c.args.one.now in
    let parts = c.requires.parts in
    let rows = c.rows-rows.result.now in
    let flags : AreFlagsIn one.release parts rows c.as_slice-indexes.result.now = record {
      is_set = c.requires.is_set;
      order = c.rows-rows.ensures.order;
      release_is = c.requires.release_is ∙ c.rows-rows.ensures.release;
      indexes_are = ap (map (λ (index : ℕ). Some index)) c.as_slice-indexes.ensures.value ∙ c.requires.are
          ∙ ap (λ (release : ReleaseMap). map (index_listed parts) (entries_of release)) c.rows-rows.ensures.release;
    } in
    record {
      parts = parts;
      is_set = c.requires.is_set;
      values = c.in_ok-values-2.values;
      infos = c.in_ok-infos-2.infos;
      locals = c.in_ok-locals-2.locals;
      are = c.in_ok-from_array.ensures.items;
      values_named = c.in_ok-values-2.ensures.named;
      infos_named = c.in_ok-infos-2.ensures.named;
      locals_named = c.in_ok-locals-2.ensures.named;
      values_are = subst (λ (bytes : List ℕ). AreBytesOf flag_val_type bytes parts.package_map.container (server_value one.container.server) (listing parts)) (sym c.in_ok-values-2.ensures.bytes)
          (subst (λ (server : OverrideMap). AreBytesOf flag_val_type c.in_ok-values.values.items parts.package_map.container (server_value server) (listing parts)) (sym c.rows-rows.ensures.server)
          (c.in_ok-values.ensures parts flags c.requires.count_is));
      infos_are = subst (λ (bytes : List ℕ). AreBytesOf flag_info_type bytes parts.package_map.container (server_info one.container.server) (listing parts)) (sym c.in_ok-infos-2.ensures.bytes)
          (subst (λ (server : OverrideMap). AreBytesOf flag_info_type c.in_ok-infos.infos.items parts.package_map.container (server_info server) (listing parts)) (sym c.rows-rows.ensures.server)
          (c.in_ok-infos.ensures parts flags c.requires.count_is));
      locals_are = subst (λ (bytes : List ℕ). AreLocalsOf bytes one.container.local (listing parts)) (sym c.in_ok-locals-2.ensures.bytes)
          (subst (λ (local : OverrideMap). AreLocalsOf c.in_ok-locals.locals.items local (listing parts)) (sym c.rows-rows.ensures.local)
          (c.in_ok-locals.ensures one.release parts flags c.requires.count_is));
    }
