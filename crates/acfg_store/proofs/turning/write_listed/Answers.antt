use Rattle.std.proofs.Common.{List, ◌≤◌, length, ◌∙◌, subst, sym}
use Rattle.acfg_model.specs.State.{most_containers}
use Rattle.acfg_store.specs.declared.records.Recorded.{Recorded}
use Rattle.acfg_store.proofs.turning.write_listed.Goals as goal

pub write_records-requires : goal.write_records-requires
write_records-requires c =
    subst (λ (rows : List Recorded). length rows ≤ most_containers) (sym (c.as_slice.ensures.value ∙ c.in_ok-rows.ensures)) c.requires.listed.bound
