use Rattle.std.proofs.Common.{List, Bool, Option, sym, ap, ◌∙◌, Some, option_map}
use Rattle.std.specs.FinMap.{get}
use Rattle.acfg_base.specs.Release.{Key}
use Rattle.acfg_base.proofs.Rows.{get-map_of, row_at-stands, row_at-gap}
use Rattle.acfg_base.proofs.Keys.{key_total}
use Rattle.acfg_model.specs.declared.views.Booted.{Booted}
use Rattle.acfg_model.specs.State.{BootedFlag}
use Rattle.acfg_model.specs.Views.{booted_key, booted_flag, boot_of}
use Rattle.acfg_model.proofs.views.boot_value.Goals as goal

abbrev value_at : Key → List Booted → Option Bool
value_at key flags = option_map (λ (f : BootedFlag). f.value) (get (boot_of flags) key)

abbrev value_of : Option Booted → Option Bool
value_of found = option_map (λ (f : BootedFlag). f.value) (option_map booted_flag found)

pub returns-in-Ok : goal.returns-in-Ok
returns-in-Ok c =
    let key : Key = (c.args.package.now, c.args.flag.now) in
    let flags = c.as_slice-flags in
    let found = row_at-stands key_total booted_key flags.result.now flags.ensures.order key c.in-Ok.at c.index-flags-at.result c.in-Ok.ensures in
    ap (λ b. Some b.entry.value) c.index-flags-at.is
    ∙ ap value_of (sym found)
    ∙ ap (option_map (λ (f : BootedFlag). f.value)) (sym (get-map_of key_total booted_key booted_flag flags.result.now key))
    ∙ ap (value_at key) flags.ensures.all

pub returns-in-Err : goal.returns-in-Err
returns-in-Err c =
    let key : Key = (c.args.package.now, c.args.flag.now) in
    let flags = c.as_slice-flags in
    ap value_of (sym (row_at-gap key_total booted_key flags.result.now key _ c.in-Err.ensures))
    ∙ ap (option_map (λ (f : BootedFlag). f.value)) (sym (get-map_of key_total booted_key booted_flag flags.result.now key))
    ∙ ap (value_at key) flags.ensures.all
