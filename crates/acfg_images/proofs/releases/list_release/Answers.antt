use Rattle.std.proofs.Common.{◌≡◌, All, is_some, map, sym, ap, subst, ◌∙◌}
use Rattle.std.proofs.lemmas.Option.{MatchOption-at_some}
use Rattle.acfg_base.specs.Release.{HasTwins, release_of}
use Rattle.acfg_images.specs.Faults.{files_in, flags_in, parts_in}
use Rattle.acfg_images.specs.Listing.{IsListable, entry_in}
use Rattle.acfg_views.specs.Layout.{flag_val_type}
use Rattle.acfg_images.proofs.Law.{bytes_of, has_count, is_set_of}
use Rattle.acfg_images.proofs.Listed.{listable, no_twin_entries, released}
use Rattle.acfg_images.proofs.releases.list_release.Goals as goal

pub list_entries-requires-clause-listable : goal.list_entries-requires-clause-listable
list_entries-requires-clause-listable c =
    let opened = c.args.set.now in
    let faultless = c.set-files.ensures.checked in
    let is = is_set_of faultless.0 (files_in opened) opened (bytes_of opened c.are_open.ensures) faultless.1 in
    let values = has_count flag_val_type opened.values.file opened.values c.are_open.ensures.values.opened in
    subst (All (IsListable opened)) c.requires.flags (listable faultless.0 (files_in opened) opened is values)

pub unreachable-requires : goal.unreachable-requires
unreachable-requires c =
    let opened = c.args.set.now in
    let faultless = c.set-files.ensures.checked in
    let is = is_set_of faultless.0 (files_in opened) opened (bytes_of opened c.are_open.ensures) faultless.1 in
    let entries : c.in_ok-entries.entries.items ≡ map (entry_in opened) (flags_in opened) = c.in_ok-entries.ensures ∙ ap (map (entry_in opened)) (sym c.requires.flags) in
    no_twin_entries faultless.0 (files_in opened) (parts_in opened) is (subst HasTwins entries (c.in_ok-release.ensures.twins.0 (ap is_some c.in-None.is)))

pub returns : goal.returns
returns c =
    let opened = c.args.set.now in
    let faultless = c.set-files.ensures.checked in
    let is = is_set_of faultless.0 (files_in opened) opened (bytes_of opened c.are_open.ensures) faultless.1 in
    let entries : c.in_ok-entries.entries.items ≡ map (entry_in opened) (flags_in opened) = c.in_ok-entries.ensures ∙ ap (map (entry_in opened)) (sym c.requires.flags) in
    MatchOption-at_some _ _ c.in-Some.release c.in-Some.is c.in_ok-release.ensures.flags ∙ ap release_of entries ∙ released faultless.0 (files_in opened) (parts_in opened) is
