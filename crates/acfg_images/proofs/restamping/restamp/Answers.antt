use Rattle.std.proofs.Common.{◌≡◌, ℕ, List, ◌-◌, ◌++◌, length, take, ap, ◌∙◌, rules}
use Rattle.acfg_images.specs.Files.{Files}
use Rattle.acfg_images.specs.Faults.{parts_in, files_in}
use Rattle.acfg_images.proofs.Law.{bytes_of, is_set_of}
use Rattle.acfg_images.proofs.Restamped.{restamped_set}
use Rattle.acfg_images.proofs.restamping.restamp.Goals as goal

pub returns-clause-set : goal.returns-clause-set
returns-clause-set c =
    let opened = c.args.set.now in
    let files = files_in opened in
    let faultless = c.set-set.ensures.checked in
    let is = is_set_of faultless.0 files opened (bytes_of opened c.are_open.ensures) faultless.1 in
    let package_map : c.new.result.package_map ≡ files.package_map = search rules in
    let flag_map : c.new.result.flag_map ≡ files.flag_map = search rules in
    let flag_val : c.new.result.flag_val ≡ take (length files.flag_val - length c.args.values.now) files.flag_val ++ c.args.values.now =
    c.new.ensures.flag_val ∙ c.in_ok-with_bytes.ensures ∙ ap (λ (f : List ℕ). take (length f - length c.args.values.now) f ++ c.args.values.now) (c.flag_val.ensures ∙ ap (λ (s : Files). s.flag_val) c.set-set.ensures.files) in
    let flag_info : c.new.result.flag_info ≡ take (length files.flag_info - length c.args.infos.now) files.flag_info ++ c.args.infos.now =
    c.new.ensures.flag_info ∙ c.in_ok-with_bytes-2.ensures ∙ ap (λ (f : List ℕ). take (length f - length c.args.infos.now) f ++ c.args.infos.now) (c.flag_info.ensures ∙ ap (λ (s : Files). s.flag_info) c.set-set.ensures.files) in
    restamped_set faultless.0 files c.new.result (parts_in opened) c.args.values.now c.args.infos.now is c.requires package_map flag_map flag_val flag_info
