use Rattle.std.proofs.Common.{subst}
use Rattle.acfg_images.specs.declared.fault.FileType.TheVariants as image
use Rattle.acfg_store.specs.declared.names.Part.TheVariants.{Boot}
use Rattle.acfg_store.specs.BootPlans.{IsFile}
use Rattle.acfg_store.specs.Names.{path}
use Rattle.acfg_store.proofs.booting.boot_files.Goals as goal

pub returns : goal.returns
returns c = record {
  package_map = c.in_ok-package_map.package_map;
  flag_map = c.in_ok-flag_map.flag_map;
  values = c.in_ok-values.values;
  infos = c.in_ok-infos.infos;
  are = c.in_ok-from_array.ensures.items;
  package_map_is = subst (λ bytes. IsFile (path c.args.dir.now c.args.name.now (Boot c.args.slot image.PackageMap)) bytes c.in_ok-package_map.package_map) c.package_map.ensures c.in_ok-package_map.ensures;
  flag_map_is = subst (λ bytes. IsFile (path c.args.dir.now c.args.name.now (Boot c.args.slot image.FlagMap)) bytes c.in_ok-flag_map.flag_map) c.flag_map.ensures c.in_ok-flag_map.ensures;
  values_are = subst (λ bytes. IsFile (path c.args.dir.now c.args.name.now (Boot c.args.slot image.FlagVal)) bytes c.in_ok-values.values) c.flag_val.ensures c.in_ok-values.ensures;
  infos_are = subst (λ bytes. IsFile (path c.args.dir.now c.args.name.now (Boot c.args.slot image.FlagInfo)) bytes c.in_ok-infos.infos) c.flag_info.ensures c.in_ok-infos.ensures;
}
