use Rattle.std.proofs.Common.{◌∙◌, map, ap, sym}
use Rattle.acfg_cache.specs.Merging.{lent}
use Rattle.acfg_images.specs.Build.{built, compiled_flag}
use Rattle.acfg_top.specs.CreateStorage.{image_told, set_writes, stored_line}
use Rattle.acfg_top.proofs.Storing.{files_in}
use Rattle.acfg_top.proofs.create_storage.store_flags.Goals as goal

pub returns-clause-ok : goal.returns-clause-ok
returns-clause-ok c =
    let compiled = map compiled_flag (lent c.args.flags.now) in
    record {
      text = stored_line compiled c.in_ok-set.set;
      writes = set_writes c.args.dir.now c.in_ok-set.set;
      given = sym (ap (image_told c.args.dir.now compiled) (ap (λ container. built container compiled) (sym c.in_ok-name.ensures) ∙ c.in_ok-set.ensures.ok));
      is = c.in_ok-product.ensures;
    }

pub returns-clause-names : goal.returns-clause-names
returns-clause-names c = files_in c.args.dir.now c.in_ok-set.set c.in_ok-product.field-0.files.items c.in_ok-product.ensures.files
