use Rattle.std.proofs.Common.{◌≡◌, ◌∙◌, List, [], ◌∷◌, Option, None, Some, option_map, refl, sym, ap, subst}
use Rattle.std.specs.Borrow.{Bor}
use Rattle.std.specs.List.{last_or}
use Rattle.acfg_decls.specs.declared.flags.Flag.{Flag}
use Rattle.acfg_cache.specs.Merging.{lent}
use Rattle.acfg_cache.specs.Rows.{IsFound}
use Rattle.acfg_cache.proofs.Orders.{last_is}
use Rattle.acfg_cache.proofs.merging.find_clash.Goals as goal

-- the last of flags that are lent
last_lent : (o : Option (Bor Flag)) (flags : List (Bor Flag)) → last_or (option_map (λ flag. flag.now) o) (lent flags) ≡ option_map (λ flag. flag.now) (last_or o flags)
last_lent o [] = refl
last_lent o (flag ∷ flags) = last_lent (Some flag) flags

pub returns-in-Some : goal.returns-in-Some
returns-in-Some c =
    let taken = c.args.taken.now in
    let last : last_or None (lent taken) ≡ Some c.in-Some.last.now.now =
    last_lent None taken ∙ ap (option_map (λ (flag : Bor Flag). flag.now)) (last_is taken ∙ sym c.in-Some.ensures.value) in
    subst (λ before. IsFound c.compare_last.result c.args.dedup before c.args.flag.now) (sym last) c.compare_last.ensures
