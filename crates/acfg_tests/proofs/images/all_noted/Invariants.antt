use Rattle.std.proofs.Common.{◌≡◌, ℕ, ◌<◌, length, get_or, All}
use Rattle.acfg_views.specs.Reading.{byte_in}
use Rattle.acfg_images.specs.declared.purpose.Use.TheVariants.{Copy}
use Rattle.acfg_images.specs.Set.{IsInfo, has_read_write}
use Rattle.acfg_tests.proofs.images.all_noted.Given as goal

abbrev pub invariant-loop-i : goal.invariant-loop-i
invariant-loop-i l =
    (length l.made.items ≡ l.i)
    × All (IsInfo Copy) l.made.items
    × ((k : ℕ) → k < l.i → has_read_write (get_or l.made.items k 0) ≡ has_read_write (byte_in l.set.infos k))
