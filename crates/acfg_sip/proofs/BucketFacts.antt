-- A bucket lies among the buckets, and when the table of bucket counts has an entry and how large that is.
use Rattle.std.proofs.Common.{ℕ, ◌*◌, ◌<◌, ◌≤◌, IsNone, IfSome, arith}
use Rattle.std.proofs.lemmas.Bool.Decides.{nat_tests}
use Rattle.acfg_sip.specs.Buckets.{size}

pub size-none : (entries : ℕ) → 196620 < entries → IsNone (size entries)
unfolding size
size-none entries many = grind (arith, nat_tests)

pub size-many : (entries : ℕ) → IsNone (size entries) → 196620 < entries
unfolding size
size-many entries none = grind (arith, nat_tests)

pub size-room : (entries : ℕ) → IfSome (size entries) (λ count. 2 * entries ≤ count)
unfolding size
size-room entries = grind (arith, nat_tests)

pub size-bounds : (entries : ℕ) → IfSome (size entries) (λ count. (7 ≤ count) × (count ≤ 393241))
unfolding size
size-bounds entries = grind (arith, nat_tests)
