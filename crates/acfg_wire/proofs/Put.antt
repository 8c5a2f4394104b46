-- The shortest spelling, as the loop writes it byte after byte.
use Rattle.std.proofs.Common.{◌≡◌, ℕ, zero, suc, ◌+◌, ◌*◌, ◌/◌, ◌%◌, ◌^◌, ◌<◌, ◌≤◌, List, [], ◌∷◌, ◌++◌, refl, append_assoc, arith}
use Rattle.std.proofs.lemmas.Nat.{shr_below}
use Rattle.std.proofs.lemmas.Bool.{le-ltb}
use Rattle.acfg_wire.specs.Varint.{shortest_within, shortest}

-- what is still to be written: the rest completes the bytes, and there is room for it up to the limit
pub record IsLeft (bytes whole : List ℕ) (len limit rest : ℕ) : Type 0 where
  pub more : ℕ
  pub few : rest < 2 ^ (7 * more + 1)
  pub completes : bytes ++ shortest_within more rest ≡ whole
  pub room : len + more + 1 ≤ limit

pub left_first : (bytes : List ℕ) (len value : ℕ) → value < 2 ^ 64 → IsLeft bytes (bytes ++ shortest value) len (len + 10) value
unfolding shortest
left_first bytes len value fits = record { more = 9; few = fits; completes = refl; room = omega arith }

pub left_next : (bytes whole : List ℕ) (len limit rest : ℕ) → IsLeft bytes whole len limit rest → 128 ≤ rest → IsLeft (bytes ++ (rest % 128 + 128) ∷ []) whole (len + 1) limit (rest / 128)
left_next bytes whole len limit rest left above = at left.more left.few left.completes left.room
  where
    at : (more : ℕ) → rest < 2 ^ (7 * more + 1) → bytes ++ shortest_within more rest ≡ whole → len + more + 1 ≤ limit → IsLeft (bytes ++ (rest % 128 + 128) ∷ []) whole (len + 1) limit (rest / 128)
    at zero few completes room = absurd (omega arith)
    at (suc more) few completes room =
        let k : 7 * suc more + 1 ≡ (7 * more + 1) + 7 = omega arith in
        let e : rest % 128 + 128 ≡ 128 + rest % 128 = omega arith in
        record {
          more = more;
          few = shr_below rest (7 * more + 1) 7 (rw (← k) few);
          completes = rw (e, append_assoc bytes ((128 + rest % 128) ∷ []) (shortest_within more (rest / 128))) (rw (le-ltb rest 128 above) at completes);
          room = omega arith;
        }
