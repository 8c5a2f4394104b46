-- A lawful container is read as a lawful one.
use Rattle.std.proofs.Common.{ℕ, zero, suc, ◌<◌, inl, true, false, codes, if◌then◌else◌, arith}
use Rattle.std.specs.Prelude.{slice_index}
use Rattle.std.specs.Str.{bytes_eq}
use Rattle.acfg_base.specs.Names.{IsContainer, IsLetter}
use Rattle.acfg_decls.specs.Compile.{container_read}

letter : (i : ℕ) → i < 6 → IsLetter (slice_index (codes "system") i)
letter zero within = (omega arith, omega arith)
letter (suc zero) within = (omega arith, omega arith)
letter (suc (suc zero)) within = (omega arith, omega arith)
letter (suc (suc (suc zero))) within = (omega arith, omega arith)
letter (suc (suc (suc (suc zero)))) within = (omega arith, omega arith)
letter (suc (suc (suc (suc (suc zero))))) within = (omega arith, omega arith)
letter (suc (suc (suc (suc (suc (suc i)))))) within = absurd (omega arith)

system_lawful : IsContainer (codes "system")
system_lawful = record {
  bound = omega arith;
  names = record {
    begins = letter 0 (omega arith);
    bytes = λ i within. inl (inl (letter i within));
    behind_dot = λ i within is. let l = letter i within in absurd (omega (arith, l.0, l.1, is));
    behind_underscore = λ i within is. let l = letter i within in absurd (omega (arith, l.0, l.1, is));
  };
}

pub read_lawful : (container : _) → IsContainer container → IsContainer (container_read container)
read_lawful container lawful = elim (bytes_eq container (codes "system_ext")) as (λ b. IsContainer (if b then codes "system" else container)) [ true ↦ system_lawful | false ↦ lawful ]
