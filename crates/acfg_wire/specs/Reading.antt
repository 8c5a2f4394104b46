-- What the private readers compute of the bytes at the front. `Laid` alone builds on it; what it has to be `Fields`
-- and `Faults` say.
use Rattle.std.specs.Prelude.{◌≡◌, ℕ, zero, suc, ◌+◌, ◌-◌, ◌*◌, ◌/◌, ◌%◌, List, [], ◌∷◌, length, take, drop, Result}
use Rattle.std.specs.Prelude.{Ok, Err, nat_lt, ◌==◌, if◌then◌else◌}
use Rattle.acfg_wire.specs.declared.fault.Fault.{Fault}
use Rattle.acfg_wire.specs.declared.fault.Fault.TheVariants.{Truncated, LongVarint, BadType}
use Rattle.acfg_wire.specs.declared.fault.WireFault.{WireFault}
use Rattle.acfg_wire.specs.declared.fault.WireFault.TheVariants as whole
use Rattle.acfg_wire.specs.Fields.{Value, varint, eight, delimited, four, WireField}

-- the next step, where this one was no fault
infixl 10 ◌>>=◌
abbrev pub ◌>>=◌ : {A B : Type 0} → Result A Fault → (A → Result B Fault) → Result B Fault
(Ok x) >>= f = f x
(Err e) >>= f = Err e

-- a reader's answer, with its values seen by view, is this one
abbrev pub ReadsAs : {X Y : Type 0} → (X → Y) → Result X Fault → Result Y Fault → Type 0
ReadsAs view (Ok x) read = read ≡ Ok (view x)
ReadsAs view (Err e) read = read ≡ Err e

-- a varint at the front, with at most this many bytes before the last, and the bytes behind it
abbrev pub varint_within : ℕ → List ℕ → Result (ℕ × List ℕ) Fault
varint_within more [] = Err Truncated
varint_within zero (b ∷ bs) = if nat_lt 1 b then Err LongVarint else Ok (b, bs)
varint_within (suc more) (b ∷ bs) =
    if nat_lt b 128 then Ok (b, bs)
    else (varint_within more bs >>= λ high. Ok (b - 128 + 128 * high.0, high.1))

unfoldable pub varint_at : List ℕ → Result (ℕ × List ℕ) Fault
varint_at bs = varint_within 9 bs

-- so many bytes at the front
abbrev pub front_at : ℕ → List ℕ → Result (List ℕ × List ℕ) Fault
front_at n bs = if nat_lt (length bs) n then Err Truncated else Ok (take n bs, drop n bs)

-- a value of this type at the front
unfoldable pub value_at : ℕ → List ℕ → Result (Value × List ℕ) Fault
value_at type bs =
    if type == 0 then (varint_at bs >>= λ n. Ok (varint n.0, n.1))
    else (if type == 1 then (front_at 8 bs >>= λ content. Ok (eight content.0, content.1))
    else (if type == 2 then (varint_at bs >>= λ n. front_at n.0 n.1 >>= λ content. Ok (delimited content.0, content.1))
    else (if type == 5 then (front_at 4 bs >>= λ content. Ok (four content.0, content.1))
    else Err BadType)))

-- a field at the front
unfoldable pub field_at : List ℕ → Result (WireField × List ℕ) Fault
field_at bs =
    varint_at bs >>= λ key.
    if key.0 / 8 == 0 then Err BadType
    else (value_at (key.0 % 8) key.1 >>= λ value. Ok (record { number = key.0 / 8; value = value.0 }, value.1))

-- a field's fault as one of the whole
abbrev pub fault_at : Fault → ℕ → WireFault
fault_at Truncated place = whole.Truncated place
fault_at LongVarint place = whole.LongVarint place
fault_at BadType place = whole.BadType place
