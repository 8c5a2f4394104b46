-- What a hasher that takes a message piece by piece stands for. No public contract cites this.
use Rattle.std.specs.Prelude.{◌≡◌, ℕ, ◌%◌, List, ◌++◌, length, fold}
use Rattle.std.specs.Int.{w64, from_le_bytes}
use Rattle.acfg_sip.specs.SipHash.{State, compressed, partial_group, whole_words}
use Rattle.acfg_sip.specs.declared.hasher.Hasher.{Hasher}

-- from this state on, the hasher has taken this message in: its whole words are compressed, and
-- the bytes behind them are kept as a number
pub record Holds {c d : ℕ} (start : State) (hasher : Hasher c d) (message : List ℕ) : Type 0 where
  pub state : hasher.state ≡ fold (compressed c) start (whole_words message)
  pub partial : hasher.partial ≡ from_le_bytes w64 (partial_group message)
  pub count : hasher.count ≡ length message % 256

-- whatever message the old hasher has taken in, the new one has taken in these bytes behind it
abbrev pub TakesIn : {c d : ℕ} → Hasher c d → Hasher c d → List ℕ → Type 0
TakesIn old new bytes =
    (start : State) (message : List ℕ) → Holds start old message → Holds start new (message ++ bytes)
