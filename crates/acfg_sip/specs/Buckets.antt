-- The buckets of the storage files: what a key hashes to, and how many buckets a map file has.
-- The hash is SipHash-1-3; which bytes it takes, and the table, are this project's own profile.
use Rattle.std.specs.Prelude.{ℕ, ◌*◌, ◌%◌, List, [], ◌∷◌, ◌++◌, Option, codes, decimal, find, nat_le}
use Rattle.acfg_sip.specs.SipHash.{siphash}

-- a key's bucket among n: SipHash-1-3 with zero keys over the key and one byte 0xff, modulo n
unfoldable pub hash : List ℕ → ℕ → ℕ
hash key n = siphash 1 3 0 0 (key ++ 0xff ∷ []) % n

-- a flag's key: the decimal id of its package, a slash and its name. A package's key is its name.
abbrev pub flag_key : ℕ → List ℕ → List ℕ
flag_key package_id flag = decimal package_id ++ codes "/" ++ flag

-- the counts of buckets that a map file may be written with
abbrev pub bucket_counts : List ℕ
bucket_counts =
    7 ∷ 17 ∷ 29 ∷ 53 ∷ 97 ∷ 193 ∷ 389 ∷ 769 ∷ 1543 ∷ 3079 ∷ 6151 ∷ 12289
    ∷ 24593 ∷ 49157 ∷ 98317 ∷ 196613 ∷ 393241 ∷ []

-- the count for so many entries: the first one that is at least twice as many
unfoldable pub size : ℕ → Option ℕ
size entries = find (λ count. nat_le (2 * entries) count) bucket_counts
