-- Codes by which values of contracts are told apart: no clause speaks of them.
use Rattle.std.specs.Prelude.{◌≡◌, refl, ℕ, ◌==◌, if◌then◌else◌, Bool}
use Rattle.std.specs.FinMap.{code}
use Rattle.std.specs.Coded.{Coded, code_by, coded×, coded_bool, coded_list, coded_ℕ}
use Rattle.acfg_base.specs.declared.releases.Kind.{Kind}
use Rattle.acfg_base.specs.declared.releases.Kind.TheVariants.{ReadWrite, ReadOnly, Fixed}
use Rattle.acfg_base.specs.Release.{Key, ReleaseMap, kind_number}

-- a kind of a number, by which a value of it is stored
abbrev pub numbered_kind : ℕ → Kind
numbered_kind n = if n == 0 then ReadWrite else (if n == 1 then ReadOnly else Fixed)

abbrev pub kind_code : Coded Kind
kind_code = code_by ℕ coded_ℕ kind_number numbered_kind numbered_back
  where
    numbered_back : (kind : Kind) → numbered_kind (kind_number kind) ≡ kind
    numbered_back ReadWrite = refl
    numbered_back ReadOnly = refl
    numbered_back Fixed = refl

abbrev pub key_code : Coded Key
key_code = coded× (coded_list coded_ℕ) (coded_list coded_ℕ)

abbrev pub release_code : Coded ReleaseMap
release_code = code key_code (coded× kind_code coded_bool)
