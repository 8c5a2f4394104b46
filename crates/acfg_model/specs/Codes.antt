-- Codes by which values of contracts are told apart: no clause speaks of them.
use Rattle.std.specs.Prelude.{refl, ℕ, Bool, List, Option}
use Rattle.std.specs.Coded.{Coded, code_by, coded×, coded_bool, coded_list, coded_option, coded_ℕ}
use Rattle.std.specs.FinMap.{code}
use Rattle.acfg_base.specs.declared.releases.Kind.{Kind}
use Rattle.acfg_base.specs.Codes.{key_code, kind_code, release_code}
use Rattle.acfg_base.specs.Release.{ReleaseMap}
use Rattle.acfg_model.specs.State.{BootedFlag, BootMap, Container, OverrideMap, State}

abbrev pub override_code : Coded OverrideMap
override_code = code key_code coded_bool

abbrev pub booted_code : Coded BootedFlag
booted_code =
    code_by (Kind × (Bool × (Bool × Bool)))
    (coded× kind_code (coded× coded_bool (coded× coded_bool coded_bool)))
    (λ b. (b.kind, (b.value, (b.server, b.local))))
    (λ p. record { kind = p.0; value = p.1.0; server = p.1.1.0; local = p.1.1.1 })
    (λ _. refl)

abbrev pub boot_code : Coded BootMap
boot_code = code key_code booted_code

abbrev pub container_code : Coded Container
container_code =
    code_by (List ℕ × (ReleaseMap × (OverrideMap × (OverrideMap × Option BootMap))))
    (coded× (coded_list coded_ℕ)
    (coded× release_code (coded× override_code (coded× override_code (coded_option boot_code)))))
    (λ c. (c.digest, (c.release, (c.server, (c.local, c.boot)))))
    (λ p. record { digest = p.0; release = p.1.0; server = p.1.1.0; local = p.1.1.1.0; boot = p.1.1.1.1 })
    (λ _. refl)

abbrev pub state_code : Coded State
state_code = code (coded_list coded_ℕ) container_code
