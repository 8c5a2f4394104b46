-- Words of private bodies: no public clause cites them.
use Rattle.std.specs.Prelude.{◌≡◌, ◌≢◌, ℕ, ◌⊎◌, List}
use Rattle.acfg_base.specs.declared.releases.Entry.{Entry}
use Rattle.acfg_base.specs.Names.{dot, underscore, IsLetter, IsNameByte}
use Rattle.acfg_base.specs.Places.{AreInOrder}
use Rattle.acfg_base.specs.Release.{key_cmp, key_of, AreNamed}

-- what a byte's place behind another one asks of it, by the same rules
pub record MayFollow (previous byte : ℕ) : Type 0 where
  pub bytes : IsNameByte byte ⊎ (byte ≡ dot)
  pub behind_dot : previous ≡ dot → IsLetter byte
  pub behind_underscore : previous ≡ underscore → byte ≢ underscore

-- how a release is kept: as entries in order, of lawful names
pub record IsKept (list : List Entry) : Type 0 where
  pub order : AreInOrder key_cmp key_of list
  pub named : AreNamed list
