-- A directory without a list of containers stands for the empty state.
use Rattle.std.proofs.Common.{◌≡◌, ℕ, List, [], Option, Some, None, inr, refl, arith}
use Rattle.std.specs.FinMap.{empty, get, get-empty}
use Rattle.acfg_base.proofs.Rows.{len-map_of}
use Rattle.acfg_model.proofs.Kept.{name_total, name_exact}
use Rattle.acfg_device.specs.Panel.{Files}
use Rattle.acfg_model.specs.State.{Container, name_cmp}
use Rattle.acfg_store.specs.declared.names.Part.TheVariants.{Records}
use Rattle.acfg_store.specs.Names.{path}
use Rattle.acfg_store.specs.Stands.{Entry, entry_name, Stands}

none_there : {A : Type 0} (name : List ℕ) (container : Container) → get (empty {X = Container} {R = name_cmp}) name ≡ Some container → A
none_there name container e = absurd (apart (get (empty {X = Container} {R = name_cmp}) name) (get-empty name_cmp name) e)
  where
    apart : (held : Option Container) → held ≡ None → held ≡ Some container → ⊥
    apart held p q = cc

pub nothing_stands : (files : Files) (dir : List ℕ) → files (path dir [] Records) ≡ None → Stands files dir empty
nothing_stands files dir none = record {
  entries = [];
  state_is = refl;
  valid = record {
    bound = omega (arith, len-map_of name_total entry_name name_exact (λ (entry : Entry). entry.container) [] refl);
    names = λ name container e. none_there name container e;
    each = λ name container e. none_there name container e;
  };
  lies = record {
    listed = inr (refl, none);
    lawful = record { bound = omega arith; each = λ k d within. absurd (omega arith); order = refl };
    each = λ k d within. absurd (omega arith);
  };
}
