-- Private: what is told of a fault. No public clause cites it.
use Rattle.std.specs.Prelude.{◌≡◌, ⊤, ℕ, List, string_bytes}
use Rattle.acfg_device.specs.declared.panel.ReadFault.{ReadFault}
use Rattle.acfg_device.specs.declared.panel.ReadFault.TheVariants as read
use Rattle.acfg_store.specs.declared.faults.Fault.{Fault}
use Rattle.acfg_store.specs.declared.faults.Fault.TheVariants.{At}
use Rattle.acfg_store.specs.declared.names.Part.{Part}
use Rattle.acfg_store.specs.declared.store_fault.StoreFault.{StoreFault}
use Rattle.acfg_store.specs.declared.store_fault.StoreFault.TheVariants.{Damaged, Device, OutOfMemory}
use Rattle.acfg_store.specs.Names.{path}

-- what comes of a read that fails
abbrev pub fault_of : ReadFault → StoreFault
fault_of read.Failed = Device
fault_of read.OutOfMemory = OutOfMemory

-- the fault's file has this name
pub record IsNameOf (dir container : List ℕ) (fault : Fault Part) (name : List ℕ) : Type 0 where
  pub part : Part
  pub is : fault ≡ At part
  pub named : name ≡ path dir container part

-- the part's name is told, unless memory is refused
abbrev pub NamesPart : (dir container : List ℕ) → Fault Part → StoreFault → Type 0
NamesPart dir container fault (Damaged name) = IsNameOf dir container fault (string_bytes name)
NamesPart dir container fault Device = ⊥
NamesPart dir container fault OutOfMemory = ⊤
