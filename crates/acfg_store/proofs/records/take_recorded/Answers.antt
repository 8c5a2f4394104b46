use Rattle.std.proofs.Common.{refl}
use Rattle.acfg_store.proofs.Rowed.{no_release, no_overrides, no_digest, tail_taken}
use Rattle.acfg_store.proofs.records.take_recorded.Goals as goal

pub returns-in-None : goal.returns-in-None
returns-in-None c = no_release c.args.name c.args.bytes.now c.in-None.ensures

pub returns-in-None-take_slot : goal.returns-in-None-take_slot
returns-in-None-take_slot c =
    let r = c.in-Some.ensures in
    no_overrides c.args.name c.args.bytes.now c.in-Some.release c.in-Some.rest.now r.1 c.in-None-take_slot.ensures

pub returns-in-None-take_digest : goal.returns-in-None-take_digest
returns-in-None-take_digest c =
    let r = c.in-Some.ensures in
    let o = c.in-Some-take_slot.ensures in
    no_digest c.args.name c.args.bytes.now c.in-Some.release c.in-Some.rest.now r.1 c.in-Some-take_slot.overrides c.in-Some-take_slot.rest.now o.1
    c.in-None-take_digest.ensures

pub returns-in-Some-take_digest : goal.returns-in-Some-take_digest
returns-in-Some-take_digest c =
    let r = c.in-Some.ensures in
    let o = c.in-Some-take_slot.ensures in
    let d = c.in-Some-take_digest.ensures in (
      (refl, d.0),
      tail_taken c.args.name c.args.bytes.now c.in-Some.release c.in-Some.rest.now r.1 c.in-Some-take_slot.overrides c.in-Some-take_slot.rest.now o.1
          (record { name = c.args.name; release = c.in-Some.release; overrides = c.in-Some-take_slot.overrides; digest = c.in-Some-take_digest.taken.0 }) c.in-Some-take_digest.taken.1.now refl refl d.1,
    )
