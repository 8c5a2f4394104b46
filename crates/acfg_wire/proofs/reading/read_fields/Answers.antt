use Rattle.std.proofs.Common.{◌≡◌, ◌<◌, ◌++◌, ◌∷◌, ◌∙◌, [], length, Result, Ok, Err, inr, sym, ap, arith}
use Rattle.std.proofs.lemmas.Bool.{eqb-true, eqb-false}
use Rattle.std.proofs.lemmas.List.{map_push}
use Rattle.std.specs.Global.{Vec}
use Rattle.acfg_wire.specs.declared.fault.WireFault.{WireFault}
use Rattle.acfg_wire.specs.declared.field.Field.{Field}
use Rattle.acfg_wire.specs.Fields.{field_of, fields_of, places_of}
use Rattle.acfg_wire.specs.Outcome.{IsOutcome}
use Rattle.acfg_wire.specs.Laid.{laid_of}
use Rattle.acfg_wire.proofs.LaidFacts.{laid_first, laid_next, laid_fault, laid_last}
use Rattle.acfg_wire.proofs.Ends.{values_lie_in}
use Rattle.acfg_wire.proofs.Outcomes.{fault_outcome}
use Rattle.acfg_wire.proofs.Answer.{so_far_first, so_far_next, so_far_last, so_far_fault, shorter, tells_fields, tells_fault}
use Rattle.acfg_wire.proofs.reading.read_fields.Goals as goal

pub loop-rest-init : goal.loop-rest-init
loop-rest-init c = rw c.in_ok-fields.ensures.items (record { so_far = so_far_first c.args.bytes.now; laid = laid_first c.args.bytes.now })

pub loop-rest-smaller : goal.loop-rest-smaller
loop-rest-smaller c =
    shorter c.args.bytes.now c.loop-rest.rest.now _ _ (field_of c.in-Ok.field) c.in-Ok.behind.now (λ i. omega (arith, c.type_inv.bytes i)) c.loop-rest.invariant.so_far c.in-Ok.ensures.field

pub loop-rest-preserved : goal.loop-rest-preserved
loop-rest-preserved c =
    let next = so_far_next c.args.bytes.now c.loop-rest.rest.now _ _ (field_of c.in-Ok.field) c.in-Ok.behind.now (λ i. omega (arith, c.type_inv.bytes i)) c.loop-rest.invariant.so_far c.in-Ok.ensures.field in
    let fields : fields_of c.push.new.self.items ≡ fields_of c.loop-rest.fields.items ++ field_of c.in-Ok.field ∷ [] = rw c.in_ok-push-in-Ok.ensures.items (map_push _ c.loop-rest.fields.items c.in-Ok.field) in
    let places : places_of c.push.new.self.items ≡ places_of c.loop-rest.fields.items ++ c.in-Ok.field.place ∷ [] = rw c.in_ok-push-in-Ok.ensures.items (map_push _ c.loop-rest.fields.items c.in-Ok.field) in
    let laid : laid_of c.push.new.self.items ≡ laid_of c.loop-rest.fields.items ++ (field_of c.in-Ok.field, c.in-Ok.field.place) ∷ [] = rw c.in_ok-push-in-Ok.ensures.items (map_push _ c.loop-rest.fields.items c.in-Ok.field) in
    let some : 0 < length c.loop-rest.rest.now = omega (arith, eqb-false _ _ (sym c.loop-rest-test.ensures)) in
    let less = shorter c.args.bytes.now c.loop-rest.rest.now _ _ (field_of c.in-Ok.field) c.in-Ok.behind.now (λ i. omega (arith, c.type_inv.bytes i)) c.loop-rest.invariant.so_far c.in-Ok.ensures.field in
    let after = laid_next c.args.bytes.now c.loop-rest.rest.now _ (field_of c.in-Ok.field) c.in-Ok.behind.now c.loop-rest.invariant.laid some less c.in-Ok.ensures.field in
    record { so_far = rw (fields, places, c.in-Ok.ensures.place) next; laid = rw (laid, c.in-Ok.ensures.place) after }

pub returns-in-Err : goal.returns-in-Err
returns-in-Err c =
    let bytes = c.args.bytes.now in
    let some : 0 < length c.loop-rest.rest.now = omega (arith, eqb-false _ _ (sym c.loop-rest-test.ensures)) in
    let first = so_far_fault bytes c.loop-rest.rest.now _ _ c.in-Err.fault (λ i. omega (arith, c.type_inv.bytes i)) c.loop-rest.invariant.so_far c.in-Err.ensures.field some in
    let told : IsOutcome bytes (Err c.at.result) = rw c.at.ensures (fault_outcome bytes c.in-Err.fault _ first) in
    let result : Result (Vec Field) WireFault = Err c.at.result in
    record {
      fields = tt;
      places = tt;
      values = tt;
      tells_fields = tells_fields bytes result (inr told);
      fault = inr told;
      tells_fault = tells_fault bytes result (inr told);
      laid = inr (laid_fault bytes c.loop-rest.rest.now _ c.in-Err.fault c.loop-rest.invariant.laid some c.in-Err.ensures.field ∙ ap (λ (e : WireFault). Err e) (sym c.at.ensures));
    }

pub returns : goal.returns
returns c =
    let bytes = c.args.bytes.now in
    let result : Result (Vec Field) WireFault = Ok c.loop-rest.fields in
    let last = so_far_last bytes c.loop-rest.rest.now _ _ c.loop-rest.invariant.so_far (eqb-true _ _ (sym c.loop-rest-test.ensures)) in
    record {
      fields = last.0;
      places = last.1;
      values = values_lie_in bytes c.loop-rest.fields.items last.2;
      tells_fields = tells_fields bytes result last.0;
      fault = tt;
      tells_fault = tells_fault bytes result last.0;
      laid = laid_last bytes c.loop-rest.rest.now _ c.loop-rest.invariant.laid (eqb-true _ _ (sym c.loop-rest-test.ensures));
    }
