use Rattle.std.proofs.Common.{refl, subst, inl, inr, [], ap, ◌∙◌, ℕ, Global}
use Rattle.std.specs.Prelude.{Vec}
use Rattle.std.specs.List.{flat_map}
use Rattle.acfg_decls.specs.Compile.{FailsOwn, IfIn}
use Rattle.acfg_dump.specs.Lines.{flag_line}
use Rattle.acfg_top.specs.Flags.{fault_words}
use Rattle.acfg_top.specs.Outcome.{Done, Refused}
use Rattle.acfg_top.proofs.flags.compiled.Goals as goal

pub returns-in_ok-listing-in-Ok-clause-told : goal.returns-in_ok-listing-in-Ok-clause-told
returns-in_ok-listing-in-Ok-clause-told c =
    let flags = c.list.result.now in (
      Done (flat_map flag_line flags) [],
      inl (c.args.declarations.now, flags, c.requires, rw (c.list.ensures.all) c.in-Ok.ensures.ok, refl),
      record { ending = refl; text = ap (λ (bytes : Vec ℕ Global). bytes.items) c.into_bytes.ensures.value ∙ c.in_ok-listing-in-Ok.ensures; nothing = refl },
    )

pub returns-in_ok-refused-in-Err-In-clause-told : goal.returns-in_ok-refused-in-Err-In-clause-told
returns-in_ok-refused-in-Err-In-clause-told c = (
  Refused c.args.file.now (fault_words c.in-Err-In.place c.in-Err-In.what),
  inr (
    c.in-Err-In.place,
    c.in-Err-In.what,
    inr (c.args.declarations.now, c.in-Err-In.field-0-0, c.requires, subst (λ fault. IfIn fault (FailsOwn c.args.declarations.now)) c.in-Err-In.field-0-is c.in-Err-In.ensures.err),
    refl,
  ),
  c.in_ok-refused-in-Err-In.ensures,
)
