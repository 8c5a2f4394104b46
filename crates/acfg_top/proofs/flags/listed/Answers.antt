use Rattle.std.proofs.Common.{refl, subst, inl, inr}
use Rattle.acfg_decls.specs.Compile.{IfAt}
use Rattle.acfg_decls.specs.Reading.{Refuses}
use Rattle.acfg_decls.specs.declared.messages.Message.TheVariants.{FlagDeclarations}
use Rattle.acfg_top.specs.Flags.{fault_words}
use Rattle.acfg_top.specs.Outcome.{Refused}
use Rattle.acfg_top.proofs.flags.listed.Goals as goal

pub returns-in_ok-refused-in-Err-At-clause-told : goal.returns-in_ok-refused-in-Err-At-clause-told
returns-in_ok-refused-in-Err-At-clause-told c = (
  Refused c.args.file.now (fault_words c.in-Err-At.place c.in-Err-At.what),
  inr (c.in-Err-At.place, c.in-Err-At.what, inl (subst (λ fault. IfAt fault (Refuses FlagDeclarations c.args.bytes.now)) c.in-Err-At.field-0-is c.in-Err-At.ensures.err), refl),
  c.in_ok-refused-in-Err-At.ensures,
)
