use Rattle.std.proofs.Common.{rules, subst, sym, ap, ◌∙◌}
use Rattle.acfg_base.specs.Names.{IsContainer}
use Rattle.acfg_decls.specs.Compile.{container_read}
use Rattle.acfg_decls.proofs.System.{read_lawful}
use Rattle.acfg_decls.proofs.own.compile_own.Goals as goal

pub unreachable-requires : goal.unreachable-requires
unreachable-requires c =
    let lawful : IsContainer c.in-Some.named.text = search rules in
    let unlawful = rw c.in_default-3.is at c.in_ok-container.ensures in
    unlawful (subst IsContainer (sym (c.read_container.ensures ∙ ap container_read c.as_str-3.ensures)) (read_lawful c.in-Some.named.text lawful))
