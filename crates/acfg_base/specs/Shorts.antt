-- Private: the bytes of a text, wherever they stand. No public clause cites it.
use Rattle.std.specs.Prelude.{ℕ, List, string_bytes}
use Rattle.acfg_base.specs.declared.text.Form.{Form}
use Rattle.acfg_base.specs.declared.text.Form.TheVariants.{Short, Long}

abbrev pub bytes_of : Form → List ℕ
bytes_of (Short text) = text.bytes
bytes_of (Long text) = string_bytes text
