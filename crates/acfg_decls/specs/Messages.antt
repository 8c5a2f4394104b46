-- The messages of declarations and values, after AOSP aconfig's `aconfig.proto`: one table of their fields.
use Rattle.std.specs.Prelude.{ℕ, List, [], ◌∷◌, codes}
use Rattle.acfg_decls.specs.declared.messages.Message.{Message}
use Rattle.acfg_decls.specs.declared.messages.Message.TheVariants.{FlagDeclarations, Flag, Metadata, FlagValues}
use Rattle.acfg_decls.specs.declared.messages.Message.TheVariants.{FlagValue}
use Rattle.acfg_decls.specs.declared.messages.Often.{Often}
use Rattle.acfg_decls.specs.declared.messages.Often.TheVariants.{Required, Optional, Repeated}
use Rattle.acfg_decls.specs.declared.messages.Words.{Words}
use Rattle.acfg_decls.specs.declared.messages.Words.TheVariants.{Booleans, Purposes, States, Permissions}
use Rattle.acfg_decls.specs.declared.messages.Form.{Form}
use Rattle.acfg_decls.specs.declared.messages.Form.TheVariants.{String, Enum, Inner}
use Rattle.acfg_decls.specs.declared.messages.Field.{Field}

abbrev field : List ℕ → Often → Form → List ℕ × Field
field name often form = (name, record { often = often; form = form })

-- each message's fields, by their names
abbrev pub fields : Message → List (List ℕ × Field)
fields FlagDeclarations =
    field (codes "package") Required String
    ∷ field (codes "container") Optional String
    ∷ field (codes "flag") Repeated (Inner Flag)
    ∷ []
fields Flag =
    field (codes "name") Required String
    ∷ field (codes "namespace") Required String
    ∷ field (codes "description") Required String
    ∷ field (codes "bug") Repeated String
    ∷ field (codes "is_fixed_read_only") Optional (Enum Booleans)
    ∷ field (codes "is_exported") Optional (Enum Booleans)
    ∷ field (codes "metadata") Optional (Inner Metadata)
    ∷ []
fields Metadata =
    field (codes "purpose") Optional (Enum Purposes)
    ∷ []
fields FlagValues =
    field (codes "flag_value") Repeated (Inner FlagValue)
    ∷ []
fields FlagValue =
    field (codes "package") Required String
    ∷ field (codes "name") Required String
    ∷ field (codes "state") Required (Enum States)
    ∷ field (codes "permission") Required (Enum Permissions)
    ∷ []

-- the words of an enum or a bool, and the number that each stands for
abbrev pub numbers : Words → List (List ℕ × ℕ)
numbers Booleans =
    (codes "true", 1) ∷ (codes "True", 1) ∷ (codes "t", 1)
    ∷ (codes "false", 0) ∷ (codes "False", 0) ∷ (codes "f", 0) ∷ []
numbers Purposes = (codes "PURPOSE_UNSPECIFIED", 0) ∷ (codes "PURPOSE_FEATURE", 1) ∷ (codes "PURPOSE_BUGFIX", 2) ∷ []
numbers States = (codes "ENABLED", 1) ∷ (codes "DISABLED", 2) ∷ []
numbers Permissions = (codes "READ_ONLY", 1) ∷ (codes "READ_WRITE", 2) ∷ []
