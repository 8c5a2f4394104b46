-- The messages of a cache as a table of their fields: AOSP aconfig, `parsed_flags`, `parsed_flag`, `tracepoint` and
-- `flag_metadata`, with this project's numbers.
use Rattle.std.specs.Prelude.{ℕ, ◌==◌, nat_le, Bool, true, ◌||◌, Option, None, Some, if◌then◌else◌}
use Rattle.acfg_cache.specs.declared.table.Message.{Message}
use Rattle.acfg_cache.specs.declared.table.Message.TheVariants.{ParsedFlag, Tracepoint, Metadata}
use Rattle.acfg_cache.specs.declared.table.Form.{Form}
use Rattle.acfg_cache.specs.declared.table.Form.TheVariants.{Text, State, Permission, Boolean, Purpose, Inner}

-- ## `parsed_flag`, which is field 1 of the cache

-- 1 package, 2 name, 3 namespace, 4 description, 5 bug, 11 container; 6 state, 7 permission; 8 trace;
-- 9 is_fixed_read_only, 10 is_exported; 12 metadata
abbrev pub flag_form : ℕ → Option Form
flag_form number =
    if number == 1 then Some Text
    else (if number == 2 then Some Text
    else (if number == 3 then Some Text
    else (if number == 4 then Some Text
    else (if number == 5 then Some Text
    else (if number == 6 then Some State
    else (if number == 7 then Some Permission
    else (if number == 8 then Some (Inner Tracepoint)
    else (if number == 9 then Some Boolean
    else (if number == 10 then Some Boolean
    else (if number == 11 then Some Text
    else (if number == 12 then Some (Inner Metadata)
    else None)))))))))))

-- 1 source, 2 state, 3 permission
abbrev pub point_form : ℕ → Option Form
point_form number =
    if number == 1 then Some Text
    else (if number == 2 then Some State
    else (if number == 3 then Some Permission
    else None))

-- 1 purpose
abbrev pub metadata_form : ℕ → Option Form
metadata_form number = if number == 1 then Some Purpose else None

-- what a field of this number holds, where the message has it
abbrev pub form : Message → ℕ → Option Form
form ParsedFlag number = flag_form number
form Tracepoint number = point_form number
form Metadata number = metadata_form number

-- whether a number may stand in a field: ENABLED 1 and DISABLED 2, READ_ONLY 1 and READ_WRITE 2, the three purposes
-- 0 to 2; a bool may have any number
abbrev pub may_be : Form → ℕ → Bool
may_be State n = (n == 1) || (n == 2)
may_be Permission n = (n == 1) || (n == 2)
may_be Purpose n = nat_le n 2
may_be Boolean n = true
may_be Text n = true
may_be (Inner message) n = true
