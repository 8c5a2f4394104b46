-- What building an image gives: the image of the flags of caches, or why there is none.
use Rattle.std.specs.Prelude.{◌≡◌, ◌⊎◌, ℕ, ◌-◌, ◌^◌, List, length, map, min, nat_lt, Result, Ok, Err, if◌then◌else◌}
use Rattle.std.specs.Borrow.{Bor}
use Rattle.std.specs.List.{flat_map}
use Rattle.acfg_decls.specs.declared.flags.Flag.{Flag}
use Rattle.acfg_decls.specs.Releases.{kind_of}
use Rattle.acfg_views.specs.Layout.{MOST_BYTES}
use Rattle.acfg_images.specs.declared.building.fault.BuildFault.{BuildFault}
use Rattle.acfg_images.specs.declared.building.fault.BuildFault.TheVariants.{TooManyFlags, TooLarge, OutOfMemory}
use Rattle.acfg_images.specs.Files.{Files, bytes_in_all}
use Rattle.acfg_images.specs.Image.{Compiled, image}

-- the most flags of a container's image
abbrev pub MOST_FLAGS : ℕ
MOST_FLAGS = 50000

-- a compiled flag as an image has it
abbrev pub compiled_flag : Flag → Compiled
compiled_flag flag = record { «package» = flag.package; flag = flag.name; kind = kind_of flag; value = flag.enabled }

-- the flags of caches, in the order of the caches and within them
abbrev pub compiled_in : List (List Flag) → List Compiled
compiled_in caches = flat_map (map compiled_flag) caches

-- flags that are lent one by one, as an image has them
abbrev pub compiled_lent : List (Bor Flag) → List Compiled
compiled_lent flags = map compiled_flag (map (λ flag. flag.now) flags)

-- a number as a fault tells it, or the greatest one of 64 bits where it is greater
abbrev pub told : ℕ → ℕ
told n = min n (2 ^ 64 - 1)

-- files, where they have at most 4,194,304 bytes together
abbrev pub sized : Files → Result Files BuildFault
sized files = if nat_lt MOST_BYTES (bytes_in_all files) then Err (TooLarge (told (bytes_in_all files))) else Ok files

-- the image of flags, where they are at most 50,000 and its files aren't too large
unfoldable pub built : List ℕ → List Compiled → Result Files BuildFault
built container flags =
    if nat_lt MOST_FLAGS (length flags) then Err (TooManyFlags (told (length flags)))
    else sized (image container flags)

-- an answer is this one, but for want of memory
abbrev pub Builds : Result Files BuildFault → Result Files BuildFault → Type 0
Builds (Ok files) due = due ≡ Ok files
Builds (Err fault) due = (fault ≡ OutOfMemory) ⊎ (due ≡ Err fault)
