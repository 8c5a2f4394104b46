-- Words ask for one command.
use Rattle.std.proofs.Common.{◌≡◌, ℕ, List, [], ◌∷◌, if◌then◌else◌, codes, sym, ◌∙◌, ap, subst}
use Rattle.std.specs.Prelude.{Option, None, Some}
use Rattle.std.specs.Str.{bytes_eq}
use Rattle.acfg_top.specs.Words.{ArePathWords, Command, Flags, Rehearse, Replay, Query, Dump, CreateCache, CreateStorage, CreateAll, Asks}

flags_of : List (List ℕ) → Option Command
flags_of (file ∷ []) = Some (Flags file)
flags_of _ = None

rehearse_of : List (List ℕ) → Option Command
rehearse_of (script ∷ []) = Some (Rehearse script)
rehearse_of _ = None

replay_of : List (List ℕ) → Option Command
replay_of (script ∷ dir ∷ []) = Some (Replay script dir)
replay_of _ = None

query_of : List (List ℕ) → Option Command
query_of (dir ∷ name ∷ flag ∷ []) = Some (Query dir name flag)
query_of _ = None

dump_of : List (List ℕ) → Option Command
dump_of (format ∷ filter ∷ files) = Some (Dump format filter files)
dump_of _ = None

create_cache_of : List (List ℕ) → Option Command
create_cache_of (name ∷ container ∷ out ∷ files) = Some (CreateCache name container out files)
create_cache_of _ = None

create_storage_of : List (List ℕ) → Option Command
create_storage_of (container ∷ dir ∷ caches) = Some (CreateStorage container dir caches)
create_storage_of _ = None

create_all_of : List (List ℕ) → Option Command
create_all_of (list ∷ []) = Some (CreateAll list)
create_all_of _ = None

-- the command of a name and more words
named : List ℕ → List (List ℕ) → Option Command
named name rest =
    if bytes_eq name (codes "flags") then flags_of rest
    else (if bytes_eq name (codes "rehearse") then rehearse_of rest
    else (if bytes_eq name (codes "replay") then replay_of rest
    else (if bytes_eq name (codes "query") then query_of rest
    else (if bytes_eq name (codes "dump") then dump_of rest
    else (if bytes_eq name (codes "create-cache") then create_cache_of rest
    else (if bytes_eq name (codes "create-storage") then create_storage_of rest
    else (if bytes_eq name (codes "create-all") then create_all_of rest
    else None)))))))

asked_of : List (List ℕ) → Option Command
asked_of [] = None
asked_of (name ∷ rest) = named name rest

back : (words : List (List ℕ)) (command : Command) → Asks words command → asked_of words ≡ Some command
unfolding asked_of named flags_of rehearse_of replay_of query_of dump_of create_cache_of create_storage_of create_all_of
back words (Flags file) asks = ap asked_of asks.0
back words (Rehearse script) asks = ap asked_of asks.0
back words (Replay script dir) asks = ap asked_of asks.0
back words (Query dir name flag) asks = ap asked_of asks.0
back words (Dump format filter files) asks = ap asked_of asks.0
back words (CreateCache name container out files) asks = ap asked_of asks.0
back words (CreateStorage container dir caches) asks = ap asked_of asks.0
back words (CreateAll list) asks = ap asked_of asks.0

pub asks_unique : (words : List (List ℕ)) (command other : Command) → Asks words command → Asks words other → command ≡ other
asks_unique words command other asks also = let same : Some command ≡ Some other = sym (back words command asks) ∙ back words other also in cc

-- `create-storage` and words behind it ask for nothing where the last of them aren't paths
pub no_caches : (container dir : List ℕ) (caches : List (List ℕ)) → (ArePathWords caches → ⊥) → (asked : Command) → Asks (codes "create-storage" ∷ container ∷ dir ∷ caches) asked → ⊥
unfolding asked_of named create_storage_of
no_caches container dir caches none asked asks =
    let words = codes "create-storage" ∷ container ∷ dir ∷ caches in
    let same : Some (CreateStorage container dir caches) ≡ Some asked = back words asked asks in
    let is : CreateStorage container dir caches ≡ asked = cc in
    none ((subst (Asks words) (sym is) asks).3)
