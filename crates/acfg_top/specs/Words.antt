-- The command words and what they ask for.
use Rattle.std.specs.Prelude.{◌≡◌, ◌≢◌, ◌<◌, ◌≤◌, ℕ, List, [], ◌∷◌, All, length, slice_index, codes}
use Rattle.std.specs.Str.{IsUtf8}
use Rattle.acfg_base.specs.Bytes.{dash}
use Rattle.acfg_base.specs.Names.{IsContainer, IsName, IsPackage}
use Rattle.acfg_base.specs.Paths.{IsPath}

-- a path as a word of a command: without `-` in front
pub record IsPathWord (word : List ℕ) : Type 0 where
  pub path : IsPath word
  pub plain : slice_index word 0 ≢ dash

-- any word of a command: not empty, UTF-8, without `-` in front and without bytes below 0x20
pub record IsWord (word : List ℕ) : Type 0 where
  pub some : 0 < length word
  pub utf8 : IsUtf8 word
  pub printable : All (λ byte. 0x20 ≤ byte) word
  pub plain : slice_index word 0 ≢ dash

-- one path or more
abbrev pub ArePathWords : List (List ℕ) → Type 0
ArePathWords words = (0 < length words) × All IsPathWord words

-- what words may ask for
pub data Command : Type 0 where
  -- `flags FILE`
  Flags : List ℕ → Command
  -- `rehearse SCRIPT`
  Rehearse : List ℕ → Command
  -- `replay SCRIPT DIR`
  Replay : List ℕ → List ℕ → Command
  -- `query DIR P F`
  Query : List ℕ → List ℕ → List ℕ → Command
  -- `dump FORMAT FILTER FILE..`
  Dump : List ℕ → List ℕ → List (List ℕ) → Command
  -- `create-cache PACKAGE CONTAINER OUT FILE..`
  CreateCache : List ℕ → List ℕ → List ℕ → List (List ℕ) → Command
  -- `create-storage CONTAINER DIR CACHE..`
  CreateStorage : List ℕ → List ℕ → List (List ℕ) → Command
  -- `create-all LIST`
  CreateAll : List ℕ → Command

abbrev pub Asks : List (List ℕ) → Command → Type 0
Asks words (Flags file) = (words ≡ codes "flags" ∷ file ∷ []) × IsPathWord file
Asks words (Rehearse script) = (words ≡ codes "rehearse" ∷ script ∷ []) × IsPathWord script
Asks words (Replay script dir) =
    (words ≡ codes "replay" ∷ script ∷ dir ∷ []) × IsPathWord script × IsPathWord dir
Asks words (Query dir name flag) =
    (words ≡ codes "query" ∷ dir ∷ name ∷ flag ∷ []) × IsPathWord dir × IsPackage name × IsName flag
Asks words (Dump format filter files) =
    (words ≡ codes "dump" ∷ format ∷ filter ∷ files) × IsWord format × IsWord filter × ArePathWords files
Asks words (CreateCache name container out files) =
    (words ≡ codes "create-cache" ∷ name ∷ container ∷ out ∷ files) × IsPackage name × IsContainer container
    × IsPathWord out × ArePathWords files
Asks words (CreateStorage container dir caches) =
    (words ≡ codes "create-storage" ∷ container ∷ dir ∷ caches) × IsContainer container × IsPathWord dir
    × ArePathWords caches
Asks words (CreateAll list) = (words ≡ codes "create-all" ∷ list ∷ []) × IsPathWord list
