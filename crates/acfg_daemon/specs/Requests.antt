-- The text of each request: its words, with one space between each two.
use Rattle.std.specs.Prelude.{◌≡◌, ℕ, Bool, true, false, List, [], ◌∷◌, codes}
use Rattle.std.specs.List.{join_with_byte}
use Rattle.acfg_base.specs.Bytes.{space}
use Rattle.acfg_base.specs.Names.{IsContainer, IsPackage, IsName}
use Rattle.acfg_base.specs.Paths.{IsPathInLine}
use Rattle.acfg_base.specs.Words.{bool_word}
use Rattle.acfg_model.specs.declared.requests.Request.{Request}
use Rattle.acfg_model.specs.declared.requests.Request.TheVariants.{Update, Server, Local, Unset, Boot, Get}

-- the names are names, and the directory is a path in one word
abbrev pub IsLawful : Request → Type 0
IsLawful (Update name dir) = IsContainer name × IsPathInLine dir
IsLawful (Server name «package» flag value) = IsContainer name × IsPackage «package» × IsName flag
IsLawful (Local name «package» flag value now) = IsContainer name × IsPackage «package» × IsName flag
IsLawful (Unset name «package» flag now) = IsContainer name × IsPackage «package» × IsName flag
IsLawful Boot = Unit {0}
IsLawful (Get name «package» flag) = IsContainer name × IsPackage «package» × IsName flag

-- the first word of a request for a local override, which may be for now
abbrev pub local_word : Bool → List ℕ
local_word false = codes "local"
local_word true = codes "local-now"

abbrev pub unset_word : Bool → List ℕ
unset_word false = codes "unset"
unset_word true = codes "unset-now"

abbrev pub words_of : Request → List (List ℕ)
words_of (Update name dir) = codes "update" ∷ name ∷ dir ∷ []
words_of (Server name «package» flag value) = codes "server" ∷ name ∷ «package» ∷ flag ∷ bool_word value ∷ []
words_of (Local name «package» flag value now) =
    local_word now ∷ name ∷ «package» ∷ flag ∷ bool_word value ∷ []
words_of (Unset name «package» flag now) = unset_word now ∷ name ∷ «package» ∷ flag ∷ []
words_of Boot = codes "boot" ∷ []
words_of (Get name «package» flag) = codes "get" ∷ name ∷ «package» ∷ flag ∷ []

-- the request's one text
abbrev pub spelling : Request → List ℕ
spelling request = join_with_byte space (words_of request)

-- the text is that of a lawful request
pub record Spells (text : List ℕ) (request : Request) : Type 0 where
  pub lawful : IsLawful request
  pub spelled : text ≡ spelling request

-- the words are those of a lawful request
pub record AreWords (words : List (List ℕ)) (request : Request) : Type 0 where
  pub lawful : IsLawful request
  pub same : words ≡ words_of request
