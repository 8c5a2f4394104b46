-- A script has one transcript on the same declarations files.
use Rattle.std.proofs.Common.{◌≡◌, ℕ, List, [], ◌∷◌, ◌++◌, Option, None, Some, refl, sym, ◌∙◌, ap, ap₂, subst, inl, inr}
use Rattle.acfg_device.specs.Panel.{Files}
use Rattle.acfg_model.specs.declared.requests.Loaded.{Loaded}
use Rattle.acfg_model.specs.declared.requests.Loaded.TheVariants.{Missing, Bad, Disagree, Release}
use Rattle.acfg_model.specs.declared.requests.Request.{Request}
use Rattle.acfg_model.specs.declared.requests.Request.TheVariants.{Update, Server, Local, Unset, Boot, Get}
use Rattle.acfg_model.specs.State.{State}
use Rattle.acfg_decls.specs.declared.flags.Flag.{Flag}
use Rattle.acfg_decls.specs.declared.declared.DeclarationsFile.{DeclarationsFile}
use Rattle.acfg_decls.specs.declared.faults.DeclWhat.{DeclWhat}
use Rattle.acfg_decls.specs.declared.faults.DeclWhat.TheVariants.{WrongContainer}
use Rattle.acfg_decls.specs.declared.messages.Message.TheVariants.{FlagDeclarations}
use Rattle.acfg_decls.specs.Releases.{release}
use Rattle.acfg_decls.proofs.OneAnswer.{compiles_apart, compiles_unique, fails_unique}
use Rattle.acfg_decls.proofs.Unique.{declares_unique, passes_apart}
use Rattle.acfg_daemon.specs.Sources.{BytesLoad, CompilesFor, FailsFor, FileLoads, Loads, source_path}
use Rattle.acfg_daemon.specs.Transcript.{Transcript, Begins}
use Rattle.acfg_daemon.proofs.OneLine as lines

-- a file fails for a container in one way, or compiles for it
one_failure : (container : List ℕ) (file other : DeclarationsFile) (fault another : DeclWhat) → file ≡ other → FailsFor container file fault → FailsFor container other another → fault ≡ another
one_failure container file other fault another same fails too =
    let here = subst (λ f. FailsFor container f fault) same fails in
    (fails_unique other.package.text container (other ∷ []) [] here.number here.place too.number too.place fault another here.first too.first).2

never_both : (container : List ℕ) (file other : DeclarationsFile) (fault : DeclWhat) (flags : List Flag) → file ≡ other → FailsFor container file fault → CompilesFor container other flags → ⊥
never_both container file other fault flags same fails compiles =
    let here = subst (λ f. FailsFor container f fault) same fails in
    compiles_apart other.package.text container (other ∷ []) [] flags here.number here.place fault compiles here.first

bytes_unique : (container path bytes : List ℕ) (one other : Loaded) → BytesLoad container path bytes one → BytesLoad container path bytes other → one ≡ other
bytes_unique container path bytes Missing other a b = absurd a
bytes_unique container path bytes Bad Missing a b = absurd b
bytes_unique container path bytes Bad Bad a b = refl
bytes_unique container path bytes Bad Disagree (inl a) b = absurd (passes_apart FlagDeclarations bytes b.1.0 a.0 a.1 b.1.1 a.2)
bytes_unique container path bytes Bad Disagree (inr a) b = absurd (a.4 (one_failure container a.0 b.0 a.1 WrongContainer (declares_unique path bytes a.0 b.0 a.2 b.1) a.3 b.2))
bytes_unique container path bytes Bad (Release digest release) (inl a) b = absurd (passes_apart FlagDeclarations bytes b.2.0 a.0 a.1 b.2.1 a.2)
bytes_unique container path bytes Bad (Release digest release) (inr a) b = absurd (never_both container a.0 b.0 a.1 b.1 (declares_unique path bytes a.0 b.0 a.2 b.2) a.3 b.3)
bytes_unique container path bytes Disagree Missing a b = absurd b
bytes_unique container path bytes Disagree Bad a (inl b) = absurd (passes_apart FlagDeclarations bytes a.1.0 b.0 b.1 a.1.1 b.2)
bytes_unique container path bytes Disagree Bad a (inr b) = absurd (b.4 (one_failure container b.0 a.0 b.1 WrongContainer (declares_unique path bytes b.0 a.0 b.2 a.1) b.3 a.2))
bytes_unique container path bytes Disagree Disagree a b = refl
bytes_unique container path bytes Disagree (Release digest release) a b = absurd (never_both container a.0 b.0 WrongContainer b.1 (declares_unique path bytes a.0 b.0 a.1 b.2) a.2 b.3)
bytes_unique container path bytes (Release digest release) Missing a b = absurd b
bytes_unique container path bytes (Release digest release) Bad a (inl b) = absurd (passes_apart FlagDeclarations bytes a.2.0 b.0 b.1 a.2.1 b.2)
bytes_unique container path bytes (Release digest release) Bad a (inr b) = absurd (never_both container b.0 a.0 b.1 a.1 (declares_unique path bytes b.0 a.0 b.2 a.2) b.3 a.3)
bytes_unique container path bytes (Release digest release) Disagree a b = absurd (never_both container b.0 a.0 WrongContainer a.1 (declares_unique path bytes b.0 a.0 b.1 a.2) b.2 a.3)
bytes_unique container path bytes (Release digest loaded) (Release other_digest other_loaded) a b =
    let same = declares_unique path bytes a.0 b.0 a.2 b.2 in
    let flags = compiles_unique b.0.package.text container (b.0 ∷ []) [] a.1 b.1 (subst (λ file. CompilesFor container file a.1) same a.3) b.3 in
    ap₂ Release (a.4 ∙ sym b.4) (a.5 ∙ ap release flags ∙ sym b.5)

file_unique : (container path : List ℕ) (file : Option (List ℕ)) (one other : Loaded) → FileLoads container path file one → FileLoads container path file other → one ≡ other
file_unique container path None one other a b = a ∙ sym b
file_unique container path (Some bytes) one other a b = bytes_unique container path bytes one other a b

pub loads_unique : (files : Files) (request : Request) (one other : Option Loaded) → Loads files request one → Loads files request other → one ≡ other
loads_unique files (Update name dir) None other a b = absurd a
loads_unique files (Update name dir) (Some one) None a b = absurd b
loads_unique files (Update name dir) (Some one) (Some other) a b = ap Some (file_unique name (source_path dir) (files (source_path dir)) one other a b)
loads_unique files (Server name «package» flag value) one other a b = a ∙ sym b
loads_unique files (Local name «package» flag value now) one other a b = a ∙ sym b
loads_unique files (Unset name «package» flag now) one other a b = a ∙ sym b
loads_unique files Boot one other a b = a ∙ sym b
loads_unique files (Get name «package» flag) one other a b = a ∙ sym b

pub one_transcript : (files : Files) (state : State) (number : ℕ) (lines : List (List ℕ)) (text other : List ℕ) → Transcript (Loads files) state number lines text → Transcript (Loads files) state number lines other → text ≡ other
one_transcript files = lines.one_transcript (Loads files) (loads_unique files)

pub begins_transcript : (files : Files) (state : State) (number : ℕ) (lines : List (List ℕ)) (part text : List ℕ) → Begins (Loads files) state number lines part → Transcript (Loads files) state number lines text → (rest : List ℕ) × (text ≡ part ++ rest)
begins_transcript files = lines.begins_transcript (Loads files) (loads_unique files)

pub whole_begins : (files : Files) (state : State) (number : ℕ) (lines : List (List ℕ)) (text : List ℕ) → Transcript (Loads files) state number lines text → Begins (Loads files) state number lines text
whole_begins files = lines.whole_begins (Loads files) (loads_unique files)
