-- The outcome of `dump FORMAT FILTER FILE..`: the lines of caches' flags, merged.
use Rattle.std.specs.Prelude.{◌≡◌, ℕ, true, List, [], ◌++◌, codes}
use Rattle.std.specs.Fmt.{decimal}
use Rattle.acfg_decls.specs.declared.flags.Flag.{Flag}
use Rattle.acfg_device.specs.Panel.{Files}
use Rattle.acfg_dump.specs.declared.conditions.Condition.{Condition}
use Rattle.acfg_dump.specs.declared.parts.Part.{Part}
use Rattle.acfg_dump.specs.Filter.{IsBadCondition, IsFilter}
use Rattle.acfg_dump.specs.Lines.{lines}
use Rattle.acfg_dump.specs.Template.{IsBadPlace, IsTemplate, template_of}
use Rattle.acfg_top.specs.Caches.{WithCaches, WithMerged}
use Rattle.acfg_top.specs.Inputs.{Given, Judged, WithInputs, inputs_in}
use Rattle.acfg_top.specs.Outcome.{Outcome, Done}

-- the words FORMAT and FILTER are refused under the names `format` and `filter`, with the place in the word
pub record IsBadFormat (text file what : List ℕ) : Type 0 where
  pub place : ℕ
  pub bad : IsBadPlace (template_of text) place
  pub is_file : file ≡ codes "format"
  pub is_bad : what ≡ codes "bad-placeholder at " ++ decimal place

pub record IsBadFilter (text file what : List ℕ) : Type 0 where
  pub place : ℕ
  pub bad : IsBadCondition text place
  pub is_file : file ≡ codes "filter"
  pub is_bad : what ≡ codes "bad-filter at " ++ decimal place

-- a template and a filter as they are read
abbrev pub Template : Type 0
Template = List Part

abbrev pub Filter : Type 0
Filter = List (List Condition)

-- what follows from the flags
abbrev pub Dumped : Template → Filter → List Flag → Outcome → Type 0
Dumped template filter flags outcome = outcome ≡ Done (lines template filter flags) []

-- what follows from the lists of flags of files of these names: equal flags of several lists count once
abbrev pub ListsGive : Template → Filter → List (List ℕ) → List (List Flag) → Outcome → Type 0
ListsGive template filter names lists = WithMerged names lists true (Dumped template filter)

-- what follows from the caches
abbrev pub CachesGive : Template → Filter → List (List ℕ) → List Given → Outcome → Type 0
CachesGive template filter names inputs = WithCaches inputs (ListsGive template filter names)

-- what follows from a template and a filter that are read
abbrev pub FilesGive : Template → Filter → List (List ℕ) → Files → Outcome → Type 0
FilesGive template filter names files = WithInputs (inputs_in files names) (CachesGive template filter names)

-- what follows from a template that is read
abbrev pub FilterGives : Template → List ℕ → List (List ℕ) → Files → Outcome → Type 0
FilterGives template filter names files =
    Judged (IsBadFilter filter) (IsFilter filter) (λ alternatives. FilesGive template alternatives names files)

-- the outcome for these words: the format is looked at first, then the filter, and then the files
abbrev pub DumpGives : List ℕ → List ℕ → List (List ℕ) → Files → Outcome → Type 0
DumpGives format filter names files =
    Judged (IsBadFormat format) (IsTemplate format) (λ template. FilterGives template filter names files)
