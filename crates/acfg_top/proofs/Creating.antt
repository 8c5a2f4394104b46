-- `create-cache` has one outcome, and some outcome.
use Rattle.std.proofs.Common.{◌≡◌, ℕ, List, [], ◌∷◌, filter, length, refl, sym, ◌∙◌, ap}
use Rattle.std.specs.Prelude.{slice_index_or}
use Rattle.acfg_decls.specs.declared.declared.DeclarationsFile.{DeclarationsFile}
use Rattle.acfg_decls.specs.declared.declared.ValuesFile.{ValuesFile}
use Rattle.acfg_decls.specs.declared.messages.Message.TheVariants.{FlagDeclarations, FlagValues}
use Rattle.acfg_decls.specs.Compile.{Compiles, container_read}
use Rattle.acfg_decls.specs.Reading.{declarations_in, values_in}
use Rattle.acfg_decls.proofs.Exists.{compiles_or_fails}
use Rattle.acfg_decls.proofs.OneAnswer.{compiles_apart, compiles_unique, fails_unique}
use Rattle.acfg_decls.proofs.Unique.{declares_unique, passes_apart, read_or_refused, refuses_unique, sets_unique}
use Rattle.acfg_cache.specs.Writing.{cache}
use Rattle.acfg_device.specs.Panel.{Files}
use Rattle.acfg_top.specs.CreateCache.{CreateCacheGives, FlagsCached, InputsGive, IsBadDeclarations, IsBadSource, IsBadValues, IsDeclarations, IsValues, SourcesGive, ValuesGive, cached_count}
use Rattle.acfg_top.specs.CreateCache.{has_declarations, has_values, sources}
use Rattle.acfg_top.specs.Flags.{fault_words}
use Rattle.acfg_top.specs.Inputs.{AreAccepted, FirstRefused, Given, inputs_in}
use Rattle.acfg_top.specs.Outcome.{Outcome, Done}
use Rattle.acfg_top.proofs.Judging.{IsJudge, IsOne, Some_, in_order, inputs_once, judged_once, some_in_order, some_inputs, some_judged}
use Rattle.std.proofs.Common.{⊎_elim}

declaring : IsJudge IsDeclarations IsBadDeclarations
declaring = record {
  reason = λ input what other bad also.
      let same = refuses_unique FlagDeclarations input.bytes bad.0 also.0 bad.1 also.1 bad.2 also.2 in
      bad.3 ∙ (λ j. fault_words (same.0 j) (same.1 j)) ∙ sym also.3;
  reading = λ input file other is also. declares_unique input.name input.bytes file other is also;
  apart = λ input what file bad is. passes_apart FlagDeclarations input.bytes is.0 bad.0 bad.1 is.1 bad.2;
  some = λ input bad is.
      ⊎_elim (λ read. is (declarations_in input.name read.0) (read.0, read.1, refl))
      (λ refused. bad (fault_words refused.0 refused.1) (refused.0, refused.1, refused.2, refl))
      (read_or_refused FlagDeclarations input.bytes);
}

setting : IsJudge IsValues IsBadValues
setting = record {
  reason = λ input what other bad also.
      let same = refuses_unique FlagValues input.bytes bad.0 also.0 bad.1 also.1 bad.2 also.2 in
      bad.3 ∙ (λ j. fault_words (same.0 j) (same.1 j)) ∙ sym also.3;
  reading = λ input file other is also. sets_unique input.name input.bytes file other is also;
  apart = λ input what file bad is. passes_apart FlagValues input.bytes is.0 bad.0 bad.1 is.1 bad.2;
  some = λ input bad is.
      ⊎_elim (λ read. is (values_in input.name read.0) (read.0, read.1, refl))
      (λ refused. bad (fault_words refused.0 refused.1) (refused.0, refused.1, refused.2, refl))
      (read_or_refused FlagValues input.bytes);
}

module _ («package» container : List ℕ) (declarations : List DeclarationsFile) (values : List ValuesFile) where
  compiling : IsOne (IsBadSource «package» container declarations values) (Compiles «package» container declarations values)
  compiling = record {
    refusal = λ file what other_file other bad also.
        let same = fails_unique «package» container declarations values bad.number bad.place also.number also.place bad.fault also.fault bad.first also.first in (
          bad.is_file ∙ ap (λ number. slice_index_or (sources declarations values) number []) same.0 ∙ sym also.is_file,
          bad.is_fault ∙ (λ j. fault_words (same.1 j) (same.2 j)) ∙ sym also.is_fault,
        );
    acceptance = compiles_unique «package» container declarations values;
    apart = λ file what flags bad compiles. compiles_apart «package» container declarations values flags bad.number bad.place bad.fault compiles bad.first;
  }

  some_compiling : ((file what : List ℕ) → IsBadSource «package» container declarations values file what → ⊥) → ((flags : _) → Compiles «package» container declarations values flags → ⊥) → ⊥
  some_compiling refused accepted =
      compiles_or_fails «package» container declarations values accepted
      (λ number place fault first. refused (slice_index_or (sources declarations values) number []) (fault_words place fault)
      (record { number = number; place = place; fault = fault; first = first; is_file = refl; is_fault = refl }))

module _ («package» container out : List ℕ) where
  sources_once : (declarations : List DeclarationsFile) (values : List ValuesFile) (a b : Outcome) → SourcesGive «package» container out declarations values a → SourcesGive «package» container out declarations values b → a ≡ b
  sources_once declarations values = judged_once (IsBadSource «package» container declarations values) (Compiles «package» container declarations values) (FlagsCached out)
      (compiling «package» container declarations values) (λ flags a b is given also. given ∙ sym also)

  values_once : (inputs : List Given) (declarations : List DeclarationsFile) (a b : Outcome) → ValuesGive «package» container out inputs declarations a → ValuesGive «package» container out inputs declarations b → a ≡ b
  values_once inputs declarations = judged_once (FirstRefused IsValues IsBadValues (filter has_values inputs)) (AreAccepted IsValues IsBadValues (filter has_values inputs)) (SourcesGive «package» container out declarations)
      (in_order IsValues IsBadValues setting (filter has_values inputs)) (λ values a b is. sources_once declarations values a b)

  inputs_judged_once : (inputs : List Given) (a b : Outcome) → InputsGive «package» container out inputs a → InputsGive «package» container out inputs b → a ≡ b
  inputs_judged_once inputs = judged_once (FirstRefused IsDeclarations IsBadDeclarations (filter has_declarations inputs)) (AreAccepted IsDeclarations IsBadDeclarations (filter has_declarations inputs))
      (ValuesGive «package» container out inputs) (in_order IsDeclarations IsBadDeclarations declaring (filter has_declarations inputs)) (λ declarations a b is. values_once inputs declarations a b)

  some_sources : (declarations : List DeclarationsFile) (values : List ValuesFile) → Some_ (SourcesGive «package» container out declarations values)
  some_sources declarations values = some_judged (IsBadSource «package» container declarations values) (Compiles «package» container declarations values) (FlagsCached out)
      (some_compiling «package» container declarations values) (λ flags is none. none (Done (cached_count (length flags)) ((out, cache flags) ∷ [])) refl)

  some_given : (inputs : List Given) → Some_ (InputsGive «package» container out inputs)
  some_given inputs = some_judged (FirstRefused IsDeclarations IsBadDeclarations (filter has_declarations inputs)) (AreAccepted IsDeclarations IsBadDeclarations (filter has_declarations inputs))
      (ValuesGive «package» container out inputs) (some_in_order IsDeclarations IsBadDeclarations declaring (filter has_declarations inputs))
      (λ declarations is. some_judged (FirstRefused IsValues IsBadValues (filter has_values inputs)) (AreAccepted IsValues IsBadValues (filter has_values inputs)) (SourcesGive «package» container out declarations)
      (some_in_order IsValues IsBadValues setting (filter has_values inputs)) (λ values is. some_sources declarations values))

pub create_cache_unique : («package» container out : List ℕ) (names : List (List ℕ)) (files : Files) (a b : Outcome) → CreateCacheGives «package» container out names files a
    → CreateCacheGives «package» container out names files b → a ≡ b
create_cache_unique «package» container out names files =
    inputs_once (inputs_in files names) (InputsGive «package» (container_read container) out) (inputs_judged_once «package» (container_read container) out)

pub some_create_cache : («package» container out : List ℕ) (names : List (List ℕ)) (files : Files) → Some_ (CreateCacheGives «package» container out names files)
some_create_cache «package» container out names files =
    some_inputs (inputs_in files names) (InputsGive «package» (container_read container) out) (some_given «package» (container_read container) out)
