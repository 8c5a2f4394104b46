-- Caches that are read and merged have one outcome, and some outcome.
use Rattle.std.proofs.Common.{ℕ, Bool, List, [], ◌∷◌, ◌++◌, refl, sym, ◌∙◌, ap}
use Rattle.std.specs.Prelude.{All, slice_index_or, codes}
use Rattle.std.proofs.lemmas.List.Elements.{All-cons, All-nil}
use Rattle.acfg_decls.specs.Flags.{AreFlags}
use Rattle.acfg_decls.specs.declared.flags.Flag.{Flag}
use Rattle.acfg_cache.proofs.OneReading.{clash_once, fails_once, merged_apart, reads_apart, reads_once, some_reading}
use Rattle.acfg_cache.proofs.OneMerging.{merged_once, some_merging}
use Rattle.acfg_cache.specs.Merging.{IsMerged}
use Rattle.acfg_top.specs.Caches.{Clashing, IsBadCache, IsCache, cache_words}
use Rattle.acfg_top.specs.Inputs.{AreAccepted, Given}
use Rattle.acfg_top.proofs.Judging.{IsJudge, IsOne}
use Rattle.acfg_top.proofs.Merging.{read_are_flags}

pub caches : IsJudge IsCache IsBadCache
caches = record {
  reason = λ input what other bad bad_too. bad.2 ∙ ap cache_words (fails_once input.bytes bad.0 bad_too.0 bad.1 bad_too.1) ∙ sym bad_too.2;
  reading = λ input flags other is is_too. reads_once input.bytes flags other is is_too;
  apart = λ input what flags bad is. reads_apart input.bytes flags bad.0 is bad.1;
  some = λ input bad is. some_reading input.bytes is (λ fault first. bad (cache_words fault) (fault, first, refl));
}

pub merging : (names : List (List ℕ)) (lists : List (List Flag)) (dedup : Bool) → IsOne (Clashing names lists dedup) (IsMerged lists dedup)
merging names lists dedup = record {
  refusal = λ file what other_file other clash clash_too.
      let same = clash_once lists dedup clash.list clash_too.list clash.name clash_too.name clash.first clash_too.first in
      (clash.is_file ∙ ap (λ list. slice_index_or names list []) same.0 ∙ sym clash_too.is_file, clash.is_clash ∙ ap (λ name. codes "clash " ++ name) same.1 ∙ sym clash_too.is_clash);
  acceptance = merged_once lists dedup;
  apart = λ file what flags clash merged. merged_apart lists dedup flags clash.list clash.name merged clash.first;
}

-- the flags of caches that are read are in order
all_flags : (inputs : List Given) (lists : List (List Flag)) → AreAccepted IsCache IsBadCache inputs lists → All AreFlags lists
all_flags [] [] read = All-nil AreFlags
all_flags [] (flags ∷ lists) read = absurd read
all_flags (input ∷ inputs) [] read = absurd read
all_flags (input ∷ inputs) (flags ∷ lists) read = All-cons AreFlags flags lists (read_are_flags input.bytes flags read.0) (all_flags inputs lists read.1)

pub some_merged : (names : List (List ℕ)) (inputs : List Given) (lists : List (List Flag)) (dedup : Bool) → AreAccepted IsCache IsBadCache inputs lists
    → ((file what : List ℕ) → Clashing names lists dedup file what → ⊥) → ((flags : List Flag) → IsMerged lists dedup flags → ⊥) → ⊥
some_merged names inputs lists dedup read refused accepted =
    some_merging lists dedup (all_flags inputs lists read) accepted
    (λ i name first. refused (slice_index_or names i []) (codes "clash " ++ name) (record { list = i; name = name; first = first; is_file = refl; is_clash = refl }))
