-- `dump` has one outcome, and some outcome.
use Rattle.std.proofs.Common.{◌≡◌, ℕ, true, List, [], ◌++◌, length, codes, refl, sym, ◌∙◌, ap}
use Rattle.std.specs.Fmt.{decimal}
use Rattle.std.specs.List.{flat_map}
use Rattle.acfg_decls.specs.declared.flags.Flag.{Flag}
use Rattle.acfg_device.specs.Panel.{Files}
use Rattle.acfg_dump.specs.Filter.{IsFilter}
use Rattle.acfg_dump.specs.Lines.{lines}
use Rattle.acfg_dump.specs.Parts.{spelled}
use Rattle.acfg_dump.specs.Template.{IsTemplate, template_of}
use Rattle.acfg_dump.proofs.OneCondition.{never_both, one_bad, one_filter}
use Rattle.acfg_dump.proofs.SomeReading.{some_filter, some_template}
use Rattle.acfg_dump.proofs.Spelling.{bad_place, one_bad_place, one_spelling}
use Rattle.acfg_cache.specs.Merging.{IsMerged}
use Rattle.acfg_top.specs.Caches.{Clashing, IsBadCache, IsCache}
use Rattle.acfg_top.specs.Dump.{CachesGive, DumpGives, Dumped, Filter, FilesGive, FilterGives, IsBadFilter, IsBadFormat, ListsGive, Template}
use Rattle.acfg_top.specs.Inputs.{AreAccepted, FirstRefused, Given, inputs_in}
use Rattle.acfg_top.specs.Outcome.{Outcome, Done}
use Rattle.acfg_top.proofs.Caching.{caches, merging, some_merged}
use Rattle.acfg_top.proofs.Judging.{IsOne, Some_, in_order, inputs_once, judged_once, some_in_order, some_inputs, some_judged}

format_once : (text : List ℕ) → IsOne (IsBadFormat text) (IsTemplate text)
format_once text = record {
  refusal = λ file what other_file other bad also.
      let same = sym bad.bad.at ∙ ap (λ parts. length (flat_map spelled parts))
      (one_bad_place bad.bad.before also.bad.before bad.bad.behind also.bad.behind bad.bad.more bad.bad.none also.bad.more also.bad.none (sym bad.bad.cut ∙ also.bad.cut)) ∙ also.bad.at in
      (bad.is_file ∙ sym also.is_file, bad.is_bad ∙ ap (λ place. codes "bad-placeholder at " ++ decimal place) same ∙ sym also.is_bad);
  acceptance = λ parts other is also. one_spelling parts other (sym is ∙ also);
  apart = λ file what parts bad is. bad_place parts bad.bad.before bad.bad.behind bad.bad.more bad.bad.none (sym is ∙ bad.bad.cut);
}

filter_once : (text : List ℕ) → IsOne (IsBadFilter text) (IsFilter text)
filter_once text = record {
  refusal = λ file what other_file other bad also.
      (bad.is_file ∙ sym also.is_file, bad.is_bad ∙ ap (λ place. codes "bad-filter at " ++ decimal place) (one_bad text bad.place also.place bad.bad also.bad) ∙ sym also.is_bad);
  acceptance = one_filter text;
  apart = λ file what filter bad is. never_both text filter bad.place is bad.bad;
}

module _ (names : List (List ℕ)) where
  lists_once : (template : Template) (filter : Filter) (lists : List (List Flag)) (a b : Outcome) → ListsGive template filter names lists a → ListsGive template filter names lists b → a ≡ b
  lists_once template filter lists = judged_once (Clashing names lists true) (IsMerged lists true) (Dumped template filter) (merging names lists true) (λ flags a b merged given also. given ∙ sym also)

  caches_once : (template : Template) (filter : Filter) (inputs : List Given) (a b : Outcome) → CachesGive template filter names inputs a → CachesGive template filter names inputs b → a ≡ b
  caches_once template filter inputs = judged_once (FirstRefused IsCache IsBadCache inputs) (AreAccepted IsCache IsBadCache inputs) (ListsGive template filter names)
      (in_order IsCache IsBadCache caches inputs) (λ lists a b read. lists_once template filter lists a b)

  files_once : (template : Template) (filter : Filter) (files : Files) (a b : Outcome) → FilesGive template filter names files a → FilesGive template filter names files b → a ≡ b
  files_once template filter files = inputs_once (inputs_in files names) (CachesGive template filter names) (caches_once template filter)

  some_lists : (template : Template) (filter : Filter) (inputs : List Given) (lists : List (List Flag)) → AreAccepted IsCache IsBadCache inputs lists → Some_ (ListsGive template filter names lists)
  some_lists template filter inputs lists read = some_judged (Clashing names lists true) (IsMerged lists true) (Dumped template filter) (some_merged names inputs lists true read)
      (λ flags merged none. none (Done (lines template filter flags) []) refl)

  some_files : (template : Template) (filter : Filter) (files : Files) → Some_ (FilesGive template filter names files)
  some_files template filter files = some_inputs (inputs_in files names) (CachesGive template filter names) (λ inputs.
      some_judged (FirstRefused IsCache IsBadCache inputs) (AreAccepted IsCache IsBadCache inputs) (ListsGive template filter names) (some_in_order IsCache IsBadCache caches inputs)
      (some_lists template filter inputs))

pub dump_gives_unique : (format filter : List ℕ) (names : List (List ℕ)) (files : Files) (a b : Outcome) → DumpGives format filter names files a → DumpGives format filter names files b → a ≡ b
dump_gives_unique format filter names files = judged_once (IsBadFormat format) (IsTemplate format) (λ template. FilterGives template filter names files) (format_once format)
    (λ template a b is. judged_once (IsBadFilter filter) (IsFilter filter) (λ alternatives. FilesGive template alternatives names files) (filter_once filter)
    (λ alternatives a b is. files_once names template alternatives files a b) a b)

pub some_dump : (format filter : List ℕ) (names : List (List ℕ)) (files : Files) → Some_ (DumpGives format filter names files)
some_dump format filter names files = some_judged (IsBadFormat format) (IsTemplate format) (λ template. FilterGives template filter names files)
    (λ refused accepted. some_template (template_of format) accepted
    (λ place bad. refused (codes "format") (codes "bad-placeholder at " ++ decimal place) (record { place = place; bad = bad; is_file = refl; is_bad = refl })))
    (λ template is. some_judged (IsBadFilter filter) (IsFilter filter) (λ alternatives. FilesGive template alternatives names files)
    (λ refused accepted. some_filter filter accepted
    (λ place bad. refused (codes "filter") (codes "bad-filter at " ++ decimal place) (record { place = place; bad = bad; is_file = refl; is_bad = refl })))
    (λ alternatives is. some_files names template alternatives files))
