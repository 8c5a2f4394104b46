use Rattle.std.proofs.Common.{◌≡◌, ◌++◌, ◌∷◌, [], map, sym, ap, subst, ◌∙◌, lit<, string_bytes}
use Rattle.std.proofs.lemmas.List.{append-nil}
use Rattle.std.specs.Str.{IsUtf8}
use Rattle.acfg_daemon.proofs.Words.{text_behind, last_word}
use Rattle.acfg_top.proofs.JobWords.{first_word, word_pushed, words}
use Rattle.acfg_top.proofs.jobs.split_words.Goals as goal

pub split_once-requires-text-self : goal.split_once-requires-text-self
split_once-requires-text-self c = λ _. c.loop-word.invariant.text

pub loop-word-preserved : goal.loop-word-preserved
loop-word-preserved c =
    let rest = c.loop-word.rest.now in
    let cut = c.in-Some.ensures.byte (lit< tt) (λ text found finds. finds) in
    let parts : words rest ≡ c.in-Some.word.now ∷ words c.in-Some.behind.now = first_word rest c.in-Some.word.now c.in-Some.behind.now cut.0 cut.1 cut.2 in
    record {
      text = subst IsUtf8 (sym cut.1) (text_behind rest c.loop-word.invariant.text cut.2);
      same = word_pushed c.loop-word.words.items _ c.in_ok-from_str.field-0 c.in-Some.word.now (words c.in-Some.behind.now) c.in_ok-push.ensures.items c.in_ok-from_str.ensures.ok
          ∙ ap (λ parts. map string_bytes c.loop-word.words.items ++ parts) (sym parts) ∙ c.loop-word.invariant.same;
    }

pub returns : goal.returns
returns c =
    let rest = c.loop-word.rest.now in
    let kept = c.loop-word.words.items in
    let none = c.in_default.ensures.byte (lit< tt) (λ text found finds. finds) in
    sym (append-nil (map string_bytes c.push-2.new.self.items))
    ∙ word_pushed kept c.push-2.new.self.items c.in_ok-from_str-2.field-0 rest [] c.in_ok-push-2.ensures.items c.in_ok-from_str-2.ensures.ok
    ∙ ap (λ parts. map string_bytes kept ++ parts) (sym (last_word rest none)) ∙ c.loop-word.invariant.same
