use Rattle.std.proofs.Common.{◌≡◌, ◌++◌, ◌∷◌, [], map, sym, ap, subst, ◌∙◌, append_assoc, lit<}
use Rattle.std.proofs.lemmas.List.{map-append}
use Rattle.std.proofs.lemmas.List.Splits.{slice_split_first}
use Rattle.std.specs.List.{slice_split, after_first}
use Rattle.std.specs.Str.{IsUtf8}
use lib.Dec.{eqb}
use Rattle.acfg_base.specs.Bytes.{space}
use Rattle.acfg_daemon.proofs.Words.{text_behind, last_word}
use Rattle.acfg_daemon.proofs.requests.split_words.Goals as goal

pub split_once-requires-text-self : goal.split_once-requires-text-self
split_once-requires-text-self c = λ _. c.loop-word.invariant.text

pub push-requires-2-text-value : goal.push-requires-2-text-value
push-requires-2-text-value c = λ _. c.loop-word.invariant.text

pub loop-word-preserved : goal.loop-word-preserved
loop-word-preserved c =
    let rest = c.loop-word.rest.now in
    let words = c.loop-word.words.items in
    let cut = c.in-Some.ensures.byte (lit< tt) (λ text found finds. finds) in
    let parts : slice_split (λ byte. eqb byte space) rest ≡ c.in-Some.word.now ∷ slice_split (λ byte. eqb byte space) c.in-Some.behind.now =
    slice_split_first (λ byte. eqb byte space) rest 0 cut.2
    ∙ ap (λ word. word ∷ slice_split (λ byte. eqb byte space) (after_first (λ byte. eqb byte space) rest)) (sym cut.0)
    ∙ ap (λ behind. c.in-Some.word.now ∷ slice_split (λ byte. eqb byte space) behind) (sym cut.1) in
    record {
      text = subst IsUtf8 (sym cut.1) (text_behind rest c.loop-word.invariant.text cut.2);
      same = ap (λ words. map (λ word. word.now) words ++ slice_split (λ byte. eqb byte space) c.in-Some.behind.now) c.in_ok-push.ensures.items
          ∙ ap (λ words. words ++ slice_split (λ byte. eqb byte space) c.in-Some.behind.now) (map-append (λ word. word.now) words (c.in-Some.word ∷ []))
          ∙ append_assoc (map (λ word. word.now) words) (c.in-Some.word.now ∷ []) (slice_split (λ byte. eqb byte space) c.in-Some.behind.now)
          ∙ ap (λ parts. map (λ word. word.now) words ++ parts) (sym parts) ∙ c.loop-word.invariant.same;
    }

pub returns : goal.returns
returns c =
    let rest = c.loop-word.rest.now in
    let words = c.loop-word.words.items in
    let none = c.in_default.ensures.byte (lit< tt) (λ text found finds. finds) in
    ap (map (λ word. word.now)) c.in_ok-push-2.ensures.items ∙ map-append (λ word. word.now) words (c.loop-word.rest ∷ [])
    ∙ ap (λ parts. map (λ word. word.now) words ++ parts) (sym (last_word rest none)) ∙ c.loop-word.invariant.same
