use Rattle.std.proofs.Common.{◌≡◌, ◌∙◌, ap, map, subst}
use Rattle.std.proofs.lemmas.Result.{IfOk-weaker}
use Rattle.std.specs.List.{slice_split}
use lib.Dec.{eqb}
use Rattle.acfg_base.specs.Bytes.{space}
use Rattle.acfg_base.specs.Found.{Finds}
use Rattle.acfg_daemon.specs.Requests.{AreWords, Spells}
use Rattle.acfg_daemon.proofs.Words.{spelled_text, words_from_spelled, spelled_from_words, Finds-weaker}
use Rattle.acfg_daemon.proofs.requests.parse_request.Goals as goal

pub returns-in_default : goal.returns-in_default
returns-in_default c = record { found = λ request spells. c.in_default.ensures.cases.0 (spelled_text _ request spells) }

pub returns : goal.returns
returns c =
    let text = c.args.bytes.now in
    let same : map (λ word. word.now) c.deref.result.now ≡ slice_split (λ byte. eqb byte space) text =
    ap (map (λ word. word.now)) c.deref.ensures.value ∙ c.in_ok-words.ensures ∙ ap (slice_split (λ byte. eqb byte space)) c.in-Ok.ensures.cases.0 in
    record { found = IfOk-weaker c.read_words.result _ _ (λ found finds. Finds-weaker (AreWords (slice_split (λ byte. eqb byte space) text)) (Spells text) (spelled_from_words text) (words_from_spelled text) found (subst (λ words. Finds (AreWords words) found) same finds)) c.read_words.ensures }
