use Rattle.std.proofs.Common.{◌≡◌, ◌∷◌, ap, arith, length}
use Rattle.acfg_daemon.specs.Requests.{unset_word}
use Rattle.acfg_daemon.proofs.Keyed.{key_read, three_words}
use Rattle.acfg_daemon.proofs.requests.unset.Goals as goal

pub returns : goal.returns
returns c =
    let read = key_read c.args.words.now c.in_ok-key.field-0 c.in-Some.key c.in-Some.is c.in_ok-key.ensures in
    let count : length c.args.words.now ≡ 3 = omega arith in
    record { lawful = read.lawful; same = ap (λ words. unset_word c.args.now ∷ words) (three_words c.args.words.now c.in-Some.key count read) }
