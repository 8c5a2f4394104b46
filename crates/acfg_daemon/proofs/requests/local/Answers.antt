use Rattle.std.proofs.Common.{◌≡◌, ◌∷◌, ap, arith, length}
use Rattle.acfg_base.specs.Words.{bool_word}
use Rattle.acfg_daemon.specs.Requests.{local_word}
use Rattle.acfg_daemon.proofs.Keyed.{key_read, four_words}
use Rattle.acfg_daemon.proofs.requests.local.Goals as goal

pub returns : goal.returns
returns c =
    let read = key_read c.args.words.now c.in_ok-key.field-0 c.in-Some-2.key c.in-Some-2.is c.in_ok-key.ensures in
    let count : length c.args.words.now ≡ 4 = omega arith in
    record { lawful = read.lawful; same = ap (λ words. local_word c.args.now ∷ words) (four_words c.args.words.now c.in-Some-2.key (bool_word c.in-Some.value) count read c.in-Some.ensures) }
