use Rattle.std.proofs.Common.{◌≡◌, ◌+◌, ◌-◌, ◌%◌, refl, arith}
use Rattle.acfg_sip.proofs.Numbers.{joined_fits, short_fits, left_fits}
use Rattle.acfg_sip.proofs.Holding.{Holds_short, Holds_full}
use Rattle.acfg_sip.proofs.hasher.Hasher.merge.Goals as goal

pub overflow_add-joined : goal.overflow_add-joined
overflow_add-joined g c =
    omega (arith, joined_fits (c.args.self.now.count % 8) c.args.self.now.partial c.args.word (omega arith) c.args.self.now.partial_fits)

pub invariant_of-self : goal.invariant_of-self
invariant_of-self g c =
    let count : (c.args.self.now.count + c.args.count) % 256 % 8 ≡ c.args.self.now.count % 8 + c.args.count = omega arith in
    record { partial_fits = rw count (short_fits (c.args.self.now.count % 8) c.args.count c.args.self.now.partial c.args.word c.args.self.now.partial_fits c.requires.below c.if-held-count-lt8.true) }

pub invariant_of-self-else-held-count-lt8 : goal.invariant_of-self-else-held-count-lt8
invariant_of-self-else-held-count-lt8 g c =
    let count : (c.args.self.now.count + c.args.count) % 256 % 8 ≡ c.args.self.now.count % 8 + c.args.count - 8 = omega arith in
    record { partial_fits = rw (count, c.word_behind-self.ensures) (left_fits (c.args.self.now.count % 8) c.args.count c.args.word (omega arith) c.requires.below c.if-held-count-lt8.false) }

pub returns-then-held-count-lt8 : goal.returns-then-held-count-lt8
returns-then-held-count-lt8 g c = λ bytes is start m held.
    Holds_short start c.args.self.now _ m bytes c.args.count c.args.word is held c.requires.below c.if-held-count-lt8.true refl refl refl

pub returns-else-held-count-lt8 : goal.returns-else-held-count-lt8
returns-else-held-count-lt8 g c = λ bytes is start m held.
    Holds_full start c.args.self.now _ m bytes c.args.count c.args.word is held c.requires.few c.if-held-count-lt8.false c.compress-self.ensures c.word_behind-self.ensures refl
