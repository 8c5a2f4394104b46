use Rattle.std.proofs.Common.{◌≡◌, ◌+◌, ◌*◌, ◌<◌, ◌^◌, true, false, get_or, sym, ◌∙◌, subst, arith}
use Rattle.acfg_text.specs.Escapes.{digit_value}
use Rattle.acfg_text.specs.Meanings.{digit_test, base_of}
use Rattle.acfg_text.proofs.Numbers.{ReadSoFar, digit_small, fits_next, read_next, IsRead, done_short, done_digit}
use Rattle.acfg_text.proofs.quoted.read_digits.Goals as goal

pub overflow_mul-value : goal.overflow_mul-value
overflow_mul-value c =
    let next : c.loop-count.value * c.radix-radix.result + 0 < 2 ^ 48 = fits_next c.args.base c.args.start c.args.most c.args.text.now c.loop-count.count c.loop-count.value c.loop-count.invariant c.radix-radix.result 0 (omega arith) c.requires c.loop-count-test.true c.radix-radix.ensures.value (omega arith) in
    omega arith

pub overflow_add-value : goal.overflow_add-value
overflow_add-value c =
    let digit : digit_test c.args.base (get_or c.args.text.now c.loop-count.count 0) ≡ true = sym c.is_digit.ensures ∙ c.if-not-is_digit.false in
    let small : c.digit_value.result < 16 = subst (λ n. n < 16) (sym c.digit_value.ensures.value) (digit_small c.args.base (get_or c.args.text.now c.loop-count.count 0) digit) in
    let next : c.loop-count.value * c.radix-radix.result + c.digit_value.result < 2 ^ 48 = fits_next c.args.base c.args.start c.args.most c.args.text.now c.loop-count.count c.loop-count.value c.loop-count.invariant c.radix-radix.result c.digit_value.result (omega arith) c.requires c.loop-count-test.true c.radix-radix.ensures.value small in
    omega arith

pub loop-count-preserved : goal.loop-count-preserved
loop-count-preserved c =
    let digit : digit_test c.args.base (get_or c.args.text.now c.loop-count.count 0) ≡ true = sym c.is_digit.ensures ∙ c.if-not-is_digit.false in
    let next : ReadSoFar c.args.base c.args.start c.args.most c.args.text.now (c.loop-count.count + 1) (c.loop-count.value * base_of c.args.base + digit_value (get_or c.args.text.now c.loop-count.count 0))
    = read_next c.args.base c.args.start c.args.most c.args.text.now c.loop-count.count c.loop-count.value c.loop-count.invariant c.loop-count-test.true c.if-count-text.false digit in
    rw (c.radix-radix.ensures.value, c.digit_value.ensures.value) next

pub returns-then-count-text : goal.returns-then-count-text
returns-then-count-text c =
    let read : IsRead c.args.base c.args.start c.args.most c.args.text.now c.loop-count.count c.loop-count.value c.loop-count.invariant = done_short c.args.base c.args.start c.args.most c.args.text.now c.loop-count.count c.loop-count.value c.loop-count.invariant c.if-count-text.true in
    record { count = read.counted; value = read.valued; small = c.loop-count.invariant.small; few = c.loop-count.invariant.few }

pub returns-then-not-is_digit : goal.returns-then-not-is_digit
returns-then-not-is_digit c =
    let other : digit_test c.args.base (get_or c.args.text.now c.loop-count.count 0) ≡ false = sym c.is_digit.ensures ∙ c.if-not-is_digit.true in
    let read : IsRead c.args.base c.args.start c.args.most c.args.text.now c.loop-count.count c.loop-count.value c.loop-count.invariant = done_digit c.args.base c.args.start c.args.most c.args.text.now c.loop-count.count c.loop-count.value c.loop-count.invariant c.if-count-text.false other in
    record { count = read.counted; value = read.valued; small = c.loop-count.invariant.small; few = c.loop-count.invariant.few }
