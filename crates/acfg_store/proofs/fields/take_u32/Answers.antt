use Rattle.std.proofs.Common.{◌≡◌, ◌∙◌, ap, take, arith}
use Rattle.acfg_views.specs.Fields.{number_of}
use Rattle.acfg_views.proofs.Exact.{four_bytes}
use Rattle.acfg_store.proofs.Fronts.{number_none, number_front}
use Rattle.acfg_store.proofs.fields.take_u32.Goals as goal

pub returns-then-bytes-lt4 : goal.returns-then-bytes-lt4
returns-then-bytes-lt4 c = λ n rest _. number_none 4 c.args.bytes.now c.if-bytes-lt4.true n rest

pub returns : goal.returns
unfolding number_of
returns c =
    let read : c.read_u32.result ≡ number_of 4 c.split_at.result.0.now = c.read_u32.ensures in
    let e : c.read_u32.result ≡ number_of 4 (take 4 c.args.bytes.now) = read ∙ ap (number_of 4) c.split_at.ensures.front in
    let h = number_front 4 four_bytes c.args.bytes.now (λ i. omega (arith, c.type_inv.bytes i)) c.if-bytes-lt4.false in
    (c.read_u32.type_inv, rw (e, c.split_at.ensures.back) h)
