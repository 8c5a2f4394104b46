use Rattle.std.proofs.Common.{◌≡◌, ◌*◌, find, nat_le, ap, ◌∙◌}
use Rattle.acfg_sip.specs.Buckets.{bucket_counts, size}
use Rattle.acfg_sip.proofs.BucketFacts.{size-none, size-many, size-room, size-bounds}
use Rattle.acfg_sip.proofs.buckets.table_size.Goals as goal

pub returns : goal.returns
unfolding size
returns c =
    let value : c.first_count.result ≡ size c.args.entries = c.first_count.ensures ∙ ap (λ entries. find (λ count. nat_le (2 * entries) count) bucket_counts) c.from.ensures in
    record {
      value = value;
      none = rw value (size-many c.args.entries, size-none c.args.entries);
      room = rw value (size-room c.args.entries);
      bounds = rw value (size-bounds c.args.entries);
    }
