use Rattle.std.proofs.Common.{◌≡◌, drop, filter_map}
use Rattle.std.specs.List.{last_or, flat_map}
use Rattle.acfg_cache.specs.Counted.{number_at}
use Rattle.acfg_cache.specs.Bodies.{joined_number, messages_read}
use Rattle.acfg_cache.proofs.conditions.last_purpose.Given as goal

-- the last of what is left, or else the last so far, is the last of all
abbrev pub invariant-loop-message : goal.invariant-loop-message
invariant-loop-message l =
    last_or l.last (filter_map (number_at 1) (flat_map (λ fields. fields) (messages_read (drop l.message-index l.metadata))))
    ≡ joined_number 1 (messages_read l.metadata)
