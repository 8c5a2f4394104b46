-- What is known of a writer's bytes after a turn that took some, or none.
use Rattle.std.proofs.Common.{◌≡◌, ◌+◌, ◌-◌, ◌++◌, ℕ, List, [], Option, Some, None, length, take, drop, sym, ◌∙◌, ap, append_assoc, arith, subst, length-drop}
use Rattle.std.proofs.Math.Seq.{take-add}
use Rattle.std.proofs.lemmas.List.{append-nil, take-append-drop, take_all}
use Rattle.std.specs.Io.KnownBytes.{Appends, Keeps}
use Rattle.acfg_hostdev.specs.Host.{AppendsPart}

-- bytes that stay, behind some that were appended
pub appended_then : (first second third : Option (List ℕ)) (bytes : List ℕ) → Appends first second bytes → Keeps second third → Appends first third bytes
appended_then None second third bytes early late = tt
appended_then (Some xs) None third bytes early late = absurd early
appended_then (Some xs) (Some ys) None bytes early late = late
appended_then (Some xs) (Some ys) (Some zs) bytes early late = late ∙ early

pub appended_more : (first second third : Option (List ℕ)) (bytes more : List ℕ) → Appends first second bytes → Appends second third more → Appends first third (bytes ++ more)
appended_more None second third bytes more early late = tt
appended_more (Some xs) None third bytes more early late = absurd early
appended_more (Some xs) (Some ys) None bytes more early late = late
appended_more (Some xs) (Some ys) (Some zs) bytes more early late = late ∙ ap (λ (l : List ℕ). l ++ more) early ∙ append_assoc xs bytes more

-- a turn that took nothing
pub appended_none : (first second : Option (List ℕ)) → Appends first second [] → Keeps first second
appended_none None second same = tt
appended_none (Some xs) None same = same
appended_none (Some xs) (Some ys) same = same ∙ append-nil xs

-- a turn that took so many
pub appended_turn : (first second third : Option (List ℕ)) (bytes : List ℕ) (done count : ℕ) → Appends first second (take done bytes)
    → Appends second third (take count (take (length bytes - done) (drop done bytes))) → Appends first third (take (done + count) bytes)
appended_turn first second third bytes done count early late =
    let rest : take (length bytes - done) (drop done bytes) ≡ drop done bytes = take_all (length bytes - done) (drop done bytes) (omega (arith, length-drop done bytes)) in
    subst (Appends first third) (sym (take-add done count bytes)) (appended_more first second third (take done bytes) (take count (drop done bytes)) early
    (subst (λ (l : List ℕ). Appends second third (take count l)) rest late))

-- the bytes that were taken before a turn that failed
pub appended_part : (first second third : Option (List ℕ)) (bytes : List ℕ) (done : ℕ) → Appends first second (take done bytes) → Keeps second third → AppendsPart first third bytes
appended_part first second third bytes done early late = (take done bytes, drop done bytes, sym (take-append-drop done bytes), appended_then first second third (take done bytes) early late)

pub appended_so_far : (first second : Option (List ℕ)) (bytes : List ℕ) (done : ℕ) → Appends first second (take done bytes) → AppendsPart first second bytes
appended_so_far first second bytes done early = (take done bytes, drop done bytes, sym (take-append-drop done bytes), early)
