use Rattle.std.proofs.Common.{◌≡◌, ◌<◌, ◌-◌, ◌++◌, suc, length, map, get_or, set, take, drop, vec_len, sym, ap, ◌∙◌, arith}
use Rattle.std.proofs.lemmas.List.{take-map, get_or-map, get_or-take, length-map, length-take-le}
use Rattle.acfg_model.proofs.Kept.{some_inside}
use Rattle.acfg_model.specs.Views.{boot_of}
use Rattle.acfg_model.specs.declared.machines.NamedContainer.{NamedContainer}
use Rattle.acfg_model.specs.Step.{boot_map}
use Rattle.acfg_model.specs.Machines.{booted_named}
use Rattle.acfg_model.proofs.Installed.{set_back, get_back, take-map-take}
use Rattle.acfg_model.proofs.machines.set_boot_copies.Goals as goal

pub loop-copy-preserved : goal.loop-copy-preserved
loop-copy-preserved c =
    let all = c.args.containers.now.items in
    let m = vec_len c.pop.new.self in
    let named = c.index_mut-named.result.now in
    let more : vec_len c.loop-copy.copies ≡ suc m = omega (arith, c.in-Some.ensures.len) in
    let within : m < length all = omega (arith, c.loop-copy.invariant.within) in
    let were : c.loop-copy.containers.items ≡ take (suc m) all ++ map booted_named (drop (suc m) all) = c.loop-copy.invariant.done ∙ ap (λ n. take n all ++ map booted_named (drop n all)) more in
    let was : named ≡ get_or all m named = c.index_mut-named.ensures.value ∙ ap (λ n. get_or c.loop-copy.containers.items n named) c.len.ensures ∙ ap (λ list. get_or list m named) were ∙ get_back booted_named all (map booted_named (drop (suc m) all)) m named within in
    let becomes : record { name = named.name; container = c.set_boot.new.self } ≡ booted_named (get_or all m named) = ap (λ t. record { name = named.name; container = t }) c.set_boot.ensures.boot ∙ ap booted_named was in
    record {
      within = omega (arith, within);
      done = ap (λ list. set list c.len.result (record { name = named.name; container = c.set_boot.new.self })) were
          ∙ ap (λ n. set (take (suc m) all ++ map booted_named (drop (suc m) all)) n (record { name = named.name; container = c.set_boot.new.self })) c.len.ensures
          ∙ ap (set (take (suc m) all ++ map booted_named (drop (suc m) all)) m) becomes ∙ set_back booted_named all m named within;
      left = ap (map boot_of) (c.in-Some.ensures.rest ∙ ap (λ n. take (n - 1) c.loop-copy.copies.items) more) ∙ sym (take-map boot_of (suc m - 1) c.loop-copy.copies.items)
          ∙ ap (take (suc m - 1)) (c.loop-copy.invariant.left ∙ ap (λ n. map (λ (n : NamedContainer). boot_map n.container) (take n all)) more)
          ∙ ap (λ k. take k (map (λ (n : NamedContainer). boot_map n.container) (take (suc m) all))) (omega arith) ∙ take-map-take (λ (n : NamedContainer). boot_map n.container) all m;
    }

-- the last copy is that of the last container
pub set_boot-requires : goal.set_boot-requires
set_boot-requires c =
    let all = c.args.containers.now.items in
    let copies = c.loop-copy.copies.items in
    let m = vec_len c.pop.new.self in
    let f = λ (n : NamedContainer). boot_map n.container in
    let named = c.index_mut-named.result.now in
    let copy = c.in-Some.copy in
    let more : vec_len c.loop-copy.copies ≡ suc m = omega (arith, c.in-Some.ensures.len) in
    let within : m < length all = omega (arith, c.loop-copy.invariant.within) in
    let last : vec_len c.loop-copy.copies - 1 ≡ m = omega (arith, more) in
    let some : 0 < vec_len c.loop-copy.copies = omega (arith, more) in
    let is : copy ≡ get_or copies m copy = some_inside (c.in-Some.ensures.value copy some) ∙ ap (λ n. get_or copies n copy) last in
    let left : map boot_of copies ≡ map f (take (suc m) all) = c.loop-copy.invariant.left ∙ ap (λ n. map f (take n all)) more in
    let many : length (take (suc m) all) ≡ suc m = length-take-le (suc m) all (omega arith) in
    let count : length copies ≡ length (take (suc m) all) = sym (length-map copies boot_of) ∙ ap length left ∙ length-map (take (suc m) all) f in
    let were : c.loop-copy.containers.items ≡ take (suc m) all ++ map booted_named (drop (suc m) all) = c.loop-copy.invariant.done ∙ ap (λ n. take n all ++ map booted_named (drop n all)) more in
    let was : named ≡ get_or all m named = c.index_mut-named.ensures.value ∙ ap (λ n. get_or c.loop-copy.containers.items n named) c.len.ensures ∙ ap (λ list. get_or list m named) were ∙ get_back booted_named all (map booted_named (drop (suc m) all)) m named within in
    ap boot_of is ∙ sym (get_or-map boot_of copies m copy (f named) (omega arith)) ∙ ap (λ list. get_or list m (f named)) left
    ∙ get_or-map f (take (suc m) all) m named (f named) (omega arith) ∙ ap f (get_or-take (suc m) all m named (omega arith) ∙ sym was)
