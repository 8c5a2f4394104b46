use Rattle.std.proofs.Common.{◌≡◌, ℕ, ◌<◌, ◌≤◌, List, length, get_or, All, sym, ap, subst, ◌∙◌, arith}
use Rattle.std.proofs.lemmas.List.Elements.{All-from_get_or}
use Rattle.acfg_views.specs.Reading.{byte_in}
use Rattle.acfg_images.specs.declared.purpose.Use.TheVariants.{Copy}
use Rattle.acfg_images.specs.Set.{IsInfo, has_read_write}
use Rattle.acfg_images.proofs.Restamped.{can_restamp}
use Rattle.acfg_tests.proofs.images.restamp_all.Goals as goal

low : (values : List ℕ) → ((k : ℕ) → k < length values → get_or values k 0 ≡ 1) → All (λ byte. byte ≤ 1) values
low values ones = All-from_get_or (λ byte. byte ≤ 1) values 0 (λ k lt. let one = ones k lt in omega arith)

pub restamp-requires : goal.restamp-requires
restamp-requires c =
    can_restamp c.args.set.now c.are_open.ensures c.deref.result.now c.deref-2.result.now
    (ap length c.deref.ensures.value ∙ c.in_ok-values.ensures.count ∙ c.count.ensures.values)
    (ap length c.deref-2.ensures.value ∙ c.in_ok-infos.ensures.count)
    (subst (All (λ byte. byte ≤ 1)) (sym c.deref.ensures.value) (low c.in_ok-values.values.items c.in_ok-values.ensures.values))
    (subst (All (IsInfo Copy)) (sym c.deref-2.ensures.value) c.in_ok-infos.ensures.lawful)
    (subst (λ (xs : List ℕ). (k : ℕ) → k < length xs → has_read_write (get_or xs k 0) ≡ has_read_write (byte_in c.args.set.now.infos k)) (sym c.deref-2.ensures.value) c.in_ok-infos.ensures.kinds)
