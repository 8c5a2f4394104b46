use Rattle.std.proofs.Common.{◌≡◌, ◌<◌, ◌∷◌, ℕ, List, All, true, false, length, subst, sym, ap, ◌∙◌, lit<, string_bytes}
use Rattle.std.specs.Prelude.{Some}
use Rattle.std.specs.Option.{SomeIff}
use Rattle.std.proofs.lemmas.List.Elements.{All-map}
use Rattle.acfg_base.specs.Names.{IsContainer}
use Rattle.acfg_base.specs.Paths.{IsPath}
use Rattle.acfg_daemon.proofs.Words.{last_word}
use Rattle.acfg_top.specs.JobBodies.{AreJobWords}
use Rattle.acfg_top.proofs.JobWords.{first_word, its_container, its_caches, its_dir, not_two, some_words, words}
use Rattle.acfg_top.proofs.Lists.{All-unmap}
use Rattle.acfg_top.proofs.jobs.read_places.Goals as goal

pub returns-in_default : goal.returns-in_default
returns-in_default c job are =
    let text = c.args.text.now in
    let one = last_word text (c.in_default.ensures.byte (lit< tt) (λ text found finds. finds)) in
    not_two c.args.container.now text job (subst (λ rest. AreJobWords (c.args.container.now ∷ rest) job) one are)

pub returns-then-not-is_path : goal.returns-then-not-is_path
returns-then-not-is_path c job are =
    let dir = c.in-Some.dir.now in
    let cut = c.in-Some.ensures.byte (lit< tt) (λ text found finds. finds) in
    let parts = first_word c.args.text.now dir c.in-Some.behind.now cut.0 cut.1 cut.2 in
    let no : false ≡ true = c.if-not-is_path.ensures.1 (its_dir c.args.container.now dir (words c.in-Some.behind.now) job (subst (λ rest. AreJobWords (c.args.container.now ∷ rest) job) parts are)) in
    cc

pub returns-then-not-are_paths : goal.returns-then-not-are_paths
returns-then-not-are_paths c job are =
    let dir = c.in-Some.dir.now in
    let cut = c.in-Some.ensures.byte (lit< tt) (λ text found finds. finds) in
    let parts = first_word c.args.text.now dir c.in-Some.behind.now cut.0 cut.1 cut.2 in
    let paths : All IsPath (words c.in-Some.behind.now) = its_caches c.args.container.now dir (words c.in-Some.behind.now) job (subst (λ rest. AreJobWords (c.args.container.now ∷ rest) job) parts are) in
    let made : All (λ word. IsPath (string_bytes word)) c.in_ok-caches.caches.items = All-unmap IsPath string_bytes c.in_ok-caches.caches.items (subst (All IsPath) (sym c.in_ok-caches.ensures) paths) in
    let no : false ≡ true = c.if-not-are_paths.ensures.1 (subst (All (λ word. IsPath (string_bytes word))) (sym c.deref.ensures.value) made) in
    cc

pub returns-in-None : goal.returns-in-None
returns-in-None c job are =
    let container = c.args.container.now in
    let never : ¬ IsContainer container = subst (λ found. SomeIff found (IsContainer container) container) c.in-None.is c.in_ok-container.ensures in
    never (its_container container (words c.args.text.now) job are)

pub returns-in-Some-2 : goal.returns-in-Some-2
returns-in-Some-2 c =
    let container = c.args.container.now in
    let made : SomeIff (Some c.in-Some-2.container) (IsContainer container) container = subst (λ found. SomeIff found (IsContainer container) container) c.in-Some-2.is c.in_ok-container.ensures in
    let cut = c.in-Some.ensures.byte (lit< tt) (λ text found finds. finds) in
    let parts = first_word c.args.text.now c.in-Some.dir.now c.in-Some.behind.now cut.0 cut.1 cut.2 in
    let items = c.in_ok-caches.caches.items in
    let paths : All (λ word. IsPath (string_bytes word)) items = subst (All (λ word. IsPath (string_bytes word))) c.deref.ensures.value (c.are_paths.ensures.0 c.if-not-are_paths.false) in
    record {
      container = subst IsContainer (sym made.1) made.0;
      dir = subst IsPath (sym c.in_ok-dir.ensures.ok) (c.is_path.ensures.0 c.if-not-is_path.false);
      some = let P : List (List ℕ) → Type 0 = λ all. 0 < length all in subst P (sym c.in_ok-caches.ensures) (some_words c.in-Some.behind.now);
      caches = All-map IsPath string_bytes items paths;
      same = ap (λ rest. container ∷ rest) parts
          ∙ (λ j. sym made.1 j ∷ sym c.in_ok-dir.ensures.ok j ∷ sym c.in_ok-caches.ensures j);
    }
