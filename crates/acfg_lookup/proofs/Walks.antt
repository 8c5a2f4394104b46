-- The walks of the two look-ups.
use Rattle.std.proofs.Common.{◌≡◌, ◌≢◌, ℕ, ◌+◌, ◌*◌, ◌<◌, ◌≤◌, Bool, true, false, cond, eqb, not, ◌&&◌, List, [], ◌∷◌, length, get_or, drop, Some, None, Result, Ok, Err, refl, sym, ap, subst, ◌∙◌, arith}
use Rattle.std.specs.Prelude.{count_by}
use Rattle.std.specs.Str.{bytes_eq}
use Rattle.std.proofs.lemmas.Bool.Decides.{nat_tests}
use Rattle.std.proofs.lemmas.List.{drop-drop}
use Rattle.std.proofs.lemmas.Slice.Eq.{bytes_eq-Decides}
use Rattle.acfg_sip.specs.Buckets.{hash, flag_key}
use Rattle.acfg_views.specs.declared.fault.ViewFault.{ViewFault}
use Rattle.acfg_views.specs.Fields.{number_of}
use Rattle.acfg_views.specs.Layout.{Package, Flag, package_node, flag_node, IsPackageNode, IsFlagNode, package_map_type, flag_map_type}
use Rattle.acfg_views.specs.Reading.{OpenMap, IsOpenMap, bucket_count, bucket_in, node_at, package_at, flag_at}
use Rattle.acfg_views.proofs.Buckets.{numbers-at}
use Rattle.acfg_views.proofs.FileFacts.{opened_map-offsets, package_exact, flag_exact}
use Rattle.acfg_images.specs.Links.{NodeKey, Link, links_from, first_in, bucket_of, LeadOn, package_key, flag_node_key}
use Rattle.acfg_images.specs.Faults.{Opened, HasNoFault, nodes_in, nodes_from, packages_in, flags_in, buckets_in, wrong_next}
use Rattle.acfg_images.proofs.Least.{least-none}
use Rattle.acfg_images.proofs.Stages.{length-buckets_in}
use Rattle.acfg_images.proofs.Walk.{length-nodes_in}
use Rattle.acfg_lookup.specs.Lookup.{package_named, flag_named, package_bucket_size, flag_bucket_size}
use Rattle.acfg_lookup.proofs.Chain.{Stand, Walk, Keeps, is_in, walk_end, walk_more, walk_reads, walk_found, walk_on}
use Rattle.acfg_lookup.proofs.Sound.{Linked, sound}

same : {a b : ℕ} → eqb a b ≡ true → a ≡ b
same {a} {b} e = grind (arith, nat_tests)

test_is : (a b : ℕ) → not (eqb a b) ≡ false → a ≡ b
test_is a b e = grind (arith, nat_tests)

-- ---- where a walk begins

leads_on : (count : ℕ) (links : List Link) → wrong_next count links ≡ None → LeadOn count links
leads_on count [] e = tt
leads_on count (link ∷ links) e = go (eqb link.next (first_in count (bucket_of count link.key) links)) refl e (leads_on count links)
  where
    go : (b : Bool) → eqb link.next (first_in count (bucket_of count link.key) links) ≡ b → cond b (wrong_next count links) (Some link.at) ≡ None → (wrong_next count links ≡ None → LeadOn count links) → LeadOn count (link ∷ links)
    go true is f later = (same is, later f)
    go false is f later = absurd cc

module _ {N : Type 0} (read : List ℕ → Result (N × List ℕ) ViewFault) (node : N → List ℕ) (key : N → NodeKey) (next : N → ℕ) (map : OpenMap) (nodes : List N) (l : Linked read node key next map nodes) where
  stands : Stand read node key next map (bucket_count map) map.first_node nodes
  unfolding nodes_in
  stands = record {
    read_so = ap (λ (k : ℕ). nodes_from read k (drop map.first_node map.file)) (length-nodes_in read map nodes l.read_so) ∙ l.read_so;
    first = omega arith;
    leads = subst (λ (k : ℕ). LeadOn k (links_from node key next map.first_node nodes)) (length-buckets_in map) (leads_on (length (buckets_in map)) (links_from node key next map.first_node nodes) l.nexts);
  }

  head_is : (b : ℕ) → b < bucket_count map → bucket_in map b ≡ first_in (bucket_count map) b (links_from node key next map.first_node nodes)
  head_is b lt =
      let links = links_from node key next map.first_node nodes in
      let len = length-buckets_in map in
      let held = test_is _ _ (least-none _ 0 (length (buckets_in map)) l.heads b (omega arith) (omega arith)) in
      let at : get_or (buckets_in map) b 0 ≡ bucket_in map b = numbers-at (bucket_count map) b (drop map.first_bucket map.file) lt ∙ ap (number_of 4) (drop-drop (4 * b) map.first_bucket map.file) in
      sym at ∙ held ∙ ap (λ (k : ℕ). first_in k b links) len

  begins : 0 < map.first_node → (b : ℕ) → b < bucket_count map → (p : N → Bool) (taken : ℕ)
      → Walk read node key next map (bucket_count map) b p nodes (taken + count_by (is_in read node key next map (bucket_count map) b) nodes) (bucket_in map b) taken
  begins some b lt p taken = record {
    at = map.first_node;
    rest = nodes;
    stand = stands;
    some = some;
    off_is = head_is b lt;
    finds = refl;
    counts = refl;
  }

nodes_behind : (file_type : ℕ) (map : OpenMap) → IsOpenMap file_type map → 0 < map.first_node
nodes_behind file_type map is = let some = (opened_map-offsets file_type map.file map is.opened).offsets.some in omega arith

both : (a b : Bool) → (a && b) ≡ true → (a ≡ true) × (b ≡ true)
both true true e = (refl, refl)
both true false e = absurd cc
both false b e = absurd cc

-- ---- packages

abbrev pub package_name_key : List ℕ → NodeKey
package_name_key name = record { owner = None; name = name }

abbrev pub package_bucket : Opened → List ℕ → ℕ
package_bucket opened name = bucket_of (bucket_count opened.package_map) (package_name_key name)

-- a walk for a package, which began when so many steps were taken
abbrev pub PackageWalk : Opened → List ℕ → (began off taken : ℕ) → Type 0
PackageWalk opened name began off taken =
    Walk package_at package_node package_key (λ n. n.next) opened.package_map (bucket_count opened.package_map) (package_bucket opened name)
    (λ n. bytes_eq n.name name) (packages_in opened) (began + package_bucket_size opened name) off taken

module _ (opened : Opened) (name : List ℕ) where
  package_keeps : Keeps package_at package_node package_key (λ n. n.next) opened.package_map (bucket_count opened.package_map) (package_bucket opened name) (λ n. bytes_eq n.name name)
  package_keeps n e = ap (λ (text : List ℕ). bucket_of (bucket_count opened.package_map) (package_name_key text)) ((bytes_eq-Decides n.name name).0 e)

  pub package_begins : HasNoFault opened → IsOpenMap package_map_type opened.package_map → package_bucket opened name < bucket_count opened.package_map → (taken : ℕ)
      → PackageWalk opened name taken (bucket_in opened.package_map (package_bucket opened name)) taken
  package_begins none is lt taken =
      begins package_at package_node package_key (λ n. n.next) opened.package_map (packages_in opened) (sound opened none).package_nodes
      (nodes_behind package_map_type opened.package_map is) (package_bucket opened name) lt (λ n. bytes_eq n.name name) taken

  module _ (began off taken : ℕ) (w : PackageWalk opened name began off taken) where
    pub package_end : off ≡ 0 → (package_named (packages_in opened) name ≡ None) × (taken ≤ began + package_bucket_size opened name)
    package_end none = walk_end package_at package_node package_key (λ n. n.next) opened.package_map (bucket_count opened.package_map) (package_bucket opened name) _ package_keeps _ _ off taken w none

    module _ (is : IsOpenMap package_map_type opened.package_map) (some : off ≢ 0) where
      pub package_more : taken < began + package_bucket_size opened name
      package_more = walk_more package_at package_node package_key (λ n. n.next) opened.package_map (bucket_count opened.package_map) (package_bucket opened name) IsPackageNode package_exact is.bytes _ _ _ off taken w some

      pub package_reads : (f : ViewFault) → node_at package_at opened.package_map off ≡ Err f → ⊥
      package_reads = walk_reads package_at package_node package_key (λ n. n.next) opened.package_map (bucket_count opened.package_map) (package_bucket opened name) IsPackageNode package_exact is.bytes _ _ _ off taken w some

      pub package_hit : (n : Package) (end : ℕ) → node_at package_at opened.package_map off ≡ Ok (n, end) → bytes_eq n.name name ≡ true → package_named (packages_in opened) name ≡ Some n
      package_hit = walk_found package_at package_node package_key (λ n. n.next) opened.package_map (bucket_count opened.package_map) (package_bucket opened name) IsPackageNode package_exact is.bytes _ package_keeps _ _ off taken w some

      pub package_on : (n : Package) (end : ℕ) → node_at package_at opened.package_map off ≡ Ok (n, end) → bytes_eq n.name name ≡ false → PackageWalk opened name began n.next (taken + 1)
      package_on = walk_on package_at package_node package_key (λ n. n.next) opened.package_map (bucket_count opened.package_map) (package_bucket opened name) IsPackageNode package_exact is.bytes _ package_keeps _ _ off taken w some (nodes_behind package_map_type opened.package_map is)

-- ---- flags

abbrev pub flag_name_key : ℕ → List ℕ → NodeKey
flag_name_key id name = record { owner = Some id; name = name }

abbrev pub flag_bucket : Opened → ℕ → List ℕ → ℕ
flag_bucket opened id name = bucket_of (bucket_count opened.flag_map) (flag_name_key id name)

abbrev pub is_flag : ℕ → List ℕ → Flag → Bool
is_flag id name n = eqb n.package_id id && bytes_eq n.name name

-- a walk for a flag, which began when so many steps were taken
abbrev pub FlagWalk : Opened → ℕ → List ℕ → (began off taken : ℕ) → Type 0
FlagWalk opened id name began off taken =
    Walk flag_at flag_node flag_node_key (λ n. n.next) opened.flag_map (bucket_count opened.flag_map) (flag_bucket opened id name)
    (is_flag id name) (flags_in opened) (began + flag_bucket_size opened id name) off taken

module _ (opened : Opened) (id : ℕ) (name : List ℕ) where
  flag_keeps : Keeps flag_at flag_node flag_node_key (λ n. n.next) opened.flag_map (bucket_count opened.flag_map) (flag_bucket opened id name) (is_flag id name)
  flag_keeps n e =
      let parts = both (eqb n.package_id id) (bytes_eq n.name name) e in
      ap (λ (k : ℕ). bucket_of (bucket_count opened.flag_map) (flag_name_key k n.name)) (same parts.0)
      ∙ ap (λ (text : List ℕ). bucket_of (bucket_count opened.flag_map) (flag_name_key id text)) ((bytes_eq-Decides n.name name).0 parts.1)

  pub flag_begins : HasNoFault opened → IsOpenMap flag_map_type opened.flag_map → flag_bucket opened id name < bucket_count opened.flag_map → (taken : ℕ)
      → FlagWalk opened id name taken (bucket_in opened.flag_map (flag_bucket opened id name)) taken
  flag_begins none is lt taken =
      begins flag_at flag_node flag_node_key (λ n. n.next) opened.flag_map (flags_in opened) (sound opened none).flag_nodes
      (nodes_behind flag_map_type opened.flag_map is) (flag_bucket opened id name) lt (is_flag id name) taken

  module _ (began off taken : ℕ) (w : FlagWalk opened id name began off taken) where
    pub flag_end : off ≡ 0 → (flag_named (flags_in opened) id name ≡ None) × (taken ≤ began + flag_bucket_size opened id name)
    flag_end none = walk_end flag_at flag_node flag_node_key (λ n. n.next) opened.flag_map (bucket_count opened.flag_map) (flag_bucket opened id name) _ flag_keeps _ _ off taken w none

    module _ (is : IsOpenMap flag_map_type opened.flag_map) (some : off ≢ 0) where
      pub flag_more : taken < began + flag_bucket_size opened id name
      flag_more = walk_more flag_at flag_node flag_node_key (λ n. n.next) opened.flag_map (bucket_count opened.flag_map) (flag_bucket opened id name) IsFlagNode flag_exact is.bytes _ _ _ off taken w some

      pub flag_reads : (f : ViewFault) → node_at flag_at opened.flag_map off ≡ Err f → ⊥
      flag_reads = walk_reads flag_at flag_node flag_node_key (λ n. n.next) opened.flag_map (bucket_count opened.flag_map) (flag_bucket opened id name) IsFlagNode flag_exact is.bytes _ _ _ off taken w some

      pub flag_hit : (n : Flag) (end : ℕ) → node_at flag_at opened.flag_map off ≡ Ok (n, end) → is_flag id name n ≡ true → flag_named (flags_in opened) id name ≡ Some n
      flag_hit = walk_found flag_at flag_node flag_node_key (λ n. n.next) opened.flag_map (bucket_count opened.flag_map) (flag_bucket opened id name) IsFlagNode flag_exact is.bytes _ flag_keeps _ _ off taken w some

      pub flag_on : (n : Flag) (end : ℕ) → node_at flag_at opened.flag_map off ≡ Ok (n, end) → is_flag id name n ≡ false → FlagWalk opened id name began n.next (taken + 1)
      flag_on = walk_on flag_at flag_node flag_node_key (λ n. n.next) opened.flag_map (bucket_count opened.flag_map) (flag_bucket opened id name) IsFlagNode flag_exact is.bytes _ flag_keeps _ _ off taken w some (nodes_behind flag_map_type opened.flag_map is)

-- ---- as the code has them: a view, and what it was asked

-- what a view that is this map answers
pub moved : {N : Type 0} (read : List ℕ → Result (N × List ℕ) ViewFault) (view map : OpenMap) (off : ℕ) (r : Result (N × ℕ) ViewFault) → view ≡ map → node_at read view off ≡ r → node_at read map off ≡ r
moved read view map off r is e = ap (λ (m : OpenMap). node_at read m off) (sym is) ∙ e

placed : (view map : OpenMap) (count bucket due off : ℕ) → view ≡ map → count ≡ bucket_count view → bucket ≡ due → bucket < count → off ≡ bucket_in view bucket
    → (due < bucket_count map) × (off ≡ bucket_in map due)
placed view map count bucket due off is count_is bucket_is lt off_is =
    let counts : count ≡ bucket_count map = count_is ∙ ap bucket_count is in
    let less : due < bucket_count map = omega arith in
    let there : off ≡ bucket_in map due = off_is ∙ ap (λ (m : OpenMap). bucket_in m bucket) is ∙ ap (bucket_in map) bucket_is in
    (less, there)

pub package_starts : (opened : Opened) (name text : List ℕ) (view : OpenMap) (count bucket off taken : ℕ) → HasNoFault opened → view ≡ opened.package_map → IsOpenMap package_map_type view → text ≡ name
    → count ≡ bucket_count view → bucket ≡ hash text count → bucket < count → off ≡ bucket_in view bucket → PackageWalk opened name taken off taken
package_starts opened name text view count bucket off taken none is opens text_is count_is bucket_is lt off_is =
    let due : bucket ≡ package_bucket opened name = bucket_is ∙ ap (λ (t : List ℕ). hash t count) text_is ∙ ap (hash name) (count_is ∙ ap bucket_count is) in
    let p = placed view opened.package_map count bucket (package_bucket opened name) off is count_is due lt off_is in
    subst (λ (o : ℕ). PackageWalk opened name taken o taken) (sym p.1) (package_begins opened name none (subst (IsOpenMap package_map_type) is opens) p.0 taken)

pub flag_starts : (opened : Opened) (id : ℕ) (name text : List ℕ) (view : OpenMap) (count bucket off taken : ℕ) → HasNoFault opened → view ≡ opened.flag_map → IsOpenMap flag_map_type view → text ≡ name
    → count ≡ bucket_count view → bucket ≡ hash (flag_key id text) count → bucket < count → off ≡ bucket_in view bucket → FlagWalk opened id name taken off taken
flag_starts opened id name text view count bucket off taken none is opens text_is count_is bucket_is lt off_is =
    let due : bucket ≡ flag_bucket opened id name = bucket_is ∙ ap (λ (t : List ℕ). hash (flag_key id t) count) text_is ∙ ap (hash (flag_key id name)) (count_is ∙ ap bucket_count is) in
    let p = placed view opened.flag_map count bucket (flag_bucket opened id name) off is count_is due lt off_is in
    subst (λ (o : ℕ). FlagWalk opened id name taken o taken) (sym p.1) (flag_begins opened id name none (subst (IsOpenMap flag_map_type) is opens) p.0 taken)
