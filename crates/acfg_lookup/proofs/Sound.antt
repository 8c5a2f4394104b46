-- What holds of a set in which no fault stands.
use Rattle.std.proofs.Common.{◌≡◌, ℕ, ◌+◌, ◌*◌, ◌<◌, Bool, true, false, cond, eqb, not, List, length, map, Option, Some, None, Result, Ok, Err, refl, sym, ap, subst, ◌∙◌, arith}
use Rattle.std.specs.Option.{option_map}
use Rattle.std.specs.List.{list_any}
use Rattle.std.proofs.lemmas.Bool.Decides.{nat_tests}
use Rattle.std.proofs.Math.ListN.{length-map}
use Rattle.acfg_views.specs.declared.fault.ViewFault.{ViewFault}
use Rattle.acfg_views.specs.Layout.{Package, Flag, package_node, flag_node}
use Rattle.acfg_views.specs.Reading.{OpenMap, package_at, flag_at}
use Rattle.acfg_images.specs.declared.fault.FileType.{FileType}
use Rattle.acfg_images.specs.declared.fault.FileType.TheVariants.{PackageMap, FlagMap}
use Rattle.acfg_images.specs.declared.fault.Point2.TheVariants.{Id, Count, Index}
use Rattle.acfg_images.specs.declared.fault.Point2.TheVariants as on
use Rattle.acfg_images.specs.declared.fault.ImageFault.{ImageFault}
use Rattle.acfg_images.specs.declared.fault.ImageFault.TheVariants.{Twice, Chain, Disagree}
use Rattle.acfg_images.specs.Words.{least}
use Rattle.acfg_images.specs.Links.{NodeKey, Link, links_from, package_key, flag_node_key}
use Rattle.acfg_images.specs.Set.{index_of}
use Rattle.acfg_images.specs.Faults.{◌>>=◌, unless, or_else, Opened, HasNoFault, checked, checked_files, files_in, opened_set, package_part, flag_part, nodes_in, nodes_of, packages_in, flags_in, nodes_or_none}
use Rattle.acfg_images.specs.Faults.{twice, wrong_bucket, wrong_next, wrong_chain, link_fault, buckets_in, bits_fault, disagreement, container_fault, id_fault, count_fault, package_fault, stray_id, index_fault, having}
use Rattle.acfg_images.proofs.Least.{least-none}

-- ---- steps that found no fault

bind_ok : {A B : Type 0} (r : Result A ImageFault) (f : A → Result B ImageFault) (y : B) → (r >>= f) ≡ Ok y → (x : A) × (r ≡ Ok x) × (f x ≡ Ok y)
bind_ok (Ok x) f y e = (x, refl, e)
bind_ok (Err d) f y e = absurd cc

unless_ok : {A : Type 0} (o : Option ImageFault) (r : Result A ImageFault) (x : A) → unless o r ≡ Ok x → (o ≡ None) × (r ≡ Ok x)
unless_ok None r x e = (refl, e)
unless_ok (Some f) r x e = absurd cc

neither : {A : Type 0} (a b : Option A) → or_else a b ≡ None → (a ≡ None) × (b ≡ None)
neither None b e = (refl, e)
neither (Some x) b e = absurd cc

unmapped : {A B : Type 0} (f : A → B) (o : Option A) → option_map f o ≡ None → o ≡ None
unmapped f None e = refl
unmapped f (Some x) e = absurd cc

abbrev done : {A : Type 0} → A → Result A ImageFault
done x = Ok x

done_is : {A : Type 0} (x y : A) → done x ≡ done y → x ≡ y
done_is x y e = cc

nodes_ok : {N : Type 0} (file : FileType) (size : ℕ) (r : Result (List N) (List ℕ)) (nodes : List N) → nodes_of file size r ≡ Ok nodes → r ≡ Ok nodes
nodes_ok file size (Ok ns) nodes e = ap (λ (xs : List _). Ok xs) (done_is ns nodes e)
nodes_ok file size (Err rest) nodes e = absurd cc

-- ---- the nodes of a map

-- the nodes of an open map, in which no fault stands
pub record Linked {N : Type 0} (read : List ℕ → Result (N × List ℕ) ViewFault) (node : N → List ℕ) (key : N → NodeKey) (next : N → ℕ) (map : OpenMap) (nodes : List N) : Type 0 where
  pub read_so : nodes_in read map ≡ Ok nodes
  pub keys : twice (links_from node key next map.first_node nodes) ≡ None
  pub heads : wrong_bucket (buckets_in map) (links_from node key next map.first_node nodes) ≡ None
  pub nexts : wrong_next (length (buckets_in map)) (links_from node key next map.first_node nodes) ≡ None

linked : {N : Type 0} (read : List ℕ → Result (N × List ℕ) ViewFault) (node : N → List ℕ) (key : N → NodeKey) (next : N → ℕ) (file : FileType) (map : OpenMap) (nodes : List N) → nodes_in read map ≡ Ok nodes
    → link_fault file map (links_from node key next map.first_node nodes) ≡ None → Linked read node key next map nodes
linked read node key next file map nodes read_so none =
    let links = links_from node key next map.first_node nodes in
    let a = neither (option_map (Twice file) (twice links)) (option_map (Chain file) (wrong_chain map.first_bucket (buckets_in map) links)) none in
    let chain = unmapped (Chain file) (wrong_chain map.first_bucket (buckets_in map) links) a.1 in
    let b = neither (option_map (λ b. map.first_bucket + 4 * b) (wrong_bucket (buckets_in map) links)) (wrong_next (length (buckets_in map)) links) chain in
    record {
      read_so = read_so;
      keys = unmapped (Twice file) (twice links) a.0;
      heads = unmapped (λ (b : ℕ). map.first_bucket + 4 * b) (wrong_bucket (buckets_in map) links) b.0;
      nexts = b.1;
    }

package_nodes : (map : OpenMap) (nodes : List Package) → package_part map ≡ Ok nodes → Linked package_at package_node package_key (λ n. n.next) map nodes
unfolding package_part
package_nodes map nodes e =
    let links : List Package → List Link = λ ns. links_from package_node package_key (λ n. n.next) map.first_node ns in
    let a = bind_ok (nodes_of PackageMap (length map.file) (nodes_in package_at map)) (λ ns. unless (link_fault PackageMap map (links ns)) (Ok ns)) nodes e in
    let b = unless_ok (link_fault PackageMap map (links a.0)) (Ok a.0) nodes a.2 in
    let same : a.0 ≡ nodes = done_is a.0 nodes b.1 in
    linked package_at package_node package_key (λ n. n.next) PackageMap map nodes
    (nodes_ok PackageMap (length map.file) (nodes_in package_at map) nodes (a.1 ∙ b.1))
    (ap (λ (ns : List Package). link_fault PackageMap map (links ns)) (sym same) ∙ b.0)

flag_nodes : (map : OpenMap) (nodes : List Flag) → flag_part map ≡ Ok nodes → Linked flag_at flag_node flag_node_key (λ n. n.next) map nodes
unfolding flag_part
flag_nodes map nodes e =
    let links : List Flag → List Link = λ ns. links_from flag_node flag_node_key (λ n. n.next) map.first_node ns in
    let a = bind_ok (nodes_of FlagMap (length map.file) (nodes_in flag_at map)) (λ ns. unless (link_fault FlagMap map (links ns)) (Ok ns)) nodes e in
    let b = unless_ok (link_fault FlagMap map (links a.0)) (Ok a.0) nodes a.2 in
    let same : a.0 ≡ nodes = done_is a.0 nodes b.1 in
    linked flag_at flag_node flag_node_key (λ n. n.next) FlagMap map nodes
    (nodes_ok FlagMap (length map.file) (nodes_in flag_at map) nodes (a.1 ∙ b.1))
    (ap (λ (ns : List Flag). link_fault FlagMap map (links ns)) (sym same) ∙ b.0)

-- ---- numbers that agree

test_is : (a b : ℕ) → not (eqb a b) ≡ false → a ≡ b
test_is a b e = grind (arith, nat_tests)

counts_agree : (opened : Opened) → count_fault opened ≡ None → (opened.values.count ≡ opened.flag_map.count) × (opened.infos.count ≡ opened.flag_map.count)
counts_agree opened e =
    go (not (eqb opened.values.count opened.flag_map.count)) (not (eqb opened.infos.count opened.flag_map.count)) refl refl e
  where
    go : (a b : Bool) → not (eqb opened.values.count opened.flag_map.count) ≡ a → not (eqb opened.infos.count opened.flag_map.count) ≡ b
        → cond a (Some (Disagree Count opened.values.count opened.flag_map.count)) (cond b (Some (Disagree Count opened.infos.count opened.flag_map.count)) None) ≡ None
        → (opened.values.count ≡ opened.flag_map.count) × (opened.infos.count ≡ opened.flag_map.count)
    go true b p q f = absurd cc
    go false true p q f = absurd cc
    go false false p q f = (test_is _ _ p, test_is _ _ q)

turned : (b : Bool) → not b ≡ false → b ≡ true
turned true e = refl
turned false e = cc

-- ---- the whole set

-- what holds of four open files in which no fault stands
pub record Sound (opened : Opened) (packages : List Package) (flags : List Flag) : Type 0 where
  pub package_nodes : Linked package_at package_node package_key (λ n. n.next) opened.package_map packages
  pub flag_nodes : Linked flag_at flag_node flag_node_key (λ n. n.next) opened.flag_map flags
  pub packages_are : packages_in opened ≡ packages
  pub flags_are : flags_in opened ≡ flags
  pub ids : (k : ℕ) → k < length packages → list_any (λ node. eqb node.id k) packages ≡ true
  pub values : opened.values.count ≡ opened.flag_map.count
  pub infos : opened.infos.count ≡ opened.flag_map.count
  pub known : stray_id (length packages) flags ≡ None
  pub indexes : (k : ℕ) → k < length flags → having (map (index_of packages) flags) k ≡ 1

agreed : (opened : Opened) (packages : List Package) (flags : List Flag) → package_part opened.package_map ≡ Ok packages → flag_part opened.flag_map ≡ Ok flags → disagreement opened packages flags ≡ None → Sound opened packages flags
agreed opened packages flags packages_so flags_so none =
    let p = package_nodes opened.package_map packages packages_so in
    let f = flag_nodes opened.flag_map flags flags_so in
    let count = length packages in
    let indexes = map (index_of packages) flags in
    let a = neither (container_fault opened) _ none in
    let b = neither (id_fault packages) _ a.1 in
    let c = neither (count_fault opened) _ b.1 in
    let d = neither (package_fault count flags) _ c.1 in
    let e = neither (index_fault indexes) _ d.1 in
    let counts = counts_agree opened c.0 in
    let id_least = unmapped (λ (k : ℕ). Disagree Id k count) (least (λ k. not (list_any (λ (node : Package). eqb node.id k) packages)) 0 count) b.0 in
    let index_least = unmapped (λ (k : ℕ). Disagree Index k (having indexes k)) (least (λ k. not (eqb (having indexes k) 1)) 0 (length indexes)) e.0 in
    record {
      package_nodes = p;
      flag_nodes = f;
      packages_are = ap nodes_or_none p.read_so;
      flags_are = ap nodes_or_none f.read_so;
      ids = λ k lt. turned _ (least-none _ 0 count id_least k (omega arith) (omega arith));
      values = counts.0;
      infos = counts.1;
      known = unmapped (λ (id : ℕ). Disagree on.Package id count) (stray_id count flags) d.0;
      indexes = λ k lt. let length_is = length-map flags (index_of packages) in test_is _ _ (least-none _ 0 (length indexes) index_least k (omega arith) (omega arith));
    }

pub sound : (opened : Opened) → HasNoFault opened → Sound opened (packages_in opened) (flags_in opened)
unfolding checked checked_files
sound opened none =
    let purpose = none.0 in
    let a = bind_ok (opened_set (files_in opened)) (checked_files purpose) opened none.1 in
    let b = bind_ok (package_part a.0.package_map) (λ packages. flag_part a.0.flag_map >>= λ flags. unless (bits_fault purpose a.0) (unless (disagreement a.0 packages flags) (Ok a.0))) opened a.2 in
    let c = bind_ok (flag_part a.0.flag_map) (λ flags. unless (bits_fault purpose a.0) (unless (disagreement a.0 b.0 flags) (Ok a.0))) opened b.2 in
    let d = unless_ok (bits_fault purpose a.0) (unless (disagreement a.0 b.0 c.0) (Ok a.0)) opened c.2 in
    let e = unless_ok (disagreement a.0 b.0 c.0) (Ok a.0) opened d.1 in
    let same : a.0 ≡ opened = done_is a.0 opened e.1 in
    let s : Sound a.0 b.0 c.0 = agreed a.0 b.0 c.0 b.1 c.1 e.0 in
    let t : Sound a.0 (packages_in a.0) (flags_in a.0) = subst (λ (ps : List Package). Sound a.0 ps (flags_in a.0)) (sym s.packages_are) (subst (λ (fs : List Flag). Sound a.0 b.0 fs) (sym s.flags_are) s) in
    subst (λ (o : Opened). Sound o (packages_in o) (flags_in o)) same t
