-- What a set loads as for a container: what a checked set lists makes the release that the container takes, and any
-- other set is refused.
use Rattle.std.proofs.Common.{◌≡◌, ℕ, ◌+◌, ◌^◌, ◌<◌, ◌≤◌, Bool, true, false, cond, List, [], ◌∷◌, map, length, Some, refl, sym, ap, ◌∙◌, subst, arith}
use Rattle.std.specs.Prelude.{Ok, if◌then◌else◌}
use Rattle.std.specs.FinMap.{contains_key, from_entries, len, len-empty, len-insert}
use Rattle.std.proofs.lemmas.Slice.Eq.{bytes_eq-Decides}
use Rattle.acfg_base.specs.declared.releases.Kind.{Kind}
use Rattle.acfg_base.specs.Release as base
use Rattle.acfg_base.specs.Release.{HasLawfulKeys, ReleaseMap, entries_of, key_cmp}
use Rattle.acfg_base.proofs.Keys.{key_total}
use Rattle.acfg_images.specs.declared.purpose.Use.TheVariants as purpose
use Rattle.acfg_images.specs.Faults.{Opened, checked, parts_in}
use Rattle.acfg_images.specs.Files as four
use Rattle.acfg_images.specs.Laws.{IsOneSet, release_of}
use Rattle.acfg_images.specs.Set.{IsSetOf, Listed, listed_key, listing, release_in}
use Rattle.acfg_images.proofs.Law.{checked_same, same_as_set}
use Rattle.acfg_model.specs.declared.requests.Loaded.TheVariants as loaded
use Rattle.acfg_model.specs.FlagStates as states
use Rattle.acfg_store.specs.declared.admitting.Listing.{Listing}
use Rattle.acfg_store.specs.declared.placed.Placed.{Placed}
use Rattle.acfg_store.specs.Admitted.{IsChecked, IsListing, incoming_of}
use Rattle.acfg_store.specs.Kept.{index_listed}
use Rattle.acfg_store.specs.Loading.{checked_loads}
use Rattle.acfg_store.specs.Placed.{AreFlagsOf, entry_at_row, index_of, state_row}
use Rattle.acfg_store.specs.Updated.{IsIncoming}
use Rattle.acfg_store.proofs.Holding.{release_same}
use Rattle.acfg_store.proofs.Numbering.{indexes_listed, one_release}
use Rattle.acfg_store.proofs.Placing.{flag_count}
use Rattle.sha2.specs.Sha256.{sha256}

abbrev facts : Listed → Kind × Bool
facts row = (row.kind, row.value)

one_more : (b : Bool) (n : ℕ) → cond b n (n + 1) ≤ n + 1
one_more true n = omega arith
one_more false n = omega arith

few : (rows : List Listed) → len (from_entries {R = key_cmp} (map (λ (row : Listed). (listed_key row, facts row)) rows)) ≤ length rows
few [] = omega (arith, len-empty key_cmp (Kind × Bool))
few (row ∷ rows) =
    let old = from_entries {R = key_cmp} (map (λ (row : Listed). (listed_key row, facts row)) rows) in
    let more = len-insert key_total old (listed_key row) (facts row) in
    omega (arith, more, one_more (contains_key old (listed_key row)) (len old), few rows)

pub checked_set : (set : four.Files) (opened : Opened) → checked purpose.Release set ≡ Ok opened → IsOneSet set purpose.Release opened → IsChecked set opened
checked_set set opened passes one =
    let parts : parts_in opened ≡ one.is_set.parts = same_as_set purpose.Release set one.is_set.parts one.is_set.files_are opened passes in
    record { passes = passes; is_set = subst (IsSetOf set purpose.Release) (sym parts) one.is_set.files_are }

module _ (set : four.Files) (opened : Opened) (is : IsChecked set opened) where
  counted : opened.flag_map.count ≡ length (listing (parts_in opened))
  counted = flag_count opened (purpose.Release, subst (λ (s : four.Files). checked purpose.Release s ≡ Ok opened) (sym (checked_same purpose.Release set opened is.passes)) is.passes)

  -- what is listed of it is a release of its container
  pub listed_release : (flags : List Placed) → AreFlagsOf (parts_in opened) flags → (lists : Listing) → lists.digest ≡ sha256 (four.joined set) → lists.release ≡ base.release_of (map entry_at_row flags) → HasLawfulKeys (release_of opened)
      → lists.indexes.items ≡ map index_of flags → lists.count ≡ opened.flag_map.count → lists.count < 2 ^ 32 → IsIncoming opened.package_map.container (incoming_of set lists)
  listed_release flags are lists digest made keys indexes count below =
      let rows : release_of opened ≡ states.release_in (map (state_row opened.values opened.infos []) flags) = release_same (parts_in opened) flags are opened.values opened.infos [] in
      let release : lists.release ≡ release_of opened = made ∙ sym (rows ∙ one_release (parts_in opened) flags are opened.values opened.infos []) in
      record {
        parts = parts_in opened;
        is_set = is.is_set;
        container_is = refl;
        release_is = sym release;
        digest_is = digest;
        keys = subst HasLawfulKeys (sym release) keys;
        fits = subst (λ (r : ReleaseMap). len r < 2 ^ 32) (sym release)
            (let most : len (release_of opened) ≤ length (listing (parts_in opened)) = few (listing (parts_in opened)) in
            let size : lists.count ≡ length (listing (parts_in opened)) = count ∙ counted in
            omega (arith, most, size, below));
        indexes_are = subst (λ (r : ReleaseMap). map (λ (index : ℕ). Some index) lists.indexes.items ≡ map (index_listed (parts_in opened)) (entries_of r))
            (sym (release_same (parts_in opened) flags are opened.values opened.infos []) ∙ sym release)
            (indexes_listed (parts_in opened) flags are opened.values opened.infos [] (map (state_row opened.values opened.infos []) flags) refl lists.indexes.items indexes);
        count_is = count ∙ counted;
      }

  -- and the set loads as that
  pub lists_loaded : (name : List ℕ) → opened.package_map.container ≡ name → (lists : Listing) → IsIncoming opened.package_map.container (incoming_of set lists) → IsListing name set (Ok lists)
  lists_loaded name same lists incoming =
      let parts : parts_in opened ≡ incoming.parts = same_as_set purpose.Release set incoming.parts incoming.is_set opened is.passes in
      let release : release_of opened ≡ lists.release = ap release_in parts ∙ incoming.release_is in (
        subst (λ (n : List ℕ). IsIncoming n (incoming_of set lists)) same incoming,
        ap (checked_loads name set) is.passes
            ∙ ap (λ (b : Bool). if b then loaded.Release (sha256 (four.joined set)) (release_of opened) else loaded.Disagree) ((bytes_eq-Decides opened.package_map.container name).1 same)
            ∙ (λ i. loaded.Release (sym incoming.digest_is i) (release i)),
      )
