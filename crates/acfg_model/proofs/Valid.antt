-- Each change of a container and of the state keeps it valid.
use Rattle.std.proofs.Common.{◌≡◌, ℕ, Bool, true, false, cond, ◌||◌, List, Option, Some, None, is_some, IsTrue, option_map, option_and_then, if◌then◌else◌, refl, sym, ap, subst, ◌∙◌, true≢false}
use Rattle.std.specs.Option.{option_map_or}
use Rattle.std.specs.Ordering.{eq_by_cmp}
use Rattle.std.specs.FinMap.{FinMap, get, insert, remove, contains_key, retain_keys, get-insert, get-remove, get-empty, get-retain_keys}
use Rattle.acfg_base.specs.declared.releases.Kind.{Kind}
use Rattle.acfg_base.specs.declared.releases.Kind.TheVariants.{ReadWrite, ReadOnly, Fixed}
use Rattle.acfg_base.specs.Release.{Key, key_cmp, ReleaseMap, HasLawfulKeys, IsKey, is_read_write}
use Rattle.acfg_base.proofs.Rows.{Equal_of}
use Rattle.acfg_base.proofs.Keys.{key_total, key_exact}
use Rattle.acfg_base.proofs.Maps.{get-map_values}
use Rattle.acfg_model.specs.State.{BootedFlag, BootMap, Container, is_writable, pick, IsDigest, IsValidContainer}
use Rattle.acfg_model.specs.declared.changes.Change.{Change}
use Rattle.acfg_model.specs.declared.changes.Change.TheVariants.{SetServer, SetLocal, UnsetLocal}
use Rattle.acfg_model.specs.Step.{IsRenewable, set_refusal, change_refusal, changed, entry_refusal, boot_map, booted, booted_flag_of, renewed, renewed_flag, with_flag, with_release, fresh}
use Rattle.acfg_model.specs.declared.refusals.Refusal.TheVariants.{NotBooted}

some_in : {X : Type 0} {x y : X} → Some x ≡ Some y → x ≡ y
some_in e = cc

-- what isn't refused may be written
writable_facts : (facts : Option (Kind × Bool)) → set_refusal facts ≡ None → option_map_or (λ f. is_read_write f.0) facts false ≡ true
writable_facts None e = cc
writable_facts (Some (ReadWrite, value)) e = refl
writable_facts (Some (ReadOnly, value)) e = cc
writable_facts (Some (Fixed, value)) e = cc

pub writable_from_no_refusal : (release : ReleaseMap) (key : Key) → set_refusal (get release key) ≡ None → IsTrue (is_writable release key)
writable_from_no_refusal release key e = writable_facts (get release key) e

-- a map that holds a value at one key more
put_at : {X : Type 0} (P : Key → Type 0) (m : FinMap key_cmp X) (key : Key) (value : X) → P key → ((k : Key) (v : X) → get m k ≡ Some v → P k) → (k : Key) (v : X) → get (insert m key value) k ≡ Some v → P k
put_at {X} P m key value here all k v e =
    elim (eq_by_cmp key_cmp k key) as (λ b. eq_by_cmp key_cmp k key ≡ b → cond b (Some value) (get m k) ≡ Some v → P k) [
      | true ↦ λ t is. subst P (sym (key_exact k key (Equal_of _ t))) here
      | false ↦ λ t is. all k v is
    ] refl (sym (get-insert key_total m key value k) ∙ e)

placed_at : {X : Type 0} (P : Key → X → Type 0) (m : FinMap key_cmp X) (key : Key) (value : X) → P key value → ((k : Key) (v : X) → get m k ≡ Some v → P k v) → (k : Key) (v : X) → get (insert m key value) k ≡ Some v → P k v
placed_at {X} P m key value here all k v e =
    elim (eq_by_cmp key_cmp k key) as (λ b. eq_by_cmp key_cmp k key ≡ b → cond b (Some value) (get m k) ≡ Some v → P k v) [
      | true ↦ λ t is. subst (λ (p : Key × X). P p.0 p.1) (λ i. (sym (key_exact k key (Equal_of _ t)) i, some_in is i)) here
      | false ↦ λ t is. all k v is
    ] refl (sym (get-insert key_total m key value k) ∙ e)

-- what isn't refused is read-write
may_take : (was : BootedFlag) → entry_refusal (Some was) ≡ None → is_read_write was.kind ≡ true
may_take was goes = elim (is_read_write was.kind) as (λ b. (if b then None else Some NotBooted) ≡ None → b ≡ true) [
  | true ↦ λ _. refl
  | false ↦ λ e. cc
] goes

-- and at one key less
taken_at : {X : Type 0} (P : Key → Type 0) (m : FinMap key_cmp X) (key : Key) → ((k : Key) (v : X) → get m k ≡ Some v → P k) → (k : Key) (v : X) → get (remove m key) k ≡ Some v → P k
taken_at {X} P m key all k v e =
    elim (eq_by_cmp key_cmp k key) as (λ b. cond b None (get m k) ≡ Some v → P k) [
      | true ↦ λ is. cc
      | false ↦ λ is. all k v is
    ] (sym (get-remove key_total m key k) ∙ e)

-- and only at keys that pass
kept_at : {X : Type 0} (m : FinMap key_cmp X) (p : Key → Bool) (k : Key) (v : X) → get (retain_keys m p) k ≡ Some v → IsTrue (p k)
kept_at {X} m p k v e =
    elim (p k) as (λ b. cond b (get m k) None ≡ Some v → b ≡ true) [
      | true ↦ λ _. refl
      | false ↦ λ is. cc
    ] (sym (get-retain_keys m p k (λ x t. ap p (sym (key_exact k x t)))) ∙ e)

module _ (c : Container) (valid : IsValidContainer c) where
  pub IsValidContainer-server : (key : Key) (value : Bool) → IsTrue (is_writable c.release key) → IsValidContainer (record c { server = insert c.server key value })
  IsValidContainer-server key value may = record {
    digest = valid.digest;
    keys = valid.keys;
    booted = valid.booted;
    server = put_at (λ k. IsTrue (is_writable c.release k)) c.server key value may valid.server;
    local = valid.local;
    noted = valid.noted;
  }

  pub IsValidContainer-local : (key : Key) (value : Bool) → IsTrue (is_writable c.release key) → IsValidContainer (record c { local = insert c.local key value })
  IsValidContainer-local key value may = record {
    digest = valid.digest;
    keys = valid.keys;
    booted = valid.booted;
    server = valid.server;
    local = put_at (λ k. IsTrue (is_writable c.release k)) c.local key value may valid.local;
    noted = valid.noted;
  }

  pub IsValidContainer-unset : (key : Key) → IsValidContainer (record c { local = remove c.local key })
  IsValidContainer-unset key = record {
    digest = valid.digest;
    keys = valid.keys;
    booted = valid.booted;
    server = valid.server;
    local = taken_at (λ k. IsTrue (is_writable c.release k)) c.local key valid.local;
    noted = valid.noted;
  }

  pub IsValidContainer-changed : (change : Change) → change_refusal c.release c.local change ≡ None → IsValidContainer (changed c change)
  IsValidContainer-changed (SetServer key value) may = IsValidContainer-server key value (writable_from_no_refusal c.release key may)
  IsValidContainer-changed (SetLocal key value) may = IsValidContainer-local key value (writable_from_no_refusal c.release key may)
  IsValidContainer-changed (UnsetLocal key) may = IsValidContainer-unset key

  pub IsValidContainer-with_release : (digest : List ℕ) (release : ReleaseMap) → IsDigest digest → HasLawfulKeys release → IsValidContainer (with_release c digest release)
  IsValidContainer-with_release digest release sized keys = record {
    digest = sized;
    keys = keys;
    booted = valid.booted;
    server = λ k v e. kept_at c.server (is_writable release) k v e;
    local = λ k v e. kept_at c.local (is_writable release) k v e;
    noted = valid.noted;
  }

  -- a flag that is noted had an override, so it is read-write
  noted_at : (key : Key) (facts : Kind × Bool) → get c.release key ≡ Some facts → IsTrue (contains_key c.server key || contains_key c.local key) → IsTrue (is_read_write facts.0)
  noted_at key facts at noted =
      let may : IsTrue (is_writable c.release key) → IsTrue (is_read_write facts.0) = λ h. ap (λ f. option_map_or (λ f. is_read_write f.0) f false) (sym at) ∙ h in
      elim (get c.server key) as (λ s. get c.server key ≡ s → (is_some s || contains_key c.local key) ≡ true → IsTrue (is_read_write facts.0)) [
        | Some v ↦ λ is _. may (valid.server key v is)
        | None ↦ λ _ noted. elim (get c.local key) as (λ l. get c.local key ≡ l → is_some l ≡ true → IsTrue (is_read_write facts.0)) [
          | Some v ↦ λ is _. may (valid.local key v is)
          | None ↦ λ _ none. absurd (true≢false (sym none))
        ] refl noted
      ] refl noted

  pub IsValidContainer-booted : IsValidContainer (booted c)
  IsValidContainer-booted = record {
    digest = valid.digest;
    keys = valid.keys;
    booted = λ boot key flag is found. booted_key boot key flag (option_inside is) found;
    server = valid.server;
    local = valid.local;
    noted = λ boot key flag is found noted. booted_note boot key flag (option_inside is) found noted;
  }
    where
      option_inside : {X : Type 0} {x y : X} → Some x ≡ Some y → x ≡ y
      option_inside e = cc

      flag_of : Key → Kind × Bool → BootedFlag
      flag_of = λ key facts. record { kind = facts.0; value = pick c key facts.1; server = contains_key c.server key; local = contains_key c.local key }

      named : (key : Key) (flag : BootedFlag) (facts : Option (Kind × Bool)) → get c.release key ≡ facts → option_map (flag_of key) facts ≡ Some flag → IsKey key
      named key flag None at e = cc
      named key flag (Some facts) at e = valid.keys.each key facts at

      booted_key : (boot : BootMap) (key : Key) (flag : BootedFlag) → boot_map c ≡ boot → get boot key ≡ Some flag → IsKey key
      booted_key boot key flag is found = named key flag (get c.release key) refl (sym (get-map_values key_total key_exact flag_of c.release key) ∙ ap (λ m. get m key) is ∙ found)

      by_facts : (key : Key) (flag : BootedFlag) (facts : Option (Kind × Bool)) → get c.release key ≡ facts → option_map (flag_of key) facts ≡ Some flag → IsTrue (flag.server || flag.local) → IsTrue (is_read_write flag.kind)
      by_facts key flag None at e noted = cc
      by_facts key flag (Some facts) at e noted =
          let same : flag_of key facts ≡ flag = option_inside e in
          ap (λ f. is_read_write f.kind) (sym same) ∙ noted_at key facts at (ap (λ f. f.server || f.local) same ∙ noted)

      booted_note : (boot : BootMap) (key : Key) (flag : BootedFlag) → boot_map c ≡ boot → get boot key ≡ Some flag → IsTrue (flag.server || flag.local) → IsTrue (is_read_write flag.kind)
      booted_note boot key flag is found noted =
          by_facts key flag (get c.release key) refl (sym (get-map_values key_total key_exact flag_of c.release key) ∙ ap (λ m. get m key) is ∙ found) noted

pub IsValidContainer-fresh : (digest : List ℕ) (release : ReleaseMap) → IsDigest digest → HasLawfulKeys release → IsValidContainer (fresh digest release)
IsValidContainer-fresh digest release sized keys = record {
  digest = sized;
  keys = keys;
  booted = λ boot key flag is. cc;
  server = λ k v e. absurd (none_is_some (sym (get-empty key_cmp k) ∙ e));
  local = λ k v e. absurd (none_is_some (sym (get-empty key_cmp k) ∙ e));
  noted = λ boot key flag is. cc;
}
  where
    none_is_some : {X : Type 0} {x : X} → None ≡ Some x → ⊥
    none_is_some e = cc

-- a boot copy with one flag's entry anew is as lawful as before
module _ (c : Container) (valid : IsValidContainer c) (key : Key) where
  module _ (boot : BootMap) (is : c.boot ≡ Some boot) where
    entry_made : Option BootedFlag → Option (Kind × Bool) → Option BootedFlag
    entry_made entry facts = option_and_then (λ (was : BootedFlag). option_map (λ (f : Kind × Bool). record (booted_flag_of c key f) { kind = was.kind }) facts) entry

    -- an entry that keeps its kind, which is read-write
    takes : (was : BootedFlag) → get boot key ≡ Some was → is_read_write was.kind ≡ true → (new : BootedFlag) → new.kind ≡ was.kind → IsValidContainer (record c { boot = Some (insert boot key new) })
    takes was there may new same = record {
      digest = valid.digest;
      keys = valid.keys;
      booted = λ other k flag other_is found. placed_at (λ k flag. IsKey k) boot key new (valid.booted boot key was is there) (λ k flag at. valid.booted boot k flag is at) k flag
          (ap (λ (m : BootMap). get m k) (some_in other_is) ∙ found);
      server = valid.server;
      local = valid.local;
      noted = λ other k flag other_is found. placed_at (λ k flag. IsTrue (flag.server || flag.local) → IsTrue (is_read_write flag.kind)) boot key new
          (λ noted. ap is_read_write same ∙ may) (λ k flag at. valid.noted boot k flag is at) k flag
          (ap (λ (m : BootMap). get m k) (some_in other_is) ∙ found);
    }

    stays : IsValidContainer (record c { boot = Some boot })
    stays = subst (λ (b : Option BootMap). IsValidContainer (record c { boot = b })) is valid

    by_entry : (entry : Option BootedFlag) → get boot key ≡ entry → entry_refusal entry ≡ None → (facts : Option (Kind × Bool)) → IsValidContainer (record c { boot = Some (with_flag boot key (entry_made entry facts)) })
    unfolding entry_made
    by_entry None there goes facts = cc
    by_entry (Some was) there goes None = stays
    by_entry (Some was) there goes (Some facts) = takes was there (may_take was goes) (record (booted_flag_of c key facts) { kind = was.kind }) refl

    pub entry_renewed : entry_refusal (get boot key) ≡ None → IsValidContainer (record c { boot = Some (with_flag boot key (renewed_flag c key (get boot key))) })
    unfolding entry_made
    entry_renewed goes = by_entry (get boot key) refl goes (get c.release key)

  by_boot : (boot : Option BootMap) → c.boot ≡ boot → IsRenewable boot key → IsValidContainer (record c { boot = option_map (λ (m : BootMap). with_flag m key (renewed_flag c key (get m key))) boot })
  by_boot None is goes = subst (λ (b : Option BootMap). IsValidContainer (record c { boot = b })) is valid
  by_boot (Some boot) is goes = entry_renewed boot is goes

  pub IsValidContainer-renewed : IsRenewable c.boot key → IsValidContainer (renewed c key)
  IsValidContainer-renewed goes = by_boot c.boot refl goes
