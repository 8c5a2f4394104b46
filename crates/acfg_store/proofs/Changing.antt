-- What a commit leaves, and which files have to be so that containers lie in a directory with one changed.
use Rattle.std.proofs.Common.{◌≡◌, ◌⊎◌, ℕ, List, get_or, inl, inr, refl, sym, subst}
use Rattle.std.specs.Prelude.{Contains}
use Rattle.std.proofs.lemmas.List.{get_or_default}
use Rattle.std.proofs.lemmas.List.Elements.{All-contains}
use Rattle.acfg_device.specs.Account.{Account}
use Rattle.acfg_device.specs.Left.{IsEither, LeavesSince, SameBut}
use Rattle.acfg_device.specs.Panel.{Files}
use Rattle.acfg_store.specs.Commits.{ChangesOne, IsCommit, IsKept, IsLayout, IsEitherState, LeavesState}
use Rattle.acfg_store.specs.Names.{IsOfDirectory}
use Rattle.acfg_store.specs.Stands.{Entry, Holds, Lies, Stands, state_of}
use Rattle.acfg_store.proofs.Lying.{holds_frame, lies_frame}

-- a layout's files stand for its state
layout_stands : (files : Files) (dir : List ℕ) (entries : List Entry) → IsLayout files dir entries → Stands files dir (state_of entries)
layout_stands files dir entries is = record { entries = entries; state_is = refl; valid = is.valid; lies = is.lies }

pub commit_leaves : (dir : List ℕ) (entries later : List Entry) (spare : List ℕ → Type 0) (first new : Files) (spoken : List ℕ) (files : Files) (said : List ℕ)
    → IsCommit dir entries later spare first new → IsEither first spoken spare new files said → LeavesState first spoken dir (IsEitherState entries later) files said
commit_leaves dir entries later spare first new spoken files said is left = go left.left
  where
    go : SameBut spare first files ⊎ (files ≡ new) → LeavesState first spoken dir (IsEitherState entries later) files said
    go (inl same) = record {
      words = left.words;
      state = state_of entries;
      is_one = inl refl;
      stands = layout_stands files dir entries (record {
        lies = lies_frame first files dir entries (λ name used. same name (λ changed. is.free name changed used)) is.before.lies;
        valid = is.before.valid;
      });
      others = λ name foreign. same name (λ changed. foreign (is.own name changed));
    }
    go (inr same) = record {
      words = left.words;
      state = state_of later;
      is_one = inr refl;
      stands = subst (λ (files : Files). Stands files dir (state_of later)) (sym same) (layout_stands new dir later is.after);
      others = subst (SameBut (IsOfDirectory dir) first) (sym same) is.others;
    }

pub one_changes : (dir : List ℕ) (entries later : List Entry) (entry : Entry) (first new : Files) → Lies first dir entries → ChangesOne dir entries later entry first new → Lies new dir later
one_changes dir entries later entry first new lies change = record {
  listed = change.listed;
  lawful = change.lawful;
  each = λ k d within.
      let other = get_or later k d in
      held other (change.rest other (k, within, get_or_default later k other d within));
}
  where
    held : (other : Entry) → (other ≡ entry) ⊎ (Contains entries other × IsKept dir other first new) → Holds new dir other
    held other (inl same) = subst (Holds new dir) (sym same) change.holds
    held other (inr kept) = holds_frame first new dir other kept.1 (All-contains (Holds first dir) entries other lies.each kept.0)

-- what is left has less, and so it has more
pub leaves_more : (start end : Account) (Less More : Files → List ℕ → Type 0) → ((files : Files) (said : List ℕ) → Less files said → More files said) → LeavesSince start end Less → LeavesSince start end More
leaves_more start end Less More more cut = record { later = cut.later; each = λ files said left. more files said (cut.each files said left) }
