-- One line answered on a store: what its request makes, and what a cut leaves of it.
use Rattle.std.proofs.Common.{◌≡◌, ℕ, List, [], ◌∷◌, ◌++◌, Option, Some, Result, Err, refl, sym, ap, subst, ◌∙◌, inl, inr, arith, append_assoc}
use Rattle.std.proofs.lemmas.List.{append-nil}
use Rattle.acfg_device.specs.Account.{Account, moved_on}
use Rattle.acfg_device.specs.Calls.{after_say}
use Rattle.acfg_device.specs.Disk.{IsSettled, told}
use Rattle.acfg_device.specs.Left.{LeavesSince, SameBut}
use Rattle.acfg_device.specs.Only.{OnlySyncs}
use Rattle.acfg_device.specs.Outcomes.{MayHaveSaid}
use Rattle.acfg_device.specs.Panel.{Files}
use Rattle.acfg_device.specs.declared.panel.Panel.{Ghosts}
use Rattle.acfg_device.proofs.Cuts.{settled_leaves}
use Rattle.acfg_device.proofs.Moments.{says_on, stays, weakened}
use Rattle.acfg_device.proofs.OnlyThen.{rose_then}
use Rattle.acfg_device.proofs.Runs.{at_rest}
use Rattle.acfg_images.specs.declared.fault.FileType.{FileType}
use Rattle.acfg_images.specs.declared.fault.FileType.TheVariants.{PackageMap, FlagMap, FlagVal, FlagInfo}
use Rattle.acfg_model.specs.declared.requests.Reply.{Reply}
use Rattle.acfg_model.specs.declared.requests.Request.{Request}
use Rattle.acfg_model.specs.declared.requests.Request.TheVariants.{Update, Server, Local, Unset, Boot, Get}
use Rattle.acfg_model.specs.State.{State}
use Rattle.acfg_model.specs.Step.{step}
use Rattle.acfg_daemon.specs.declared.fault.DaemonFault.TheVariants.{Device}
use Rattle.acfg_daemon.specs.Lines.{Event, Complete, TooLong, BadLine, IsEvent}
use Rattle.acfg_daemon.specs.Playing.{IsAtLine, IsTaken, LeavesLine, ServesTo, fault_of_store}
use Rattle.acfg_daemon.specs.Replayed.{ImageLoads, IsAnswering, IsShort, OnlyAnswers}
use Rattle.acfg_daemon.specs.Replies.{reply_line}
use Rattle.acfg_daemon.specs.Requests.{Spells}
use Rattle.acfg_daemon.specs.Transcript.{BeginsLine, EventSays, LineSays, Serves}
use Rattle.acfg_store.specs.declared.store_fault.StoreFault.{StoreFault}
use Rattle.acfg_store.specs.declared.store_fault.StoreFault.TheVariants as store
use Rattle.acfg_store.specs.Applied.{IsOpen, state_in}
use Rattle.acfg_store.specs.Commits.{LeavesState}
use Rattle.acfg_store.specs.Loading.{image_load, set_loads, set_of}
use Rattle.acfg_store.specs.Names.{IsOfDirectory, source_path}
use Rattle.acfg_store.specs.Request.{LeavesOnTheWay, state_after}
use Rattle.acfg_store.specs.Stands.{Stands}
use Rattle.acfg_store.specs.Store.{StoreView}
use Rattle.acfg_store.proofs.Apart.{source_apart}

-- ---- what is loaded is that of the start: an update reads no file of the directory

set_same : (a b c d e f g h : Option (List ℕ)) → a ≡ e → b ≡ f → c ≡ g → d ≡ h → set_of a b c d ≡ set_of e f g h
set_same a b c d e f g h p q r s = λ i. set_of (p i) (q i) (r i) (s i)

module _ (first now : Files) (dir : List ℕ) (same : SameBut (IsOfDirectory dir) first now) where
  source_same : (folder : List ℕ) (file : FileType) → now (source_path folder file) ≡ first (source_path folder file)
  source_same folder file = same (source_path folder file) (λ is. source_apart folder dir is.container file is.part is.spelled)

  load_same : (request : Request) → image_load now request ≡ image_load first request
  load_same (Update name folder) = ap (λ found. Some (set_loads name found)) (set_same _ _ _ _ _ _ _ _ (source_same folder PackageMap) (source_same folder FlagMap) (source_same folder FlagVal) (source_same folder FlagInfo))
  load_same (Server name «package» flag value) = refl
  load_same (Local name «package» flag value now) = refl
  load_same (Unset name «package» flag now) = refl
  load_same Boot = refl
  load_same (Get name «package» flag) = refl

  serves_same : (state : State) (text : List ℕ) (after : State) (reply : Reply) → Serves (ImageLoads now) state text after reply → Serves (ImageLoads first) state text after reply
  serves_same state text after reply (inl (request, loaded, spells, is, steps)) = inl (request, loaded, spells, is ∙ load_same request, steps)
  serves_same state text after reply (inr none) = inr none

  event_same : (state : State) (event : Event) (after : State) (said : List ℕ) → EventSays (ImageLoads now) state event after said → EventSays (ImageLoads first) state event after said
  event_same state (Complete client text) after said (reply, serves, is) = (reply, serves_same state text after reply serves, is)
  event_same state (TooLong client) after said says = says
  event_same state (BadLine number) after said says = says

  pub says_same : (state : State) (number : ℕ) (line : List ℕ) (after : State) (said : List ℕ) → LineSays (ImageLoads now) state number line after said → LineSays (ImageLoads first) state number line after said
  says_same state number line after said (event, is, says) = (event, is, event_same state event after said says)

  pub begins_same : (state : State) (number : ℕ) (line part : List ℕ) → BeginsLine (ImageLoads now) state number line part → BeginsLine (ImageLoads first) state number line part
  begins_same state number line part (inl none) = inl none
  begins_same state number line part (inr (after, said, rest, says, is)) = inr (after, said, rest, says_same state number line after said says, is)

  pub answering_same : (state : State) (number : ℕ) (line part : List ℕ) (left : State) → IsAnswering (ImageLoads now) state number line part left → IsAnswering (ImageLoads first) state number line part left
  answering_same state number line part left was = record { after = was.after; said = was.said; says = says_same state number line was.after was.said was.says; short = was.short; between = was.between }

-- ---- an open store's files stand for its state

pub open_stands : (files : Files) (store : StoreView) → IsOpen files store → Stands files store.dir (state_in store)
open_stands files store opened = record { entries = store.entries; state_is = refl; valid = opened.layout.valid; lies = opened.layout.lies }

-- ---- what a cut leaves

-- where nothing has changed yet, of an open store
pub rests : (account : Account) (first : Files) (spoken : List ℕ) (store : StoreView) (One : State → Type 0) → first ≡ told account.now → spoken ≡ account.now.said → IsSettled account.now → IsOpen first store → One (state_in store)
    → LeavesSince account account (LeavesState first spoken store.dir One)
rests account first spoken store One files said settled opened one = at_rest (LeavesState first spoken store.dir One) first spoken files said settled
    (record { words = refl; state = state_in store; is_one = one; stands = open_stands first store opened; others = λ name apart. refl })

-- a request that was read is on its way
pub way_serves : (start end : Account) (first : Files) (spoken : List ℕ) (store : StoreView) (request : Request) (text : List ℕ) → Spells text request → LeavesSince start end (LeavesOnTheWay first spoken store request)
    → LeavesSince start end (LeavesState first spoken store.dir (ServesTo first (state_in store) text))
way_serves start end first spoken store request text spells cut = weakened (LeavesState first spoken store.dir (ServesTo first (state_in store) text)) (LeavesOnTheWay first spoken store request) start end cut (λ left said was. record {
  words = was.words;
  state = was.state;
  is_one = inr (record {
    after = state_after first store request;
    reply = (step (state_in store) request (image_load first request)).1;
    serves = inl (request, image_load first request, spells, refl, refl);
    between = was.is_one;
  });
  stands = was.stands;
  others = was.others;
})

some_front : (front : List ℕ) (byte : ℕ) (behind : List ℕ) → IsShort [] (front ++ byte ∷ behind)
some_front [] byte behind = (byte, behind, refl)
some_front (first ∷ front) byte behind = (first, front ++ byte ∷ behind, refl)

-- no reply is empty
pub short_reply : (client : ℕ) (reply : Reply) → IsShort [] (reply_line client reply)
short_reply client reply = some_front _ _ _

at_reply : (first : Files) (state : State) (number : ℕ) (line : List ℕ) (client : ℕ) (text : List ℕ) (left : State) → IsEvent number line (Complete client text) → ServesTo first state text left → IsAtLine first state number line [] left
at_reply first state number line client text left event (inl same) = inl (refl, same)
at_reply first state number line client text left event (inr way) = inr (inl (record {
  after = way.after;
  said = reply_line client way.reply;
  says = (Complete client text, event, (way.reply, way.serves, refl));
  short = short_reply client way.reply;
  between = way.between;
}))

-- a request's line is on its way
pub serves_line : (start end : Account) (first : Files) (spoken : List ℕ) (store : StoreView) (number : ℕ) (line : List ℕ) (client : ℕ) (text : List ℕ) → IsEvent number line (Complete client text)
    → LeavesSince start end (LeavesState first spoken store.dir (ServesTo first (state_in store) text)) → LeavesSince start end (LeavesLine first spoken store number line)
serves_line start end first spoken store number line client text event cut = weakened (LeavesLine first spoken store number line) (LeavesState first spoken store.dir (ServesTo first (state_in store) text)) start end cut (λ left said was. record {
  part = [];
  words = was.words ∙ sym (append-nil spoken);
  left = was.state;
  at = at_reply first (state_in store) number line client text was.state event was.is_one;
  stands = was.stands;
  others = was.others;
})

-- a line whose request isn't begun
pub line_rests : (account : Account) (first : Files) (spoken : List ℕ) (store : StoreView) (number : ℕ) (line : List ℕ) → first ≡ told account.now → spoken ≡ account.now.said → IsSettled account.now → IsOpen first store
    → LeavesSince account account (LeavesLine first spoken store number line)
line_rests account first spoken store number line files said settled opened = at_rest (LeavesLine first spoken store number line) first spoken files said settled
    (record { part = []; words = sym (append-nil spoken); left = state_in store; at = inl (refl, refl); stands = open_stands first store opened; others = λ name apart. refl })

-- what is said of an answer is a part of it, or all
at_said : (first : Files) (store made : StoreView) (number : ℕ) (line text part tail : List ℕ) → IsTaken first store number line made text → text ≡ part ++ tail → IsAtLine first (state_in store) number line part (state_in made)
at_said first store made number line text part [] taken is =
    inr (inr (subst (LineSays (ImageLoads first) (state_in store) number line (state_in made)) (is ∙ append-nil part) taken.says))
at_said first store made number line text part (byte ∷ more) taken is = inr (inl (record {
  after = state_in made;
  said = text;
  says = taken.says;
  short = (byte, more, is);
  between = inr (λ name. record { same = refl; boot = inr refl });
}))

-- an answer is said, or a first part of it
pub line_said : (start middle end : Account) (first now : Files) (spoken : List ℕ) (store made : StoreView) (number : ℕ) (line text part rest : List ℕ)
    → LeavesSince start middle (LeavesLine first spoken store number line) → IsSettled middle.now → now ≡ told middle.now → spoken ≡ middle.now.said
    → IsTaken first store number line made text → IsOpen now made → SameBut (IsOfDirectory store.dir) first now
    → text ≡ part ++ rest → end ≡ moved_on middle (after_say middle.now part) part → LeavesSince start end (LeavesLine first spoken store number line)
line_said start middle end first now spoken store made number line text part rest so_far settled files_are said_is taken opened others split is =
    says_on (LeavesLine first spoken store number line) start middle end part so_far is (λ files said before leaves says.
    let was = settled_leaves middle.now files before settled leaves in
    let same : files ≡ now = was.0 ∙ sym files_are in
    record {
      part = says.0;
      words = says.3 ∙ ap (λ (s : List ℕ). s ++ says.0) (was.1 ∙ sym said_is);
      left = state_in made;
      at = at_said first store made number line text says.0 (says.1 ++ rest) taken (split ∙ ap (λ (s : List ℕ). s ++ rest) says.2 ∙ append_assoc says.0 says.1 rest);
      stands = subst (λ (f : Files). Stands f store.dir (state_in made)) (sym same) (subst (λ (d : List ℕ). Stands now d (state_in made)) taken.dir (open_stands now made opened));
      others = subst (λ (f : Files). SameBut (IsOfDirectory store.dir) first f) (sym same) others;
    })

-- it may be said in part
pub line_may : (start middle end : Account) (first now : Files) (spoken : List ℕ) (store made : StoreView) (number : ℕ) (line text : List ℕ)
    → LeavesSince start middle (LeavesLine first spoken store number line) → IsSettled middle.now → now ≡ told middle.now → spoken ≡ middle.now.said
    → IsTaken first store number line made text → IsOpen now made → SameBut (IsOfDirectory store.dir) first now
    → (bytes : List ℕ) → text ≡ bytes → MayHaveSaid middle end bytes → LeavesSince start end (LeavesLine first spoken store number line)
line_may start middle end first now spoken store made number line text so_far settled files_are said_is taken opened others bytes same (inl none) = stays (LeavesLine first spoken store number line) start middle end so_far none
line_may start middle end first now spoken store made number line text so_far settled files_are said_is taken opened others bytes same (inr (part, rest, split, is)) =
    line_said start middle end first now spoken store made number line text part rest so_far settled files_are said_is taken opened others (same ∙ split) is

-- the outside's failure in a store is that of the script
pub device_of : {A : Type 0} (fault : StoreFault) → ◌≡◌ {A = Result A StoreFault} (Err fault) (Err store.Device) → fault_of_store fault ≡ Device
device_of (store.Damaged name) is = cc
device_of store.Device is = refl
device_of store.OutOfMemory is = cc

-- ---- what a line does to a device at most

module _ {P : Type 0} {panel : Ghosts P} (changed : List ℕ → Type 0) {first second third : P} where
  -- a function that answers lines, behind one that does
  pub answers_then : {one two fails : Type 0} → OnlyAnswers panel changed first second one → OnlyAnswers panel changed second third two → (fails → two) → OnlyAnswers panel changed first third fails
  answers_then early late is = record {
    others = λ name apart. late.others name apart ∙ early.others name apart;
    words = λ told.
        let before = early.words told in
        let after = late.words told in
        (before.0 ++ after.0, after.1 ∙ ap (λ (said : List ℕ). said ++ after.0) before.1 ∙ append_assoc (panel.said first) before.0 after.0);
    count = omega (arith, early.count, late.count);
    failed = λ fault. rose_then _ _ _ early.count late.count (late.failed (is fault));
  }

module _ {P : Type 0} {panel : Ghosts P} (changed : List ℕ → Type 0) {first second : P} where
  -- who only syncs changes no file
  pub syncs_answers : {one fails : Type 0} → OnlySyncs panel first second one → (fails → one) → OnlyAnswers panel changed first second fails
  syncs_answers syncs is = record {
    others = λ name apart. ap (λ (f : Files). f name) syncs.files;
    words = λ told. ([], syncs.said ∙ sym (append-nil (panel.said first)));
    count = syncs.count;
    failed = λ fault. syncs.failed (is fault);
  }
