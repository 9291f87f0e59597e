-- Lines by which a node's own record changes: they leave the records of the others.
use Rattle.std.specs.Prelude.{ℕ, ◌≡◌, ◌≢◌, ◌==◌, true, List, ◌∷◌, Option, None, Some, IfSome}
use Rattle.std.specs.List.{list_any}
use Rattle.std.proofs.Common.{refl, sym, ap, subst, ◌∙◌}
use Rattle.cl_base.specs.declared.panic.Panic.TheVariants as panic
use Rattle.cmm_attempt.specs.Attempts.{AttemptState}
use Rattle.cmm_member.specs.Records.{NodeRecord}
use Rattle.history.specs.Letters.{arrived, letter_of}
use Rattle.history.specs.Member.{installed_of}
use Rattle.history.specs.Moment.{Moment, Told}
use Rattle.history.specs.Records.{own_record, promises, record_of}
use Rattle.history.specs.Setting.{coordinator}
use Rattle.history.specs.Trace.{ack, base, down, installed, member, propose, saved, start}
use Rattle.membership_machine.specs.State.{Memberships}
use Rattle.node_model.specs.Seats.{record_of as kept_record}
use Rattle.node_model.specs.declared.node.Node.TheVariants.{Up}
use Rattle.node_model.specs.declared.node.UpNode.{UpNode}
use Rattle.refinement.specs.Doings.{Site, site}
use Rattle.refinement.specs.Runs.{Nodes}
use Rattle.refinement.specs.Ties.{Delivered}
use Rattle.status_report.specs.declared.entry.Entry.{Entry}
use Rattle.status_report.specs.declared.node_entry.DownCause.{DownCause}
use Rattle.status_report.specs.declared.node_entry.DownCause.TheVariants as cause
use Rattle.run_history.specs.Scenes.{Scene, telling}
use Rattle.run_messages.specs.records.Kept.{AreBytes, AttemptIn, AttemptKept, Goes, HandKept, Judged, SeatKept, SiteKept, has_told, shows_from}
use Rattle.run_messages.specs.records.Losses.{IsLoss}
use Rattle.run_messages.specs.records.Shown.{InstalledIn, IsOf, RecordIn, shown}
use Rattle.run_messages.specs.records.Sound.{AllSound, IsSound}
use Rattle.run_messages.proofs.records.Grow.{bytes_stay, hand_stays, heard_stays, site_stays}
use Rattle.run_messages.proofs.records.Sends.{if_not, if_so, is_same, not_same}

pub record Own (n : ℕ) (before : List Moment) (x : Moment) : Type 0 where
  pub record_so : (k : ℕ) → k ≢ n → record_of k (x ∷ before) ≡ record_of k before
  pub installed_so : (k : ℕ) → k ≢ n → installed_of k (x ∷ before) ≡ installed_of k before
  pub promises_so : (e : ℕ) → promises e (x ∷ before) ≡ promises e before
  pub first_so : (e : ℕ) → own_record e (x ∷ before) ≡ own_record e before
  pub letters : (p : ℕ) → letter_of p (x ∷ before) ≡ letter_of p before
  pub here : arrived (x ∷ before) ≡ arrived before
  pub sound : (M : Memberships) → IsSound M before x

turned : (k n : ℕ) → k ≢ n → n ≢ k
turned k n other e = other (sym e)

pub own_saved : (n : ℕ) (before : List Moment) → Own n before (saved n)
own_saved n before = record { record_so = λ k other. if_not (n == k) _ (record_of k before) (not_same n k (turned k n other)); installed_so = λ k other. refl; promises_so = λ e. refl; first_so = λ e. refl; letters = λ p. refl; here = refl; sound = λ M. tt }

pub own_installed : (n : ℕ) (before : List Moment) (e : ℕ) → Own n before (installed n e)
own_installed n before e = record { record_so = λ k other. if_not (n == k) _ (record_of k before) (not_same n k (turned k n other)); installed_so = λ k other. if_not (n == k) _ (installed_of k before) (not_same n k (turned k n other)); promises_so = λ e. refl; first_so = λ e. refl; letters = λ p. refl; here = refl; sound = λ M. tt }

pub own_member : (n : ℕ) (before : List Moment) (e : ℕ) → Own n before (member n e)
own_member n before e = record { record_so = λ k other. if_not (n == k) _ (record_of k before) (not_same n k (turned k n other)); installed_so = λ k other. refl; promises_so = λ e. refl; first_so = λ e. refl; letters = λ p. refl; here = refl; sound = λ M. tt }

pub own_propose : (n : ℕ) (before : List Moment) (e v : ℕ) (words : List ℕ) → coordinator e ≡ n → Own n before (propose e v words)
own_propose n before e v words own = record { record_so = λ k other. if_not (k == coordinator e) _ (record_of k before) (not_same k (coordinator e) (λ at. other (at ∙ own))); installed_so = λ k other. refl; promises_so = λ e. refl; first_so = λ e. refl; letters = λ p. refl; here = refl; sound = λ M. tt }

pub own_ack : (n : ℕ) (before : List Moment) (e v : ℕ) (words : List ℕ) → coordinator e ≡ n → Own n before (ack e v words)
own_ack n before e v words own = record { record_so = λ k other. if_not (k == coordinator e) _ (record_of k before) (not_same k (coordinator e) (λ at. other (at ∙ own))); installed_so = λ k other. refl; promises_so = λ e. refl; first_so = λ e. refl; letters = λ p. refl; here = refl; sound = λ M. tt }

pub own_base : (n : ℕ) (before : List Moment) (e v : ℕ) (words : List ℕ) → coordinator e ≡ n → Own n before (base e v words)
own_base n before e v words own = record { record_so = λ k other. if_not (k == coordinator e) _ (record_of k before) (not_same k (coordinator e) (λ at. other (at ∙ own))); installed_so = λ k other. refl; promises_so = λ e. refl; first_so = λ e. refl; letters = λ p. refl; here = refl; sound = λ M. tt }

pub own_start : (n : ℕ) (before : List Moment) (e members held count : ℕ) → coordinator e ≡ n → Own n before (start e members held count)
own_start n before e members held count own = record { record_so = λ k other. if_not (k == coordinator e) _ (record_of k before) (not_same k (coordinator e) (λ at. other (at ∙ own))); installed_so = λ k other. refl; promises_so = λ e. refl; first_so = λ e. refl; letters = λ p. refl; here = refl; sound = λ M. tt }

pub own_lost : (n : ℕ) (before : List Moment) (why : DownCause) → IsLoss why → Own n before (down n why)
own_lost n before cause.Crash is = absurd is
own_lost n before cause.Stopped is = record { record_so = λ k other. if_not (n == k) None (record_of k before) (not_same n k (turned k n other)); installed_so = λ k other. if_not (n == k) None (installed_of k before) (not_same n k (turned k n other)); promises_so = λ e. refl; first_so = λ e. refl; letters = λ p. refl; here = refl; sound = λ M. tt }
own_lost n before (cause.Panic panic.Disk) is = record { record_so = λ k other. if_not (n == k) None (record_of k before) (not_same n k (turned k n other)); installed_so = λ k other. if_not (n == k) None (installed_of k before) (not_same n k (turned k n other)); promises_so = λ e. refl; first_so = λ e. refl; letters = λ p. refl; here = refl; sound = λ M. tt }
own_lost n before (cause.Panic (panic.Fenced d)) is = absurd is
own_lost n before (cause.Panic (panic.Excluded e)) is = absurd is
own_lost n before (cause.Panic (panic.Stop name)) is = absurd is

-- nothing is told then
pub lost_record : (n : ℕ) (before : List Moment) (why : DownCause) → IsLoss why → (record_of n (down n why ∷ before) ≡ None) × (installed_of n (down n why ∷ before) ≡ None)
lost_record n before cause.Crash is = absurd is
lost_record n before cause.Stopped is = (if_so (n == n) None (record_of n before) (is_same n), if_so (n == n) None (installed_of n before) (is_same n))
lost_record n before (cause.Panic panic.Disk) is = (if_so (n == n) None (record_of n before) (is_same n), if_so (n == n) None (installed_of n before) (is_same n))
lost_record n before (cause.Panic (panic.Fenced d)) is = absurd is
lost_record n before (cause.Panic (panic.Excluded e)) is = absurd is
lost_record n before (cause.Panic (panic.Stop name)) is = absurd is

-- ---- all but the node's own

pub record Rest (n : ℕ) (told : Delivered) (v : Nodes) (M : Memberships) (s : Scene) : Type 0 where
  pub sound : AllSound M s.moments
  pub judged : Judged s.moments
  pub bytes : AreBytes s.moments s.links
  pub there : (k : ℕ) → k ≢ n → SiteKept M s.moments k (site (v.node k) (v.disk k).kept)
  pub hand : HandKept s.moments n told

pub rest_of : (n : ℕ) (told : Delivered) (v : Nodes) (M : Memberships) (x : Site) (s : Scene) → Goes n told v M x s → Rest n told v M s
rest_of n told v M x s h = record { sound = h.sound; judged = h.judged; bytes = h.bytes; there = h.there; hand = h.hand }

pub with_here : (n : ℕ) (told : Delivered) (v : Nodes) (M : Memberships) (x : Site) (s : Scene) → Rest n told v M s → SiteKept M s.moments n x → Goes n told v M x s
with_here n told v M x s h here = record { sound = h.sound; judged = h.judged; bytes = h.bytes; here = here; there = h.there; hand = h.hand }

own_told : (n : ℕ) (before : List Moment) (x : Moment) → Own n before x → (e k : ℕ) → has_told e k before ≡ true → has_told e k (x ∷ before) ≡ true
own_told n before x h e k is = ap (λ ls. list_any (shows_from k) ls) (h.promises_so e) ∙ is

pub own_rest : (n : ℕ) (told : Delivered) (v : Nodes) (M : Memberships) (s : Scene) (e : Entry) → Own n s.moments (Told e) → Judged (Told e ∷ s.moments) → Rest n told v M s → Rest n told v M (telling e s)
own_rest n told v M s e l judged h = record {
  sound = (l.sound M, h.sound);
  judged = judged;
  bytes = bytes_stay s.moments (Told e) s.links.next s.links.packets l.letters h.bytes;
  there = λ k other. site_stays M s.moments k (Told e) (site (v.node k) (v.disk k).kept)
      (record { record_so = l.record_so k other; installed_so = l.installed_so k other; told = λ q j own is. own_told n s.moments (Told e) l q j is; first = λ q own. l.first_so q }) (h.there k other);
  hand = hand_stays s.moments n (Told e) told (λ q j own is. own_told n s.moments (Told e) l q j is) l.here h.hand;
}

-- ---- the node's own

-- Promises and first records stay over these lines
pub record Same (before after : List Moment) : Type 0 where
  pub told : (e k : ℕ) → has_told e k before ≡ true → has_told e k after ≡ true
  pub promises_so : (e : ℕ) → promises e after ≡ promises e before
  pub first_so : (e : ℕ) → own_record e after ≡ own_record e before

pub same_line : (n : ℕ) (before : List Moment) (x : Moment) → Own n before x → Same before (x ∷ before)
same_line n before x l = record { told = λ e k is. own_told n before x l e k is; promises_so = l.promises_so; first_so = l.first_so }

pub same_more : (a b c : List Moment) → Same a b → Same b c → Same a c
same_more a b c h k = record { told = λ e j is. k.told e j (h.told e j is); promises_so = λ e. k.promises_so e ∙ h.promises_so e; first_so = λ e. k.first_so e ∙ h.first_so e }

-- the same attempt, of a record that shows the same
pub attempt_over : (M : Memberships) (before after : List Moment) (n : ℕ) (r t : NodeRecord) (a : AttemptState) → Same before after → installed_of n after ≡ installed_of n before → shown t ≡ shown r → AttemptKept M before n r a → AttemptKept M after n t a
attempt_over M before after n r t a same installed_so is h = record {
  own = h.own;
  first = subst (λ o. IfSome o (λ z. IsOf z ((M.node n).showed a.plan.epoch))) (sym (same.first_so a.plan.epoch)) h.first;
  answered = h.answered;
  heard = λ i d lt. heard_stays before after n a.plan.epoch _ (same.told a.plan.epoch _) (h.heard i d lt);
  epoch = λ now. installed_so ∙ h.epoch now;
  installs = λ now. is ∙ h.installs now;
}

pub in_over : (M : Memberships) (before after : List Moment) (n : ℕ) (r t : NodeRecord) (o : Option AttemptState) → Same before after → installed_of n after ≡ installed_of n before → shown t ≡ shown r → AttemptIn M before n r o → AttemptIn M after n t o
in_over M before after n r t None same installed_so is h = tt
in_over M before after n r t (Some a) same installed_so is h = attempt_over M before after n r t a same installed_so is h

pub no_attempt : (M : Memberships) (ms : List Moment) (n : ℕ) (r : NodeRecord) (o : Option AttemptState) → o ≡ None → AttemptIn M ms n r o
no_attempt M ms n r o none = subst (λ z. AttemptIn M ms n r z) (sym none) tt

-- the site of a node that is up, with its record saved
pub up_site : (M : Memberships) (ms : List Moment) (n : ℕ) (y : UpNode) → RecordIn ms n (kept_record y) → InstalledIn ms n (kept_record y) → AttemptIn M ms n (kept_record y) y.attempt → SeatKept ms n y.seat → SiteKept M ms n (site (Up y) (kept_record y))
up_site M ms n y r i a seat = record { record_so = r; installed = i; up = record { attempt = a; seat = seat } }
