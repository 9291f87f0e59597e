-- What a node gives is told and sent: lines that say nothing of records, and messages.
use Rattle.std.specs.Prelude.{ℕ, ◌≡◌, ◌≢◌, ◌≤◌, ◌==◌, ◌++◌, nat_le, Bool, true, false, List, [], ◌∷◌, length, Option, None, Some, option_map, if◌then◌else◌}
use Rattle.std.proofs.Common.{refl, sym, ap, subst, ◌∙◌, arith}
use Rattle.attempt_laws.proofs.Walk.{if_with}
use Rattle.cl_base.specs.declared.packet.DropCause.{DropCause}
use Rattle.cl_base.specs.declared.packet.MessageName.{MessageName}
use Rattle.cmm_attempt.proofs.Basics.{and_cases, same_some}
use Rattle.history.specs.Contents.{ShowsRecord}
use Rattle.history.specs.Letters.{says}
use Rattle.history.specs.Moment.{Moment}
use Rattle.history.specs.Names.{named}
use Rattle.history.specs.Records.{NodeRecord as Shown, record_of, sent_from}
use Rattle.history.specs.Trace.{sent}
use Rattle.interconnect.specs.Links as links
use Rattle.interconnect.specs.Links.{sending}
use Rattle.membership_machine.specs.State.{Memberships}
use Rattle.node_model.specs.declared.output.Output.{Output}
use Rattle.node_model.specs.declared.output.Output.TheVariants.{Sends, Tells}
use Rattle.refinement.specs.Doings.{Site, site}
use Rattle.refinement.specs.Runs.{Nodes}
use Rattle.refinement.specs.Ties.{Delivered}
use Rattle.refinement.specs.Worlds.{SpelledIfShort}
use Rattle.status_report.specs.declared.entry.Entry.TheVariants as entry
use Rattle.status_report.specs.declared.packet_entry.PacketEntry.TheVariants as packet
use Rattle.wire.proofs.Messages.{whole_again}
use Rattle.wire.specs.Reads.{whole_of}
use Rattle.wire.specs.Spelling.{Fits, spelling}
use Rattle.wire.specs.declared.message.Body.{Body}
use Rattle.wire.specs.declared.message.Body.TheVariants as body
use Rattle.wire.specs.declared.message.Message.{Message}
use Rattle.world_model.specs.Sends.{is_sent, name_of}
use Rattle.run_history.specs.Scenes.{Scene, dropped_so, passing, posting, sent_as, telling, with_links}
use Rattle.run_messages.specs.records.Answers.{IsOrdinary}
use Rattle.run_messages.specs.records.Kept.{Goes, SiteKept}
use Rattle.run_messages.specs.records.Sound.{BodySound}
use Rattle.run_messages.proofs.records.Bytes.{sent_bytes}
use Rattle.run_messages.proofs.records.Grow.{Keeps, hand_stays, judged_more, site_stays}
use Rattle.run_messages.proofs.records.Still.{IsStill, still_goes, still_so}

pub if_not : {X : Type 0} (b : Bool) (x y : X) → b ≡ false → (if b then x else y) ≡ y
if_not true x y h = absurd (no_truth h)
  where
    no_truth : true ≡ false → ⊥
    no_truth e = cc
if_not false x y h = refl

pub if_so : {X : Type 0} (b : Bool) (x y : X) → b ≡ true → (if b then x else y) ≡ x
if_so true x y h = refl
if_so false x y h = absurd (no_truth h)
  where
    no_truth : false ≡ true → ⊥
    no_truth e = cc

pub not_same : (a b : ℕ) → a ≢ b → (a == b) ≡ false
not_same a b h = grind arith

pub is_same : (a : ℕ) → (a == a) ≡ true
is_same a = grind arith

-- ---- a message

-- what is sent leaves the record of another node
sent_others_keep : (before : List Moment) (k p n to : ℕ) (called : MessageName) (bytes : List ℕ) → k ≢ n → Keeps before k (sent p n to called bytes)
sent_others_keep before k p n to called bytes other = record {
  record_so = if_not (n == k) (sent_from (named called) bytes (record_of k before)) (record_of k before) (not_same n k (λ e. other (sym e)));
  installed_so = refl;
  told = λ e j own is. is;
  first = λ e own. refl;
}

-- What a message needs that node n sends, which is as y has it: what it tells is so, it shows the record, and the record stays so.
pub record CanSend (M : Memberships) (ms : List Moment) (n to : ℕ) (y : Site) (b : Body) : Type 0 where
  pub sound : BodySound M ms n to b
  pub shows : (bytes : List ℕ) → says bytes ≡ Some b → ShowsRecord ms n bytes (named (name_of b))
  pub after : (p : ℕ) (bytes : List ℕ) → says bytes ≡ Some b → SiteKept M (sent p n to (name_of b) bytes ∷ ms) n y

pub sent_goes : (n : ℕ) (told : Delivered) (v : Nodes) (M : Memberships) (y : Site) (s : Scene) (to : ℕ) (m : Message) → Fits m → CanSend M s.moments n to y m.body → Goes n told v M y s
    → Goes n told v M y (telling (entry.Packet (packet.Sent s.links.next n to (name_of m.body) (spelling m))) (with_links s (sending s.links n to (spelling m)).after))
sent_goes n told v M y s to m fits can h =
    let x : Moment = sent s.links.next n to (name_of m.body) (spelling m) in
    let again : whole_of (spelling m) ≡ Some m = whole_again m fits in
    let read : says (spelling m) ≡ Some m.body = ap (λ o. option_map (λ (z : Message). z.body) o) again in
    record {
      sound = (
        λ other is.
            let same : m ≡ other = same_some m other (sym again ∙ is) in
            (ap (λ (z : Message). named (name_of z.body)) same, subst (λ (z : Message). BodySound M s.moments n to z.body) same can.sound),
        h.sound,
      );
      judged = judged_more s.moments x (can.shows (spelling m) read) tt refl h.judged;
      bytes = sent_bytes s.moments s.links n to (name_of m.body) (spelling m) h.bytes;
      here = can.after s.links.next (spelling m) read;
      there = λ k other. site_stays M s.moments k x (site (v.node k) (v.disk k).kept) (sent_others_keep s.moments k s.links.next n to (name_of m.body) (spelling m) other) (h.there k other);
      hand = hand_stays s.moments n x told (λ e k own is. is) refl h.hand;
    }

pub dropped_goes : (n : ℕ) (told : Delivered) (v : Nodes) (M : Memberships) (y : Site) (s : Scene) (o : Option (ℕ × DropCause)) → Goes n told v M y s → Goes n told v M y (dropped_so o s)
dropped_goes n told v M y s None h = h
dropped_goes n told v M y s (Some drop) h = still_goes n told v M y s (entry.Packet (packet.Dropped drop.0 drop.1)) (still_so s.moments (entry.Packet (packet.Dropped drop.0 drop.1)) tt) h

size : (k : ℕ) → nat_le k 131072 ≡ true → k ≤ 131072
size k e = grind arith

pub posting_goes : (n : ℕ) (told : Delivered) (v : Nodes) (M : Memberships) (y : Site) (s : Scene) (to : ℕ) (b : Body) → SpelledIfShort (record { sender = n; body = b }) → CanSend M s.moments n to y b → Goes n told v M y s
    → Goes n told v M y (posting n to (record { sender = n; body = b }) s)
posting_goes n told v M y s to b fits can h =
    let m : Message = record { sender = n; body = b } in
    let o : links.Outcome = sending s.links n to (spelling m) in
    if_with (λ (t : Scene). Goes n told v M y t) (is_sent s.links m) (is_sent s.links m) (sent_as n to m o s) s refl
    (λ e. dropped_goes n told v M y _ o.sent.dropped (sent_goes n told v M y s to m (fits (size (length (spelling m)) (and_cases _ _ e).0)) can h))
    (λ e. h)

-- ---- messages that show no record

pub ordinary_sound : (M : Memberships) (ms : List Moment) (n to : ℕ) (b : Body) → IsOrdinary b → BodySound M ms n to b
ordinary_sound M ms n to (body.Collect p members) is = absurd is
ordinary_sound M ms n to (body.Promise p newest members valid flagged committed pending) is = absurd is
ordinary_sound M ms n to (body.Install i) is = absurd is
ordinary_sound M ms n to (body.Heartbeat promised session is_one) is = tt
ordinary_sound M ms n to (body.Nack p promised) is = tt
ordinary_sound M ms n to (body.SeizeQuorum p members d) is = tt
ordinary_sound M ms n to (body.SeizeData p members d) is = tt
ordinary_sound M ms n to (body.Seized p d outcome) is = tt
ordinary_sound M ms n to (body.Ready p joined report) is = tt
ordinary_sound M ms n to (body.Start p) is = tt
ordinary_sound M ms n to (body.Prepare p place text) is = tt
ordinary_sound M ms n to (body.Prepared p place) is = tt
ordinary_sound M ms n to (body.Commit p place) is = tt
ordinary_sound M ms n to (body.Order o) is = tt
ordinary_sound M ms n to (body.Done p number outcome) is = tt
ordinary_sound M ms n to (body.Request p number text) is = tt
ordinary_sound M ms n to (body.Answer p number text) is = tt
ordinary_sound M ms n to (body.Excluded p newest) is = tt

pub ordinary_shows : (ms : List Moment) (n : ℕ) (bytes : List ℕ) (b : Body) → IsOrdinary b → ShowsRecord ms n bytes (named (name_of b))
ordinary_shows ms n bytes (body.Collect p members) is = absurd is
ordinary_shows ms n bytes (body.Promise p newest members valid flagged committed pending) is = absurd is
ordinary_shows ms n bytes (body.Install i) is = absurd is
ordinary_shows ms n bytes (body.Heartbeat promised session is_one) is = tt
ordinary_shows ms n bytes (body.Nack p promised) is = tt
ordinary_shows ms n bytes (body.SeizeQuorum p members d) is = tt
ordinary_shows ms n bytes (body.SeizeData p members d) is = tt
ordinary_shows ms n bytes (body.Seized p d outcome) is = tt
ordinary_shows ms n bytes (body.Ready p joined report) is = tt
ordinary_shows ms n bytes (body.Start p) is = tt
ordinary_shows ms n bytes (body.Prepare p place text) is = tt
ordinary_shows ms n bytes (body.Prepared p place) is = tt
ordinary_shows ms n bytes (body.Commit p place) is = tt
ordinary_shows ms n bytes (body.Order o) is = tt
ordinary_shows ms n bytes (body.Done p number outcome) is = tt
ordinary_shows ms n bytes (body.Request p number text) is = tt
ordinary_shows ms n bytes (body.Answer p number text) is = tt
ordinary_shows ms n bytes (body.Excluded p newest) is = tt

-- all but an Install
abbrev pub IsNoInstall : Body → Type 0
IsNoInstall (body.Install i) = ⊥
IsNoInstall b = Unit {0}

pub no_install_from : (bytes : List ℕ) (r : Option Shown) (b : Body) → IsNoInstall b → sent_from (named (name_of b)) bytes r ≡ r
no_install_from bytes r (body.Install i) is = absurd is
no_install_from bytes r (body.Collect p members) is = refl
no_install_from bytes r (body.Promise p newest members valid flagged committed pending) is = refl
no_install_from bytes r (body.Heartbeat promised session is_one) is = refl
no_install_from bytes r (body.Nack p promised) is = refl
no_install_from bytes r (body.SeizeQuorum p members d) is = refl
no_install_from bytes r (body.SeizeData p members d) is = refl
no_install_from bytes r (body.Seized p d outcome) is = refl
no_install_from bytes r (body.Ready p joined report) is = refl
no_install_from bytes r (body.Start p) is = refl
no_install_from bytes r (body.Prepare p place text) is = refl
no_install_from bytes r (body.Prepared p place) is = refl
no_install_from bytes r (body.Commit p place) is = refl
no_install_from bytes r (body.Order o) is = refl
no_install_from bytes r (body.Done p number outcome) is = refl
no_install_from bytes r (body.Request p number text) is = refl
no_install_from bytes r (body.Answer p number text) is = refl
no_install_from bytes r (body.Excluded p newest) is = refl

pub ordinary_no_install : (b : Body) → IsOrdinary b → IsNoInstall b
ordinary_no_install (body.Collect p members) is = absurd is
ordinary_no_install (body.Promise p newest members valid flagged committed pending) is = absurd is
ordinary_no_install (body.Install i) is = absurd is
ordinary_no_install (body.Heartbeat promised session is_one) is = tt
ordinary_no_install (body.Nack p promised) is = tt
ordinary_no_install (body.SeizeQuorum p members d) is = tt
ordinary_no_install (body.SeizeData p members d) is = tt
ordinary_no_install (body.Seized p d outcome) is = tt
ordinary_no_install (body.Ready p joined report) is = tt
ordinary_no_install (body.Start p) is = tt
ordinary_no_install (body.Prepare p place text) is = tt
ordinary_no_install (body.Prepared p place) is = tt
ordinary_no_install (body.Commit p place) is = tt
ordinary_no_install (body.Order o) is = tt
ordinary_no_install (body.Done p number outcome) is = tt
ordinary_no_install (body.Request p number text) is = tt
ordinary_no_install (body.Answer p number text) is = tt
ordinary_no_install (body.Excluded p newest) is = tt

pub sent_keeps : (ms : List Moment) (p n to : ℕ) (bytes : List ℕ) (b : Body) → IsNoInstall b → Keeps ms n (sent p n to (name_of b) bytes)
sent_keeps ms p n to bytes b is = record {
  record_so = if_so (n == n) (sent_from (named (name_of b)) bytes (record_of n ms)) (record_of n ms) (is_same n) ∙ no_install_from bytes (record_of n ms) b is;
  installed_so = refl;
  told = λ e j own is. is;
  first = λ e own. refl;
}

pub ordinary_send : (M : Memberships) (ms : List Moment) (n to : ℕ) (y : Site) (b : Body) → IsOrdinary b → SiteKept M ms n y → CanSend M ms n to y b
ordinary_send M ms n to y b is h = record {
  sound = ordinary_sound M ms n to b is;
  shows = λ bytes read. ordinary_shows ms n bytes b is;
  after = λ p bytes read. site_stays M ms n (sent p n to (name_of b) bytes) y (sent_keeps ms p n to bytes b (ordinary_no_install b is)) h;
}

-- ---- outputs

-- lines that say nothing of records, and messages that show none
abbrev pub AllStill : ℕ → List Output → Type 0
AllStill n [] = Unit {0}
AllStill n (Tells e ∷ os) = IsStill e × AllStill n os
AllStill n (Sends to b ∷ os) = IsOrdinary b × SpelledIfShort (record { sender = n; body = b }) × AllStill n os

pub outputs_go : (n : ℕ) (told : Delivered) (v : Nodes) (M : Memberships) (y : Site) (os : List Output) (s : Scene) → AllStill n os → Goes n told v M y s → Goes n told v M y (passing n os s)
outputs_go n told v M y [] s all h = h
outputs_go n told v M y (Tells e ∷ os) s all h = outputs_go n told v M y os (telling e s) all.1 (still_goes n told v M y s e (still_so s.moments e all.0) h)
outputs_go n told v M y (Sends to b ∷ os) s all h =
    outputs_go n told v M y os (posting n to (record { sender = n; body = b }) s) all.2
    (posting_goes n told v M y s to b all.1 (ordinary_send M s.moments n to y b all.0 h.here) h)

pub still_append : (n : ℕ) (os more : List Output) → AllStill n os → AllStill n more → AllStill n (os ++ more)
still_append n [] more h k = k
still_append n (Tells e ∷ os) more h k = (h.0, still_append n os more h.1 k)
still_append n (Sends to b ∷ os) more h k = (h.0, h.1, still_append n os more h.2 k)
