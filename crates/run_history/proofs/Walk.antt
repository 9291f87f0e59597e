-- What a node gives is told and sent, one output after another.
use Rattle.std.specs.Prelude.{ℕ, ◌≡◌, ◌≢◌, ◌≤◌, ◌==◌, ◌⊎◌, ◌++◌, nat_le, true, false, List, [], ◌∷◌, length, Option, None, Some, IfSome}
use Rattle.std.specs.List.{list_any}
use Rattle.std.proofs.Common.{refl, sym, ap, subst, ◌∙◌, arith, inl, inr}
use Rattle.attempt_laws.proofs.Walk.{if_with}
use Rattle.cl_base.specs.declared.packet.DropCause.{DropCause}
use Rattle.cmm_attempt.proofs.Basics.{and_cases, if_either, or_cases, same_number, same_some}
use Rattle.interconnect.specs.Links as links
use Rattle.interconnect.specs.Links.{sending}
use Rattle.status_report.specs.declared.attempt_entry.AttemptEntry.TheVariants as attempt_entry
use Rattle.status_report.specs.declared.entry.Entry.{Entry}
use Rattle.status_report.specs.declared.entry.Entry.TheVariants as entry
use Rattle.status_report.specs.declared.start_entry.StartEntry.TheVariants as start_entry
use Rattle.status_report.specs.declared.packet_entry.PacketEntry.TheVariants as packet
use Rattle.wire.proofs.Messages.{whole_again}
use Rattle.wire.specs.Spelling.{Fits, spelling}
use Rattle.wire.specs.declared.message.Body.{Body}
use Rattle.wire.specs.declared.message.Body.TheVariants as body
use Rattle.wire.specs.declared.message.Message.{Message}
use Rattle.history.specs.Contact.{IsOfStart, IsProposed, IsReady, is_proposal}
use Rattle.history.specs.Letters.{arrived, letter_of}
use Rattle.history.specs.Moment.{Moment, Told}
use Rattle.history.specs.Seizing.{is_attempt}
use Rattle.history.specs.Setting.{coordinator}
use Rattle.history.specs.Names.{named}
use Rattle.history.specs.Starts.{is_started}
use Rattle.history.specs.Trace.{attempt, sent, start}
use Rattle.membership_machine.specs.Growth.{Grows}
use Rattle.membership_machine.specs.State.{Memberships}
use Rattle.node_model.specs.declared.output.Output.{Output}
use Rattle.node_model.specs.declared.output.Output.TheVariants.{Sends, Tells}
use Rattle.refinement.specs.Doings.{Site, site}
use Rattle.refinement.specs.Runs.{Nodes}
use Rattle.refinement.specs.Ties.{Delivered}
use Rattle.refinement.specs.Worlds.{AllFit, SpelledIfShort}
use Rattle.world_model.specs.Sends.{is_sent, name_of}
use Rattle.run_history.specs.Scenes.{Scene, dropped_so, passing, passing_one, posting, sent_as, telling, with_links}
use Rattle.run_history.specs.Causes.{Caused, Flying, Hand}
use Rattle.run_history.specs.Noted.{Laws, LinesStarted, LinesTried, Notes}
use Rattle.run_history.proofs.ContactCalm.{Calm, IsCalm, Quiet, calm_laws, calm_so, more_laws, quiet_sent}
use Rattle.run_history.proofs.ContactFlying.{flying_stays, sent_posted}
use Rattle.run_history.proofs.ContactStays.{Keeps, KeepsStarts, attempt_keeps, caused_stays, hand_stays, notes_stay, quiet_keeps, start_keeps, started_grows, started_stays, tried_grows, tried_stays}

-- In the step of node n, which is as x has it now, and for which this was delivered; the others are as v has them, and all as w has them in the end.
pub record Walks (n : ℕ) (told : Delivered) (v w : Nodes) (M : Memberships) (x : Site) (s : Scene) : Type 0 where
  pub laws : Laws s.moments
  pub tried : LinesTried M s.moments
  pub started : LinesStarted M s.moments
  pub here : Notes s.moments n x
  pub there : (k : ℕ) → k ≢ n → Notes s.moments k (site (v.node k) (v.disk k).kept)
  pub flying : Flying s.moments s.links
  pub hand : Hand s.moments n told
  pub nodes : s.nodes ≡ w

-- the machine has gone on
pub walks_grow : (n : ℕ) (told : Delivered) (v w : Nodes) (M N : Memberships) (x : Site) (s : Scene) → Grows M N → Walks n told v w M x s → Walks n told v w N x s
walks_grow n told v w M N x s g h = record {
  laws = h.laws;
  tried = tried_grows M N s.moments g h.tried;
  started = started_grows M N s.moments g h.started;
  here = h.here;
  there = h.there;
  flying = h.flying;
  hand = h.hand;
  nodes = h.nodes;
}

-- the node has gone on
pub walks_at : (n : ℕ) (told : Delivered) (v w : Nodes) (M : Memberships) (x y : Site) (s : Scene) → Notes s.moments n y → Walks n told v w M x s → Walks n told v w M y s
walks_at n told v w M x y s here h = record {
  laws = h.laws;
  tried = h.tried;
  started = h.started;
  here = here;
  there = h.there;
  flying = h.flying;
  hand = h.hand;
  nodes = h.nodes;
}

-- ---- lines

pub quiet_starts : (before : List Moment) (x : Moment) → Quiet before x → KeepsStarts before x
quiet_starts before x q = λ e h. ap (λ ss. list_any (λ s. s.epoch == e) ss) q.begun ∙ h

-- of no packet, attempt or start
pub line_walks : (n : ℕ) (told : Delivered) (v w : Nodes) (M : Memberships) (x : Site) (s : Scene) (e : Entry) → Quiet s.moments (Told e)
    → ((p : ℕ) → letter_of p (Told e ∷ s.moments) ≡ letter_of p s.moments) → arrived (Told e ∷ s.moments) ≡ arrived s.moments → Laws (Told e ∷ s.moments)
    → Walks n told v w M x s → Walks n told v w M x (telling e s)
line_walks n told v w M x s e q letters here laws h = record {
  laws = laws;
  tried = tried_stays M s.moments (Told e) q h.tried;
  started = started_stays M s.moments (Told e) q h.started;
  here = notes_stay s.moments n (Told e) x (quiet_keeps s.moments n (Told e) q) h.here;
  there = λ k other. notes_stay s.moments k (Told e) (site (v.node k) (v.disk k).kept) (quiet_keeps s.moments k (Told e) q) (h.there k other);
  flying = flying_stays s.moments (Told e) s.links (quiet_starts s.moments (Told e) q) letters h.flying;
  hand = hand_stays s.moments n (Told e) told (quiet_starts s.moments (Told e) q) here h.hand;
  nodes = h.nodes;
}

pub calm_walks : (n : ℕ) (told : Delivered) (v w : Nodes) (M : Memberships) (x : Site) (s : Scene) (e : Entry) → IsCalm e → Walks n told v w M x s → Walks n told v w M x (telling e s)
calm_walks n told v w M x s e is h =
    let c : Calm s.moments (Told e) = calm_so s.moments e is in
    line_walks n told v w M x s e c.quiet c.letters c.here (calm_laws s.moments (Told e) c h.laws) h

-- an attempt of the node begins, which is new
attempt_tried : (M : Memberships) (before : List Moment) (p members : ℕ) → (M.epoch p).tried ≡ true → LinesTried M before → LinesTried M (attempt p members ∷ before)
attempt_tried M before p members now h e is = by_cases (or_cases (p == e) (list_any (is_attempt e) before) is)
  where
    by_cases : ((p == e) ≡ true) ⊎ (list_any (is_attempt e) before ≡ true) → (M.epoch e).tried ≡ true
    by_cases (inl same) = subst (λ q. (M.epoch q).tried ≡ true) (same_number p e same) now
    by_cases (inr old) = h e old

pub attempt_walks : (n : ℕ) (told : Delivered) (v w : Nodes) (M : Memberships) (x y : Site) (s : Scene) (p members : ℕ) → coordinator p ≡ n → list_any (is_attempt p) s.moments ≡ false
    → (M.epoch p).tried ≡ true → Notes (attempt p members ∷ s.moments) n y → Walks n told v w M x s → Walks n told v w M y (telling (entry.Attempt (attempt_entry.Begun p members)) s)
attempt_walks n told v w M x y s p members own new now here h = record {
  laws = more_laws s.moments (attempt p members) h.laws new tt tt tt tt;
  tried = attempt_tried M s.moments p members now h.tried;
  started = λ e is. h.started e is;
  here = here;
  there = λ k other.
      notes_stay s.moments k (attempt p members) (site (v.node k) (v.disk k).kept) (attempt_keeps s.moments k p members new (λ at. other (sym at ∙ own))) (h.there k other);
  flying = flying_stays s.moments (attempt p members) s.links (λ e is. is) (λ q. refl) h.flying;
  hand = hand_stays s.moments n (attempt p members) told (λ e is. is) refl h.hand;
  nodes = h.nodes;
}

-- a membership starts, which is new
start_started : (M : Memberships) (before : List Moment) (q members held count : ℕ) → (M.epoch q).started ≡ true → LinesStarted M before → LinesStarted M (start q members held count ∷ before)
start_started M before q members held count now h e is = by_cases (or_cases (q == e) (is_started e before) is)
  where
    by_cases : ((q == e) ≡ true) ⊎ (is_started e before ≡ true) → (M.epoch e).started ≡ true
    by_cases (inl same) = subst (λ p. (M.epoch p).started ≡ true) (same_number q e same) now
    by_cases (inr old) = h e old

pub start_walks : (n : ℕ) (told : Delivered) (v w : Nodes) (M : Memberships) (x : Site) (s : Scene) (q members held count : ℕ) → is_started q s.moments ≡ false → (M.epoch q).started ≡ true
    → IsReady s.moments (start q members held count) → Walks n told v w M x s → Walks n told v w M x (telling (entry.Start (start_entry.Started q members held count)) s)
start_walks n told v w M x s q members held count new now ready h =
    let y : Moment = start q members held count in
    let k : (j : ℕ) → Keeps s.moments j y = λ j. start_keeps s.moments j q members held count new in
    record {
      laws = more_laws s.moments y h.laws tt ready tt tt tt;
      tried = λ e is. h.tried e is;
      started = start_started M s.moments q members held count now h.started;
      here = notes_stay s.moments n y x (k n) h.here;
      there = λ j other. notes_stay s.moments j y (site (v.node j) (v.disk j).kept) (k j) (h.there j other);
      flying = flying_stays s.moments y s.links (k n).started (λ p. refl) h.flying;
      hand = hand_stays s.moments n y told (k n).started refl h.hand;
      nodes = h.nodes;
    }

-- ---- messages

-- a Start is of a membership with its line, a Prepare of an update with its
sent_start : (ms : List Moment) (n : ℕ) (b : Body) → Caused ms n b → IsOfStart ms n (named (name_of b))
sent_start ms n (body.Start p) h = subst (λ (o : Option ℕ). IfSome o (λ e. is_started e ms ≡ true)) (sym h.1) h.2
sent_start ms n (body.Heartbeat promised session is_one) h = tt
sent_start ms n (body.Collect p members) h = tt
sent_start ms n (body.Promise p newest members valid flagged committed pending) h = tt
sent_start ms n (body.Nack p promised) h = tt
sent_start ms n (body.SeizeQuorum p members d) h = tt
sent_start ms n (body.SeizeData p members d) h = tt
sent_start ms n (body.Seized p d outcome) h = tt
sent_start ms n (body.Install i) h = tt
sent_start ms n (body.Ready p joined report) h = tt
sent_start ms n (body.Prepared p place) h = tt
sent_start ms n (body.Commit p place) h = tt
sent_start ms n (body.Order o) h = tt
sent_start ms n (body.Done p number outcome) h = tt
sent_start ms n (body.Request p number text) h = tt
sent_start ms n (body.Answer p number text) h = tt
sent_start ms n (body.Excluded p newest) h = tt
sent_start ms n (body.Prepare p place text) h = tt

sent_proposed : (ms : List Moment) (n : ℕ) (b : Body) → Caused ms n b → IsProposed ms n (named (name_of b))
sent_proposed ms n (body.Prepare p place text) h = subst (λ (o : Option ℕ). IfSome o (λ e. list_any (is_proposal e place) ms ≡ true)) (sym h.1) h.2
sent_proposed ms n (body.Heartbeat promised session is_one) h = tt
sent_proposed ms n (body.Collect p members) h = tt
sent_proposed ms n (body.Promise p newest members valid flagged committed pending) h = tt
sent_proposed ms n (body.Nack p promised) h = tt
sent_proposed ms n (body.SeizeQuorum p members d) h = tt
sent_proposed ms n (body.SeizeData p members d) h = tt
sent_proposed ms n (body.Seized p d outcome) h = tt
sent_proposed ms n (body.Install i) h = tt
sent_proposed ms n (body.Ready p joined report) h = tt
sent_proposed ms n (body.Prepared p place) h = tt
sent_proposed ms n (body.Commit p place) h = tt
sent_proposed ms n (body.Order o) h = tt
sent_proposed ms n (body.Done p number outcome) h = tt
sent_proposed ms n (body.Request p number text) h = tt
sent_proposed ms n (body.Answer p number text) h = tt
sent_proposed ms n (body.Excluded p newest) h = tt
sent_proposed ms n (body.Start p) h = tt

dropped_walks : (n : ℕ) (told : Delivered) (v w : Nodes) (M : Memberships) (x : Site) (s : Scene) (o : Option (ℕ × DropCause)) → Walks n told v w M x s → Walks n told v w M x (dropped_so o s)
dropped_walks n told v w M x s None h = h
dropped_walks n told v w M x s (Some drop) h = calm_walks n told v w M x s (entry.Packet (packet.Dropped drop.0 drop.1)) tt h

sent_walks : (n : ℕ) (told : Delivered) (v w : Nodes) (M : Memberships) (x : Site) (s : Scene) (to : ℕ) (m : Message) → Fits m → Caused s.moments n m.body → Walks n told v w M x s
    → Walks n told v w M x (telling (entry.Packet (packet.Sent s.links.next n to (name_of m.body) (spelling m))) (with_links s (sending s.links n to (spelling m)).after))
sent_walks n told v w M x s to m fits cause h =
    let y : Moment = sent s.links.next n to (name_of m.body) (spelling m) in
    let q : Quiet s.moments y = quiet_sent s.moments s.links.next n to (name_of m.body) (spelling m) in
    record {
      laws = more_laws s.moments y h.laws tt tt tt (sent_start s.moments n m.body cause) (sent_proposed s.moments n m.body cause);
      tried = tried_stays M s.moments y q h.tried;
      started = started_stays M s.moments y q h.started;
      here = notes_stay s.moments n y x (quiet_keeps s.moments n y q) h.here;
      there = λ k other. notes_stay s.moments k y (site (v.node k) (v.disk k).kept) (quiet_keeps s.moments k y q) (h.there k other);
      flying = sent_posted s.moments s.links n to m (spelling m) (λ other is. same_some other m (sym is ∙ whole_again m fits)) cause h.flying;
      hand = hand_stays s.moments n y told (λ e is. is) refl h.hand;
      nodes = h.nodes;
    }

size : (k : ℕ) → nat_le k 131072 ≡ true → k ≤ 131072
size k e = grind arith

posting_walks : (n : ℕ) (told : Delivered) (v w : Nodes) (M : Memberships) (x : Site) (s : Scene) (to : ℕ) (b : Body) → SpelledIfShort (record { sender = n; body = b }) → Caused s.moments n b
    → Walks n told v w M x s → Walks n told v w M x (posting n to (record { sender = n; body = b }) s)
posting_walks n told v w M x s to b fits cause h =
    let m : Message = record { sender = n; body = b } in
    let o : links.Outcome = sending s.links n to (spelling m) in
    if_with (λ (t : Scene). Walks n told v w M x t) (is_sent s.links m) (is_sent s.links m) (sent_as n to m o s) s refl
    (λ e. dropped_walks n told v w M x _ o.sent.dropped (sent_walks n told v w M x s to m (fits (size (length (spelling m)) (and_cases _ _ e).0)) cause h))
    (λ e. h)

-- ---- outputs

-- lines of no attempt, start or install, and messages, each with its cause
abbrev pub CanPass : List Moment → ℕ → List Output → Type 0
CanPass before n [] = Unit {0}
CanPass before n (Tells e ∷ os) = IsCalm e × CanPass before n os
CanPass before n (Sends to b ∷ os) = SpelledIfShort (record { sender = n; body = b }) × Caused before n b × CanPass before n os

can_more : (before : List Moment) (n : ℕ) (x : Moment) (os : List Output) → Keeps before n x → CanPass before n os → CanPass (x ∷ before) n os
can_more before n x [] k h = tt
can_more before n x (Tells e ∷ os) k h = (h.0, can_more before n x os k h.1)
can_more before n x (Sends to b ∷ os) k h = (h.0, caused_stays before n x b k h.1, can_more before n x os k h.2)

can_dropped : (n : ℕ) (o : Option (ℕ × DropCause)) (s : Scene) (os : List Output) → CanPass s.moments n os → CanPass (dropped_so o s).moments n os
can_dropped n None s os h = h
can_dropped n (Some drop) s os h =
    let x : Moment = Told (entry.Packet (packet.Dropped drop.0 drop.1)) in
    can_more s.moments n x os (quiet_keeps s.moments n x (calm_so s.moments (entry.Packet (packet.Dropped drop.0 drop.1)) tt).quiet) h

can_posted : (n to : ℕ) (m : Message) (s : Scene) (os : List Output) → CanPass s.moments n os → CanPass (posting n to m s).moments n os
can_posted n to m s os h =
    let o : links.Outcome = sending s.links n to (spelling m) in
    let x : Moment = sent s.links.next n to (name_of m.body) (spelling m) in
    if_either (λ (t : Scene). CanPass t.moments n os) (is_sent s.links m) (sent_as n to m o s) s
    (can_dropped n o.sent.dropped _ os (can_more s.moments n x os (quiet_keeps s.moments n x (quiet_sent s.moments s.links.next n to (name_of m.body) (spelling m))) h)) h

pub outputs_walk : (n : ℕ) (told : Delivered) (v w : Nodes) (M : Memberships) (x : Site) (os : List Output) (s : Scene) → CanPass s.moments n os → Walks n told v w M x s
    → Walks n told v w M x (passing n os s)
outputs_walk n told v w M x [] s can h = h
outputs_walk n told v w M x (Tells e ∷ os) s can h =
    outputs_walk n told v w M x os (telling e s) (can_more s.moments n (Told e) os (quiet_keeps s.moments n (Told e) (calm_so s.moments e can.0).quiet) can.1)
    (calm_walks n told v w M x s e can.0 h)
outputs_walk n told v w M x (Sends to b ∷ os) s can h =
    let m : Message = record { sender = n; body = b } in
    outputs_walk n told v w M x os (posting n to m s) (can_posted n to m s os can.2) (posting_walks n told v w M x s to b can.0 can.1 h)

pub can_append : (before : List Moment) (n : ℕ) (os more : List Output) → CanPass before n os → CanPass before n more → CanPass before n (os ++ more)
can_append before n [] more h k = k
can_append before n (Tells e ∷ os) more h k = (h.0, can_append before n os more h.1 k)
can_append before n (Sends to b ∷ os) more h k = (h.0, h.1, can_append before n os more h.2 k)

-- what may be sent can pass where it has its widths
abbrev pub Sendable : List Moment → ℕ → List Output → Type 0
Sendable before n [] = Unit {0}
Sendable before n (Tells e ∷ os) = IsCalm e × Sendable before n os
Sendable before n (Sends to b ∷ os) = Caused before n b × Sendable before n os

pub can_pass : (before : List Moment) (n : ℕ) (os : List Output) → AllFit n os → Sendable before n os → CanPass before n os
can_pass before n [] fits h = tt
can_pass before n (Tells e ∷ os) fits h = (h.0, can_pass before n os fits h.1)
can_pass before n (Sends to b ∷ os) fits h = (fits.1, h.0, can_pass before n os fits.2 h.1)

pub passing_append : (n : ℕ) (os more : List Output) (s : Scene) → passing n (os ++ more) s ≡ passing n more (passing n os s)
passing_append n [] more s = refl
passing_append n (o ∷ os) more s = passing_append n os more (passing_one n o s)
