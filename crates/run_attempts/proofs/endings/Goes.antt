-- What stays while a node gives lines and messages, most of which tell nothing of attempts.
use Rattle.std.specs.Prelude.{ℕ, ◌≡◌, ◌≢◌, ◌≤◌, nat_le, true, false, List, [], ◌∷◌, length, Option, None, Some}
use Rattle.std.proofs.Common.{refl, sym, subst, ◌∙◌, arith}
use Rattle.attempt_laws.proofs.Walk.{if_with}
use Rattle.cl_base.specs.declared.packet.DropCause.{DropCause}
use Rattle.cmm_attempt.proofs.Basics.{and_cases, same_some}
use Rattle.history.specs.Moment.{Moment, Told}
use Rattle.history.specs.Seizing.{is_attempt}
use Rattle.interconnect.specs.Links as links
use Rattle.interconnect.specs.Links.{sending}
use Rattle.node_model.specs.declared.output.Output.{Output}
use Rattle.node_model.specs.declared.output.Output.TheVariants.{Sends, Tells}
use Rattle.refinement.proofs.node_widths.Lengths.{sent_messages_fit}
use Rattle.refinement.specs.Doings.{Site}
use Rattle.refinement.specs.Ties.{Delivered}
use Rattle.refinement.specs.Widths.{LetterFits}
use Rattle.run_history.specs.Scenes.{Scene, dropped_so, passing, posting, sent_as, telling, with_links}
use Rattle.run_messages.specs.Outputs.{AreGood}
use Rattle.status_report.specs.declared.entry.Entry.{Entry}
use Rattle.status_report.specs.declared.entry.Entry.TheVariants as entry
use Rattle.status_report.specs.declared.node_entry.NodeEntry.TheVariants as note
use Rattle.status_report.specs.declared.packet_entry.PacketEntry.TheVariants as packet
use Rattle.status_report.specs.declared.start_entry.StartEntry.TheVariants as start_entry
use Rattle.wire.proofs.Messages.{whole_again}
use Rattle.wire.specs.Reads.{whole_of}
use Rattle.wire.specs.Spelling.{Fits, spelling}
use Rattle.wire.specs.declared.message.Body.{Body}
use Rattle.wire.specs.declared.message.Message.{Message}
use Rattle.world_model.specs.Sends.{is_sent, name_of}
use Rattle.history.specs.Setting.{coordinator}
use Rattle.run_attempts.specs.endings.Laws.{ticks_of}
use Rattle.run_attempts.specs.endings.Nacks.{BodySo}
use Rattle.run_attempts.specs.endings.Sites.{AllJudged, AreFine, HandSo, IsQuietLine, Judged, SiteSo}
use Rattle.run_attempts.specs.endings.Ways.{IsOwn, way_of}
use Rattle.run_attempts.proofs.endings.Grows.{Grows, Stays, grows_then, hand_stays, made_by, node_stays, sends_stay, stays_grow, stays_one, stays_self, stays_then}

-- ---- nothing is told of attempts

pub record Quietly (before after : List Moment) : Type 0 where
  pub judged : AllJudged after
  pub stays : Stays before after
  pub ways : (k : ℕ) → way_of k after ≡ way_of k before
  pub ticks : (e : ℕ) → ticks_of e after ≡ ticks_of e before

pub quiet_self : (ms : List Moment) → AllJudged ms → Quietly ms ms
quiet_self ms h = record { judged = h; stays = stays_self ms; ways = λ k. refl; ticks = λ e. refl }

pub quiet_then : (first second third : List Moment) → Quietly first second → Quietly second third → Quietly first third
quiet_then first second third h i = record { judged = i.judged; stays = stays_then first second third h.stays i.stays; ways = λ k. i.ways k ∙ h.ways k; ticks = λ e. i.ticks e ∙ h.ticks e }

-- a moment that tells nothing of them
pub quiet_moment : (x : Moment) (ms : List Moment) → Judged ms x → ((e : ℕ) → is_attempt e x ≡ false) → ((k : ℕ) → way_of k (x ∷ ms) ≡ way_of k ms) → ((e : ℕ) → ticks_of e (x ∷ ms) ≡ ticks_of e ms) → AllJudged ms → Quietly ms (x ∷ ms)
quiet_moment x ms one none ways ticks h = record { judged = (one, h); stays = stays_one x ms none; ways = ways; ticks = ticks }

pub quiet_told : (e : Entry) (ms : List Moment) → IsQuietLine e → AllJudged ms → Quietly ms (Told e ∷ ms)
quiet_told (entry.Attempt e) ms quiet h = absurd quiet
quiet_told (entry.Start (start_entry.Started e members held count)) ms quiet h = absurd quiet
quiet_told (entry.Node m (note.Down why)) ms quiet h = absurd quiet
quiet_told (entry.Node m note.Ticked) ms quiet h = absurd quiet
quiet_told (entry.Packet e) ms quiet h = absurd quiet
quiet_told _ ms quiet h = quiet_moment _ ms (record { way = tt; superseded = tt; silent = tt; promises = tt; names = tt; waited = tt; says_so = tt }) (λ e. refl) (λ k. refl) (λ e. refl) h

pub dropped_quiet : (o : Option (ℕ × DropCause)) (s : Scene) → AllJudged s.moments → Quietly s.moments (dropped_so o s).moments
dropped_quiet None s h = quiet_self s.moments h
dropped_quiet (Some drop) s h = quiet_moment _ s.moments (record { way = tt; superseded = tt; silent = tt; promises = tt; names = tt; waited = tt; says_so = tt }) (λ e. refl) (λ k. refl) (λ e. refl) h

-- ---- a message

size : (k : ℕ) → nat_le k 131072 ≡ true → k ≤ 131072
size k e = grind arith

read_so : (ms : List Moment) (n : ℕ) (b : Body) → Fits (record { sender = n; body = b }) → BodySo ms n b → (m : Message) → whole_of (spelling (record { sender = n; body = b })) ≡ Some m → BodySo ms n m.body
read_so ms n b fits so m is = subst (λ (z : Message). BodySo ms n z.body) (same_some _ m (sym (whole_again (record { sender = n; body = b }) fits) ∙ is)) so

posting_quiet : (n to : ℕ) (b : Body) (s : Scene) → LetterFits (record { from = n; body = b }) → BodySo s.moments n b → AllJudged s.moments → Quietly s.moments (posting n to (record { sender = n; body = b }) s).moments
posting_quiet n to b s fits so h =
    let m : Message = record { sender = n; body = b } in
    let o : links.Outcome = sending s.links n to (spelling m) in
    let t : Scene = telling (entry.Packet (packet.Sent s.links.next n to (name_of m.body) (spelling m))) (with_links s o.after) in
    if_with (λ (z : Scene). Quietly s.moments z.moments) (is_sent s.links m) (is_sent s.links m) (sent_as n to m o s) s refl
    (λ e.
    let one : Quietly s.moments t.moments =
    quiet_moment (Told (entry.Packet (packet.Sent s.links.next n to (name_of m.body) (spelling m)))) s.moments
    (record { way = tt; superseded = tt; silent = tt; promises = tt; names = tt; waited = tt; says_so = read_so s.moments n b (sent_messages_fit m fits.0 fits.1 (size (length (spelling m)) (and_cases _ _ e).0)) so }) (λ f. refl) (λ k. refl) (λ f. refl) h in
    quiet_then s.moments t.moments (dropped_so o.sent.dropped t).moments one (dropped_quiet o.sent.dropped t one.judged))
    (λ e. quiet_self s.moments h)

-- ---- what a node gives

fine_stays : (n : ℕ) (before after : List Moment) (os : List Output) → Stays before after → AreFine before n os → AreFine after n os
fine_stays n before after [] s h = tt
fine_stays n before after (Tells e ∷ os) s h = (h.0, fine_stays n before after os s h.1)
fine_stays n before after (Sends to b ∷ os) s h = (sends_stay n before after s b h.0, fine_stays n before after os s h.1)

pub quiet_goes : (n : ℕ) (os : List Output) (s : Scene) → AreFine s.moments n os → AreGood n os → AllJudged s.moments → Quietly s.moments (passing n os s).moments
quiet_goes n [] s fine good h = quiet_self s.moments h
quiet_goes n (Tells e ∷ os) s fine good h =
    let t : Scene = telling e s in
    let one : Quietly s.moments t.moments = quiet_told e s.moments fine.0 h in
    quiet_then s.moments t.moments (passing n os t).moments one (quiet_goes n os t (fine_stays n s.moments t.moments os one.stays fine.1) good.1 one.judged)
quiet_goes n (Sends to b ∷ os) s fine good h =
    let t : Scene = posting n to (record { sender = n; body = b }) s in
    let one : Quietly s.moments t.moments = posting_quiet n to b s good.0 fine.0 h in
    quiet_then s.moments t.moments (passing n os t).moments one (quiet_goes n os t (fine_stays n s.moments t.moments os one.stays fine.1) good.1 one.judged)

-- ---- what is so where node n comes to this site, and the lines to these

pub record Went (n : ℕ) (told : Delivered) (before : List Moment) (x : Site) (after : List Moment) : Type 0 where
  pub judged : AllJudged after
  pub site_so : SiteSo after n x
  pub grows : Grows n before after
  pub ways : (k : ℕ) → k ≢ n → IsOwn k (way_of k before) → way_of k after ≡ way_of k before
  pub ticks : (k e : ℕ) → k ≢ n → coordinator e ≡ k → ticks_of e after ≡ ticks_of e before
  pub hand : HandSo after n told

pub site_quiet : (n : ℕ) (before after : List Moment) (x : Site) → Quietly before after → SiteSo before n x → SiteSo after n x
site_quiet n before after x q h = record {
  way = q.ways n ∙ h.way;
  disk = made_by before after n x.disk.promised (q.stays.tried x.disk.promised) (q.stays.stopped n) h.disk;
  up = node_stays n before after x.node q.stays h.up;
}

-- quietly, from where the site is so already
pub went_quiet : (n : ℕ) (told : Delivered) (before after : List Moment) (x : Site) → Quietly before after → SiteSo before n x → HandSo before n told → Went n told before x after
went_quiet n told before after x q h hand = record {
  judged = q.judged;
  site_so = site_quiet n before after x q h;
  grows = stays_grow n before after q.stays;
  ways = λ k ne own. q.ways k;
  ticks = λ k e ne own. q.ticks e;
  hand = hand_stays before after n told q.stays hand;
}

pub went_then : (n : ℕ) (told : Delivered) (first second third : List Moment) (x y : Site) → Went n told first x second → Went n told second y third → Went n told first y third
went_then n told first second third x y h i = record {
  judged = i.judged;
  site_so = i.site_so;
  grows = grows_then n first second third h.grows i.grows;
  ways = λ k ne own. i.ways k ne (subst (IsOwn k) (sym (h.ways k ne own)) own) ∙ h.ways k ne own;
  ticks = λ k e ne own. i.ticks k e ne own ∙ h.ticks k e ne own;
  hand = i.hand;
}
