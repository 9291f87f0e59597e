-- Behind a proposal or an attempt of its own each stop in a tick falls where the rules let the node save; other lines tell of none.
use Rattle.std.specs.Prelude.{ℕ, ◌≡◌, ◌==◌, ◌&&◌, ◌||◌, Bool, true, false, List, [], ◌∷◌, Option, None, Some}
use Rattle.std.specs.List.{list_any}
use Rattle.std.proofs.Common.{refl, sym, ap, subst, ◌∙◌, arith}
use Rattle.cl_base.specs.declared.packet.DropCause.{DropCause}
use Rattle.cmm_attempt.proofs.Basics.{if_either, same_some}
use Rattle.history.specs.Attempts.{configured_for}
use Rattle.history.specs.Moment.{Moment, Told}
use Rattle.history.specs.Order.{so_far, under_way}
use Rattle.history.specs.Saves.{is_attempt_of, may_save, proposes, saves_in, saves_in_tick, wants}
use Rattle.history.specs.Setting.{Setting}
use Rattle.interconnect.specs.Links as net
use Rattle.interconnect.specs.Links.{sending}
use Rattle.node_model.specs.declared.output.Output.{Output}
use Rattle.node_model.specs.declared.output.Output.TheVariants.{Sends, Tells}
use Rattle.schedule_text.specs.declared.event.Event.{Event}
use Rattle.schedule_text.specs.declared.event.Event.TheVariants as event
use Rattle.status_report.specs.declared.entry.Entry.{Entry}
use Rattle.status_report.specs.declared.entry.Entry.TheVariants as entry
use Rattle.status_report.specs.declared.node_entry.DownCause.TheVariants as cause
use Rattle.status_report.specs.declared.node_entry.NodeEntry.TheVariants as note
use Rattle.status_report.specs.declared.packet_entry.PacketEntry.TheVariants as packet
use Rattle.wire.specs.Spelling.{spelling}
use Rattle.wire.specs.declared.message.Message.{Message}
use Rattle.world_model.specs.Sends.{is_sent, name_of}
use Rattle.run_history.specs.Scenes.{Scene, dropped_so, passing, posting, sent_as, telling, with_links}
use Rattle.run_downs.proofs.Rules.{IsNoStop, NoStops}
use Rattle.run_outcomes.specs.stops.Known.{AllStop, OwnStops}

-- ---- the rule of a tick

node_of : ℕ → Event → ℕ
node_of k (event.Tick n) = n
node_of k _ = k

pub same_tick : (m n : ℕ) → Some (event.Tick m) ≡ Some (event.Tick n) → m ≡ n
unfolding node_of
same_tick m n h = ap (node_of m) (same_some (event.Tick m) (event.Tick n) h)

pub same_self : (n : ℕ) → (n == n) ≡ true
same_self n = grind arith

both_so : (a b : Bool) → a ≡ true → b ≡ true → (a && b) ≡ true
both_so true true h k = refl
both_so true false h k = cc
both_so false b h k = cc

pub tick_rule : (S : Setting) (n : ℕ) (ms : List Moment) → under_way ms ≡ Some (event.Tick n) → saves_in_tick S n ms ≡ true → may_save S n ms ≡ true
tick_rule S n ms is saves = subst (λ e. saves_in S n e ms ≡ true) (sym is) (both_so (n == n) (saves_in_tick S n ms) (same_self n) saves)

-- it has begun an attempt in this event, or proposed
abbrev pub IsCaused : ℕ → List Moment → Type 0
IsCaused n ms = (list_any (is_attempt_of n) (so_far ms) || proposes n ms) ≡ true

by_cause : (a b c : Bool) → (b || c) ≡ true → (a || b || c) ≡ true
by_cause true b c h = refl
by_cause false true c h = refl
by_cause false false c h = h

by_wish : (a b c : Bool) → a ≡ true → (a || b || c) ≡ true
by_wish true b c h = refl
by_wish false b c h = cc

pub caused_saves : (S : Setting) (n : ℕ) (ms : List Moment) → IsCaused n ms → saves_in_tick S n ms ≡ true
caused_saves S n ms h = by_cause (wants S n ms (configured_for S n ms)) (list_any (is_attempt_of n) (so_far ms)) (proposes n ms) h

pub wants_saves : (S : Setting) (n : ℕ) (ms : List Moment) → wants S n ms (configured_for S n ms) ≡ true → saves_in_tick S n ms ≡ true
wants_saves S n ms h = by_wish (wants S n ms (configured_for S n ms)) (list_any (is_attempt_of n) (so_far ms)) (proposes n ms) h

-- ---- behind a cause

more_caused : (a b c d : Bool) → (a || b) ≡ true → ((c || a) || (d || b)) ≡ true
more_caused a b true d h = refl
more_caused true b false d h = refl
more_caused false true false true h = refl
more_caused false true false false h = refl
more_caused false false false d h = cc

told_caused : (n : ℕ) (e : Entry) (ms : List Moment) → IsCaused n ms → IsCaused n (Told e ∷ ms)
told_caused n e ms h = more_caused (list_any (is_attempt_of n) (so_far ms)) (proposes n ms) _ _ h

dropped_caused : (n : ℕ) (o : Option (ℕ × DropCause)) (s : Scene) → IsCaused n s.moments → IsCaused n (dropped_so o s).moments
dropped_caused n None s h = h
dropped_caused n (Some x) s h = told_caused n (entry.Packet (packet.Dropped x.0 x.1)) s.moments h

posted_caused : (n from to : ℕ) (m : Message) (s : Scene) → IsCaused n s.moments → IsCaused n (posting from to m s).moments
posted_caused n from to m s h =
    let o : net.Outcome = sending s.links from to (spelling m) in
    let e : Entry = entry.Packet (packet.Sent s.links.next from to (name_of m.body) (spelling m)) in
    if_either (λ (z : Scene). IsCaused n z.moments) (is_sent s.links m) (sent_as from to m o s) s (dropped_caused n o.sent.dropped (telling e (with_links s o.after)) (told_caused n e s.moments h)) h

-- ---- what is sent tells of no stop

pub dropped_stop : (S : Setting) (o : Option (ℕ × DropCause)) (s : Scene) → AllStop S s.moments → AllStop S (dropped_so o s).moments
dropped_stop S None s h = h
dropped_stop S (Some x) s h = (tt, h)

posted_stop : (S : Setting) (from to : ℕ) (m : Message) (s : Scene) → AllStop S s.moments → AllStop S (posting from to m s).moments
posted_stop S from to m s h =
    let o : net.Outcome = sending s.links from to (spelling m) in
    if_either (λ (z : Scene). AllStop S z.moments) (is_sent s.links m) (sent_as from to m o s) s
    (dropped_stop S o.sent.dropped (telling (entry.Packet (packet.Sent s.links.next from to (name_of m.body) (spelling m))) (with_links s o.after)) (tt, h)) h

pub posted_way : (from to : ℕ) (m : Message) (s : Scene) → under_way (posting from to m s).moments ≡ under_way s.moments
posted_way from to m s =
    let o : net.Outcome = sending s.links from to (spelling m) in
    if_either (λ (z : Scene). under_way z.moments ≡ under_way s.moments) (is_sent s.links m) (sent_as from to m o s) s
    (way o.sent.dropped (telling (entry.Packet (packet.Sent s.links.next from to (name_of m.body) (spelling m))) (with_links s o.after))) refl
  where
    way : (o : Option (ℕ × DropCause)) (t : Scene) → under_way (dropped_so o t).moments ≡ under_way t.moments
    way None t = refl
    way (Some x) t = refl

-- ---- lines

-- the stop of a node in this tick, where the rules let node n save
pub ruled_stop : (S : Setting) (n m : ℕ) (ms : List Moment) → under_way ms ≡ Some (event.Tick n) → saves_in_tick S n ms ≡ true → under_way ms ≡ Some (event.Tick m) → may_save S m ms ≡ true
ruled_stop S n m ms is saves own = subst (λ k. may_save S k ms ≡ true) (same_tick n m (sym is ∙ own)) (tick_rule S n ms is saves)

pub ruled_line : (S : Setting) (n : ℕ) (e : Entry) (ms : List Moment) → under_way ms ≡ Some (event.Tick n) → saves_in_tick S n ms ≡ true → OwnStops S ms (Told e)
ruled_line S n (entry.Node m (note.Down cause.Stopped)) ms is saves = ruled_stop S n m ms is saves
ruled_line S n _ ms is saves = tt

pub behind : (S : Setting) (n k : ℕ) (os : List Output) (s : Scene) → IsCaused n s.moments → under_way s.moments ≡ Some (event.Tick n) → AllStop S s.moments → AllStop S (passing k os s).moments
behind S n k [] s h is so = so
behind S n k (Tells e ∷ os) s h is so = behind S n k os (telling e s) (told_caused n e s.moments h) is (ruled_line S n e s.moments is (caused_saves S n s.moments h), so)
behind S n k (Sends to b ∷ os) s h is so =
    let m : Message = record { sender = k; body = b } in
    behind S n k os (posting k to m s) (posted_caused n k to m s h) (posted_way k to m s ∙ is) (posted_stop S k to m s so)

no_stop_line : (S : Setting) (e : Entry) (ms : List Moment) → IsNoStop (Tells e) → OwnStops S ms (Told e)
no_stop_line S (entry.Node m (note.Down cause.Stopped)) ms h = absurd h
no_stop_line S _ ms h = tt

pub none_stop : (S : Setting) (k : ℕ) (os : List Output) (s : Scene) → NoStops os → AllStop S s.moments → AllStop S (passing k os s).moments
none_stop S k [] s h so = so
none_stop S k (Tells e ∷ os) s h so = none_stop S k os (telling e s) h.1 (no_stop_line S e s.moments h.0, so)
none_stop S k (Sends to b ∷ os) s h so = none_stop S k os (posting k to (record { sender = k; body = b }) s) h.1 (posted_stop S k to (record { sender = k; body = b }) s so)

-- ---- another event

-- the event under way is no tick
abbrev pub NoTick : List Moment → Type 0
NoTick ms = (n : ℕ) → under_way ms ≡ Some (event.Tick n) → ⊥

other_line : (S : Setting) (e : Entry) (ms : List Moment) → NoTick ms → OwnStops S ms (Told e)
other_line S (entry.Node m (note.Down cause.Stopped)) ms h = λ own. absurd (h m own)
other_line S _ ms h = tt

pub other_stop : (S : Setting) (k : ℕ) (os : List Output) (s : Scene) → NoTick s.moments → AllStop S s.moments → AllStop S (passing k os s).moments
other_stop S k [] s h so = so
other_stop S k (Tells e ∷ os) s h so = other_stop S k os (telling e s) h (other_line S e s.moments h, so)
other_stop S k (Sends to b ∷ os) s h so =
    let m : Message = record { sender = k; body = b } in
    other_stop S k os (posting k to m s) (λ n is. h n (sym (posted_way k to m s) ∙ is)) (posted_stop S k to m s so)
