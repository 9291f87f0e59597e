-- Before its first save in a tick a node tells nothing of its record, its membership and its attempts.
use Rattle.std.specs.Prelude.{ℕ, ◌≡◌, ◌==◌, List, [], ◌∷◌, Option, None, Some}
use Rattle.std.specs.List.{AllByRecursion}
use Rattle.std.proofs.Common.{refl, sym, ◌∙◌, inl, inr}
use Rattle.cl_base.specs.Limits.{most_nodes}
use Rattle.cl_base.specs.Numbers.{numbers_to}
use Rattle.cl_base.specs.declared.packet.DropCause.{DropCause}
use Rattle.cmm_attempt.proofs.Basics.{if_either, none_some}
use Rattle.cmm_member.specs.Records as members
use Rattle.history.specs.Member as history
use Rattle.history.specs.Moment.{Moment, Told}
use Rattle.history.specs.Names.{named}
use Rattle.history.specs.Records.{NodeRecord, record_of, sent_from}
use Rattle.interconnect.specs.Links as net
use Rattle.interconnect.specs.Links.{sending}
use Rattle.node_model.specs.Presidents.{sent_to}
use Rattle.node_model.specs.Seats.{coordinator_of}
use Rattle.node_model.specs.Ticks.{heartbeat_of, heartbeats_to, ticked_output}
use Rattle.node_model.specs.Updates.{request_again, request_again_by, request_again_to}
use Rattle.node_model.specs.declared.cluster.Cluster.{Cluster}
use Rattle.node_model.specs.declared.node.Node.TheVariants.{Up}
use Rattle.node_model.specs.declared.node.UpNode.{UpNode}
use Rattle.node_model.specs.declared.output.Output.{Output}
use Rattle.node_model.specs.declared.output.Output.TheVariants.{Sends, Tells}
use Rattle.node_model.specs.declared.presidency.Presidency.{Presidency}
use Rattle.refinement.specs.Courses.{Course, Reply, under}
use Rattle.refinement.specs.Courses.Course.{Acts, Falls, Keeps, Stops}
use Rattle.refinement.specs.Doings.{Act, acted, said, site}
use Rattle.refinement.specs.Doings.Act.{Gives, Minds, Spreads, Waits, Works}
use Rattle.refinement.specs.Guards.{MayAct, MayAll, TellNothing}
use Rattle.refinement.specs.Ties.{Delivered}
use Rattle.request_queue.specs.Queue as queue
use Rattle.request_queue.specs.declared.request.Request.{Request}
use Rattle.status_report.specs.declared.entry.Entry.{Entry}
use Rattle.status_report.specs.declared.entry.Entry.TheVariants as entry
use Rattle.status_report.specs.declared.packet_entry.PacketEntry.TheVariants as packet
use Rattle.wire.specs.Spelling.{spelling}
use Rattle.wire.specs.declared.message.Body.{Body}
use Rattle.wire.specs.declared.message.Body.TheVariants as body
use Rattle.wire.specs.declared.message.Message.{Message}
use Rattle.world_model.specs.Sends.{is_sent, name_of}
use Rattle.run_history.specs.Guards.{IsPlainBody}
use Rattle.run_history.specs.Scenes.{Scene, dropped_so, passing, posting, sent_as, telling, with_links}
use Rattle.run_history.proofs.Lists.{both, mapped}
use Rattle.run_history.proofs.Ordinary.{GivesAside, IsAside}
use Rattle.run_history.proofs.Small.{AllSmall, IsSmallAct}
use Rattle.run_attempts.proofs.Alike.{alike_self, alike_then, posting_alike, told_alike}
use Rattle.run_downs.proofs.Rules.{IsNoStop, NoStops}
use Rattle.run_outcomes.specs.stops.Courses.{Lead, SavesFirst, SavesNone, StillAct, first_said, lead_at}
use Rattle.run_outcomes.specs.stops.Known.{AreStill, IsNoInstall, IsStillOut, StillOn}

-- ---- lines

pub still_self : (n : ℕ) (ms : List Moment) → StillOn n ms ms
still_self n ms = record { alike = alike_self ms; kept = refl; seat = refl; members = λ e. refl }

pub still_then : (n : ℕ) (first second third : List Moment) → StillOn n first second → StillOn n second third → StillOn n first third
still_then n first second third h i = record {
  alike = alike_then first second third h.alike i.alike;
  kept = i.kept ∙ h.kept;
  seat = i.seat ∙ h.seat;
  members = λ e. i.members e ∙ h.members e;
}

told_still : (n : ℕ) (e : Entry) (ms : List Moment) → IsAside e → StillOn n ms (Told e ∷ ms)
told_still n (entry.Command e) ms h = record { alike = told_alike (entry.Command e) ms tt; kept = refl; seat = refl; members = λ f. refl }
told_still n (entry.Status e) ms h = record { alike = told_alike (entry.Status e) ms tt; kept = refl; seat = refl; members = λ f. refl }
told_still n (entry.Call e) ms h = record { alike = told_alike (entry.Call e) ms tt; kept = refl; seat = refl; members = λ f. refl }
told_still n (entry.Address e) ms h = record { alike = told_alike (entry.Address e) ms tt; kept = refl; seat = refl; members = λ f. refl }
told_still n _ ms h = absurd h

-- what is sent

other_sent : (b : Body) (bytes : List ℕ) (r : Option NodeRecord) → IsNoInstall b → sent_from (named (name_of b)) bytes r ≡ r
other_sent (body.Install i) bytes r h = absurd h
other_sent _ bytes r h = refl

dropped_kept : (n : ℕ) (o : Option (ℕ × DropCause)) (s : Scene) → record_of n (dropped_so o s).moments ≡ record_of n s.moments
dropped_kept n None s = refl
dropped_kept n (Some x) s = refl

posted_kept : (n from to : ℕ) (m : Message) (s : Scene) → IsNoInstall m.body → record_of n (posting from to m s).moments ≡ record_of n s.moments
posted_kept n from to m s h =
    let o : net.Outcome = sending s.links from to (spelling m) in
    if_either (λ (z : Scene). record_of n z.moments ≡ record_of n s.moments) (is_sent s.links m) (sent_as from to m o s) s
    (dropped_kept n o.sent.dropped (telling (entry.Packet (packet.Sent s.links.next from to (name_of m.body) (spelling m))) (with_links s o.after))
    ∙ if_either (λ z. z ≡ record_of n s.moments) (from == n) (sent_from (named (name_of m.body)) (spelling m) (record_of n s.moments)) (record_of n s.moments) (other_sent m.body (spelling m) (record_of n s.moments) h) refl) refl

-- the rest of the lines of a message tells of no node
record SameSeat (n : ℕ) (before after : List Moment) : Type 0 where
  seat : history.member_of n after ≡ history.member_of n before
  members : (e : ℕ) → history.members_of e after ≡ history.members_of e before

dropped_seat : (n : ℕ) (o : Option (ℕ × DropCause)) (s : Scene) → SameSeat n s.moments (dropped_so o s).moments
dropped_seat n None s = record { seat = refl; members = λ e. refl }
dropped_seat n (Some x) s = record { seat = refl; members = λ e. refl }

posted_seat : (n from to : ℕ) (m : Message) (s : Scene) → SameSeat n s.moments (posting from to m s).moments
posted_seat n from to m s =
    let o : net.Outcome = sending s.links from to (spelling m) in
    let t : Scene = telling (entry.Packet (packet.Sent s.links.next from to (name_of m.body) (spelling m))) (with_links s o.after) in
    let d : SameSeat n t.moments (dropped_so o.sent.dropped t).moments = dropped_seat n o.sent.dropped t in
    if_either (λ (z : Scene). SameSeat n s.moments z.moments) (is_sent s.links m) (sent_as from to m o s) s (record { seat = d.seat; members = d.members }) (record { seat = refl; members = λ e. refl })

posted_still : (n from to : ℕ) (m : Message) (s : Scene) → IsNoInstall m.body → StillOn n s.moments (posting from to m s).moments
posted_still n from to m s h =
    let seat : SameSeat n s.moments (posting from to m s).moments = posted_seat n from to m s in
    record { alike = posting_alike from to m s; kept = posted_kept n from to m s h; seat = seat.seat; members = seat.members }

pub passing_still : (n k : ℕ) (os : List Output) (s : Scene) → AreStill os → StillOn n s.moments (passing k os s).moments
passing_still n k [] s h = still_self n s.moments
passing_still n k (Tells e ∷ os) s h =
    still_then n s.moments (telling e s).moments (passing k os (telling e s)).moments (told_still n e s.moments h.0) (passing_still n k os (telling e s) h.1)
passing_still n k (Sends to b ∷ os) s h =
    let m : Message = record { sender = k; body = b } in
    let t : Scene = posting k to m s in
    still_then n s.moments t.moments (passing k os t).moments (posted_still n k to m s h.0) (passing_still n k os t h.1)

-- ---- none of it is a stop

aside_no_stop : (e : Entry) → IsAside e → IsNoStop (Tells e)
aside_no_stop (entry.Node n e) h = absurd h
aside_no_stop _ h = tt

pub still_no_stops : (os : List Output) → AreStill os → NoStops os
still_no_stops [] h = tt
still_no_stops (Tells e ∷ os) h = (aside_no_stop e h.0, still_no_stops os h.1)
still_no_stops (Sends to b ∷ os) h = (tt, still_no_stops os h.1)

-- ---- what a node gives

given_still : (os : List Output) → AllByRecursion GivesAside os → TellNothing os → AreStill os
given_still [] h k = tt
given_still (Tells e ∷ os) h k = (h.0, given_still os h.1 k.1)
given_still (Sends to (body.Request p number text) ∷ os) h k = (tt, given_still os h.1 k.1)
given_still (Sends to (body.Answer p number text) ∷ os) h k = (tt, given_still os h.1 k.1)
given_still (Sends to (body.Order o) ∷ os) h k = (tt, given_still os h.1 k.1)
given_still (Sends to b ∷ os) h k = absurd k.0

plain_body : (b : Body) → IsPlainBody b → IsNoInstall b
plain_body (body.Install i) h = absurd h
plain_body _ h = tt

spread_still : (receivers : ℕ) (b : Body) → IsNoInstall b → AreStill (sent_to receivers b)
unfolding sent_to
spread_still receivers b h = mapped IsStillOut (λ n. Sends n b) (numbers_to receivers most_nodes) (λ n. h)

pub said_still : (c : Cluster) (n : ℕ) (told : Delivered) (x : UpNode) (a : Act) → StillAct a → MayAct c n told x a → IsSmallAct a → AreStill (said c n x a)
said_still c n told x (Gives os) h may small = given_still os small may
said_still c n told x (Spreads receivers b) h may small = spread_still receivers b (plain_body b h)
said_still c n told x (Minds q p) h may small = tt
said_still c n told x (Works w) h may small = tt
said_still c n told x Waits h may small = tt
said_still c n told x _ h may small = absurd h

again_to_still : (x : UpNode) (r : Option Request) (o : Option ℕ) → AreStill (request_again_to x r o)
again_to_still x (Some r) (Some president) = (tt, tt)
again_to_still x None president = tt
again_to_still x (Some r) None = tt

again_by_still : (x : UpNode) (o : Option Presidency) → AreStill (request_again_by x o)
again_by_still x None =
    if_either AreStill (queue.goes_again x.requests) (request_again_to x (queue.oldest x.requests) (coordinator_of x)) []
    (again_to_still x (queue.oldest x.requests) (coordinator_of x)) tt
again_by_still x (Some p) = tt

heartbeats_still : (x : UpNode) (receivers : ℕ) → AreStill (heartbeats_to x receivers)
unfolding heartbeats_to
heartbeats_still x receivers = mapped IsStillOut (λ n. Sends n (heartbeat_of x)) (numbers_to receivers most_nodes) (λ n. tt)

pub ticked_still : (c : Cluster) (before x : UpNode) → AreStill (ticked_output c before x)
ticked_still c before x = both IsStillOut (heartbeats_to x _) (request_again before) (heartbeats_still x _) (again_by_still before before.presidency)

-- ---- up to the first save

pub none_lead : (c : Cluster) (n : ℕ) (x : UpNode) (k : Course) → SavesNone k → lead_at c n x k ≡ None
none_lead c n x Stops h = refl
none_lead c n x (Acts a rest) h = none_lead c n (acted c n x a) rest h.1
none_lead c n x (Keeps change rest) h = absurd h
none_lead c n x (Falls why) h = refl

pub first_still : (c : Cluster) (n : ℕ) (told : Delivered) (x : UpNode) (disk : members.NodeRecord) (k : Course) (replies : List Reply) (l : Lead) → SavesFirst k → lead_at c n x k ≡ Some l
    → MayAll c n told (site (Up x) disk) (under replies k) → AllSmall (under replies k) → AreStill (first_said c n x k)
first_still c n told x disk Stops replies l h is may small = tt
first_still c n told x disk (Acts a rest) replies l (inl h) is may small =
    both IsStillOut (said c n x a) (first_said c n (acted c n x a) rest) (said_still c n told x a h.0 may.0 small.0) (first_still c n told (acted c n x a) disk rest replies l h.1 is may.1 small.1)
first_still c n told x disk (Acts a rest) replies l (inr h) is may small = absurd (none_some l (sym (none_lead c n x (Acts a rest) h) ∙ is))
first_still c n told x disk (Keeps change rest) replies l h is may small = tt
first_still c n told x disk (Falls why) replies l h is may small = tt
