-- A tick: the Heartbeats that are sent go where they are due.
use Rattle.std.specs.Prelude.{ℕ, ◌≡◌, ◌≤◌, ◌==◌, ◌&&◌, not, Bool, true, false, List, [], ◌∷◌, ◌++◌, map, Option, None, Some, is_some, IfSome, if◌then◌else◌}
use Rattle.std.specs.List.{AllByRecursion}
use Rattle.std.proofs.Common.{refl, sym, subst, ◌∙◌, arith}
use Rattle.cl_base.specs.Limits.{most_nodes}
use Rattle.cl_base.specs.Numbers.{numbers_to}
use Rattle.cl_base.specs.Sets.{has}
use Rattle.cl_base.specs.declared.packet.DropCause.{DropCause}
use Rattle.cmm_attempt.proofs.Basics.{and_cases, false_true, if_either}
use Rattle.heartbeats.specs.Peers.{peer_in}
use Rattle.heartbeats.specs.State.{State}
use Rattle.heartbeats.specs.Views.{is_heard, is_receiver, receivers_of}
use Rattle.heartbeats.specs.declared.peer.Peer.{Peer}
use Rattle.history.specs.Attempts.{age_of, configured_for, configured_in, gets_heartbeat}
use Rattle.history.specs.Moment.{Moment, Told}
use Rattle.history.specs.Names as name
use Rattle.history.specs.Order.{under_way}
use Rattle.history.specs.Records.{record_of, sent_from}
use Rattle.history.specs.Setting.{Setting}
use Rattle.history.specs.Trace.{ticked}
use Rattle.interconnect.specs.Links as links
use Rattle.interconnect.specs.Links.{sending}
use Rattle.node_model.specs.Configurations.{configured_at}
use Rattle.node_model.specs.Ticks.{heartbeat_of, heartbeats_to, later, ticked_output}
use Rattle.node_model.specs.Updates.{request_again}
use Rattle.node_model.specs.declared.cluster.Cluster.{Cluster}
use Rattle.node_model.specs.declared.node.UpNode.{UpNode}
use Rattle.node_model.specs.declared.output.Output.{Output}
use Rattle.node_model.specs.declared.output.Output.TheVariants.{Sends}
use Rattle.refinement.specs.Doings.{of_node}
use Rattle.run_history.proofs.Idle.{passing_append}
use Rattle.run_history.proofs.Lists.{mapped}
use Rattle.run_history.specs.Scenes.{Scene, dropped_so, passing, posting, sent_as, telling, with_links}
use Rattle.schedule_text.specs.declared.event.Event.TheVariants.{Tick}
use Rattle.status_report.specs.declared.entry.Entry.TheVariants as entry
use Rattle.status_report.specs.declared.node_entry.NodeEntry.TheVariants as note
use Rattle.status_report.specs.declared.packet_entry.PacketEntry.TheVariants as packet
use Rattle.wire.specs.Spelling.{spelling}
use Rattle.wire.specs.declared.message.Message.{Message}
use Rattle.world_model.specs.Sends.{is_sent, name_of}
use Rattle.run_attempts.specs.Heard.{AgeSo, BeatsSo}
use Rattle.run_attempts.specs.Judged.{AllJudged, IsSetOf, Judged}
use Rattle.run_attempts.proofs.Alike.{AreAlike, IsAlike, Alike, alike_then, beats_stay, mild_alike, mild_judged, passing_alike, posting_alike, posting_judged}
use Rattle.run_attempts.proofs.Mild.{again_mild}
use Rattle.run_attempts.proofs.Sets.{each_number, has_where}

-- what is so while the Heartbeats of a tick are sent
pub record Here (S : Setting) (n configured : ℕ) (x : UpNode) (moments : List Moment) : Type 0 where
  pub way : under_way moments ≡ Some (Tick n)
  pub known : IfSome (configured_for S n moments) (IsSetOf configured)
  pub beats : BeatsSo moments n x.beats
  pub so : AllJudged S moments

-- ---- one of them

heard_aged : (peer : Option Peer) (age : Option ℕ) → AgeSo peer age → is_heard peer ≡ true → is_some age ≡ true
heard_aged None age h is = absurd (false_true is)
heard_aged (Some peer) None h is = absurd h
heard_aged (Some peer) (Some k) h is = refl

due_so : (a b c d e : Bool) → (a && (if b then c else d)) ≡ true → (d ≡ true → e ≡ true) → (a && (if b then c else e)) ≡ true
due_so true true c d e h f = h
due_so true false c d e h f = f h
due_so false b c d e h f = h

abbrev Receives : State → ℕ → ℕ → Type 0
Receives s configured m = (1 ≤ m) × (m ≤ 32) × (is_receiver s configured m ≡ true)

-- the same, by what is configured and by the node's own number
receives_by : (s : State) (configured n m : ℕ) (test : ℕ → Bool) → s.me ≡ n → 1 ≤ n → n ≤ 32 → Receives s configured m → IsSetOf configured test
    → (not (m == n) && (if test n then test m else is_heard (peer_in s.peers m))) ≡ true
receives_by s configured n m test me low high r same =
    subst (λ b. (not (m == n) && (if test n then b else is_heard (peer_in s.peers m))) ≡ true) (same m r.0 r.1)
    (subst (λ b. (not (m == n) && (if b then has configured m else is_heard (peer_in s.peers m))) ≡ true) (same n low high)
    (subst (λ k. (not (m == k) && (if has configured k then has configured m else is_heard (peer_in s.peers m))) ≡ true) me r.2))

gets : (s : State) (configured n m : ℕ) (ms : List Moment) (test : ℕ → Bool) → 1 ≤ n → n ≤ 32 → Receives s configured m → BeatsSo ms n s → IsSetOf configured test → gets_heartbeat test n ms m ≡ true
gets s configured n m ms test low high r h same =
    due_so (not (m == n)) (test n) (test m) (is_heard (peer_in s.peers m)) (is_some (age_of n m ms)) (receives_by s configured n m test h.me low high r same)
    (heard_aged (peer_in s.peers m) (age_of n m ms) (h.peers m r.0 r.1).age)

if_some_with : (o : Option (ℕ → Bool)) (P Q : (ℕ → Bool) → Type 0) → ((test : ℕ → Bool) → P test → Q test) → IfSome o P → IfSome o Q
if_some_with None P Q f h = tt
if_some_with (Some test) P Q f h = f test h

not_true : (b : Bool) → not b ≡ true → b ≡ false
not_true true h = absurd (false_true h)
not_true false h = refl

other_node : (s : State) (configured n m : ℕ) → s.me ≡ n → Receives s configured m → (m == n) ≡ false
other_node s configured n m me r =
    not_true (m == n) (subst (λ k. not (m == k) ≡ true) me (and_cases (not (m == s.me)) (if has configured s.me then has configured m else is_heard (peer_in s.peers m)) r.2).0)

beat_judged : (S : Setting) (n configured m p : ℕ) (x : UpNode) (bytes : List ℕ) (ms : List Moment) → 1 ≤ n → n ≤ 32 → Receives x.beats configured m → Here S n configured x ms
    → Judged S ms (Told (entry.Packet (packet.Sent p n m (name_of (heartbeat_of x)) bytes)))
beat_judged S n configured m p x bytes ms low high r h = record {
  in_tick = (h.way, other_node x.beats configured n m h.beats.me r);
  due = (h.way, if_some_with (configured_for S n ms) (IsSetOf configured) (λ test. gets_heartbeat test n ms m ≡ true) (λ test same. gets x.beats configured n m ms test low high r h.beats same) h.known);
  begins_so = tt;
}

-- ---- a node's record stays while they are sent

dropped_record : (n : ℕ) (o : Option (ℕ × DropCause)) (s : Scene) → record_of n (dropped_so o s).moments ≡ record_of n s.moments
dropped_record n None s = refl
dropped_record n (Some drop) s = refl

posting_record : (n to : ℕ) (x : UpNode) (s : Scene) → record_of n (posting n to (record { sender = n; body = heartbeat_of x }) s).moments ≡ record_of n s.moments
posting_record n to x s =
    let m : Message = record { sender = n; body = heartbeat_of x } in
    let o : links.Outcome = sending s.links n to (spelling m) in
    if_either (λ (t : Scene). record_of n t.moments ≡ record_of n s.moments) (is_sent s.links m) (sent_as n to m o s) s
    (dropped_record n o.sent.dropped (telling (entry.Packet (packet.Sent s.links.next n to (name_of m.body) (spelling m))) (with_links s o.after))
    ∙ if_either (λ z. z ≡ record_of n s.moments) (n == n) (sent_from name.Heartbeat (spelling m) (record_of n s.moments)) (record_of n s.moments) refl refl) refl

known_stays : (S : Setting) (n configured : ℕ) (before after : List Moment) → record_of n after ≡ record_of n before → IfSome (configured_for S n before) (IsSetOf configured) → IfSome (configured_for S n after) (IsSetOf configured)
known_stays S n configured before after same h = subst (λ o. IfSome (configured_in S S.header.version o) (IsSetOf configured)) (sym same) h

-- ---- all of them

beats_go : (S : Setting) (n configured : ℕ) (x : UpNode) (ns : List ℕ) (s : Scene) → 1 ≤ n → n ≤ 32 → AllByRecursion (Receives x.beats configured) ns → Here S n configured x s.moments
    → AllJudged S (passing n (map (λ m. Sends m (heartbeat_of x)) ns) s).moments
beats_go S n configured x [] s low high rs h = h.so
beats_go S n configured x (m ∷ ns) s low high rs h =
    let b : Message = record { sender = n; body = heartbeat_of x } in
    let t : Scene = posting n m b s in
    let alike : Alike s.moments t.moments = posting_alike n m b s in
    beats_go S n configured x ns t low high rs.1 (record {
      way = alike.way ∙ h.way;
      known = known_stays S n configured s.moments t.moments (posting_record n m x s) h.known;
      beats = beats_stay s.moments t.moments n x.beats (alike.heard n) h.beats;
      so = posting_judged S n m b s (beat_judged S n configured m s.links.next x (spelling b) s.moments low high rs.0 h) h.so;
    })

receivers : (s : State) (configured : ℕ) → AllByRecursion (Receives s configured) (numbers_to (receivers_of s configured) most_nodes)
unfolding receivers_of
receivers s configured =
    each_number (Receives s configured) (receivers_of s configured) 32 (omega arith) (λ m low high is. (low, high, sym (has_where (is_receiver s configured) 32 m (omega arith) low high) ∙ is))

heartbeats_go : (S : Setting) (n configured : ℕ) (x : UpNode) (s : Scene) → 1 ≤ n → n ≤ 32 → Here S n configured x s.moments → AllJudged S (passing n (heartbeats_to x (receivers_of x.beats configured)) s).moments
unfolding heartbeats_to
heartbeats_go S n configured x s low high h = beats_go S n configured x (numbers_to (receivers_of x.beats configured) most_nodes) s low high (receivers x.beats configured) h

heartbeats_alike : (x : UpNode) (receivers : ℕ) → AreAlike (heartbeats_to x receivers)
unfolding heartbeats_to
heartbeats_alike x receivers = mapped IsAlike (λ n. Sends n (heartbeat_of x)) (numbers_to receivers most_nodes) (λ n. tt)

-- ---- the whole output of a tick

pub record Ticked (S : Setting) (n configured : ℕ) (x : UpNode) (before after : List Moment) : Type 0 where
  pub so : AllJudged S after
  pub alike : Alike (ticked n ∷ before) after

pub tick_goes : (S : Setting) (c : Cluster) (n : ℕ) (x : UpNode) (s : Scene) → 1 ≤ n → n ≤ 32 → Here S n (configured_at c (later c x)) (later c x) (ticked n ∷ s.moments)
    → Ticked S n (configured_at c x) x s.moments (passing n (of_node n note.Ticked ∷ ticked_output c x (later c x)) s).moments
tick_goes S c n x s low high h =
    let y : UpNode = later c x in
    let t : Scene = telling (entry.Node n note.Ticked) s in
    let beats : List Output = heartbeats_to y (receivers_of y.beats (configured_at c y)) in
    let u : Scene = passing n beats t in
    let all : passing n (beats ++ request_again x) t ≡ passing n (request_again x) u = passing_append n beats (request_again x) t in
    record {
      so = subst (λ (z : Scene). AllJudged S z.moments) (sym all) (mild_judged S n (request_again x) u (again_mild x) (heartbeats_go S n (configured_at c y) y t low high h));
      alike = subst (λ (z : Scene). Alike t.moments z.moments) (sym all)
          (alike_then t.moments u.moments (passing n (request_again x) u).moments (passing_alike n beats t (heartbeats_alike y (receivers_of y.beats (configured_at c y))))
          (passing_alike n (request_again x) u (mild_alike (request_again x) (again_mild x))));
    }
