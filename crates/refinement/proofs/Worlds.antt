-- Parts of a line in the world are moves of the run of all nodes.
use Rattle.std.specs.Prelude.{ℕ, ◌-◌, ◌≡◌, ◌≢◌, ◌≤◌, ◌<◌, ◌⊎◌, ◌++◌, ◌==◌, nat_le, nat_lt, not, Bool, true, false, List, [], ◌∷◌, Option, None, Some, length, filter, find, position, slice_get, slice_set, if◌then◌else◌}
use Rattle.std.proofs.Common.{refl, sym, ap, subst, ◌∙◌, inl, inr, arith}
use Rattle.std.specs.List.{AllByRecursion}
use Rattle.std.proofs.lemmas.List.{get_or-set_same, get_or-set_other, length-set}
use Rattle.std.proofs.lemmas.Option.{get_or_from_slice_get, slice_get_read, slice_get_within}
use Rattle.agents.specs.Calls.{AgentState}
use Rattle.cl_base.specs.declared.method.Outcome as method
use Rattle.cl_base.specs.declared.packet.DropCause.{DropCause}
use Rattle.interconnect.specs.Links as links
use Rattle.interconnect.specs.Links.{Links, Packet, appending, crowding, dropping, oldest_on, refusing, removing, sending, free_cells_of, count_on}
use Rattle.machine_base.specs.Put.{put}
use Rattle.machine_base.proofs.Puts.{put_here, put_there, same_or_not}
use Rattle.cmm_attempt.proofs.Basics.{and_cases, if_either, none_some, same_some}
use Rattle.attempt_laws.proofs.Walk.{if_with}
use Rattle.record_disk.specs.Disks.{DiskState}
use Rattle.wire.specs.declared.message.Body.{Body}
use Rattle.wire.specs.declared.message.Message.{Message}
use Rattle.wire.specs.Reads.{whole_of}
use Rattle.wire.specs.Spelling.{Fits, spelling}
use Rattle.wire.proofs.Messages.{whole_again}
use Rattle.node_model.specs.declared.cluster.Cluster.{Cluster}
use Rattle.node_model.specs.declared.input.Input.{Input}
use Rattle.node_model.specs.declared.node.Node.{Node}
use Rattle.node_model.specs.declared.output.Output.{Output}
use Rattle.node_model.specs.declared.output.Output.TheVariants.{Tells, Sends}
use Rattle.node_model.specs.Steps.{Outcome, stepped}
use Rattle.rgm_member.specs.declared.due.Due.{Due}
use Rattle.world_model.specs.declared.scripted.Scripted.{Scripted}
use Rattle.world_model.specs.Calls.{Ended, asked_of, ended, ended_so, fits, taken_out}
use Rattle.world_model.specs.Worlds.{Play, WorldState, telling, with_world}
use Rattle.world_model.specs.Sends.{come_to, dropped_so, due_in, giving, giving_so, is_sent, passing, posting, rules, sent_as, stepped_to, stepping_at}
use Rattle.refinement.specs.Runs.{AnswersFit, InTime, IsAmong, Letter, MayMove, Move, Moves, Nodes, WasSent, first_nodes, letters_of, moved, stepped_at}
use Rattle.refinement.specs.Runs.Move.{Takes}
use Rattle.refinement.specs.Steps.{disk_rules}
use Rattle.refinement.specs.Worlds.{AllFit, GivesFit, PacketSent, Played, Shows, SpelledIfShort}

-- Lists.

pub all_append : {X : Type 0} (P : X → Type 0) (xs : List X) (y : X) → AllByRecursion P xs → P y → AllByRecursion P (xs ++ y ∷ [])
all_append P [] y h p = (p, tt)
all_append P (x ∷ xs) y h p = (h.0, all_append P xs y h.1 p)

kept_if : {X : Type 0} (P : X → Type 0) (b : Bool) (x : X) (xs : List X) → P x → AllByRecursion P xs → AllByRecursion P (if b then x ∷ xs else xs)
kept_if P true x xs p h = (p, h)
kept_if P false x xs p h = h

pub all_filter : {X : Type 0} (P : X → Type 0) (f : X → Bool) (xs : List X) → AllByRecursion P xs → AllByRecursion P (filter f xs)
all_filter P f [] h = tt
all_filter P f (x ∷ xs) h = kept_if P (f x) x (filter f xs) h.0 (all_filter P f xs h.1)

pub all_found : {X : Type 0} (P : X → Type 0) (f : X → Bool) (xs : List X) (y : X) → AllByRecursion P xs → find f xs ≡ Some y → P y
all_found P f [] y h e = absurd (none_some y e)
all_found P f (x ∷ xs) y h e = by_test (f x) e (all_found P f xs y h.1)
  where
    by_test : (b : Bool) → (if b then Some x else find f xs) ≡ Some y → (find f xs ≡ Some y → P y) → P y
    by_test true some rest = subst P (same_some x y some) h.0
    by_test false some rest = rest some

-- Links: sending, and taking a packet out.

abbrev Sent : List Letter → Links → Type 0
Sent sent l = AllByRecursion (PacketSent sent) l.packets

pub removing_sent : (sent : List Letter) (l : Links) (number : ℕ) → Sent sent l → Sent sent (removing l number)
removing_sent sent l number h = all_filter (PacketSent sent) (λ (p : Packet). not (p.number == number)) l.packets h

dropping_sent : (sent : List Letter) (l : Links) (number : ℕ) (o : Option ℕ) → Sent sent l → Sent sent (dropping l number o).after
dropping_sent sent l number None h = h
dropping_sent sent l number (Some oldest) h = removing_sent sent l oldest h

abbrev AfterSent : List Letter → links.Outcome → Type 0
AfterSent sent o = Sent sent o.after

crowding_sent : (sent : List Letter) (l : Links) (number from to : ℕ) → Sent sent l → AfterSent sent (crowding l number from to)
crowding_sent sent l number from to h =
    if_either (AfterSent sent) (nat_lt _ (count_on l.packets from to)) (dropping l number (oldest_on l.packets from to)) _ (dropping_sent sent l number (oldest_on l.packets from to) h) h

pub sending_sent : (sent : List Letter) (l : Links) (from to : ℕ) (bytes : List ℕ) → Sent sent l
    → (1 ≤ to) × ((m : Message) → whole_of bytes ≡ Some m → IsAmong from m.body sent) → AfterSent sent (sending l from to bytes)
sending_sent sent l from to bytes h new =
    if_either (AfterSent sent) (nat_lt (free_cells_of l) _) (refusing l) (crowding (appending l from to bytes) l.next from to) h
    (crowding_sent sent (appending l from to bytes) l.next from to
    (all_append (PacketSent sent) l.packets (record { number = l.next; from = from; to = to; bytes = bytes }) h new))

-- Nodes and disks at their places.

pub set_same : {X : Type 0} (xs : List X) (k : ℕ) (old y z : X) → slice_get xs k ≡ Some old → slice_get (slice_set xs k y) k ≡ Some z → y ≡ z
set_same xs k old y z was e = sym (get_or-set_same xs k y z (slice_get_within xs k old was)) ∙ get_or_from_slice_get (slice_set xs k y) k z z e

pub set_other : {X : Type 0} (xs : List X) (k j : ℕ) (y z : X) → j ≢ k → slice_get (slice_set xs k y) j ≡ Some z → slice_get xs j ≡ Some z
set_other xs k j y z ne e =
    slice_get_read xs (length xs) j z refl (subst (λ n. j < n) (length-set xs k y) (slice_get_within (slice_set xs k y) j z e))
    (sym (sym (get_or-set_other xs k j y z ne) ∙ get_or_from_slice_get (slice_set xs k y) j z z e))

apart : (n k : ℕ) → 1 ≤ n → 1 ≤ k → n ≢ k → n - 1 ≢ k - 1
apart n k h l ne e = ne (grind arith)

pub put_shows : {X : Type 0} (f : ℕ → X) (xs : List X) (k : ℕ) (old y : X) → 1 ≤ k → slice_get xs (k - 1) ≡ Some old → ((n : ℕ) (z : X) → 1 ≤ n → slice_get xs (n - 1) ≡ Some z → f n ≡ z)
    → (n : ℕ) (z : X) → 1 ≤ n → slice_get (slice_set xs (k - 1) y) (n - 1) ≡ Some z → put f k y n ≡ z
put_shows {X} f xs k old y low was all n z first e = go (same_or_not n k)
  where
    go : (n ≡ k) ⊎ (n ≢ k) → put f k y n ≡ z
    go (inl same) = ap (λ j. put f k y j) same ∙ (put_here f k y ∙ set_same xs (k - 1) old y z was (subst (λ j. slice_get (slice_set xs (k - 1) y) (j - 1) ≡ Some z) same e))
    go (inr ne) = put_there f k y n ne ∙ all n z first (set_other xs (k - 1) (n - 1) y z (apart n k first low ne) e)

-- What a node sends stands among all that was sent.

abbrev Among : ℕ → List Output → List Letter → Type 0
Among n [] sent = Unit {0}
Among n (Tells e ∷ os) sent = Among n os sent
Among n (Sends to b ∷ os) sent = IsAmong n b sent × Among n os sent

among_more : (n : ℕ) (os : List Output) (l : Letter) (sent : List Letter) → Among n os sent → Among n os (l ∷ sent)
among_more n [] l sent h = tt
among_more n (Tells e ∷ os) l sent h = among_more n os l sent h
among_more n (Sends to b ∷ os) l sent h = (inr h.0, among_more n os l sent h.1)

among_own : (n : ℕ) (os : List Output) (old : List Letter) → Among n os (letters_of n os ++ old)
among_own n [] old = tt
among_own n (Tells e ∷ os) old = among_own n os old
among_own n (Sends to b ∷ os) old = (inl (refl, refl), among_more n os (record { from = n; body = b }) (letters_of n os ++ old) (among_own n os old))

among_older : (from : ℕ) (b : Body) (n : ℕ) (os : List Output) (old : List Letter) → IsAmong from b old → IsAmong from b (letters_of n os ++ old)
among_older from b n [] old h = h
among_older from b n (Tells e ∷ os) old h = among_older from b n os old h
among_older from b n (Sends to c ∷ os) old h = inr (among_older from b n os old h)

packets_older : (n : ℕ) (os : List Output) (old : List Letter) (xs : List Packet) → AllByRecursion (PacketSent old) xs → AllByRecursion (PacketSent (letters_of n os ++ old)) xs
packets_older n os old [] h = tt
packets_older n os old (x ∷ xs) h = ((h.0.0, λ m e. among_older x.from m.body n os old (h.0.1 m e)), packets_older n os old xs h.1)

-- The links change.

abbrev with_new_links : WorldState → Links → WorldState
with_new_links w l = record w { links = l }

pub links_show : (c : Cluster) (w : WorldState) (v : Nodes) (l : Links) → Shows c w v → Sent v.sent l → Shows c (with_new_links w l) v
links_show c w v l h sent = record { cluster = h.cluster; few = h.few; node = h.node; disk = h.disk; device = h.device; packets = sent; clock = h.clock }

pub dropped_world : (d : Option (ℕ × DropCause)) (q : Play) → (dropped_so d q).world ≡ q.world
dropped_world None q = refl
dropped_world (Some d) q = refl

posted_show : (c : Cluster) (v : Nodes) (n to : ℕ) (b : Body) (p : Play) → Shows c p.world v → (1 ≤ to) × SpelledIfShort (record { sender = n; body = b }) → IsAmong n b v.sent
    → Shows c (posting n to (record { sender = n; body = b }) p).world v
posted_show c v n to b p h fits among =
    if_with (λ (q : Play). Shows c q.world v) (is_sent p.world.links m) (is_sent p.world.links m) (sent_as n to m o p) p refl
    (λ e. subst (λ w. Shows c w v) (sym (dropped_world o.sent.dropped _)) (links_show c p.world v o.after h (sent (fits.1 (size (length (spelling m)) (and_cases _ _ e).0)))))
    (λ e. h)
  where
    m : Message
    m = record { sender = n; body = b }

    o : links.Outcome
    o = sending p.world.links n to (spelling m)

    read : Fits m → (other : Message) → whole_of (spelling m) ≡ Some other → IsAmong n other.body v.sent
    read spelled other e = subst (λ (z : Message). IsAmong n z.body v.sent) (same_some m other (sym (whole_again m spelled) ∙ e)) among

    sent : Fits m → Sent v.sent o.after
    sent spelled = sending_sent v.sent p.world.links n to (spelling m) h.packets (fits.0, read spelled)

    size : (k : ℕ) → nat_le k 131072 ≡ true → k ≤ 131072
    size k e = grind arith

passed_show : (c : Cluster) (v : Nodes) (n : ℕ) (os : List Output) (p : Play) → Shows c p.world v → AllFit n os → Among n os v.sent → Shows c (passing n os p).world v
passed_show c v n [] p h fits among = h
passed_show c v n (Tells e ∷ os) p h fits among = passed_show c v n os (telling e p) h fits among
passed_show c v n (Sends to b ∷ os) p h fits among =
    passed_show c v n os (posting n to (record { sender = n; body = b }) p) (posted_show c v n to b p h (fits.0, fits.1) among.0) fits.2 among.1

-- Something happens to a node.

pub run_more : (c : Cluster) (w : Nodes) (moves : List Move) (v : Nodes) (m : Move) → Moves c w moves v → MayMove v m → Moves c w (moves ++ m ∷ []) (moved c v m)
run_more c w [] v m run may = (subst (λ x. MayMove x m) run may, ap (λ x. moved c x m) run)
run_more c w (first ∷ moves) v m run may = (run.0, run_more c (moved c w first) moves v m run.1 may)

pub number_low : (n len : ℕ) → 1 ≤ n → n - 1 < len → len ≤ 32 → n ≤ 32
number_low n len low h few = grind arith

stepped_show : (c : Cluster) → GivesFit c → (p : Play) (n : ℕ) (ends : method.Outcome) (i : Input) (node : Node) (disk : DiskState) (h : Played c p.world) → 1 ≤ n → WasSent h.nodes i → AnswersFit i
    → slice_get p.world.nodes (n - 1) ≡ Some node → slice_get p.world.disks (n - 1) ≡ Some disk → h.nodes.node n ≡ node → h.nodes.disk n ≡ disk
    → Played c (come_to n (stepped_to n p.world.nodes p.world.disks (stepped rules c n p.world.clock ends (h.nodes.node n) (h.nodes.disk n) i)) p).world
stepped_show c gives p n ends i node disk h low sent bounded at_node at_disk is_node is_disk = record {
  moves = h.moves ++ m ∷ [];
  nodes = w;
  run = run_more c (first_nodes c) h.moves v m h.run may;
  in_time = all_append InTime h.moves m h.in_time h.shows.clock;
  shows = passed_show c w n o.given (with_world p (record p.world { nodes = slice_set p.world.nodes (n - 1) o.after; disks = slice_set p.world.disks (n - 1) o.disk })) (record {
    cluster = h.shows.cluster;
    few = subst (λ k. k ≤ 32) (sym (length-set p.world.nodes (n - 1) o.after)) h.shows.few;
    node = put_shows v.node p.world.nodes n node o.after low at_node h.shows.node;
    disk = put_shows v.disk p.world.disks n disk o.disk low at_disk h.shows.disk;
    device = h.shows.device;
    packets = packets_older n o.given v.sent p.world.links.packets h.shows.packets;
    clock = h.shows.clock;
  }) (gives h.moves v n p.world.clock ends i h.run h.in_time h.shows.clock may) (among_own n o.given v.sent);
}
  where
    v : Nodes
    v = h.nodes

    m : Move
    m = Takes n p.world.clock ends i

    may : MayMove v m
    may = (low, number_low n (length p.world.nodes) low (slice_get_within p.world.nodes (n - 1) node at_node) h.shows.few, sent, bounded)

    o : Outcome DiskState
    o = stepped disk_rules c n p.world.clock ends (v.node n) (v.disk n) i

    w : Nodes
    w = stepped_at v n o

given_by : (c : Cluster) → GivesFit c → (p : Play) (n : ℕ) (ends : method.Outcome) (i : Input) (a : Option Node) (b : Option DiskState) (h : Played c p.world) → 1 ≤ n → WasSent h.nodes i → AnswersFit i
    → slice_get p.world.nodes (n - 1) ≡ a → slice_get p.world.disks (n - 1) ≡ b
    → Played c (come_to n (stepping_at p.world.cluster n p.world.clock ends i p.world.nodes p.world.disks a b) p).world
given_by c gives p n ends i None b h low sent bounded at_node at_disk = h
given_by c gives p n ends i (Some node) None h low sent bounded at_node at_disk = h
given_by c gives p n ends i (Some node) (Some disk) h low sent bounded at_node at_disk =
    let is_node : h.nodes.node n ≡ node = h.shows.node n node low at_node in
    let is_disk : h.nodes.disk n ≡ disk = h.shows.disk n disk low at_disk in
    let now : ℕ = p.world.clock in
    subst (λ z. Played c (come_to n (stepped_to n p.world.nodes p.world.disks (stepped rules z n now ends node disk i)) p).world) (sym h.shows.cluster)
    (subst (λ x. Played c (come_to n (stepped_to n p.world.nodes p.world.disks (stepped rules c n now ends x disk i)) p).world) is_node
    (subst (λ d. Played c (come_to n (stepped_to n p.world.nodes p.world.disks (stepped rules c n now ends (h.nodes.node n) d i)) p).world) is_disk
    (stepped_show c gives p n ends i node disk h low sent bounded at_node at_disk is_node is_disk)))

-- The method that the node calls ends: outcomes that are queued, and agents, are no part of a run of nodes.

abbrev with_calls : WorldState → List Scripted → List AgentState → WorldState
with_calls w script agents = record w { script = script; agents = agents }

calls_show : (c : Cluster) (w : WorldState) (v : Nodes) (script : List Scripted) (agents : List AgentState) → Shows c w v → Shows c (with_calls w script agents) v
calls_show c w v script agents h =
    record { cluster = h.cluster; few = h.few; node = h.node; disk = h.disk; device = h.device; packets = h.packets; clock = h.clock }

pub calls_played : (c : Cluster) (w : WorldState) (script : List Scripted) (agents : List AgentState) → Played c w → Played c (with_calls w script agents)
calls_played c w script agents h =
    record { moves = h.moves; nodes = h.nodes; run = h.run; in_time = h.in_time; shows = calls_show c w h.nodes script agents h.shows }

abbrev OnlyCalls : WorldState → WorldState → Type 0
OnlyCalls w z = z ≡ with_calls w z.script z.agents

only_ended : (w : WorldState) (o : Option Due) → OnlyCalls w (ended w o).world
only_ended w None = refl
only_ended w (Some d) = by_place (position (fits d.call) w.script)
  where
    by_script : (place : ℕ) (s : Option Scripted) → OnlyCalls w (taken_out w place s).world
    by_script place None = refl
    by_script place (Some s) = refl

    by_agent : (name : Option (List ℕ)) → OnlyCalls w (asked_of w d.call name).world
    by_agent None = refl
    by_agent (Some name) = refl

    by_place : (o : Option ℕ) → OnlyCalls w (ended_so w d o).world
    by_place (Some place) = by_script place (slice_get w.script place)
    by_place None = by_agent d.agent

pub given_so : (c : Cluster) → GivesFit c → (p : Play) (n : ℕ) (i : Input) (h : Played c p.world) → 1 ≤ n → WasSent h.nodes i → AnswersFit i → Played c (giving n i p).world
unfolding calls_played
given_so c gives p n i h low sent bounded =
    let e : Ended = ended p.world (due_in p.world n i) in
    let q : Play = with_world p (with_calls p.world e.world.script e.world.agents) in
    subst (λ w. Played c (giving_so n i e.outcome (with_world p w)).world) (sym (only_ended p.world (due_in p.world n i)))
    (given_by c gives q n e.outcome i (slice_get p.world.nodes (n - 1)) (slice_get p.world.disks (n - 1)) (calls_played c p.world e.world.script e.world.agents h) low sent bounded refl refl)
