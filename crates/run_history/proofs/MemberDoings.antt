-- What each small step of a node leaves of its lines.
use Rattle.std.specs.Prelude.{ℕ, ◌≡◌, ◌≢◌, ◌==◌, ◌||◌, ◌++◌, Bool, true, false, List, [], ◌∷◌, Option, None, Some, length}
use Rattle.std.proofs.Common.{refl, sym, ap, subst, ◌∙◌, arith}
use Rattle.std.proofs.lemmas.List.{append_assoc}
use Rattle.std.specs.List.{AllByRecursion}
use Rattle.ccr_commit.specs.Entries.{all_committed, with_next}
use Rattle.cl_base.specs.Limits.{most_nodes}
use Rattle.cl_base.specs.Numbers.{numbers_to}
use Rattle.cl_base.specs.Sets.{has, set_without}
use Rattle.cmm_attempt.specs.Attempts.{AttemptState}
use Rattle.cmm_attempt.specs.Calls.{turn}
use Rattle.cmm_attempt.proofs.Basics.{false_true, if_either}
use Rattle.cmm_member.specs.Nodes.{NodeState, started, with_entries, with_joined, with_valid}
use Rattle.cmm_member.specs.Records.{NodeRecord}
use Rattle.device_queue.specs.Queue.{after_seize}
use Rattle.seize.specs.Seizing as seizing
use Rattle.status_report.specs.declared.entry.Entry.{Entry}
use Rattle.status_report.specs.declared.entry.Entry.TheVariants as entry
use Rattle.status_report.specs.declared.node_entry.DownCause.{DownCause}
use Rattle.status_report.specs.declared.node_entry.NodeEntry.TheVariants as note
use Rattle.wire.specs.declared.message.Body.{Body}
use Rattle.wire.specs.declared.message.Body.TheVariants as body
use Rattle.history.specs.Member.{is_up, last_member}
use Rattle.history.specs.Moment.{Moment, Told}
use Rattle.history.specs.Starts.{is_started}
use Rattle.run_history.proofs.Lists.{both, mapped}
use Rattle.run_history.proofs.Small.{AllSmall, IsSmall, IsSmallAct, IsSmallChange}
use Rattle.node_model.specs.Attempts.{base_lines, started_entry, starting_as}
use Rattle.node_model.specs.Clusters.{first_valid_of}
use Rattle.node_model.specs.Configurations.{in_force}
use Rattle.node_model.specs.declared.cluster.Cluster.{Cluster}
use Rattle.node_model.specs.declared.node.Node.{Node}
use Rattle.node_model.specs.declared.node.Node.TheVariants.{Down, Up}
use Rattle.node_model.specs.declared.node.UpNode.{UpNode}
use Rattle.node_model.specs.declared.output.Output.{Output}
use Rattle.node_model.specs.declared.output.Output.TheVariants.{Tells, Sends}
use Rattle.node_model.specs.declared.seat.Seat.{Seat}
use Rattle.node_model.specs.declared.seat.Seat.TheVariants.{Forming, Member}
use Rattle.node_model.specs.Entries.{unknown_lines}
use Rattle.node_model.specs.Members.{rested_by}
use Rattle.node_model.specs.Presidents.{sent_to}
use Rattle.node_model.specs.Seats as seats
use Rattle.node_model.specs.Seats.{promising, record_of, state_of, up_with, with_state}
use Rattle.node_model.specs.Ticks.{later}
use Rattle.refinement.specs.Doings.{Act, Change, Doing, acted, adopted_by, after_all, changed, effect, first_lines, given_all, gives, gone_line, last_lines, of_node, said, saved_lines, Site, site, start_lines, superseded_lines}
use Rattle.refinement.specs.Doings.Act.{Accepts, Dates, Ends, Gives, Goes_on, Hears, Makes, Minds, Notes, Queues, Spreads, Stores, Takes, Ticks, Waits, Works, Writes}
use Rattle.refinement.specs.Doings.Change.{Acks, Admits, Commits, Counts, Distrusts, Installs, Leads, Prepares, Promises, Proposes, Sits, Starts}
use Rattle.refinement.specs.Doings.Doing.{Comes_up, Does, Forgets, Goes_down, Loses, Saves}
use Rattle.refinement.specs.Guards.{May, MayAct, MayAll, MayChange, MayWrite}
use Rattle.refinement.specs.Ties.{Delivered}
use Rattle.run_history.specs.Scenes.{Scene, passing, telling}
use Rattle.run_history.specs.Members.{BodyLines, NodeLines, SeatLines}
use Rattle.run_history.proofs.Idle.{IdleOut, SameFor, if_true, passing_append, passing_same, passing_started}
use Rattle.run_history.proofs.Minor.{AllMinor, MinorOut, OutLines, adopted_minor, base_minor, first_minor, given_minor, minor_idle, minor_letters, superseded_minor, ticked_minor, unknown_minor, write_minor}

-- After these outputs of node n, which is so then, its lines are right; they say nothing of other nodes, and each Start has its line.
pub record GoesTo (n : ℕ) (after : Node) (os : List Output) (t : Scene) : Type 0 where
  pub own : NodeLines n after t.moments
  pub others : (k : ℕ) → k ≢ n → AllByRecursion (IdleOut k) os
  pub letters : AllByRecursion (OutLines t.moments) os

abbrev pub Goes : ℕ → Node → List Output → Scene → Type 0
Goes n after os s = GoesTo n after os (passing n os s)

-- the packet that is delivered
abbrev pub Heard : List Moment → Delivered → Type 0
Heard ms None = Unit {0}
Heard ms (Some d) = BodyLines ms d.1.body

-- The seat.

pub seat_same : (n : ℕ) (seat : Seat) (before after : List Moment) → SameFor n before after → SeatLines n seat before → SeatLines n seat after
seat_same n (Forming s) before after f h = tt
seat_same n (Member s) before after f h = (f.member ∙ h.0, f.started s.session h.1)

-- another state of the same session
seat_with : (n : ℕ) (seat : Seat) (t : NodeState) (ms : List Moment) → t.session ≡ (state_of seat).session → SeatLines n seat ms → SeatLines n (with_state seat t) ms
seat_with n (Forming s) t ms same h = tt
seat_with n (Member s) t ms same h = (h.0 ∙ ap (λ q. Some q) (sym same), subst (λ q. is_started q ms ≡ true) (sym same) h.1)

rested_seat : (n p : ℕ) (x : UpNode) (o : Option AttemptState) (ms : List Moment) → SeatLines n (rested_by (promising x p) o).seat ms
rested_seat n p x None ms = tt
rested_seat n p x (Some a) ms = tt

-- Outputs that say nothing, and a seat that is as good.

minor_goes : (n : ℕ) (x y : UpNode) (os : List Output) (s : Scene) → AllMinor os → ((ms : List Moment) → SeatLines n x.seat ms → SeatLines n y.seat ms) → NodeLines n (Up x) s.moments
    → Goes n (Up y) os s
minor_goes n x y os s minor f h =
    let same : SameFor n s.moments (passing n os s).moments = passing_same n n os s (minor_idle n os minor) in
    record {
      own = (same.up ∙ h.0, f (passing n os s).moments (seat_same n x.seat s.moments (passing n os s).moments same h.1));
      others = λ k ne. minor_idle k os minor;
      letters = minor_letters (passing n os s).moments os minor;
    }

-- One line that says something, after others.

same_number : (n : ℕ) → (n == n) ≡ true
same_number n = grind arith

last_goes : (n : ℕ) (after : Node) (os : List Output) (e : Entry) (s : Scene) → AllMinor os → NodeLines n after (Told e ∷ (passing n os s).moments)
    → ((k : ℕ) → k ≢ n → IdleOut k (Tells e)) → Goes n after (os ++ Tells e ∷ []) s
last_goes n after os e s minor own idle = record {
  own = subst (λ (z : Scene). NodeLines n after z.moments) (sym (passing_append n os (Tells e ∷ []) s)) own;
  others = λ k ne. both (IdleOut k) os (Tells e ∷ []) (minor_idle k os minor) (idle k ne, tt);
  letters =
      both (OutLines (passing n (os ++ Tells e ∷ []) s).moments) os (Tells e ∷ []) (minor_letters (passing n (os ++ Tells e ∷ []) s).moments os minor) (tt, tt);
}

down_goes : (n : ℕ) (os : List Output) (why : DownCause) (s : Scene) → AllMinor os → Goes n Down (os ++ gone_line n why) s
down_goes n os why s minor =
    last_goes n Down os (entry.Node n (note.Down why)) s minor (if_true (n == n) false (is_up n (passing n os s).moments) (same_number n)) (λ k ne e. ne (sym e))

up_goes : (n : ℕ) (x : UpNode) (s : Scene) → ((ms : List Moment) → SeatLines n x.seat ms) → Goes n (Up x) (of_node n note.Up ∷ []) s
up_goes n x s seat =
    last_goes n (Up x) [] (entry.Node n note.Up) s tt (if_true (n == n) true (is_up n s.moments) (same_number n), seat (Told (entry.Node n note.Up) ∷ s.moments)) (λ k ne e. ne (sym e))

-- the node is a member from here on
member_goes : (n e : ℕ) (y : UpNode) (t : NodeState) (os : List Output) (s : Scene) → AllMinor os → is_up n s.moments ≡ true → y.seat ≡ Member t → t.session ≡ e
    → is_started e (passing n os s).moments ≡ true → Goes n (Up y) (os ++ of_node n (note.Member e) ∷ []) s
member_goes n e y t os s minor up at session began =
    let ms : List Moment = (passing n os s).moments in
    let same : SameFor n s.moments ms = passing_same n n os s (minor_idle n os minor) in
    let seat : SeatLines n (Member t) (Told (entry.Node n (note.Member e)) ∷ ms) =
    (if_true (n == n) (Some e) (last_member n ms) (same_number n) ∙ ap (λ q. Some q) (sym session), subst (λ q. is_started q ms ≡ true) (sym session) began) in
    last_goes n (Up y) os (entry.Node n (note.Member e)) s minor
    (same.up ∙ up, subst (λ z. SeatLines n z (Told (entry.Node n (note.Member e)) ∷ ms)) (sym at) seat) (λ k ne z. ne (sym z))

-- Changes.

sits_goes : (n e : ℕ) (y : UpNode) (t : NodeState) (os : List Output) (s : Scene) → AllMinor os → is_up n s.moments ≡ true → y.seat ≡ Member t → t.session ≡ e
    → is_started e s.moments ≡ true → Goes n (Up y) (os ++ of_node n (note.Member e) ∷ []) s
sits_goes n e y t os s minor up at session began = member_goes n e y t os s minor up at session (passing_started e n os s began)

-- the `start` line is the first of these
is_first : (e : ℕ) (b : Bool) → ((e == e) || b) ≡ true
is_first e b = or_first (e == e) b (same_number e)
  where
    or_first : (x z : Bool) → x ≡ true → (x || z) ≡ true
    or_first true z h = refl
    or_first false z h = absurd (false_true h)

begins_at : (n : ℕ) (a : AttemptState) (count : ℕ) (first more : List Output) (s : Scene)
    → (let os : List Output = first ++ Tells (entry.Start (started_entry a count)) ∷ more in is_started a.plan.epoch (passing n os s).moments ≡ true)
begins_at n a count first more s =
    let e : ℕ = a.plan.epoch in
    let t : Scene = telling (entry.Start (started_entry a count)) (passing n first s) in
    subst (λ (z : Scene). is_started e z.moments ≡ true) (sym (passing_append n first (Tells (entry.Start (started_entry a count)) ∷ more) s))
    (passing_started e n more t (is_first e (is_started e (passing n first s).moments)))

starts_goes : (c : Cluster) (n : ℕ) (x : UpNode) (a : AttemptState) (s : NodeState) (first : List Output) (z : Scene) → AllMinor first → is_up n z.moments ≡ true → s.session ≡ a.plan.epoch
    → Goes n (Up (starting_as c n x a s)) (first ++ (start_lines a s ++ (adopted_by c a (starting_as c n x a s) ++ of_node n (note.Member a.plan.epoch) ∷ []))) z
starts_goes c n x a s first z minor up session =
    let y : UpNode = starting_as c n x a s in
    let e : ℕ = a.plan.epoch in
    let count : ℕ = length (all_committed s.saved.entries).committed in
    let bases : List Output = base_lines e 0 (all_committed s.saved.entries).committed in
    let flags : List Output = adopted_by c a y in
    let last : List Output = of_node n (note.Member e) ∷ [] in
    let os : List Output = first ++ (start_lines a s ++ flags) in
    let all : AllMinor os =
    both MinorOut first (start_lines a s ++ flags) minor
    (both MinorOut (start_lines a s) flags (tt, base_minor e 0 (all_committed s.saved.entries).committed) (adopted_minor e (in_force c y) y.presidency)) in
    let began : is_started e (passing n os z).moments ≡ true = begins_at n a count first (bases ++ flags) z in
    let same : os ++ last ≡ first ++ (start_lines a s ++ (flags ++ last)) =
    append_assoc first (start_lines a s ++ flags) last ∙ ap (λ more. first ++ more) (append_assoc (start_lines a s) flags last) in
    subst (λ more. Goes n (Up y) more z) same (member_goes n e y (started s) os z all up refl session began)

last_goes_on : (n : ℕ) (x y : UpNode) (first last : List Output) (s : Scene) → AllMinor first → AllMinor last → ((ms : List Moment) → SeatLines n x.seat ms → SeatLines n y.seat ms)
    → NodeLines n (Up x) s.moments → Goes n (Up y) (first ++ last) s
last_goes_on n x y first last s f l seat h = minor_goes n x y (first ++ last) s (both MinorOut first last f l) seat h

change_goes : (c : Cluster) (n : ℕ) (told : Delivered) (x : UpNode) (change : Change) (first : List Output) (s : Scene) → AllMinor first → MayChange c n told x change → IsSmallChange change
    → Heard s.moments told → NodeLines n (Up x) s.moments → Goes n (Up (changed c n x change)) (first ++ last_lines c n x change) s
change_goes c n told x (Promises p) first s f may small heard h =
    last_goes_on n x (changed c n x (Promises p)) first (last_lines c n x (Promises p)) s f
    (both MinorOut (superseded_lines p x.attempt) (unknown_lines n x.requests.waiting) (superseded_minor p x.attempt) (unknown_minor n x.requests.waiting)) (λ ms k. rested_seat n p x x.attempt ms) h
change_goes c n told x (Leads p members) first s f may small heard h =
    last_goes_on n x (changed c n x (Leads p members)) first (last_lines c n x (Leads p members)) s f (tt, unknown_minor n x.requests.waiting) (λ ms k. tt) h
change_goes c n told x (Counts a k t i) first s f may small heard h = last_goes_on n x (changed c n x (Counts a k t i)) first (last_lines c n x (Counts a k t i)) s f (tt, tt) (λ ms l. tt) h
change_goes c n told x (Installs t i) first s f may small heard h = last_goes_on n x (changed c n x (Installs t i)) first (last_lines c n x (Installs t i)) s f (tt, tt) (λ ms l. tt) h
change_goes c n told x (Starts a k t) first s f may small heard h = starts_goes c n x (turn a k).after t first s f h.0 small
change_goes c n None x (Sits t e) first s f may small heard h = absurd may.1
change_goes c n (Some d) x (Sits t e) first s f may small heard h =
    sits_goes n e (changed c n x (Sits t e)) (started t) first s f h.0 refl small (subst (λ b. BodyLines s.moments b) may.1 heard)
change_goes c n told x (Distrusts d) first s f may small heard h = last_goes_on n x (changed c n x (Distrusts d)) first (last_lines c n x (Distrusts d)) s f tt (λ ms k. seat_with n x.seat (with_valid (state_of x.seat) (set_without (record_of x).valid d)) ms refl k) h
change_goes c n told x (Admits at command a d) first s f may small heard h =
    last_goes_on n x (changed c n x (Admits at command a d)) first (last_lines c n x (Admits at command a d)) s f tt (λ ms k. seat_with n x.seat (with_joined (state_of x.seat) d) ms refl k) h
change_goes c n told x (Proposes t p text) first s f may small heard h =
    last_goes_on n x (changed c n x (Proposes t p text)) first (last_lines c n x (Proposes t p text)) s f tt (λ ms k. seat_with n x.seat (with_entries (state_of x.seat) (with_next (record_of x).entries text)) ms refl k) h
change_goes c n told x (Acks t p q left text) first s f may small heard h =
    last_goes_on n x (changed c n x (Acks t p q left text)) first (last_lines c n x (Acks t p q left text)) s f (tt, tt) (λ ms k. seat_with n x.seat (with_entries (state_of x.seat) (all_committed (record_of x).entries)) ms refl k) h
change_goes c n told x (Prepares t text) first s f may small heard h =
    last_goes_on n x (changed c n x (Prepares t text)) first (last_lines c n x (Prepares t text)) s f tt (λ ms k. subst (λ z. SeatLines n z ms) may.0 k) h
change_goes c n told x (Commits t) first s f may small heard h =
    last_goes_on n x (changed c n x (Commits t)) first (last_lines c n x (Commits t)) s f tt (λ ms k. subst (λ z. SeatLines n z ms) may.0 k) h

-- Messages.

-- a Start is sent by a member of that session
written : (n : ℕ) (x : UpNode) (seat : Seat) (b : Body) (ms : List Moment) → x.seat ≡ seat → MayWrite x b → SeatLines n seat ms → BodyLines ms b
written n x (Member t) (body.Start p) ms at may h = subst (λ q. is_started q ms ≡ true) (sym (may.1 ∙ ap (λ z. (state_of z).session) at)) h.1
written n x (Forming t) (body.Start p) ms at may h = absurd (false_true (sym (ap seats.is_member at) ∙ may.0))
written n x seat _ ms at may h = tt

spread_idle : (k receivers : ℕ) (b : Body) → AllByRecursion (IdleOut k) (sent_to receivers b)
unfolding sent_to
spread_idle k receivers b = mapped (IdleOut k) (λ n. Sends n b) (numbers_to receivers most_nodes) (λ n. tt)

spread_lines : (ms : List Moment) (receivers : ℕ) (b : Body) → BodyLines ms b → AllByRecursion (OutLines ms) (sent_to receivers b)
unfolding sent_to
spread_lines ms receivers b h = mapped (OutLines ms) (λ n. Sends n b) (numbers_to receivers most_nodes) (λ n. h)

sends_goes : (n : ℕ) (x : UpNode) (b : Body) (os : List Output) (s : Scene) → ((k : ℕ) → AllByRecursion (IdleOut k) os) → ((ms : List Moment) → BodyLines ms b → AllByRecursion (OutLines ms) os)
    → MayWrite x b → NodeLines n (Up x) s.moments → Goes n (Up x) os s
sends_goes n x b os s idle lines may h =
    let ms : List Moment = (passing n os s).moments in
    let same : SameFor n s.moments ms = passing_same n n os s (idle n) in
    let seat : SeatLines n x.seat ms = seat_same n x.seat s.moments ms same h.1 in
    record { own = (same.up ∙ h.0, seat); others = λ k ne. idle k; letters = lines ms (written n x x.seat b ms refl may seat) }

-- Acts.

act_goes : (c : Cluster) (n : ℕ) (told : Delivered) (x : UpNode) (a : Act) (s : Scene) → MayAct c n told x a → IsSmallAct a → Heard s.moments told → NodeLines n (Up x) s.moments
    → Goes n (Up (acted c n x a)) (said c n x a) s
act_goes c n told x (Hears from b) s may small heard h = minor_goes n x (acted c n x (Hears from b)) [] s tt (λ ms k. k) h
act_goes c n told x Ticks s may small heard h = minor_goes n x (acted c n x Ticks) _ s (tt, ticked_minor c x (later c x)) (λ ms k. k) h
act_goes c n told x Waits s may small heard h = minor_goes n x (acted c n x Waits) [] s tt (λ ms k. k) h
act_goes c n told x (Goes_on a k) s may small heard h = minor_goes n x (acted c n x (Goes_on a k)) [] s tt (λ ms l. l) h
act_goes c n told x (Ends a e) s may small heard h = minor_goes n x (acted c n x (Ends a e)) _ s (tt, tt) (λ ms l. l) h
act_goes c n told x (Queues a d kind) s may small heard h =
    minor_goes n x (acted c n x (Queues a d kind)) [] s tt
    (λ ms k. if_either (λ (z : UpNode). SeatLines n z.seat ms) (has a.plan.members n)
    (record x { tasks = after_seize x.tasks d (seizing.begun kind a.plan.epoch a.plan.members n c.id (has (record_of x).valid d)) }) x k k) h
act_goes c n told x (Accepts kind e members d) s may small heard h = minor_goes n x (acted c n x (Accepts kind e members d)) [] s tt (λ ms k. k) h
act_goes c n told x (Takes at command a) s may small heard h = minor_goes n x (acted c n x (Takes at command a)) _ s (tt, tt) (λ ms k. k) h
act_goes c n told x (Stores d value a) s may small heard h = minor_goes n x x _ s (tt, write_minor n x d value a) (λ ms k. k) h
act_goes c n told x (Writes to b) s may small heard h = sends_goes n x b (Sends to b ∷ []) s (λ k. (tt, tt)) (λ ms l. (l, tt)) may h
act_goes c n told x (Makes change) s may small heard h = change_goes c n told x change (first_lines n change) s (first_minor n change) may.0 small heard h
act_goes c n told x (Gives os) s may small heard h = minor_goes n x x os s (given_minor os small may) (λ ms k. k) h
act_goes c n told x (Spreads receivers b) s may small heard h =
    sends_goes n x b (sent_to receivers b) s (λ k. spread_idle k receivers b) (λ ms l. spread_lines ms receivers b l) may h
act_goes c n told x (Minds q p) s may small heard h = minor_goes n x (acted c n x (Minds q p)) [] s tt (λ ms k. k) h
act_goes c n told x (Notes from place p) s may small heard h = minor_goes n x (acted c n x (Notes from place p)) [] s tt (λ ms k. k) h
act_goes c n told x (Dates now) s may small heard h = minor_goes n x (acted c n x (Dates now)) [] s tt (λ ms k. k) h
act_goes c n told x (Works w) s may small heard h = minor_goes n x (acted c n x (Works w)) [] s tt (λ ms k. k) h

-- Small steps.

saved_goes : (c : Cluster) (n : ℕ) (told : Delivered) (x : UpNode) (change : Change) (s : Scene) → MayChange c n told x change → IsSmallChange change → Heard s.moments told
    → NodeLines n (Up x) s.moments → Goes n (Up (changed c n x change)) (first_lines n change ++ saved_lines c n x change) s
saved_goes c n told x change s may small heard h =
    let kept : List Output = of_node n note.Saved ∷ [] in
    subst (λ os. Goes n (Up (changed c n x change)) os s) (append_assoc (first_lines n change) kept (last_lines c n x change))
    (change_goes c n told x change (first_lines n change ++ kept) s (both MinorOut (first_lines n change) kept (first_minor n change) (tt, tt)) may small heard h)

pub does_go : (c : Cluster) (n : ℕ) (told : Delivered) (node : Node) (disk : NodeRecord) (d : Doing) (s : Scene) → May c n told (site node disk) d → IsSmall d → Heard s.moments told
    → NodeLines n node s.moments → Goes n (effect c n (site node disk) d).node (gives c n (site node disk) d) s
does_go c n told Down disk Comes_up s may small heard h = up_goes n (up_with n (first_valid_of c n) disk) s (λ ms. tt)
does_go c n told (Up x) disk Comes_up s may small heard h = absurd may
does_go c n told node disk (Goes_down why) s may small heard h = down_goes n [] why s tt
does_go c n told Down disk (Does a) s may small heard h = absurd may
does_go c n told (Up x) disk (Does a) s may small heard h = act_goes c n told x a s may small heard h
does_go c n told Down disk (Saves change) s may small heard h = absurd may
does_go c n told (Up x) disk (Saves change) s may small heard h = saved_goes c n told x change s may small heard h
does_go c n told node disk (Loses change why) s may small heard h = down_goes n (first_lines n change) why s (first_minor n change)
does_go c n told node disk (Forgets change why) s may small heard h = down_goes n (first_lines n change) why s (first_minor n change)

-- One after another.

pub body_stays : (before after : List Moment) (b : Body) → ((q : ℕ) → is_started q before ≡ true → is_started q after ≡ true) → BodyLines before b → BodyLines after b
body_stays before after (body.Start e) f h = f e h
body_stays before after _ f h = tt

pub heard_stays : (before after : List Moment) (told : Delivered) → ((q : ℕ) → is_started q before ≡ true → is_started q after ≡ true) → Heard before told → Heard after told
heard_stays before after None f h = tt
heard_stays before after (Some d) f h = body_stays before after d.1.body f h

outputs_stay : (before after : List Moment) (os : List Output) → ((q : ℕ) → is_started q before ≡ true → is_started q after ≡ true) → AllByRecursion (OutLines before) os
    → AllByRecursion (OutLines after) os
outputs_stay before after [] f h = tt
outputs_stay before after (Tells e ∷ os) f h = (tt, outputs_stay before after os f h.1)
outputs_stay before after (Sends to b ∷ os) f h = (body_stays before after b f h.0, outputs_stay before after os f h.1)

pub all_go : (c : Cluster) (n : ℕ) (told : Delivered) (x : Site) (ds : List Doing) (s : Scene) → MayAll c n told x ds → AllSmall ds → Heard s.moments told → NodeLines n x.node s.moments
    → Goes n (after_all c n x ds).node (given_all c n x ds) s
all_go c n told x [] s may small heard h = record { own = h; others = λ k ne. tt; letters = tt }
all_go c n told x (d ∷ ds) s may small heard h =
    let os : List Output = gives c n x d in
    let more : List Output = given_all c n (effect c n x d) ds in
    let t : Scene = passing n os s in
    let g : Goes n (effect c n x d).node os s = does_go c n told x.node x.disk d s may.0 small.0 heard h in
    let r : Goes n (after_all c n (effect c n x d) ds).node more t =
    all_go c n told (effect c n x d) ds t may.1 small.1 (heard_stays s.moments t.moments told (λ q k. passing_started q n os s k) heard) g.own in
    subst (λ (z : Scene). GoesTo n (after_all c n (effect c n x d) ds).node (os ++ more) z) (sym (passing_append n os more s)) (record {
      own = r.own;
      others = λ k ne. both (IdleOut k) os more (g.others k ne) (r.others k ne);
      letters =
          both (OutLines (passing n more t).moments) os more
          (outputs_stay t.moments (passing n more t).moments os (λ q k. passing_started q n more t k) g.letters) r.letters;
    })
