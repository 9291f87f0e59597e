-- What is due for an event leaves the entries that the event has, and the cause for which it is skipped.
use Rattle.std.specs.Prelude.{ℕ, ◌^◌, ◌≡◌, ◌==◌, ◌||◌, nat_lt, Bool, true, false, List, [], ◌∷◌, find, Option, None, Some, is_some, slice_get, if◌then◌else◌}
use Rattle.std.specs.Option.{option_map}
use Rattle.std.proofs.Common.{refl, sym, ap, subst, ◌∙◌, inl, inr, arith}
use Rattle.cmm_attempt.proofs.Basics.{false_true, none_some, same_some}
use Rattle.interconnect.specs.Links.{Links, Packet, is_on, oldest_on, packet_of}
use Rattle.schedule_text.specs.declared.event.Event.{Event}
use Rattle.schedule_text.specs.declared.event.Event.TheVariants as event
use Rattle.status_report.specs.declared.schedule_entry.SkipCause.{SkipCause}
use Rattle.status_report.specs.declared.schedule_entry.SkipCause.TheVariants as skip
use Rattle.history.specs.Lines.{Arrives, ArrivesOr, HasEntries, IsAnsweredBy, OfPacket, asked_device, is_copy_of, number_in, refusal_due, skip_disk, skip_due, skip_packet, skip_president, skip_unless_up, write_entries}
use Rattle.history.specs.Links.{in_flight, links_after, oldest}
use Rattle.history.specs.Member.{is_up, member_of}
use Rattle.history.specs.Moment.{Moment}
use Rattle.history.specs.Queue.{has_work, queue_is_open}
use Rattle.history.specs.Setting.{Setting, coordinator}
use Rattle.history.specs.Trace.{lost}
use Rattle.node_model.specs.Addresses.{refusal_at, refusal_by}
use Rattle.node_model.specs.Devices.{may_write_as}
use Rattle.node_model.specs.declared.cluster.Cluster.{Cluster}
use Rattle.node_model.specs.declared.input.Input.TheVariants as input
use Rattle.node_model.specs.declared.node.Node.{Node}
use Rattle.node_model.specs.declared.node.Node.TheVariants.{Down, Up}
use Rattle.node_model.specs.declared.node.UpNode.{UpNode}
use Rattle.node_model.specs.declared.presidency.Presidency.{Presidency}
use Rattle.node_model.specs.declared.seat.Seat.{Seat}
use Rattle.node_model.specs.declared.seat.Seat.TheVariants.{Forming, Member}
use Rattle.world_model.specs.Devices.{due_at}
use Rattle.world_model.specs.Lines.{monitors}
use Rattle.run_history.proofs.ContactFlying.{number_found}
use Rattle.run_history.specs.Happenings.{IsUp}
use Rattle.run_history.specs.Members.{NodeLines}
use Rattle.run_history.specs.Scenes.{Scene}
use Rattle.run_history.specs.Shapes.{Want, asking, booting, brings, coming_to, if_up, of_oldest, of_packet, probing, taking_this, writing}
use Rattle.run_history.specs.Shapes.Want.{Lose, Repeat}
use Rattle.run_messages.specs.Laws.{IsSeated, membership_in}
use Rattle.run_lines.specs.Entries.{Leaves, MayBegin, NodePresides, PresidesAt, Ties}
use Rattle.run_lines.specs.Laws.{IsSpokenOf, NumberIsLeft}

-- ---- nodes

-- a boot is skipped where the node is up
abbrev boot_due : Bool → Option SkipCause
boot_due up = if up then Some skip.Up else None

boot_answered : (S : Setting) (ms : List Moment) (n : ℕ) (z : Node) (later : List Moment) → NodeLines n z ms → Leaves (booting n z) later → IsAnsweredBy S ms (event.Boot n) later (boot_due (is_up n ms))
boot_answered S ms n Down later lines leaves = subst (λ b. IsAnsweredBy S ms (event.Boot n) later (boot_due b)) (sym lines) leaves
boot_answered S ms n (Up x) later lines leaves = subst (λ b. IsAnsweredBy S ms (event.Boot n) later (boot_due b)) (sym lines.0) leaves

-- what comes to a node that is up alone
up_answered : (S : Setting) (ms : List Moment) (n : ℕ) (e : Event) (z : Node) (f : UpNode → List Want) (later : List Moment) → NodeLines n z ms
    → ((x : UpNode) → z ≡ Up x → Leaves (f x) later → HasEntries S ms e later) → Leaves (if_up z f) later → IsAnsweredBy S ms e later (skip_unless_up (is_up n ms))
up_answered S ms n e Down f later lines has leaves = subst (λ b. IsAnsweredBy S ms e later (skip_unless_up b)) (sym lines) leaves
up_answered S ms n e (Up x) f later lines has leaves = subst (λ b. IsAnsweredBy S ms e later (skip_unless_up b)) (sym lines.0) (has x refl leaves)

-- a node that is down by its lines is down
down_answered : (S : Setting) (ms : List Moment) (n : ℕ) (e : Event) (z : Node) (f : UpNode → List Want) (later : List Moment) → NodeLines n z ms → is_up n ms ≡ false
    → Leaves (if_up z f) later → IsAnsweredBy S ms e later (Some skip.Down)
down_answered S ms n e Down f later lines down leaves = leaves
down_answered S ms n e (Up x) f later lines down leaves = absurd (false_true (sym down ∙ lines.0))

probe_answered : (n : ℕ) (resource : List ℕ) (good b : Bool) (S : Setting) (ms later : List Moment) → Leaves (probing n resource good b) later → HasEntries S ms (event.Probe n resource good) later
probe_answered n resource good true S ms later leaves = inl leaves
probe_answered n resource good false S ms later leaves = inr leaves

-- no member may write
forming_write : (c : Cluster) (S : Setting) (n d value : ℕ) (seat : Seat) (ms later : List Moment) → member_of n ms ≡ membership_in seat → member_of n ms ≡ None
    → Leaves (writing n d value (may_write_as c n d seat)) later → later ≡ write_entries S ms n d value
forming_write c S n d value (Forming s) ms later seated none leaves =
    leaves ∙ ap (λ o. asked_device S ms n d value (refusal_due S ms n d o)) (sym none)
forming_write c S n d value (Member s) ms later seated none leaves = absurd (none_some s.session (sym none ∙ seated))

-- a client's request to a node that is no president of a membership by its lines

is_same : (a b : ℕ) → a ≡ b → (a == b) ≡ true
is_same a b e = grind arith

president_due : (b : Bool) → b ≡ true → is_some (if b then None else Some skip.NoPresident) ≡ true → ⊥
president_due true is due = false_true due
president_due false is due = false_true is

presides_none : (n : ℕ) (o : Option Presidency) (seat : Seat) → PresidesAt n o seat → is_some (skip_president n true (membership_in seat)) ≡ true → o ≡ None
presides_none n None seat h due = refl
presides_none n (Some p) (Forming s) h due = absurd h
presides_none n (Some p) (Member s) h due = absurd (president_due (coordinator s.session == n) (is_same (coordinator s.session) n h) due)

other_skips : (b : Bool) → is_some (if b then None else Some skip.NoPresident) ≡ true → (if b then None else Some skip.NoPresident) ≡ Some skip.NoPresident
other_skips true due = absurd (false_true due)
other_skips false due = refl

skips_so : (n : ℕ) (seat : Seat) → is_some (skip_president n true (membership_in seat)) ≡ true → skip_president n true (membership_in seat) ≡ Some skip.NoPresident
skips_so n (Forming s) due = refl
skips_so n (Member s) due = other_skips (coordinator s.session == n) due

client_answered : (c : Cluster) (S : Setting) (ms : List Moment) (n : ℕ) (address : List ℕ) (client port : ℕ) (z : Node) (later : List Moment) → NodeLines n z ms → IsSeated ms n z → NodePresides n z
    → is_some (skip_president n (is_up n ms) (member_of n ms)) ≡ true → Leaves (if_up z (λ x. asking n (input.Client address client port) (refusal_at c address z))) later
    → IsAnsweredBy S ms (event.Client n address client port) later (skip_president n (is_up n ms) (member_of n ms))
client_answered c S ms n address client port Down later lines seated presides due leaves =
    subst (λ b. IsAnsweredBy S ms (event.Client n address client port) later (skip_president n b (member_of n ms))) (sym lines) leaves
client_answered c S ms n address client port (Up x) later lines seated presides due leaves =
    subst (λ o. IsAnsweredBy S ms (event.Client n address client port) later o) (sym (here ∙ skips_so n x.seat known))
    (subst (λ o. Leaves (asking n (input.Client address client port) (refusal_by c x address o)) later) (presides_none n x.presidency x.seat presides known) leaves)
  where
    here : skip_president n (is_up n ms) (member_of n ms) ≡ skip_president n true (membership_in x.seat)
    here = ap (λ b. skip_president n b (member_of n ms)) lines.0 ∙ ap (λ o. skip_president n true o) seated

    known : is_some (skip_president n true (membership_in x.seat)) ≡ true
    known = ap is_some (sym here) ∙ due

-- ---- packets

one_found : (b : Bool) (p : Packet) (o : Option Packet) → (b ≡ false → is_some o ≡ true) → is_some (if b then Some p else o) ≡ true
one_found true p o f = refl
one_found false p o f = f refl

here_found : (b : Bool) (p : Packet) (o : Option Packet) → b ≡ true → is_some (if b then Some p else o) ≡ true
here_found true p o e = refl
here_found false p o e = absurd (false_true e)

-- the oldest packet of a link is in flight
oldest_flies : (ps : List Packet) (a b k : ℕ) → oldest_on ps a b ≡ Some k → is_some (packet_of ps k) ≡ true
oldest_flies [] a b k e = absurd (none_some k e)
oldest_flies (p ∷ ps) a b k e = by_test (is_on a b p) e (λ other. oldest_flies ps a b k other)
  where
    by_test : (t : Bool) → option_map (λ (x : Packet). x.number) (if t then Some p else find (is_on a b) ps) ≡ Some k → (oldest_on ps a b ≡ Some k → is_some (packet_of ps k) ≡ true)
        → is_some (packet_of (p ∷ ps) k) ≡ true
    by_test true found rest = here_found (p.number == k) p (packet_of ps k) (is_same p.number k (same_some p.number k found))
    by_test false found rest = one_found (p.number == k) p (packet_of ps k) (λ other. rest found)

-- the packet of a number is answered for, if it is in flight, and else skipped
packet_answered : (S : Setting) (ms : List Moment) (e : Event) (l : Links) (number : ℕ) (o : Option Packet) (f : Packet → List Want) (later : List Moment) → packet_of l.packets number ≡ o
    → ((x : Packet) → packet_of l.packets number ≡ Some x → Leaves (f x) later → IsAnsweredBy S ms e later None) → Leaves (of_packet o f) later → IsAnsweredBy S ms e later (skip_packet (number_in o))
packet_answered S ms e l number None f later at has leaves = leaves
packet_answered S ms e l number (Some x) f later at has leaves = has x at leaves

-- where it comes to a node that is down it is dropped
coming_answered : (ms : List Moment) (number : ℕ) (x : Packet) (z : Node) (later : List Moment) → NodeLines x.to z ms → Leaves (coming_to z number x) later
    → ArrivesOr (is_up x.to ms) number x.from x.to later
coming_answered ms number x Down later lines leaves = subst (λ b. ArrivesOr b number x.from x.to later) (sym lines) leaves
coming_answered ms number x (Up y) later lines leaves = subst (λ b. ArrivesOr b number x.from x.to later) (sym lines.0) leaves

-- the packet is that of its number
of_number : (S : Setting) (ms : List Moment) (number : ℕ) (x : Packet) (P : ℕ → Type 0) → in_flight S.cells number ms ≡ Some x → P number → OfPacket (number_in (in_flight S.cells number ms)) P
of_number S ms number x P at p =
    subst (λ o. OfPacket (number_in o) P) (sym at) (subst P (sym (number_found (links_after S.cells ms) number x at)) p)

arrives_at : (S : Setting) (ms : List Moment) (number : ℕ) (x : Packet) (later : List Moment) → in_flight S.cells number ms ≡ Some x → ArrivesOr (is_up x.to ms) number x.from x.to later
    → Arrives ms number later (in_flight S.cells number ms)
arrives_at S ms number x later at h = subst (λ o. Arrives ms number later o) (sym at) h

arrives_so : (S : Setting) (s : Scene) (number : ℕ) (x : Packet) (later : List Moment) → Ties S s → in_flight S.cells number s.moments ≡ Some x
    → Leaves (coming_to (s.nodes.node x.to) number x) later → Arrives s.moments number later (in_flight S.cells number s.moments)
arrives_so S s number x later ties at leaves =
    arrives_at S s.moments number x later at (coming_answered s.moments number x (s.nodes.node x.to) later (ties.nodes x.to) leaves)

-- a copy is made where a number is left
copy_made : (next number : ℕ) (x : Packet) (later : List Moment) → nat_lt next (2 ^ 63) ≡ true → Leaves (if nat_lt next (2 ^ 63) then Repeat number x ∷ [] else []) later
    → is_copy_of number (slice_get later 0) ≡ true
copy_made next number x later left leaves = subst (λ b. Leaves (if b then Repeat number x ∷ [] else []) later) left leaves

-- a packet in flight by the lines is in flight
flying : (S : Setting) (s : Scene) (number : ℕ) (x : Packet) (f : Packet → List Want) (later : List Moment) → Ties S s → in_flight S.cells number s.moments ≡ Some x
    → Leaves (of_packet (packet_of s.links.packets number) f) later → Leaves (f x) later
flying S s number x f later ties at leaves =
    subst (λ o. Leaves (of_packet o f) later) at (subst (λ (l : Links). Leaves (of_packet (packet_of l.packets number) f) later) ties.linked.links leaves)

-- .. and is answered for by its number
number_answered : (S : Setting) (s : Scene) (e : Event) (number : ℕ) (f : Packet → List Want) (later : List Moment) → Ties S s
    → ((x : Packet) → in_flight S.cells number s.moments ≡ Some x → Leaves (f x) later → IsAnsweredBy S s.moments e later None)
    → Leaves (of_packet (packet_of s.links.packets number) f) later → IsAnsweredBy S s.moments e later (skip_packet (number_in (in_flight S.cells number s.moments)))
number_answered S s e number f later ties has leaves =
    packet_answered S s.moments e (links_after S.cells s.moments) number (in_flight S.cells number s.moments) f later refl has
    (subst (λ (l : Links). Leaves (of_packet (packet_of l.packets number) f) later) ties.linked.links leaves)

some_there : (o : Option Packet) (P : Type 0) → is_some o ≡ true → ((x : Packet) → o ≡ Some x → P) → P
some_there None P is f = absurd (false_true is)
some_there (Some x) P is f = f x refl

-- the oldest packet of a link is answered for, if the link has one
link_answered : (S : Setting) (s : Scene) (e : Event) (a b : ℕ) (o : Option ℕ) (f : ℕ → Packet → List Want) (later : List Moment) → Ties S s → oldest S.cells a b s.moments ≡ o
    → ((k : ℕ) (x : Packet) → o ≡ Some k → in_flight S.cells k s.moments ≡ Some x → Leaves (f k x) later → IsAnsweredBy S s.moments e later None)
    → Leaves (of_oldest o (λ k. of_packet (packet_of s.links.packets k) (f k))) later → IsAnsweredBy S s.moments e later (skip_packet o)
link_answered S s e a b None f later ties is has leaves = leaves
link_answered S s e a b (Some k) f later ties is has leaves =
    some_there (in_flight S.cells k s.moments) (IsAnsweredBy S s.moments e later None) (oldest_flies (links_after S.cells s.moments).packets a b k is)
    (λ x at. has k x refl at (flying S s k x (f k) later ties at leaves))

oldest_answered : (S : Setting) (s : Scene) (e : Event) (a b : ℕ) (f : ℕ → Packet → List Want) (later : List Moment) → Ties S s
    → ((k : ℕ) (x : Packet) → oldest S.cells a b s.moments ≡ Some k → in_flight S.cells k s.moments ≡ Some x → Leaves (f k x) later → IsAnsweredBy S s.moments e later None)
    → Leaves (of_oldest (oldest_on s.links.packets a b) (λ k. of_packet (packet_of s.links.packets k) (f k))) later
    → IsAnsweredBy S s.moments e later (skip_packet (oldest S.cells a b s.moments))
oldest_answered S s e a b f later ties has leaves =
    link_answered S s e a b (oldest S.cells a b s.moments) f later ties refl has
    (subst (λ (l : Links). Leaves (of_oldest (oldest_on l.packets a b) (λ k. of_packet (packet_of s.links.packets k) (f k))) later) ties.linked.links leaves)

-- P of the oldest packet of a link
of_oldest_one : (o : Option ℕ) (k : ℕ) (P : ℕ → Type 0) → o ≡ Some k → P k → OfPacket o P
of_oldest_one o k P is p = subst (λ z. OfPacket z P) (sym is) p

number_left : (S : Setting) (s : Scene) → Ties S s → NumberIsLeft S s.moments → nat_lt s.links.next (2 ^ 63) ≡ true
number_left S s ties left = ap (λ (l : Links). nat_lt l.next (2 ^ 63)) ties.linked.links ∙ left

-- ---- each event

pub answered : (c : Cluster) (S : Setting) (s : Scene) (e : Event) (later : List Moment) → Ties S s → IsSpokenOf S s.moments e → Leaves (brings c s e) later
    → IsAnsweredBy S s.moments e later (skip_due S s.moments e)
answered c S s (event.Boot n) later ties speaks leaves = boot_answered S s.moments n (s.nodes.node n) later (ties.nodes n) leaves
answered c S s (event.Crash n) later ties speaks leaves =
    up_answered S s.moments n (event.Crash n) (s.nodes.node n) (λ x. taking_this n input.Crash) later (ties.nodes n) (λ x is has. has) leaves
answered c S s (event.CrashAt n calls choice) later ties speaks leaves = leaves
answered c S s (event.Tick n) later ties speaks leaves =
    up_answered S s.moments n (event.Tick n) (s.nodes.node n) (λ x. taking_this n input.Tick) later (ties.nodes n) (λ x is has. has) leaves
answered c S s (event.Disk n) later ties speaks leaves =
    subst (λ b. IsAnsweredBy S s.moments (event.Disk n) later (skip_disk b (has_work S n s.moments || queue_is_open S n s.moments))) (sym speaks)
    (down_answered S s.moments n (event.Disk n) (s.nodes.node n) _ later (ties.nodes n) speaks leaves)
answered c S s (event.Fault n d done) later ties speaks leaves = leaves
answered c S s (event.Write n d value) later ties speaks leaves =
    up_answered S s.moments n (event.Write n d value) (s.nodes.node n) (λ x. writing n d value (may_write_as c n d x.seat)) later (ties.nodes n)
    (λ x is has. forming_write c S n d value x.seat s.moments later (subst (λ z. IsSeated s.moments n z) is (ties.seats n)) speaks has) leaves
answered c S s (event.Command n words) later ties speaks leaves =
    up_answered S s.moments n (event.Command n words) (s.nodes.node n) (λ x. taking_this n (input.Commanded words)) later (ties.nodes n) (λ x is has. has) leaves
answered c S s (event.Outcome n resource method outcome) later ties speaks leaves = leaves
answered c S s (event.Probe n resource good) later ties speaks leaves =
    up_answered S s.moments n (event.Probe n resource good) (s.nodes.node n) (λ x. probing n resource good (monitors resource (Some (s.nodes.node n)))) later (ties.nodes n)
    (λ x is has. probe_answered n resource good (monitors resource (Some (s.nodes.node n))) S s.moments later has) leaves
answered c S s (event.Client n address client port) later ties speaks leaves =
    client_answered c S s.moments n address client port (s.nodes.node n) later (ties.nodes n) (ties.seats n) (ties.presidents n) speaks leaves
answered c S s (event.Clock second) later ties speaks leaves = leaves
answered c S s (event.Rounds count nodes) later ties speaks leaves = leaves
answered c S s (event.Deliver number) later ties speaks leaves =
    number_answered S s (event.Deliver number) number (λ x. coming_to (s.nodes.node x.to) number x) later ties
    (λ x at has. of_number S s.moments number x (λ k. Arrives s.moments k later (in_flight S.cells k s.moments)) at (arrives_so S s number x later ties at has)) leaves
answered c S s (event.Lose number) later ties speaks leaves =
    number_answered S s (event.Lose number) number (λ x. Lose number x ∷ []) later ties (λ x at has. of_number S s.moments number x (λ k. later ≡ lost k ∷ []) at has) leaves
answered c S s (event.Repeat number) later ties speaks leaves =
    number_answered S s (event.Repeat number) number (λ x. if nat_lt s.links.next (2 ^ 63) then Repeat number x ∷ [] else []) later ties
    (λ x at has. of_number S s.moments number x (λ k. is_copy_of k (slice_get later 0) ≡ true) at (copy_made s.links.next number x later (number_left S s ties speaks) has)) leaves
answered c S s (event.Next a b) later ties speaks leaves =
    oldest_answered S s (event.Next a b) a b (λ k x. coming_to (s.nodes.node x.to) k x) later ties
    (λ k x is at has. of_oldest_one (oldest S.cells a b s.moments) k (λ j. Arrives s.moments j later (in_flight S.cells j s.moments)) is (arrives_so S s k x later ties at has)) leaves
answered c S s (event.Drop a b) later ties speaks leaves =
    oldest_answered S s (event.Drop a b) a b (λ k x. Lose k x ∷ []) later ties (λ k x is at has. of_oldest_one (oldest S.cells a b s.moments) k (λ j. later ≡ lost j ∷ []) is has) leaves
answered c S s (event.Again a b) later ties speaks leaves =
    oldest_answered S s (event.Again a b) a b (λ k x. if nat_lt s.links.next (2 ^ 63) then Repeat k x ∷ [] else []) later ties
    (λ k x is at has. of_oldest_one (oldest S.cells a b s.moments) k (λ j. is_copy_of j (slice_get later 0) ≡ true) is (copy_made s.links.next k x later (number_left S s ties speaks) has)) leaves

-- ---- a part of a round is not skipped

flies_is_number : (o : Option Packet) → is_some o ≡ true → skip_packet (number_in o) ≡ None
flies_is_number None is = absurd (false_true is)
flies_is_number (Some x) is = refl

up_is_told : (n : ℕ) (z : Node) (ms : List Moment) → NodeLines n z ms → IsUp z → is_up n ms ≡ true
up_is_told n Down ms lines up = absurd up
up_is_told n (Up x) ms lines up = lines.0

due_is_up : (z : Node) → is_some (due_at (Some z)) ≡ true → IsUp z
due_is_up Down is = absurd (false_true is)
due_is_up (Up x) is = tt

begins_so : (S : Setting) (s : Scene) (e : Event) → Ties S s → IsSpokenOf S s.moments e → MayBegin s e → skip_due S s.moments e ≡ None
begins_so S s (event.Deliver number) ties speaks may =
    flies_is_number (in_flight S.cells number s.moments) (subst (λ (l : Links). is_some (packet_of l.packets number) ≡ true) ties.linked.links may)
begins_so S s (event.Tick n) ties speaks may = ap skip_unless_up (up_is_told n (s.nodes.node n) s.moments (ties.nodes n) may)
begins_so S s (event.Disk n) ties speaks may =
    absurd (false_true (sym speaks ∙ up_is_told n (s.nodes.node n) s.moments (ties.nodes n) (due_is_up (s.nodes.node n) may)))
begins_so S s _ ties speaks may = absurd may

pub part_answered : (c : Cluster) (S : Setting) (s : Scene) (e : Event) (later : List Moment) → Ties S s → MayBegin s e → IsSpokenOf S s.moments e → Leaves (brings c s e) later
    → (skip_due S s.moments e ≡ None) × HasEntries S s.moments e later
part_answered c S s e later ties may speaks leaves =
    (begins_so S s e ties speaks may, subst (λ o. IsAnsweredBy S s.moments e later o) (begins_so S s e ties speaks may) (answered c S s e later ties speaks leaves))
