-- Which lines say something of a node's joinings: its commands at devices, and that it installed. All others leave what they say.
use Rattle.std.specs.Prelude.{ℕ, ◌≡◌, ◌≢◌, ◌==◌, ◌&&◌, ◌||◌, ◌++◌, not, Bool, true, false, List, [], ◌∷◌, Option, None, Some, if◌then◌else◌}
use Rattle.std.specs.List.{AllByRecursion, list_any}
use Rattle.std.proofs.Common.{refl, sym, ap, ◌∙◌, arith}
use Rattle.cl_base.specs.declared.packet.DropCause.{DropCause}
use Rattle.cmm_attempt.proofs.Basics.{if_either, same_number}
use Rattle.interconnect.specs.Links as net
use Rattle.interconnect.specs.Links.{sending}
use Rattle.pgr_device.specs.declared.command.PrAnswer.TheVariants as given
use Rattle.pgr_device.specs.declared.command.PrCommand.{PrCommand}
use Rattle.pgr_device.specs.declared.command.PrCommand.TheVariants as command
use Rattle.seize.specs.Answers.{Answer}
use Rattle.status_report.specs.declared.device_entry.DeviceAnswer.{DeviceAnswer}
use Rattle.status_report.specs.declared.device_entry.DeviceAnswer.TheVariants.{Failed, Given}
use Rattle.status_report.specs.declared.device_entry.DeviceEntry.TheVariants as device
use Rattle.status_report.specs.declared.entry.Entry.{Entry}
use Rattle.status_report.specs.declared.entry.Entry.TheVariants as entry
use Rattle.status_report.specs.declared.node_entry.NodeEntry.TheVariants as note
use Rattle.status_report.specs.declared.packet_entry.PacketEntry.TheVariants as packet
use Rattle.history.specs.Lines.{spoils}
use Rattle.history.specs.Moment.{Moment, Told}
use Rattle.history.specs.Order.{since}
use Rattle.history.specs.Seizing.{is_install}
use Rattle.node_model.specs.Devices.{answer_told}
use Rattle.node_model.specs.declared.cluster.Cluster.{Cluster}
use Rattle.node_model.specs.declared.node.Node.{Node}
use Rattle.node_model.specs.declared.node.Node.TheVariants.{Down, Up}
use Rattle.node_model.specs.declared.node.UpNode.{UpNode}
use Rattle.node_model.specs.declared.output.Output.{Output}
use Rattle.node_model.specs.declared.output.Output.TheVariants.{Sends, Tells}
use Rattle.refinement.specs.Doings.{Act, Change, Doing, Site, command_line, first_lines, gives, gone_line, last_lines, of_node, said, site}
use Rattle.refinement.specs.Doings.Act.{Accepts, Dates, Ends, Gives, Goes_on, Hears, Makes, Minds, Notes, Queues, Spreads, Stores, Takes, Ticks, Waits, Works, Writes}
use Rattle.refinement.specs.Doings.Change.{Acks, Admits, Commits, Counts, Distrusts, Installs, Leads, Prepares, Promises, Proposes, Sits, Starts}
use Rattle.refinement.specs.Doings.Doing.{Comes_up, Does, Forgets, Goes_down, Loses, Saves}
use Rattle.refinement.specs.Guards.{May, MayAct}
use Rattle.refinement.specs.Ties.{Delivered}
use Rattle.run_history.proofs.Lists.{both}
use Rattle.run_history.specs.Marks.{ActSo, DoingSo}
use Rattle.run_history.specs.Scenes.{Scene, dropped_so, passing, posting, sent_as, telling, with_links}
use Rattle.wire.specs.Spelling.{spelling}
use Rattle.wire.specs.declared.message.Message.{Message}
use Rattle.world_model.specs.Sends.{is_sent, name_of}
use Rattle.run_lines.specs.writes.Joins.{is_spoiled}
use Rattle.run_lines.specs.writes.Sites.{ArePlain, PlainEntry}
use Rattle.run_lines.proofs.writes.Plain.{act_plain, first_plain, last_plain, spread_all}

-- it says nothing of what node k joins
abbrev pub QuietFor : ℕ → Output → Type 0
QuietFor k (Tells z) = (d e : ℕ) (ms : List Moment) → is_spoiled k d e (Told z ∷ ms) ≡ is_spoiled k d e ms
QuietFor k (Sends to b) = Unit {0}

abbrev pub AllQuiet : ℕ → List Output → Type 0
AllQuiet k os = AllByRecursion (QuietFor k) os

one_quiet : (k : ℕ) (z : Entry) → PlainEntry z → (d e : ℕ) (ms : List Moment) → is_spoiled k d e (Told z ∷ ms) ≡ is_spoiled k d e ms
one_quiet k (entry.Device (device.Command m x (command.Ignore key) a)) is d e ms = absurd is
one_quiet k (entry.Device (device.Command m x command.Word a)) is d e ms = absurd is
one_quiet k (entry.Node m (note.Installed f)) is d e ms = absurd is
one_quiet k _ is d e ms = refl

pub plain_quiet : (k : ℕ) (os : List Output) → ArePlain os → AllQuiet k os
plain_quiet k [] h = tt
plain_quiet k (Tells z ∷ os) h = (one_quiet k z h.0, plain_quiet k os h.1)
plain_quiet k (Sends to b ∷ os) h = (tt, plain_quiet k os h.1)

-- ---- what is given

dropped_quiet : (k d e : ℕ) (o : Option (ℕ × DropCause)) (s : Scene) → is_spoiled k d e (dropped_so o s).moments ≡ is_spoiled k d e s.moments
dropped_quiet k d e None s = refl
dropped_quiet k d e (Some drop) s = refl

posted_quiet : (k d e from to : ℕ) (m : Message) (s : Scene) → is_spoiled k d e (posting from to m s).moments ≡ is_spoiled k d e s.moments
posted_quiet k d e from to m s =
    let o : net.Outcome = sending s.links from to (spelling m) in
    if_either (λ (t : Scene). is_spoiled k d e t.moments ≡ is_spoiled k d e s.moments) (is_sent s.links m) (sent_as from to m o s) s
    (dropped_quiet k d e o.sent.dropped (telling (entry.Packet (packet.Sent s.links.next from to (name_of m.body) (spelling m))) (with_links s o.after))) refl

pub passing_quiet : (k n : ℕ) (os : List Output) (s : Scene) → AllQuiet k os → (d e : ℕ) → is_spoiled k d e (passing n os s).moments ≡ is_spoiled k d e s.moments
passing_quiet k n [] s h d e = refl
passing_quiet k n (Tells z ∷ os) s h d e = passing_quiet k n os (telling z s) h.1 d e ∙ h.0 d e s.moments
passing_quiet k n (Sends to b ∷ os) s h d e =
    let m : Message = record { sender = n; body = b } in
    passing_quiet k n os (posting n to m s) h.1 d e ∙ posted_quiet k d e n to m s

-- ---- those that say something

other : (k n : ℕ) → k ≢ n → (n == k) ≡ false
other k n ne = by_test (n == k) refl
  where
    by_test : (b : Bool) → (n == k) ≡ b → (n == k) ≡ false
    by_test true is = absurd (ne (sym (same_number n k is)))
    by_test false is = is

-- of another node
spoils_other : (k n d e x : ℕ) (c : PrCommand) (a : DeviceAnswer) → (n == k) ≡ false → spoils k d e (Told (entry.Device (device.Command n x c a))) ≡ false
spoils_other k n d e x (command.Ignore key) Failed ne = ap (λ b. b && (x == d)) ne
spoils_other k n d e x (command.Ignore key) (Given r) ne = refl
spoils_other k n d e x command.Word Failed ne = ap (λ b. b && (x == d)) ne
spoils_other k n d e x command.Word (Given (given.Word w)) ne = ap (λ b. b && (x == d) && not (w == e)) ne
spoils_other k n d e x command.Word (Given _) ne = refl
spoils_other k n d e x _ a ne = refl

and_none : (b : Bool) → (b && false) ≡ false
and_none true = refl
and_none false = refl

and_neither : (b c : Bool) → (b && false && c) ≡ false
and_neither true c = refl
and_neither false c = refl

-- at another device
pub spoils_elsewhere : (n m d e x : ℕ) (c : PrCommand) (a : DeviceAnswer) → (x == d) ≡ false → spoils n d e (Told (entry.Device (device.Command m x c a))) ≡ false
spoils_elsewhere n m d e x (command.Ignore key) Failed ne = ap (λ b. (m == n) && b) ne ∙ and_none (m == n)
spoils_elsewhere n m d e x (command.Ignore key) (Given r) ne = refl
spoils_elsewhere n m d e x command.Word Failed ne = ap (λ b. (m == n) && b) ne ∙ and_none (m == n)
spoils_elsewhere n m d e x command.Word (Given (given.Word w)) ne = ap (λ b. (m == n) && b && not (w == e)) ne ∙ and_neither (m == n) (not (w == e))
spoils_elsewhere n m d e x command.Word (Given _) ne = refl
spoils_elsewhere n m d e x _ a ne = refl

command_quiet : (k n at : ℕ) (c : PrCommand) (a : Answer) → k ≢ n → AllQuiet k (command_line n at c a)
command_quiet k n at c a ne = ((λ d e ms. ap (λ b. b || is_spoiled k d e ms) (spoils_other k n d e at c (answer_told a) (other k n ne))), tt)

installed_quiet : (k n e : ℕ) → k ≢ n → AllQuiet k (of_node n (note.Installed e) ∷ [])
installed_quiet k n e ne = (
  (λ d f ms. ap (λ b. list_any (spoils k d f) (if b && (e == f) then [] else Told (entry.Node n (note.Installed e)) ∷ since (is_install k f) ms)) (other k n ne)),
  tt,
)

same : (a : ℕ) → (a == a) ≡ true
same a = grind arith

-- nothing was said since it installed
pub unspoiled : (n d e : ℕ) (ms : List Moment) → is_spoiled n d e (Told (entry.Node n (note.Installed e)) ∷ ms) ≡ false
unspoiled n d e ms =
    ap (λ b. list_any (spoils n d e) (if b && (e == e) then [] else Told (entry.Node n (note.Installed e)) ∷ since (is_install n e) ms)) (same n)
    ∙ ap (λ b. list_any (spoils n d e) (if b then [] else Told (entry.Node n (note.Installed e)) ∷ since (is_install n e) ms)) (same e)

-- ---- each small step

abbrev pub QuietChange : ℕ → ℕ → Change → Type 0
QuietChange k n (Admits at q a d) = k ≢ n
QuietChange k n (Counts a q s i) = k ≢ n
QuietChange k n (Installs s i) = k ≢ n
QuietChange k n change = Unit {0}

abbrev pub QuietAct : ℕ → ℕ → Act → Type 0
QuietAct k n (Takes at q a) = k ≢ n
QuietAct k n (Makes change) = QuietChange k n change
QuietAct k n a = Unit {0}

abbrev pub QuietDoing : ℕ → ℕ → Doing → Type 0
QuietDoing k n (Does a) = QuietAct k n a
QuietDoing k n (Saves change) = QuietChange k n change
QuietDoing k n (Loses change why) = QuietChange k n change
QuietDoing k n (Forgets change why) = QuietChange k n change
QuietDoing k n d = Unit {0}

first_quiet : (k n : ℕ) (ch : Change) → QuietChange k n ch → AllQuiet k (first_lines n ch)
first_quiet k n (Admits at q a d) ne = command_quiet k n at q a ne
first_quiet k n (Proposes s p text) is = plain_quiet k (first_lines n (Proposes s p text)) (first_plain n (Proposes s p text) tt)
first_quiet k n _ is = tt

last_quiet : (k : ℕ) (c : Cluster) (n : ℕ) (x : UpNode) (ch : Change) → QuietChange k n ch → AllQuiet k (last_lines c n x ch)
last_quiet k c n x (Counts a q s i) ne = installed_quiet k n i.epoch ne
last_quiet k c n x (Installs s i) ne = installed_quiet k n i.epoch ne
last_quiet k c n x (Promises p) is = plain_quiet k (last_lines c n x (Promises p)) (last_plain c n x (Promises p) tt)
last_quiet k c n x (Leads p members) is = plain_quiet k (last_lines c n x (Leads p members)) (last_plain c n x (Leads p members) tt)
last_quiet k c n x (Starts a q s) is = plain_quiet k (last_lines c n x (Starts a q s)) (last_plain c n x (Starts a q s) tt)
last_quiet k c n x (Sits s e) is = plain_quiet k (last_lines c n x (Sits s e)) (last_plain c n x (Sits s e) tt)
last_quiet k c n x (Acks s p q left text) is = plain_quiet k (last_lines c n x (Acks s p q left text)) (last_plain c n x (Acks s p q left text) tt)
last_quiet k c n x (Distrusts d) is = tt
last_quiet k c n x (Admits at q a d) is = tt
last_quiet k c n x (Proposes s p text) is = tt
last_quiet k c n x (Prepares s text) is = tt
last_quiet k c n x (Commits s) is = tt

change_quiet : (k : ℕ) (c : Cluster) (n : ℕ) (x : UpNode) (ch : Change) → QuietChange k n ch → AllQuiet k (first_lines n ch ++ last_lines c n x ch)
change_quiet k c n x ch is = both (QuietFor k) (first_lines n ch) (last_lines c n x ch) (first_quiet k n ch is) (last_quiet k c n x ch is)

saved_quiet : (k : ℕ) (c : Cluster) (n : ℕ) (x : UpNode) (ch : Change) → QuietChange k n ch → AllQuiet k (first_lines n ch ++ of_node n note.Saved ∷ last_lines c n x ch)
saved_quiet k c n x ch is =
    both (QuietFor k) (first_lines n ch) (of_node n note.Saved ∷ last_lines c n x ch) (first_quiet k n ch is) ((λ d e ms. refl), last_quiet k c n x ch is)

act_quiet : (k : ℕ) (c : Cluster) (n : ℕ) (told : Delivered) (x : UpNode) (a : Act) → MayAct c n told x a → ActSo a → QuietAct k n a → AllQuiet k (said c n x a)
act_quiet k c n told x (Takes at q a) may so ne = command_quiet k n at q a ne
act_quiet k c n told x (Writes to b) may so is = (tt, tt)
act_quiet k c n told x (Spreads receivers b) may so is = spread_all (QuietFor k) receivers b (λ m. tt)
act_quiet k c n told x (Makes change) may so is = change_quiet k c n x change is
act_quiet k c n told x (Gives os) may so is = plain_quiet k os (act_plain c n x (Gives os) (may, so))
act_quiet k c n told x Ticks may so is = plain_quiet k (said c n x Ticks) (act_plain c n x Ticks tt)
act_quiet k c n told x (Ends a e) may so is = plain_quiet k (said c n x (Ends a e)) (act_plain c n x (Ends a e) tt)
act_quiet k c n told x (Stores d value a) may so is = plain_quiet k (said c n x (Stores d value a)) (act_plain c n x (Stores d value a) tt)
act_quiet k c n told x (Hears from b) may so is = tt
act_quiet k c n told x Waits may so is = tt
act_quiet k c n told x (Goes_on a q) may so is = tt
act_quiet k c n told x (Queues a d kind) may so is = tt
act_quiet k c n told x (Accepts kind e members d) may so is = tt
act_quiet k c n told x (Minds q p) may so is = tt
act_quiet k c n told x (Notes from place p) may so is = tt
act_quiet k c n told x (Dates now) may so is = tt
act_quiet k c n told x (Works w) may so is = tt

gone_quiet : (k n : ℕ) (ch : Change) (os : List Output) → AllQuiet k os → QuietChange k n ch → AllQuiet k (first_lines n ch ++ os)
gone_quiet k n ch os h is = both (QuietFor k) (first_lines n ch) os (first_quiet k n ch is) h

pub doing_quiet : (k : ℕ) (c : Cluster) (n : ℕ) (told : Delivered) (x : Site) (d : Doing) → May c n told x d → DoingSo d → QuietDoing k n d → AllQuiet k (gives c n x d)
doing_quiet k c n told x Comes_up may so is = ((λ d e ms. refl), tt)
doing_quiet k c n told x (Goes_down why) may so is = ((λ d e ms. refl), tt)
doing_quiet k c n told x (Loses ch why) may so is = gone_quiet k n ch (gone_line n why) ((λ d e ms. refl), tt) is
doing_quiet k c n told x (Forgets ch why) may so is = gone_quiet k n ch (gone_line n why) ((λ d e ms. refl), tt) is
doing_quiet k c n told x (Does a) may so is = by_node x.node may
  where
    by_node : (z : Node) → May c n told (site z x.disk) (Does a) → AllQuiet k (gives c n (site z x.disk) (Does a))
    by_node Down m = tt
    by_node (Up y) m = act_quiet k c n told y a m so is
doing_quiet k c n told x (Saves ch) may so is = by_node x.node may
  where
    by_node : (z : Node) → May c n told (site z x.disk) (Saves ch) → AllQuiet k (gives c n (site z x.disk) (Saves ch))
    by_node Down m = tt
    by_node (Up y) m = saved_quiet k c n y ch is

-- another node's lines are quiet

change_other : (k n : ℕ) (ch : Change) → k ≢ n → QuietChange k n ch
change_other k n (Admits at q a d) ne = ne
change_other k n (Counts a q s i) ne = ne
change_other k n (Installs s i) ne = ne
change_other k n _ ne = tt

act_other : (k n : ℕ) (a : Act) → k ≢ n → QuietAct k n a
act_other k n (Takes at q a) ne = ne
act_other k n (Makes change) ne = change_other k n change ne
act_other k n _ ne = tt

pub doing_other : (k n : ℕ) (d : Doing) → k ≢ n → QuietDoing k n d
doing_other k n (Does a) ne = act_other k n a ne
doing_other k n (Saves change) ne = change_other k n change ne
doing_other k n (Loses change why) ne = change_other k n change ne
doing_other k n (Forgets change why) ne = change_other k n change ne
doing_other k n _ ne = tt
