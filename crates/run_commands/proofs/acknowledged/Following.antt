-- In each run the answer of a command whose words are none stands right behind it, and is an error.
use Rattle.std.specs.Prelude.{ℕ, ◌-◌, ◌≡◌, true, List, [], ◌∷◌, Option, None, Some, Ok, Err, is_some, slice_get}
use Rattle.std.proofs.Common.{refl, sym, ap, subst, ◌∙◌, inl, inr}
use Rattle.admin_words.specs.Answers.{Spelled}
use Rattle.admin_words.specs.Commands.{command_of}
use Rattle.admin_words.specs.declared.error.WordError.{WordError}
use Rattle.admin_words.specs.declared.error.WordError.TheVariants as word
use Rattle.ccr_tables.specs.declared.command.AdminCommand.{AdminCommand}
use Rattle.cl_base.specs.declared.header.Header.{Header}
use Rattle.cl_base.specs.declared.method.Outcome as method
use Rattle.cl_base.specs.declared.packet.DropCause.{DropCause}
use Rattle.cmm_attempt.proofs.Basics.{if_either, none_some, same_some}
use Rattle.cmm_member.specs.Records.{NodeRecord}
use Rattle.interconnect.specs.Links as links
use Rattle.interconnect.specs.Links.{sending}
use Rattle.pgr_device.specs.Device.{Device}
use Rattle.pgr_device.specs.declared.command.PrCommand.{PrCommand}
use Rattle.pgr_device.specs.declared.command.PrCommand.TheVariants as order
use Rattle.record_disk.specs.Disks.{DiskState}
use Rattle.request_queue.specs.Queue.{next_number}
use Rattle.schedule_text.specs.declared.event.Event.{Event}
use Rattle.schedule_text.specs.declared.event.Event.TheVariants as event
use Rattle.schedule_text.specs.declared.line.Line.TheVariants as line
use Rattle.status_report.specs.declared.command_entry.Answer.TheVariants as answer
use Rattle.status_report.specs.declared.command_entry.CommandEntry.TheVariants as command
use Rattle.status_report.specs.declared.entry.Entry.{Entry}
use Rattle.status_report.specs.declared.entry.Entry.TheVariants as entry
use Rattle.status_report.specs.declared.packet_entry.PacketEntry.TheVariants as packet
use Rattle.wire.specs.Spelling.{spelling}
use Rattle.wire.specs.declared.message.Message.{Message}
use Rattle.history.specs.Moment.{Moment, Said, Told}
use Rattle.history.specs.Requests.{command_before}
use Rattle.history.specs.Setting.{Setting}
use Rattle.history.specs.Trace.{gives}
use Rattle.history_setting.specs.Settings.{canonical_in, setting_of}
use Rattle.node_model.specs.Presidents.{word_answer}
use Rattle.node_model.specs.Requests.{numbered}
use Rattle.node_model.specs.Seats.{version_of}
use Rattle.node_model.specs.Steps.{Outcome, at_second, stepped}
use Rattle.node_model.specs.declared.cluster.Cluster.{Cluster}
use Rattle.node_model.specs.declared.input.Input.{Input}
use Rattle.node_model.specs.declared.input.Input.TheVariants as input
use Rattle.node_model.specs.declared.node.Node.{Node}
use Rattle.node_model.specs.declared.node.Node.TheVariants.{Down, Up}
use Rattle.node_model.specs.declared.node.UpNode.{UpNode}
use Rattle.node_model.specs.declared.output.Output.{Output}
use Rattle.node_model.specs.declared.output.Output.TheVariants.{Sends, Tells}
use Rattle.refinement.proofs.Disks.{disks_keep_rules}
use Rattle.refinement.proofs.Replies.{steps_are_cut}
use Rattle.refinement.specs.Courses.{Reply, under}
use Rattle.refinement.specs.Cuts as cuts
use Rattle.refinement.specs.Cuts.{course_at, doings, down_doings}
use Rattle.refinement.specs.Doings.{given_all, site}
use Rattle.refinement.specs.Runs.{moved}
use Rattle.refinement.specs.Runs.Move.{Takes as Takes_in}
use Rattle.refinement.specs.Steps.{IsCut, disk_rules}
use Rattle.world_model.specs.First.{first_cluster}
use Rattle.world_model.specs.Sends.{is_sent, name_of}
use Rattle.run_history.proofs.LineSteps.{doings_small}
use Rattle.run_history.proofs.Reached.{kept_holds}
use Rattle.run_history.proofs.Small.{AllSmall}
use Rattle.run_history.specs.Happenings.{Arrives, Begins, Commands, Happening, IsSaid, Loses, MayAllHappen, MayHappen, Misses, Notes, Refuses, Repeats, Speaks, Strays, Takes, Writes, all_happened, armed_by, commanded, commanded_at, happened, removed, taking}
use Rattle.run_history.specs.Scenes.{Scene, adding, dropped_so, first_scene, passing, posting, sent_as, telling, with_links}
use Rattle.run_commands.proofs.carried.Commands.{command_at, read_text}
use Rattle.run_commands.proofs.carried.Courses as asks
use Rattle.run_commands.specs.acknowledged.Followed.{AreFollowed, FollowedSo}
use Rattle.run_commands.proofs.acknowledged.Unasked.{AreUnasked, IsUnasked, course_unasked, down_unasked, up_unasked}

-- what is read as a command has canonical words
abbrev pub ReadsWords : Cluster → Setting → Type 0
ReadsWords c S = (words : List ℕ) (a : AdminCommand) → command_of (version_of c) words ≡ Ok a → is_some (S.canonical words) ≡ true

-- ---- lines

line_followed : (S : Setting) (e : Entry) (ms : List Moment) → IsUnasked (Tells e) → FollowedSo S ms → FollowedSo S (Told e ∷ ms)
line_followed S (entry.Command (command.Asked n q)) ms none h = absurd none
line_followed S _ ms none h = record { worded = tt; followed = (inl h.worded, h.followed) }

dropped_followed : (S : Setting) (o : Option (ℕ × DropCause)) (s : Scene) → FollowedSo S s.moments → FollowedSo S (dropped_so o s).moments
dropped_followed S None s h = h
dropped_followed S (Some x) s h = line_followed S (entry.Packet (packet.Dropped x.0 x.1)) s.moments tt h

posting_followed : (S : Setting) (from to : ℕ) (m : Message) (s : Scene) → FollowedSo S s.moments → FollowedSo S (posting from to m s).moments
posting_followed S from to m s h =
    let o : links.Outcome = sending s.links from to (spelling m) in
    let t : Scene = telling (entry.Packet (packet.Sent s.links.next from to (name_of m.body) (spelling m))) (with_links s o.after) in
    if_either (λ (z : Scene). FollowedSo S z.moments) (is_sent s.links m) (sent_as from to m o s) s
    (dropped_followed S o.sent.dropped t (line_followed S (entry.Packet (packet.Sent s.links.next from to (name_of m.body) (spelling m))) s.moments tt h)) h

passing_followed : (S : Setting) (n : ℕ) (os : List Output) (s : Scene) → AreUnasked os → FollowedSo S s.moments → FollowedSo S (passing n os s).moments
passing_followed S n [] s none h = h
passing_followed S n (Tells e ∷ os) s none h = passing_followed S n os (telling e s) none.1 (line_followed S e s.moments none.0 h)
passing_followed S n (Sends to b ∷ os) s none h =
    passing_followed S n os (posting n to (record { sender = n; body = b }) s) none.1 (posting_followed S n to (record { sender = n; body = b }) s h)

-- ---- a command comes

no_error : (e : WordError) → word_answer e ≡ answer.Ok → ⊥
no_error word.UnknownCommand is = cc
no_error word.MissingOperand is = cc
no_error word.BadValue is = cc
no_error word.NoMemory is = cc

-- its words are those of the line right before it
words_here : (S : Setting) (n : ℕ) (words : List ℕ) (ms : List Moment) → slice_get ms 0 ≡ Some (gives n words) → command_before S ms ≡ S.canonical words
words_here S n words [] h = absurd (none_some (gives n words) h)
words_here S n words (m ∷ ms) h = subst (λ z. command_before S (z ∷ ms) ≡ S.canonical words) (sym (same_some m (gives n words) h)) refl

abbrev asked_line : ℕ → ℕ → Output
asked_line n q = Tells (entry.Command (command.Asked n q))

worded_followed : (S : Setting) (c : Cluster) (n : ℕ) (words : List ℕ) (replies : List Reply) (x : UpNode) (disk : NodeRecord) (s : Scene) (r : Spelled) → ReadsWords c S → slice_get s.moments 0 ≡ Some (gives n words)
    → command_of (version_of c) words ≡ r → FollowedSo S s.moments
    → (let q : ℕ = next_number x.requests in AllSmall (under replies (cuts.worded_course c n (numbered x) q r))
    → FollowedSo S (passing n (asked_line n q ∷ given_all c n (site (Up (numbered x)) disk) (under replies (cuts.worded_course c n (numbered x) q r))) s).moments)
worded_followed S c n words replies x disk s (Ok a) reads first is h small =
    let q : ℕ = next_number x.requests in
    let i : Input = input.Commanded words in
    let y : UpNode = numbered x in
    passing_followed S n (given_all c n (site (Up y) disk) (under replies (cuts.worded_course c n y q (Ok a)))) (telling (entry.Command (command.Asked n q)) s)
    (course_unasked c n i (Some (command_at c x words)) replies (cuts.worded_course c n y q (Ok a)) None y disk
    (asks.worded_so c n i (Some (command_at c x words)) None y q (Ok a) (record { command = command_at c x words; is = refl; number = refl; session = refl }) (λ b text same so. ap read_text (is ∙ same) ∙ so)) small)
    (record { worded = ap is_some (words_here S n words s.moments first) ∙ reads words a is; followed = (inl h.worded, h.followed) })
worded_followed S c n words replies x disk s (Err e) reads first is h small = record { worded = tt; followed = (inr (refl, refl, no_error e), (inl h.worded, h.followed)) }

-- ---- a step

up_followed : (S : Setting) (c : Cluster) (n now : ℕ) (ends : method.Outcome) (i : Input) (replies : List Reply) (x : UpNode) (disk : NodeRecord) (s : Scene) → ReadsWords c S → IsSaid s.moments n i
    → AllSmall (under replies (course_at c n now ends x i)) → FollowedSo S s.moments → FollowedSo S (passing n (given_all c n (site (Up x) disk) (under replies (course_at c n now ends x i))) s).moments
up_followed S c n now ends (input.Commanded words) replies x disk s reads said small h =
    worded_followed S c n words replies (at_second now x) disk s (command_of (version_of c) words) reads said refl h small.1.1.1
up_followed S c n now ends i replies x disk s reads said small h =
    passing_followed S n (given_all c n (site (Up x) disk) (under replies (course_at c n now ends x i))) s (up_unasked c n now ends i replies x disk tt small) h

node_followed : (S : Setting) (c : Cluster) (n now : ℕ) (ends : method.Outcome) (i : Input) (replies : List Reply) (node : Node) (disk : NodeRecord) (s : Scene) → ReadsWords c S → IsSaid s.moments n i
    → FollowedSo S s.moments → FollowedSo S (passing n (given_all c n (site node disk) (doings c n now ends replies i node)) s).moments
node_followed S c n now ends i replies Down disk s reads said h =
    passing_followed S n (given_all c n (site Down disk) (down_doings replies i)) s (down_unasked c n i replies disk) h
node_followed S c n now ends i replies (Up x) disk s reads said h = up_followed S c n now ends i replies x disk s reads said (doings_small c n now ends replies i (Up x) disk) h

taking_followed : (S : Setting) (c : Cluster) (s : Scene) (n now : ℕ) (ends : method.Outcome) (i : Input) → ReadsWords c S → IsSaid s.moments n i → FollowedSo S s.moments → FollowedSo S (taking c n now ends i s).moments
taking_followed S c s n now ends i reads said h =
    let o : Outcome DiskState = stepped disk_rules c n now ends (s.nodes.node n) (s.nodes.disk n) i in
    let cut : IsCut disk_rules c n now ends (s.nodes.node n) (s.nodes.disk n) i [] o = steps_are_cut disk_rules disks_keep_rules c n now ends (s.nodes.node n) (s.nodes.disk n) i in
    let t : Scene = record s { nodes = moved c s.nodes (Takes_in n now ends i) } in
    subst (λ os. FollowedSo S (passing n os t).moments) cut.comes.given (node_followed S c n now ends i cut.replies (s.nodes.node n) (s.nodes.disk n).kept t reads said h)

-- ---- each thing that happens

armed_followed : (S : Setting) (c : Cluster) (e : Event) (s : Scene) → FollowedSo S s.moments → FollowedSo S (armed_by c e s).moments
armed_followed S c (event.Fault n d done) s h = h
armed_followed S c (event.CrashAt n calls choice) s h = h
armed_followed S c _ s h = h

commanded_followed : (S : Setting) (s : Scene) (n d : ℕ) (o : Option Device) (k : PrCommand) → FollowedSo S s.moments → FollowedSo S (commanded_at s n d o k).scene.moments
commanded_followed S s n d None k h = h
commanded_followed S s n d (Some x) k h = h

happening_followed : (S : Setting) (c : Cluster) (s : Scene) (x : Happening) → ReadsWords c S → MayHappen c s x → FollowedSo S s.moments → FollowedSo S (happened c s x).moments
happening_followed S c s (Speaks e) reads may h = armed_followed S c e (adding (Said (line.Event e)) s) (record { worded = tt; followed = (inl h.worded, h.followed) })
happening_followed S c s (Begins e) reads may h = record { worded = tt; followed = (inl h.worded, h.followed) }
happening_followed S c s (Notes e) reads may h = record { worded = tt; followed = (inl h.worded, h.followed) }
happening_followed S c s (Takes n now ends i) reads may h = taking_followed S c s n now ends i reads may.4 h
happening_followed S c s (Arrives number x m now ends) reads may h =
    let e : Entry = entry.Packet (packet.Delivered number x.from x.to) in
    taking_followed S c (telling e (removed s number)) x.to now ends (input.Packet x.from m) reads tt (line_followed S e s.moments tt h)
happening_followed S c s (Strays number x) reads may h = record { worded = tt; followed = (inl h.worded, h.followed) }
happening_followed S c s (Misses number x) reads may h = record { worded = tt; followed = (inl h.worded, h.followed) }
happening_followed S c s (Loses number x) reads may h = record { worded = tt; followed = (inl h.worded, h.followed) }
happening_followed S c s (Repeats number x) reads may h =
    let o : links.Outcome = sending s.links x.from x.to x.bytes in
    dropped_followed S o.sent.dropped (telling (entry.Packet (packet.Repeated number s.links.next)) (with_links s o.after)) (record { worded = tt; followed = (inl h.worded, h.followed) })
happening_followed S c s (Commands n d k now ends) reads may h =
    taking_followed S c (commanded s n d k).scene n now ends (input.Answered (commanded s n d k).answer) reads tt (commanded_followed S s n d (slice_get s.devices (d - 1)) k h)
happening_followed S c s (Writes n d value now ends) reads may h =
    let k : PrCommand = order.Write value in
    taking_followed S c (commanded s n d k).scene n now ends (input.Wrote d value (commanded s n d k).answer) reads tt (commanded_followed S s n d (slice_get s.devices (d - 1)) k h)
happening_followed S c s (Refuses n d value cause) reads may h = record { worded = tt; followed = (inl h.worded, h.followed) }

-- ---- a run

first_followed : (S : Setting) (h : Header) (cells : ℕ) → FollowedSo S (first_scene h cells).moments
unfolding first_scene
first_followed S h cells = record { worded = tt; followed = tt }

pub followed_in_each : (h : Header) (cells : ℕ) (hs : List Happening) → MayAllHappen (first_cluster h) (first_scene h cells) hs
    → AreFollowed (setting_of h) (all_happened (first_cluster h) (first_scene h cells) hs).moments
followed_in_each h cells hs may =
    let S : Setting = setting_of h in
    let c : Cluster = first_cluster h in
    let end : FollowedSo S (all_happened c (first_scene h cells) hs).moments =
    kept_holds c (λ s. FollowedSo S s.moments) (λ s x now known. happening_followed S c s x (λ words a is. ap (λ r. is_some (canonical_in r)) is) now known) (first_scene h cells) hs may (first_followed S h cells) in
    end.followed
