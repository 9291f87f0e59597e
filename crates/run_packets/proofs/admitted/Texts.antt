-- What a node sends of texts, small step by small step.
use Rattle.std.specs.Prelude.{ℕ, ◌&&◌, not, ◌≡◌, ◌≤◌, ◌++◌, Bool, true, false, List, [], ◌∷◌, Option, None, Some, Ok, option_map, if◌then◌else◌}
use Rattle.std.specs.List.{AllByRecursion}
use Rattle.std.proofs.Common.{refl, ap, subst, ◌∙◌}
use Rattle.admin_words.specs.Commands.{command_of}
use Rattle.cl_base.specs.Limits.{most_nodes}
use Rattle.cl_base.specs.Numbers.{numbers_to}
use Rattle.cl_base.specs.Sets.{has}
use Rattle.cl_base.specs.declared.command.Ask.{Ask}
use Rattle.cl_base.specs.declared.header.Version.{Version}
use Rattle.cl_base.specs.declared.method.Outcome as method
use Rattle.cmm_attempt.proofs.Basics.{if_either, none_some, same_some}
use Rattle.cmm_attempt.specs.Attempts.{AttemptState}
use Rattle.cmm_member.specs.Records.{NodeRecord}
use Rattle.device_queue.specs.Queue.{after_seize}
use Rattle.heartbeats.specs.Views.{receivers_of}
use Rattle.node_model.specs.Configurations.{configured_at, own_config}
use Rattle.node_model.specs.Groups.{asked_by, monitor_asked, reported}
use Rattle.node_model.specs.Members.{rested_by}
use Rattle.node_model.specs.Presidents.{sent_to}
use Rattle.node_model.specs.Requests.{is_idle, numbered}
use Rattle.node_model.specs.Seats.{coordinator_of, is_member, promising, record_of, version_of}
use Rattle.node_model.specs.Steps.{at_second}
use Rattle.node_model.specs.Ticks.{heartbeat_of, heartbeats_to, later, ticked_output}
use Rattle.node_model.specs.Updates.{later_presidency, request_again, request_again_by, request_again_to}
use Rattle.node_model.specs.declared.cluster.Cluster.{Cluster}
use Rattle.node_model.specs.declared.input.Input.{Input}
use Rattle.node_model.specs.declared.input.Input.TheVariants as input
use Rattle.node_model.specs.declared.node.Node.{Node}
use Rattle.node_model.specs.declared.node.Node.TheVariants.{Down, Up}
use Rattle.node_model.specs.declared.node.UpNode.{UpNode}
use Rattle.node_model.specs.declared.output.Output.{Output}
use Rattle.node_model.specs.declared.output.Output.TheVariants.{Sends, Tells}
use Rattle.node_model.specs.declared.presidency.Presidency.{Presidency}
use Rattle.pgr_device.specs.declared.command.PrAnswer.TheVariants as given
use Rattle.refinement.specs.Courses.{Course, Reply, under}
use Rattle.refinement.specs.Courses.Course.{Acts, Falls, Keeps, Stops}
use Rattle.refinement.specs.Courses.Reply.{Done, Lost_new, Lost_old}
use Rattle.refinement.specs.Cuts as cuts
use Rattle.refinement.specs.Cuts.{course_at, doings, down_doings}
use Rattle.refinement.specs.Doings.{Act, Change, acted, after_all, changed, effect, first_lines, given_all, gone_line, last_lines, said, saved_lines, site, write_lines}
use Rattle.refinement.specs.Doings.Act.{Accepts, Dates, Ends, Gives, Goes_on, Hears, Makes, Minds, Notes, Queues, Spreads, Stores, Takes, Ticks, Waits, Works, Writes}
use Rattle.refinement.specs.Doings.Change.{Acks, Admits, Commits, Counts, Distrusts, Installs, Leads, Prepares, Promises, Proposes, Sits, Starts}
use Rattle.refinement.specs.Doings.Doing.{Saves}
use Rattle.request_queue.specs.Queue.{goes_again, is_full, oldest, oldest_in}
use Rattle.request_queue.specs.declared.request.Request.{Request}
use Rattle.rgm_member.specs.Probes.{probed}
use Rattle.rgm_member.specs.declared.probed.Probed.{Probed}
use Rattle.rgm_member.specs.declared.probed.Probed.TheVariants as probe
use Rattle.run_commands.proofs.Hearing.{IsNoCommand}
use Rattle.run_commands.proofs.Offices.{nothing_reads}
use Rattle.run_commands.proofs.ReadRequesting as reading
use Rattle.run_commands.proofs.Readings as readings
use Rattle.run_commands.specs.Reads.{ActReads, AllSo, BodySo, CameSo, ChangeReads, GoesRead, IsRead, OfficeReads, OwnReplies, ReadsIn, RequestRead}
use Rattle.run_history.proofs.Lists.{both, mapped}
use Rattle.run_commands.proofs.carried.Carried.{IsMute}
use Rattle.run_commands.proofs.carried.Commands.{command_at, read_text}
use Rattle.run_commands.proofs.carried.Courses as asks
use Rattle.run_commands.proofs.carried.Mute.{first_mute, last_mute}
use Rattle.run_commands.specs.carried.Guards.{ActAsk, BodyAsk, Command, GoesAsk, OutputAsk, hand_act, hand_change, pair_of}
use Rattle.seize.specs.Answers.{Answer}
use Rattle.seize.specs.Seizing as seizing
use Rattle.status_report.specs.declared.node_entry.DownCause.{DownCause}
use Rattle.wire.specs.declared.message.Body.{Body}
use Rattle.wire.specs.declared.message.Body.TheVariants as body
use Rattle.run_packets.specs.admitted.Texts.{ActTexts, AllTexts, BodyTexts, GoesTexts, LeavesTexts, NodeReads, OutputTexts}

-- a node may answer anything by itself
abbrev Anything : OwnReplies
Anything q reply = Unit {0}

-- ---- messages

oldest_read : (v : Version) (rs : List Request) (q : ℕ) (text : List ℕ) → option_map pair_of (oldest_in rs) ≡ Some (q, text) → AllByRecursion (RequestRead v) rs → IsRead v text
oldest_read v [] q text is h = absurd (none_some (q, text) is)
oldest_read v (r ∷ rs) q text is h = subst (λ (z : ℕ × List ℕ). IsRead v z.1) (same_some (r.number, r.text) (q, text) is) h.0

body_texts : (v : Version) (x : UpNode) (b : Body) → BodySo b → BodyAsk x b → ReadsIn v x → BodyTexts v b
body_texts v x (body.Request e q text) so ask r = oldest_read v x.requests.waiting q text ask r.waiting_read
body_texts v x (body.Answer e q text) so ask r = so
body_texts v x _ so ask r = tt

given_texts : (c : Cluster) (n : ℕ) (i : Input) (o : OwnReplies) (w : Option Command) (h : Option ℕ) (x : UpNode) (os : List Output) → AllSo n o os → AllByRecursion (OutputAsk n i w h x) os
    → ReadsIn (version_of c) x → AllTexts (version_of c) os
given_texts c n i o w h x [] so ask r = tt
given_texts c n i o w h x (Tells e ∷ os) so ask r = (tt, given_texts c n i o w h x os so.1 ask.1 r)
given_texts c n i o w h x (Sends to b ∷ os) so ask r = (body_texts (version_of c) x b so.0 ask.0 r, given_texts c n i o w h x os so.1 ask.1 r)

spread_texts : (v : Version) (receivers : ℕ) (b : Body) → BodyTexts v b → AllTexts v (sent_to receivers b)
unfolding sent_to
spread_texts v receivers b h = mapped (OutputTexts v) (λ k. Sends k b) (numbers_to receivers most_nodes) (λ k. h)

beats_texts : (v : Version) (x : UpNode) (receivers : ℕ) → AllTexts v (heartbeats_to x receivers)
unfolding heartbeats_to
beats_texts v x receivers = mapped (OutputTexts v) (λ k. Sends k (heartbeat_of x)) (numbers_to receivers most_nodes) (λ k. tt)

again_to_texts : (v : Version) (x : UpNode) (rs : List Request) (to : Option ℕ) → AllByRecursion (RequestRead v) rs → AllTexts v (request_again_to x (oldest_in rs) to)
again_to_texts v x (r ∷ rs) (Some president) h = (h.0, tt)
again_to_texts v x (r ∷ rs) None h = tt
again_to_texts v x [] to h = tt

again_texts : (v : Version) (x : UpNode) (o : Option Presidency) → ReadsIn v x → AllTexts v (request_again_by x o)
again_texts v x None r =
    if_either (AllTexts v) (goes_again x.requests) (request_again_to x (oldest x.requests) (coordinator_of x)) [] (again_to_texts v x x.requests.waiting (coordinator_of x) r.waiting_read) tt
again_texts v x (Some p) r = tt

tick_texts : (c : Cluster) (x : UpNode) → ReadsIn (version_of c) x → AllTexts (version_of c) (ticked_output c x (later c x))
tick_texts c x r =
    let receivers : ℕ = receivers_of (later c x).beats (configured_at c (later c x)) in
    both (OutputTexts (version_of c)) (heartbeats_to (later c x) receivers) (request_again x) (beats_texts (version_of c) (later c x) receivers) (again_texts (version_of c) x x.presidency r)

-- ---- lines

mute_texts : (v : Version) (os : List Output) → AllByRecursion IsMute os → AllTexts v os
mute_texts v [] h = tt
mute_texts v (Tells e ∷ os) h = (tt, mute_texts v os h.1)
mute_texts v (Sends to b ∷ os) h = absurd h.0

made_texts : (v : Version) (c : Cluster) (n : ℕ) (x : UpNode) (ch : Change) → AllTexts v (first_lines n ch ++ last_lines c n x ch)
made_texts v c n x ch = both (OutputTexts v) (first_lines n ch) (last_lines c n x ch) (mute_texts v (first_lines n ch) (first_mute n ch)) (mute_texts v (last_lines c n x ch) (last_mute c n x ch))

saved_texts : (v : Version) (c : Cluster) (n : ℕ) (x : UpNode) (ch : Change) → AllTexts v (first_lines n ch ++ saved_lines c n x ch)
saved_texts v c n x ch =
    both (OutputTexts v) (first_lines n ch) (saved_lines c n x ch) (mute_texts v (first_lines n ch) (first_mute n ch)) (tt, mute_texts v (last_lines c n x ch) (last_mute c n x ch))

gone_texts : (v : Version) (n : ℕ) (ch : Change) (why : DownCause) → AllTexts v (first_lines n ch ++ gone_line n why)
gone_texts v n ch why = both (OutputTexts v) (first_lines n ch) (gone_line n why) (mute_texts v (first_lines n ch) (first_mute n ch)) (tt, tt)

stores_texts : (v : Version) (n : ℕ) (x : UpNode) (d value : ℕ) (a : Answer) → AllTexts v (write_lines n x d value a)
stores_texts v n x d value (Ok given.Good) = (tt, tt)
stores_texts v n x d value (Ok given.Conflict) = (tt, tt)
stores_texts v n x d value _ = (tt, tt)

-- ---- what is kept

later_reads : (v : Version) (o : Option Presidency) → OfficeReads v o → OfficeReads v (later_presidency o)
later_reads v None h = tt
later_reads v (Some p) h = h

rested_reads : (v : Version) (x : UpNode) (p : ℕ) (a : Option AttemptState) → ReadsIn v (rested_by (promising x p) a)
rested_reads v x p None = record { waiting_read = tt; office_read = tt }
rested_reads v x p (Some a) = record { waiting_read = tt; office_read = tt }

change_texts : (c : Cluster) (n : ℕ) (i : Input) (x : UpNode) (ch : Change) → ChangeReads c n i x ch → ReadsIn (version_of c) x → ReadsIn (version_of c) (changed c n x ch)
change_texts c n i x (Promises p) so r = rested_reads (version_of c) x p x.attempt
change_texts c n i x (Leads p members) so r = record { waiting_read = tt; office_read = tt }
change_texts c n i x (Counts a k s j) so r = record { waiting_read = r.waiting_read; office_read = r.office_read }
change_texts c n i x (Installs s j) so r = record { waiting_read = r.waiting_read; office_read = r.office_read }
change_texts c n i x (Starts a k s) so r = record { waiting_read = r.waiting_read; office_read = nothing_reads (version_of c) }
change_texts c n i x (Sits s e) so r = record { waiting_read = r.waiting_read; office_read = r.office_read }
change_texts c n i x (Distrusts d) so r = record { waiting_read = r.waiting_read; office_read = r.office_read }
change_texts c n i x (Admits at command a d) so r = record { waiting_read = r.waiting_read; office_read = r.office_read }
change_texts c n i x (Proposes s p text) so r = so
change_texts c n i x (Acks s p q left text) so r = so
change_texts c n i x (Prepares s text) so r = record { waiting_read = r.waiting_read; office_read = r.office_read }
change_texts c n i x (Commits s) so r = record { waiting_read = r.waiting_read; office_read = r.office_read }

-- ---- each small step in memory

made_so : (c : Cluster) (n : ℕ) (i : Input) (o : OwnReplies) (x : UpNode) (ch : Change) → ActReads c n o x (Makes ch) → ReadsIn (version_of c) x → ReadsIn (version_of c) (changed c n x ch)
made_so c n i o x (Starts a k s) so r = change_texts c n i x (Starts a k s) tt r
made_so c n i o x (Sits s e) so r = change_texts c n i x (Sits s e) tt r
made_so c n i o x _ so r = absurd so

act_texts : (c : Cluster) (n : ℕ) (i : Input) (o : OwnReplies) (w : Option Command) (h : Option ℕ) (x : UpNode) (a : Act) → (ReadsIn (version_of c) x → ActReads c n o x a) → ActAsk n i w h x a → ActTexts c n x a
act_texts c n i o w h x (Writes to b) so ask r = (r, (body_texts (version_of c) x b (so r) ask r, tt))
act_texts c n i o w h x (Spreads receivers b) so ask r = (r, spread_texts (version_of c) receivers b (body_texts (version_of c) x b (so r) ask r))
act_texts c n i o w h x (Gives os) so ask r = (r, given_texts c n i o w h x os (so r) ask r)
act_texts c n i o w h x (Makes ch) so ask r = (made_so c n i o x ch (so r) r, made_texts (version_of c) c n x ch)
act_texts c n i o w h x (Minds q p) so ask r = (so r, tt)
act_texts c n i o w h x (Notes from place p) so ask r = (so r, tt)
act_texts c n i o w h x Ticks so ask r = (record { waiting_read = r.waiting_read; office_read = later_reads (version_of c) x.presidency r.office_read }, (tt, tick_texts c x r))
act_texts c n i o w h x (Hears from b) so ask r = (record { waiting_read = r.waiting_read; office_read = r.office_read }, tt)
act_texts c n i o w h x Waits so ask r = (record { waiting_read = r.waiting_read; office_read = r.office_read }, tt)
act_texts c n i o w h x (Goes_on a k) so ask r = (record { waiting_read = r.waiting_read; office_read = r.office_read }, tt)
act_texts c n i o w h x (Ends a e) so ask r = (record { waiting_read = r.waiting_read; office_read = r.office_read }, (tt, tt))
act_texts c n i o w h x (Queues a d kind) so ask r = (
  if_either (ReadsIn (version_of c)) (has a.plan.members n) (record x { tasks = after_seize x.tasks d (seizing.begun kind a.plan.epoch a.plan.members n c.id (has (record_of x).valid d)) }) x
      (record { waiting_read = r.waiting_read; office_read = r.office_read }) r,
  tt,
)
act_texts c n i o w h x (Accepts kind e members d) so ask r = (record { waiting_read = r.waiting_read; office_read = r.office_read }, tt)
act_texts c n i o w h x (Takes at command a) so ask r = (record { waiting_read = r.waiting_read; office_read = r.office_read }, (tt, tt))
act_texts c n i o w h x (Stores d value a) so ask r = (r, (tt, stores_texts (version_of c) n x d value a))
act_texts c n i o w h x (Dates now) so ask r = (record { waiting_read = r.waiting_read; office_read = r.office_read }, tt)
act_texts c n i o w h x (Works k) so ask r = (record { waiting_read = r.waiting_read; office_read = r.office_read }, tt)

-- ---- courses

both_guards : (c : Cluster) (n : ℕ) (i : Input) (o : OwnReplies) (w : Option Command) (h : Option ℕ) (x : UpNode) (k : Course) → GoesRead c n i o x k → GoesAsk c n i w h x k → GoesTexts c n x k
both_guards c n i o w h x Stops read ask = tt
both_guards c n i o w h x (Acts a rest) read ask = (act_texts c n i o w h x a read.0 ask.0, both_guards c n i o w (hand_act x h a) (acted c n x a) rest read.1 ask.1)
both_guards c n i o w h x (Keeps ch rest) read ask =
    ((λ r. change_texts c n i x ch (read.0 r) r), both_guards c n i o w (hand_change x h ch) (changed c n x ch) rest read.1 ask.1)
both_guards c n i o w h x (Falls why) read ask = tt

command_texts : (c : Cluster) (n : ℕ) (words : List ℕ) (x : UpNode) → GoesTexts c n x (cuts.command_course c n x words)
command_texts c n words x =
    let q : ℕ = (command_at c x words).number in (
      (λ r. (r, (tt, tt))),
      (
        (λ r. (record { waiting_read = r.waiting_read; office_read = r.office_read }, tt)),
        both_guards c n (input.Commanded words) Anything (Some (command_at c x words)) None (numbered x) (cuts.worded_course c n (numbered x) q (command_of (version_of c) words))
            (reading.worded_so c n (input.Commanded words) Anything (numbered x) q words (command_of (version_of c) words) refl (λ reply cause. tt))
            (asks.worded_so c n (input.Commanded words) (Some (command_at c x words)) None (numbered x) q (command_of (version_of c) words) (record { command = command_at c x words; is = refl; number = refl; session = refl })
            (λ a text is so. ap read_text is ∙ so)),
      ),
    )

asking_texts : (c : Cluster) (n : ℕ) (i : Input) (x : UpNode) (o : Option Ask) → GoesRead c n i Anything x (cuts.asking_this_course c n x o) → GoesTexts c n x (cuts.asking_this_course c n x o)
asking_texts c n i x None read = tt
asking_texts c n i x (Some ask) read = by_test (is_member x.seat && not (is_full x.requests)) read
  where
    y : UpNode
    y = monitor_asked x ask

    course_by : Bool → Course
    course_by b = if b then Acts (Minds y.requests x.presidency) (cuts.asking_if_course (is_idle x.requests.waiting) c n y) else Stops

    by_test : (b : Bool) → GoesRead c n i Anything x (course_by b) → GoesTexts c n x (course_by b)
    by_test false g = tt
    by_test true g =
        ((λ r. (g.0 r, tt)), both_guards c n i Anything None None y (cuts.asking_if_course (is_idle x.requests.waiting) c n y) g.1 (asks.asking_if_so c n i None None (is_idle x.requests.waiting) y))

reporting_texts : (c : Cluster) (n : ℕ) (i : Input) (x : UpNode) (r : List ℕ) (p : Probed) → GoesRead c n i Anything x (cuts.reporting_course c n x r p) → GoesTexts c n x (cuts.reporting_course c n x r p)
reporting_texts c n i x r probe.NoMonitor read = tt
reporting_texts c n i x r probe.Good read = ((λ k. (k, (tt, tt))), ((λ k. (record { waiting_read = k.waiting_read; office_read = k.office_read }, tt)), tt))
reporting_texts c n i x r (probe.Failed a) read =
    ((λ k. (k, (tt, tt))), ((λ k. (record { waiting_read = k.waiting_read; office_read = k.office_read }, tt)), asking_texts c n i (reported x c r (probe.Failed a)) (asked_by a r) read.1.1))

plain_texts : (c : Cluster) (n now : ℕ) (ends : method.Outcome) (i : Input) (x : UpNode) → n ≤ 32 → CameSo i → IsNoCommand i → asks.IsNoCommand c n i None i → GoesTexts c n x (course_at c n now ends x i)
plain_texts c n now ends i x low came none plain =
    both_guards c n i Anything None None x (course_at c n now ends x i) (readings.course_at_so c n low i came Anything now ends x i refl none) (asks.course_at_so c n i None now ends x i refl plain)

up_texts : (c : Cluster) (n now : ℕ) (ends : method.Outcome) (i : Input) (x : UpNode) → n ≤ 32 → CameSo i → GoesTexts c n x (course_at c n now ends x i)
up_texts c n now ends (input.Commanded words) x low came = ((λ r. (record { waiting_read = r.waiting_read; office_read = r.office_read }, tt)), command_texts c n words (at_second now x))
up_texts c n now ends (input.Reported p good) x low came =
    let y : UpNode = at_second now x in
    let read : GoesRead c n (input.Reported p good) Anything x (course_at c n now ends x (input.Reported p good)) = readings.course_at_so c n low (input.Reported p good) came Anything now ends x (input.Reported p good) refl tt in (
      (λ r. (record { waiting_read = r.waiting_read; office_read = r.office_read }, tt)),
      reporting_texts c n (input.Reported p good) y p (probed y.worker (own_config c y) p good y.second) read.1,
    )
up_texts c n now ends input.Boot x low came = plain_texts c n now ends input.Boot x low came tt tt
up_texts c n now ends input.Crash x low came = plain_texts c n now ends input.Crash x low came tt tt
up_texts c n now ends input.Tick x low came = plain_texts c n now ends input.Tick x low came tt tt
up_texts c n now ends (input.Packet from m) x low came = plain_texts c n now ends (input.Packet from m) x low came tt tt
up_texts c n now ends input.CommandDue x low came = plain_texts c n now ends input.CommandDue x low came tt tt
up_texts c n now ends (input.Answered a) x low came = plain_texts c n now ends (input.Answered a) x low came tt tt
up_texts c n now ends (input.Wrote d value a) x low came = plain_texts c n now ends (input.Wrote d value a) x low came tt tt
up_texts c n now ends (input.Client name client port) x low came = plain_texts c n now ends (input.Client name client port) x low came tt tt

-- ---- under all replies of the disk

append_texts : (v : Version) (os more : List Output) → AllTexts v os → AllTexts v more → AllTexts v (os ++ more)
append_texts v os more h k = both (OutputTexts v) os more h k

falls_texts : (v : Version) (n : ℕ) (ch : Change) (why : DownCause) → LeavesTexts v Down ((first_lines n ch ++ gone_line n why) ++ [])
falls_texts v n ch why = record { reads = tt; texts = append_texts v (first_lines n ch ++ gone_line n why) [] (gone_texts v n ch why) tt }

walk_texts : (c : Cluster) (n : ℕ) (replies : List Reply) (k : Course) (x : UpNode) (disk : NodeRecord) → GoesTexts c n x k → ReadsIn (version_of c) x
    → LeavesTexts (version_of c) (after_all c n (site (Up x) disk) (under replies k)).node (given_all c n (site (Up x) disk) (under replies k))
walk_texts c n replies Stops x disk goes r = record { reads = r; texts = tt }
walk_texts c n replies (Acts a rest) x disk goes r =
    let two : ReadsIn (version_of c) (acted c n x a) × AllTexts (version_of c) (said c n x a) = goes.0 r in
    let l : LeavesTexts (version_of c) (after_all c n (site (Up (acted c n x a)) disk) (under replies rest)).node (given_all c n (site (Up (acted c n x a)) disk) (under replies rest)) =
    walk_texts c n replies rest (acted c n x a) disk goes.1 two.0 in
    record { reads = l.reads; texts = append_texts (version_of c) (said c n x a) _ two.1 l.texts }
walk_texts c n [] (Keeps ch rest) x disk goes r = falls_texts (version_of c) n ch _
walk_texts c n (Done ∷ replies) (Keeps ch rest) x disk goes r =
    let l : LeavesTexts (version_of c) (after_all c n (effect c n (site (Up x) disk) (Saves ch)) (under replies rest)).node (given_all c n (effect c n (site (Up x) disk) (Saves ch)) (under replies rest)) =
    walk_texts c n replies rest (changed c n x ch) _ goes.1 (goes.0 r) in
    record { reads = l.reads; texts = append_texts (version_of c) (first_lines n ch ++ saved_lines c n x ch) _ (saved_texts (version_of c) c n x ch) l.texts }
walk_texts c n (Lost_new why ∷ replies) (Keeps ch rest) x disk goes r = falls_texts (version_of c) n ch why
walk_texts c n (Lost_old why ∷ replies) (Keeps ch rest) x disk goes r = falls_texts (version_of c) n ch why
walk_texts c n replies (Falls why) x disk goes r = record { reads = tt; texts = (tt, tt) }

boot_texts : (c : Cluster) (n : ℕ) (replies : List Reply) (disk : NodeRecord)
    → LeavesTexts (version_of c) (after_all c n (site Down disk) (cuts.boot_doings replies)).node (given_all c n (site Down disk) (cuts.boot_doings replies))
boot_texts c n [] disk = record { reads = tt; texts = (tt, (tt, tt)) }
boot_texts c n (Done ∷ replies) disk = record { reads = record { waiting_read = tt; office_read = tt }; texts = (tt, tt) }
boot_texts c n (Lost_new why ∷ replies) disk = record { reads = tt; texts = (tt, (tt, tt)) }
boot_texts c n (Lost_old why ∷ replies) disk = record { reads = tt; texts = (tt, (tt, tt)) }

down_texts : (c : Cluster) (n : ℕ) (i : Input) (replies : List Reply) (disk : NodeRecord)
    → LeavesTexts (version_of c) (after_all c n (site Down disk) (down_doings replies i)).node (given_all c n (site Down disk) (down_doings replies i))
down_texts c n input.Boot replies disk = boot_texts c n replies disk
down_texts c n _ replies disk = record { reads = tt; texts = tt }

pub step_texts : (c : Cluster) (n now : ℕ) (ends : method.Outcome) (i : Input) (replies : List Reply) (node : Node) (disk : NodeRecord) → n ≤ 32 → CameSo i → NodeReads (version_of c) node
    → LeavesTexts (version_of c) (after_all c n (site node disk) (doings c n now ends replies i node)).node (given_all c n (site node disk) (doings c n now ends replies i node))
step_texts c n now ends i replies Down disk low came r = down_texts c n i replies disk
step_texts c n now ends i replies (Up x) disk low came r = walk_texts c n replies (course_at c n now ends x i) x disk (up_texts c n now ends i x low came) r
