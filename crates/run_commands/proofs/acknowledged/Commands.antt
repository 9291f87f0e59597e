-- A command takes its number, and has its line; what it asks waits.
use Rattle.std.specs.Prelude.{ℕ, ◌+◌, ◌-◌, ◌^◌, ◌≡◌, ◌≤◌, ◌<◌, ◌==◌, ◌&&◌, ◌||◌, All, Bool, true, false, List, [], ◌∷◌, Option, None, Some, Ok, slice_get}
use Rattle.std.proofs.Common.{refl, sym, ap, subst, ◌∙◌, arith}
use Rattle.admin_words.specs.Commands.{command_of, request_of}
use Rattle.admin_words.specs.declared.request.Request.TheVariants as wish
use Rattle.ccr_tables.specs.declared.update.Update.{Update}
use Rattle.cl_base.specs.declared.command.Ask.{Ask}
use Rattle.cmm_attempt.specs.Calls.{IsDevice}
use Rattle.cmm_attempt.proofs.Basics.{none_some, same_some}
use Rattle.cmm_member.specs.Records.{NodeRecord}
use Rattle.restart_policy.specs.declared.policy.ProbeAction.{ProbeAction}
use Rattle.request_queue.specs.Queue.{next_number, with_number}
use Rattle.status_report.specs.declared.command_entry.CommandEntry.TheVariants as command
use Rattle.status_report.specs.declared.entry.Entry.TheVariants as entry
use Rattle.update_words.specs.Words.{ask_words_of}
use Rattle.history.specs.Member.{member_of}
use Rattle.history.specs.Moment.{Moment, Told}
use Rattle.history.specs.Seizing.{is_number}
use Rattle.history.specs.Setting.{Setting}
use Rattle.history.specs.Trace.{gives as gives_line}
use Rattle.node_model.specs.Groups.{asked_by}
use Rattle.node_model.specs.Requests.{numbered}
use Rattle.node_model.specs.Seats.{promised_of, session_of, version_of}
use Rattle.node_model.specs.declared.cluster.Cluster.{Cluster}
use Rattle.node_model.specs.declared.input.Input.{Input}
use Rattle.node_model.specs.declared.input.Input.TheVariants as input
use Rattle.node_model.specs.declared.node.Node.TheVariants.{Up}
use Rattle.node_model.specs.declared.node.UpNode.{UpNode}
use Rattle.node_model.specs.declared.seat.Seat.{Seat}
use Rattle.node_model.specs.declared.seat.Seat.TheVariants.{Forming, Member}
use Rattle.node_model.specs.declared.output.Output.TheVariants.{Tells}
use Rattle.refinement.proofs.Handlers.{delivered_by}
use Rattle.refinement.specs.Courses.{Course, Reply, under}
use Rattle.refinement.specs.Cuts as cuts
use Rattle.refinement.specs.Cuts.{course_at, down_doings}
use Rattle.refinement.specs.Doings.{Act, Doing, acted, after_all, given_all, said, site}
use Rattle.refinement.specs.Doings.Act.{Gives, Minds}
use Rattle.refinement.specs.Doings.Doing.{Does}
use Rattle.run_history.specs.Scenes.{Scene, passing}
use Rattle.run_messages.specs.Laws.{membership_in}
use Rattle.run_messages.proofs.Doings.{first_good}
use Rattle.run_commands.specs.carried.Guards.{ActAsk, Command, GoesAsk}
use Rattle.run_commands.specs.carried.Steps.{CarriedSo}
use Rattle.run_commands.proofs.carried.Acting.{Ready, ready_act}
use Rattle.run_commands.proofs.carried.Acts.{NoMakes}
use Rattle.run_commands.proofs.carried.Causes.{ReadsAnswers}
use Rattle.run_commands.proofs.carried.Commands.{ReadsRequests, command_at, next_is, numbered_so, read_text}
use Rattle.run_commands.proofs.carried.Courses as asks
use Rattle.run_commands.proofs.carried.Leaving as leaving
use Rattle.run_commands.proofs.carried.Walk.{Between, before_of}
use Rattle.run_commands.specs.acknowledged.Askings.{asked_as}
use Rattle.run_commands.specs.acknowledged.Guards.{ActHand, GoesHand}
use Rattle.run_commands.specs.acknowledged.Steps.{Unused}
use Rattle.run_commands.proofs.acknowledged.Acts.{Holding, act_holds}
use Rattle.run_commands.proofs.acknowledged.Changes.{Bound, within_bound}
use Rattle.run_commands.proofs.acknowledged.Courses as hands
use Rattle.run_commands.proofs.acknowledged.Frames.{hand_more}
use Rattle.run_commands.proofs.acknowledged.Requests.{requests_grow}
use Rattle.run_commands.proofs.acknowledged.Waiting.{ReadsUpdates}
use Rattle.run_commands.proofs.acknowledged.Changing.{bound_of}
use Rattle.run_commands.proofs.acknowledged.Walk.{Left, then_left, walk_left}

-- a setting that reads words and answers as the nodes do
pub record Reads (c : Cluster) (S : Setting) : Type 0 where
  pub answers : ReadsAnswers S
  pub requests : ReadsRequests c S
  pub updates : ReadsUpdates c S
  -- what a monitor asks is no update
  pub monitors : (a : ProbeAction) (r : List ℕ) (ask : Ask) (u : Update) → asked_by a r ≡ Some ask → request_of (version_of c) (ask_words_of ask) ≡ Ok (wish.Change u) → ⊥

-- ---- the rest of a course, and one act of it

pub walked : (S : Setting) (c : Cluster) (n : ℕ) (i : Input) (v : Option ℕ) (o : Option Command) (replies : List Reply) (k : Course) (h : Option ℕ) (last : ℕ) (x : UpNode) (disk : NodeRecord) (s : Scene) → Reads c S
    → (1 ≤ n) × (n ≤ 32) → All IsDevice c.attached → Ready c n (delivered_by i) x disk (under replies k) s → GoesAsk c n i o h x k → GoesHand c i n v x k → Between S n i o h last x s
    → Holding S c n i v disk.promised x s.moments
    → Left S c n (after_all c n (site (Up x) disk) (under replies k)).disk.promised (after_all c n (site (Up x) disk) (under replies k)).node (given_all c n (site (Up x) disk) (under replies k)) s
walked S c n i v o replies k h last x disk s reads range fits r goes hand b held_so =
    walk_left S c n i v o replies k r.machine h last x disk s reads.answers reads.updates range fits r.holds r.known r.tied r.may r.small r.calm r.at r.good r.seated goes hand b held_so

pub hold_act : (S : Setting) (c : Cluster) (n : ℕ) (i : Input) (v : Option ℕ) (o : Option Command) (h : Option ℕ) (x : UpNode) (disk : NodeRecord) (a : Act) (ds : List Doing) (s : Scene) → Reads c S → (1 ≤ n) × (n ≤ 32) → NoMakes a
    → Ready c n (delivered_by i) x disk (Does a ∷ ds) s → ActAsk n i o h x a → ActHand c i n v x a → Between S n i o h x.requests.asked x s → Holding S c n i v disk.promised x s.moments
    → Holding S c n i v disk.promised (acted c n x a) (passing n (said c n x a) s).moments
hold_act S c n i v o h x disk a ds s reads range nm r ask hand b k =
    act_holds S c n (delivered_by i) i v o h disk.promised x a s reads.updates range nm r.may.0 r.small.0 ask hand (first_good n (said c n x a) (given_all c n (site (Up (acted c n x a)) disk) ds) r.good)
    (within_bound disk.promised x (bound_of c r.machine n x disk r.holds r.tied)) (before_of S c r.machine n i o h x.requests.asked x disk s r.tied b) k

-- ---- a command

no_or : (a b : Bool) → a ≡ false → (a || b) ≡ b
no_or true b h = cc
no_or false b h = refl

no_left : (a b : Bool) → a ≡ false → (a && b) ≡ false
no_left true b h = cc
no_left false b h = refl

no_right : (a b : Bool) → b ≡ false → (a && b) ≡ false
no_right true b h = h
no_right false b h = refl

not_above : (q r : ℕ) → q < r → (q == r) ≡ false
not_above q r h = grind arith

other_number : (a p e : ℕ) → a ≤ p → p < e → (a == e) ≡ false
other_number a p e h k = grind (arith, h, k)

pub less_next : (a q r : ℕ) → q ≡ a + 1 → q < r → a < r
less_next a q r is h = omega (arith, is, h)

next_less : (a q : ℕ) → q ≡ a + 1 → a < q
next_less a q is = omega (arith, is)

abbrev asked_line : ℕ → ℕ → Moment
asked_line n q = Told (entry.Command (command.Asked n q))

-- a membership that the node is not of
other_member : (e : ℕ) (o : Option ℕ) → ((f : ℕ) → o ≡ Some f → (f == e) ≡ false) → is_number e o ≡ false
other_member e None h = refl
other_member e (Some f) h = h f refl

unused_asked : (n q e : ℕ) (ms : List Moment) → is_number e (member_of n ms) ≡ false → Unused n e ms → Unused n e (asked_line n q ∷ ms)
unused_asked n q e ms other h = record {
  asked = λ r. no_or (((n == n) && (q == r)) && is_number e (member_of n ms)) (asked_as n r e ms) (no_right ((n == n) && (q == r)) (is_number e (member_of n ms)) other) ∙ h.asked r;
  requested = h.requested;
  proposed = h.proposed;
}

seat_session : (x : UpNode) (f : ℕ) → membership_in x.seat ≡ Some f → f ≡ session_of x
seat_session x f is = by x.seat refl is
  where
    by : (seat : Seat) → x.seat ≡ seat → membership_in seat ≡ Some f → f ≡ session_of x
    by (Forming s) same at = absurd (none_some f at)
    by (Member s) same at = sym (same_some s.session f at) ∙ sym (ap (λ (z : Seat). session_of (record x { seat = z })) same)

-- the command has its line, and its number
pub numbered_holds : (S : Setting) (c : Cluster) (n : ℕ) (words : List ℕ) (promised : ℕ) (x : UpNode) (ms : List Moment) → next_number x.requests ≡ x.requests.asked + 1 → member_of n ms ≡ membership_in x.seat → Bound promised x
    → Holding S c n (input.Commanded words) (membership_in x.seat) promised x ms
    → Holding S c n (input.Commanded words) (membership_in x.seat) promised (numbered x) (asked_line n (next_number x.requests) ∷ ms)
numbered_holds S c n words promised x ms is seated bound k =
    let q : ℕ = next_number x.requests in
    let after : List Moment = asked_line n q ∷ ms in
    record {
      up = record {
        within = λ e above. unused_asked n q e ms
            (other_member e (member_of n ms) (λ f at. ap (λ z. z == e) (seat_session x f (sym seated ∙ at)) ∙ other_number (session_of x) (promised_of x) e bound.session (subst (λ z. z < e) bound.promise above))) (k.up.within e above);
        forming = λ none some. unused_asked n q (session_of x) ms (ap (λ z. is_number (session_of x) z) (seated ∙ none)) (k.up.forming none some);
        member = λ e r at above. no_or (((n == n) && (q == r)) && is_number e (member_of n ms)) (asked_as n r e ms)
            (no_left ((n == n) && (q == r)) (is_number e (member_of n ms)) (no_right (n == n) (q == r) (not_above q r above))) ∙ k.up.member e r at (less_next x.requests.asked q r is above);
        requested = λ e r at above. k.up.requested e r at (less_next x.requests.asked q r is above);
        quiet = k.up.quiet;
        hand = hand_more S c (session_of x) ms after x.presidency (λ T. requests_grow S T (session_of x) (asked_line n q) ms) (λ so w. refl) k.up.hand;
      };
      told = record {
        once = (λ e at. (k.up.member e q (sym seated ∙ at) (next_less x.requests.asked q is), k.up.requested e q (sym seated ∙ at) (next_less x.requests.asked q is)), k.told.once);
        letters = (tt, k.told.letters);
        asked = (tt, k.told.asked);
      };
      came = tt;
    }

pub command_left : (S : Setting) (c : Cluster) (n : ℕ) (replies : List Reply) (x : UpNode) (disk : NodeRecord) (words : List ℕ) (s : Scene) → Reads c S → (1 ≤ n) × (n ≤ 32) → All IsDevice c.attached
    → Ready c n None x disk (under replies (cuts.command_course c n x words)) s → x.requests.asked < 2 ^ 64 - 1 → slice_get s.moments 0 ≡ Some (gives_line n words) → leaving.UpSo S n x.requests.asked x s.moments
    → CarriedSo S s.moments → Holding S c n (input.Commanded words) (membership_in x.seat) disk.promised x s.moments
    → Left S c n (after_all c n (site (Up x) disk) (under replies (cuts.command_course c n x words))).disk.promised (after_all c n (site (Up x) disk) (under replies (cuts.command_course c n x words))).node
    (given_all c n (site (Up x) disk) (under replies (cuts.command_course c n x words))) s
command_left S c n replies x disk words s reads range fits r room first known carried k =
    let i : Input = input.Commanded words in
    let q : ℕ = next_number x.requests in
    let o : Command = command_at c x words in
    let tell : Act = Gives (Tells (entry.Command (command.Asked n q)) ∷ []) in
    let mind : Act = Minds (with_number x.requests) x.presidency in
    let y : UpNode = numbered x in
    let rest : Course = cuts.worded_course c n y q (command_of (version_of c) words) in
    let t : Scene = passing n (Tells (entry.Command (command.Asked n q)) ∷ []) s in
    let second : Ready c n None x disk (Does mind ∷ under replies rest) t = ready_act c n None x disk tell (Does mind ∷ under replies rest) s fits r in
    let third : Ready c n None y disk (under replies rest) t = ready_act c n None x disk mind (under replies rest) t fits second in
    let next : Holding S c n i (membership_in x.seat) disk.promised y t.moments =
    numbered_holds S c n words disk.promised x s.moments (next_is x.requests.asked x refl room) r.seated (bound_of c r.machine n x disk r.holds r.tied) k in
    then_left S c n _ _ (Tells (entry.Command (command.Asked n q)) ∷ []) (given_all c n (site (Up y) disk) (under replies rest)) s
    (walked S c n i (membership_in x.seat) (Some o) replies rest None q y disk t reads range fits third
    (asks.worded_so c n i (Some o) None y q (command_of (version_of c) words) (record { command = o; is = refl; number = refl; session = refl }) (λ a text is so. ap read_text is ∙ so))
    (hands.worded_so c n i (membership_in x.seat) y q (command_of (version_of c) words))
    (record { so = numbered_so S c n x words s.moments reads.requests room first r.seated known.queued known.pending; carried = (tt, carried); came = tt }) next)
