-- A command comes: it takes the next number, which has its line, and then it is read.
use Rattle.std.specs.Prelude.{ℕ, ◌+◌, ◌≡◌, ◌==◌, ◌&&◌, All, Bool, true, false, List, [], ◌∷◌, Option, None, Some}
use Rattle.std.specs.List.{AllByRecursion}
use Rattle.std.proofs.Common.{refl, sym, ap, subst, ◌∙◌}
use Rattle.cmm_attempt.specs.Calls.{IsDevice}
use Rattle.cmm_member.specs.Records.{NodeRecord}
use Rattle.membership_machine.specs.Invariant.{Holds}
use Rattle.membership_machine.specs.State.{Memberships}
use Rattle.status_report.specs.declared.entry.Entry.TheVariants as entry
use Rattle.history.specs.Member.{in_collect, member_of}
use Rattle.history.specs.Moment.{Moment, Told}
use Rattle.history.specs.Setting.{Setting}
use Rattle.node_model.specs.declared.cluster.Cluster.{Cluster}
use Rattle.node_model.specs.declared.input.Input.{Input}
use Rattle.node_model.specs.declared.node.Node.TheVariants.{Up}
use Rattle.node_model.specs.declared.node.UpNode.{UpNode}
use Rattle.node_model.specs.declared.output.Output.{Output}
use Rattle.node_model.specs.declared.output.Output.TheVariants.{Tells}
use Rattle.refinement.proofs.Acts.{does_one}
use Rattle.refinement.specs.Courses.{Course, Reply, under}
use Rattle.refinement.specs.Doings.{Act, after_all, given_all, site}
use Rattle.refinement.specs.Doings.Act.{Gives, Minds}
use Rattle.refinement.specs.Doings.Doing.{Does}
use Rattle.refinement.specs.Guards.{MayAll}
use Rattle.refinement.specs.Ties.{GoesOn, NodeTied, setting_of}
use Rattle.run_history.proofs.Heard.{and_both, is_same}
use Rattle.run_history.proofs.Small.{AllSmall}
use Rattle.run_history.specs.Scenes.{Scene, passing}
use Rattle.run_messages.specs.Laws.{IsSeated, membership_in}
use Rattle.run_messages.specs.Outputs.{AreGood}
use Rattle.run_messages.specs.Steps.{AreCollected, Leads as Leads_so}
use Rattle.run_messages.proofs.Doings.{doing_leads}
use Rattle.run_commands.specs.carried.Guards.{Command}
use Rattle.run_commands.specs.carried.Steps.{CarriedSo, PendingSo}
use Rattle.run_commands.proofs.carried.Causes.{ReadsAnswers}
use Rattle.run_commands.proofs.carried.Changes.{Changed}
use Rattle.run_commands.proofs.carried.Queues.{Queued}
use Rattle.run_commands.proofs.carried.Leaving.{Leaves, UpSo}
use Rattle.refinement.specs.Cuts.{course_at}
use Rattle.history.specs.Order.{since}
use Rattle.history.specs.Requests.{is_asking}
use Rattle.history.specs.Seizing.{is_boot}
use Rattle.run_commands.proofs.carried.Lines.{has_asked}
use Rattle.run_commands.proofs.carried.Walk.{then_leaves, walk_so}
use Rattle.std.specs.Prelude.{◌≤◌, ◌<◌, ◌^◌, ◌-◌, ◌||◌, Ok, Err, Result, slice_get}
use Rattle.admin_words.specs.Commands.{command_of as read_command}
use Rattle.admin_words.specs.declared.error.WordError.{WordError}
use Rattle.ccr_tables.specs.declared.command.AdminCommand.{AdminCommand}
use Rattle.cmm_attempt.proofs.Basics.{none_some, same_some}
use Rattle.node_model.specs.Requests.{numbered}
use Rattle.node_model.specs.Seats.{version_of}
use Rattle.node_model.specs.declared.input.Input.TheVariants.{Commanded}
use Rattle.refinement.specs.Cuts as cuts
use Rattle.request_queue.specs.Queue.{next_number, with_number}
use Rattle.request_queue.specs.declared.request.Request.{Request}
use Rattle.status_report.specs.declared.command_entry.CommandEntry.TheVariants as command
use Rattle.std.proofs.Common.{arith}
use Rattle.history.specs.Order.{before_last}
use Rattle.history.specs.Requests.{before_asking, command_before}
use Rattle.history.specs.Trace.{gives as gives_line}
use Rattle.run_history.proofs.Idle.{if_false, if_true}
use Rattle.run_commands.proofs.carried.Asides.{text_of}
use Rattle.run_commands.proofs.carried.Courses.{worded_so}
use Rattle.run_commands.proofs.carried.Queues.{Waits as Waiting}

-- the setting reads the words of a command that is a request as the nodes do
abbrev pub ReadsRequests : Cluster → Setting → Type 0
ReadsRequests c S = (words text : List ℕ) (a : AdminCommand) → read_command (version_of c) words ≡ Ok a → text_of a ≡ Some text → S.canonical words ≡ Some text

-- ---- the line of the command

pub next_is : (asked : ℕ) (x : UpNode) → x.requests.asked ≡ asked → asked < 2 ^ 64 - 1 → next_number x.requests ≡ asked + 1
next_is asked x same room = ap (λ k. next_number (record x.requests { asked = k })) same ∙ least asked room
  where
    least : (a : ℕ) → a < 2 ^ 64 - 1 → next_number (record x.requests { asked = a }) ≡ a + 1
    least a low = omega arith

other_number : (a b q : ℕ) → q ≡ a + 1 → b ≤ a → (q == b) ≡ false
other_number a b q is low = grind arith

above_number : (q k : ℕ) → q < k → (q == k) ≡ false
above_number q k low = grind arith

pub past : (a q k : ℕ) → q ≡ a + 1 → q < k → a < k
past a q k is low = grind arith

pub within : (a b q : ℕ) → q ≡ a + 1 → b ≤ a → b ≤ q
within a b q is low = grind arith

and_second : (a b : Bool) → b ≡ false → (a && b) ≡ false
and_second true b h = h
and_second false b h = refl

or_none : (a b : Bool) → a ≡ false → (a || b) ≡ b
or_none true b h = cc
or_none false b h = refl

abbrev asked_line : ℕ → ℕ → Moment
asked_line n q = Told (entry.Command (command.Asked n q))

wait_more : (S : Setting) (n q : ℕ) (ms : List Moment) (v : Option ℕ) (last : ℕ) (r : Request) → q ≡ last + 1 → Waiting S n ms v last r → Waiting S n (asked_line n q ∷ ms) v q r
wait_more S n q ms v last r is h =
    let other : ((n == n) && (q == r.number)) ≡ false = and_second (n == n) (q == r.number) (other_number last r.number q is h.number) in
    record {
      number = within last r.number q is h.number;
      words = λ told. ap (λ xs. command_before S xs) (if_false ((n == n) && (q == r.number)) (since (is_boot n) ms) (before_last (is_asking n r.number) (since (is_boot n) ms)) other) ∙ h.words told;
      member = λ told. ap (λ xs. member_of n xs) (if_false ((n == n) && (q == r.number)) ms (before_asking n r.number ms) other) ∙ h.member told;
      other = λ told. or_none ((n == n) && (q == r.number)) (has_asked n r.number ms) other ∙ h.other told;
    }

waits_more : (S : Setting) (n q : ℕ) (ms : List Moment) (v : Option ℕ) (last : ℕ) (rs : List Request) → q ≡ last + 1 → AllByRecursion (Waiting S n ms v last) rs
    → AllByRecursion (Waiting S n (asked_line n q ∷ ms) v q) rs
waits_more S n q ms v last [] is h = tt
waits_more S n q ms v last (r ∷ rs) is h = (wait_more S n q ms v last r is h.0, waits_more S n q ms v last rs is h.1)

fresh_more : (S : Setting) (n q k : ℕ) (ms : List Moment) → q < k → has_asked n k ms ≡ false → has_asked n k (asked_line n q ∷ ms) ≡ false
fresh_more S n q k ms above h = or_none ((n == n) && (q == k)) (has_asked n k ms) (and_second (n == n) (q == k) (above_number q k above)) ∙ h

-- its words are those of the line right before it
words_first : (S : Setting) (n : ℕ) (words : List ℕ) (ms : List Moment) → slice_get ms 0 ≡ Some (gives_line n words) → command_before S (since (is_boot n) ms) ≡ S.canonical words
words_first S n words [] h = absurd (none_some (gives_line n words) h)
words_first S n words (m ∷ ms) h = subst (λ z. command_before S (since (is_boot n) (z ∷ ms)) ≡ S.canonical words) (sym (same_some m (gives_line n words) h)) refl

here_is : (n q : ℕ) → ((n == n) && (q == q)) ≡ true
here_is n q = and_both (n == n) (q == q) (is_same n) (is_same q)

-- the canonical words, where it is a request
abbrev pub read_text : Result AdminCommand WordError → Option (List ℕ)
read_text (Ok a) = text_of a
read_text (Err e) = None

read_so : (c : Cluster) (S : Setting) (words text : List ℕ) (r : Result AdminCommand WordError) → ReadsRequests c S → read_command (version_of c) words ≡ r → read_text r ≡ Some text → S.canonical words ≡ Some text
read_so c S words text (Ok a) reads is at = reads words text a is at
read_so c S words text (Err e) reads is at = absurd (none_some text at)

abbrev pub command_at : Cluster → UpNode → List ℕ → Command
command_at c x words = record { number = next_number x.requests; text = read_text (read_command (version_of c) words); session = membership_in x.seat }

pub numbered_so : (S : Setting) (c : Cluster) (n : ℕ) (x : UpNode) (words : List ℕ) (ms : List Moment) → ReadsRequests c S → x.requests.asked < 2 ^ 64 - 1 → slice_get ms 0 ≡ Some (gives_line n words)
    → member_of n ms ≡ membership_in x.seat → Queued S n ms (membership_in x.seat) x.requests → PendingSo ms x
    → Changed S n (Some (command_at c x words)) None (next_number x.requests) (numbered x) (asked_line n (next_number x.requests) ∷ ms)
numbered_so S c n x words ms reads room first seated queued pend =
    let q : ℕ = next_number x.requests in
    let is : q ≡ x.requests.asked + 1 = next_is x.requests.asked x refl room in
    record {
      queued = record {
        waits = waits_more S n q ms (membership_in x.seat) x.requests.asked x.requests.waiting is queued.waits;
        fresh = λ k above. fresh_more S n q k ms above (queued.fresh k (past x.requests.asked q k is above));
        none = queued.none;
      };
      now = record {
        number = no_more q;
        words = λ text at. ap (λ xs. command_before S xs) (if_true ((n == n) && (q == q)) (since (is_boot n) ms) (before_last (is_asking n q) (since (is_boot n) ms)) (here_is n q))
            ∙ (words_first S n words ms first ∙ read_so c S words text (read_command (version_of c) words) reads refl at);
        member = ap (λ xs. member_of n xs) (if_true ((n == n) && (q == q)) ms (before_asking n q ms) (here_is n q)) ∙ seated;
      };
      hand = tt;
      pending = λ text so at. pend text so at;
      last_so = refl;
    }
  where
    no_more : (k : ℕ) → k ≤ k
    no_more k = omega arith

-- ---- the step

pub command_leaves : (S : Setting) (c : Cluster) (n : ℕ) (replies : List Reply) (M : Memberships) (x : UpNode) (disk : NodeRecord) (words : List ℕ) (s : Scene) → ReadsAnswers S → ReadsRequests c S → All IsDevice c.attached
    → Holds (setting_of c) M → NodeTied c M n disk (Up x) → MayAll c n None (site (Up x) disk) (under replies (cuts.command_course c n x words)) → AllSmall (under replies (cuts.command_course c n x words))
    → AreCollected false (under replies (cuts.command_course c n x words)) → in_collect n s.moments ≡ false
    → AreGood n (given_all c n (site (Up x) disk) (under replies (cuts.command_course c n x words))) → IsSeated s.moments n (Up x) → x.requests.asked < 2 ^ 64 - 1
    → slice_get s.moments 0 ≡ Some (gives_line n words) → UpSo S n x.requests.asked x s.moments → CarriedSo S s.moments
    → Leaves S n (next_number x.requests) (after_all c n (site (Up x) disk) (under replies (cuts.command_course c n x words))).node
    (given_all c n (site (Up x) disk) (under replies (cuts.command_course c n x words))) s
command_leaves S c n replies M x disk words s exact reads fits holds tied may small calm at good seated room first up carried =
    let i : Input = Commanded words in
    let q : ℕ = next_number x.requests in
    let o : Command = command_at c x words in
    let tell : Act = Gives (Tells (entry.Command (command.Asked n q)) ∷ []) in
    let mind : Act = Minds (with_number x.requests) x.presidency in
    let y : UpNode = numbered x in
    let rest : Course = cuts.worded_course c n y q (read_command (version_of c) words) in
    let t : Scene = passing n (Tells (entry.Command (command.Asked n q)) ∷ []) s in
    let g : GoesOn c M n (site (Up x) disk) (Tells (entry.Command (command.Asked n q)) ∷ []) _ = does_one c M n None (site (Up x) disk) (Does tell) fits holds tt tied may.0 in
    let seat : Leads_so n (Up x) (Tells (entry.Command (command.Asked n q)) ∷ []) s = doing_leads c n None (Up x) disk (Does tell) s may.0 small.0 calm.0 at (good.0, tt) seated in
    let k : GoesOn c g.machine n (site (Up y) disk) [] _ = does_one c g.machine n None (site (Up x) disk) (Does mind) fits g.holds tt g.tied may.1.0 in
    let sat : Leads_so n (Up y) [] t = doing_leads c n None (Up x) disk (Does mind) t may.1.0 small.1.0 calm.1.0 at tt seat.own in
    let more : List Output = given_all c n (site (Up y) disk) (under replies rest) in
    then_leaves S n q (after_all c n (site (Up y) disk) (under replies rest)).node (Tells (entry.Command (command.Asked n q)) ∷ []) more s (λ j ne. ((λ same. ne (sym same)), tt)) (tt, tt)
    (walk_so S c n i (Some o) replies rest k.machine None q y disk t exact fits k.holds tt k.tied may.1.1 small.1.1 calm.1.1 at good.1 sat.own
    (worded_so c n i (Some o) None y q (read_command (version_of c) words) (record { command = o; is = refl; number = refl; session = refl }) (λ a text is so. ap read_text is ∙ so))
    (record { so = numbered_so S c n x words s.moments reads room first seated up.queued up.pending; carried = (tt, carried); came = tt }))
