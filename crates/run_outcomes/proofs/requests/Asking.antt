-- Requests at their president, commands and reports are beside attempts.
use Rattle.std.specs.Prelude.{ℕ, ◌&&◌, not, Bool, List, Option, None, Some, Result, Ok, Err}
use Rattle.admin_commands.specs.declared.accepted.Accepted.{Accepted}
use Rattle.admin_commands.specs.declared.accepted.Accepted.TheVariants as accepted
use Rattle.admin_commands.specs.declared.error.CheckError.{CheckError}
use Rattle.admin_commands.specs.declared.error.CheckError.TheVariants as because
use Rattle.admin_words.specs.Commands.{command_of}
use Rattle.admin_words.specs.declared.error.WordError.{WordError}
use Rattle.ccr_tables.specs.State.{ConfigState}
use Rattle.ccr_tables.specs.declared.command.AdminCommand.{AdminCommand}
use Rattle.ccr_tables.specs.declared.command.AdminCommand.TheVariants as wish
use Rattle.cl_base.specs.declared.command.Ask.{Ask}
use Rattle.node_model.specs.Configurations.{in_force, own_config}
use Rattle.node_model.specs.Groups.{asked_by, monitor_asked, reported}
use Rattle.node_model.specs.Presidents.{checked, own_arrival, query_lines, with_proposals, word_answer}
use Rattle.node_model.specs.Requests.{is_idle, numbered, waiting_with}
use Rattle.node_model.specs.Seats.{coordinator_of, is_in, is_member, version_of}
use Rattle.node_model.specs.Updates.{is_of_member}
use Rattle.node_model.specs.declared.cluster.Cluster.{Cluster}
use Rattle.node_model.specs.declared.node.UpNode.{UpNode}
use Rattle.node_model.specs.declared.presidency.Presidency.{Presidency}
use Rattle.proposals.specs.Arrivals.{arrival_of, with_arrival}
use Rattle.proposals.specs.State.{State, kept_at}
use Rattle.proposals.specs.declared.arrived.Arrival.{Arrival}
use Rattle.proposals.specs.declared.arrived.Arrival.TheVariants.{New, Waits as Waits_already, Answered as Answered_last, Past}
use Rattle.proposals.specs.declared.arrived.Arrived.{Arrived}
use Rattle.proposals.specs.declared.arrived.Kept.{Kept}
use Rattle.refinement.specs.Cuts as cuts
use Rattle.request_queue.specs.Queue.{found, is_full, next_number, oldest}
use Rattle.request_queue.specs.Queue as queue
use Rattle.request_queue.specs.declared.request.Request.{Request}
use Rattle.rgm_member.specs.Probes.{probed}
use Rattle.rgm_member.specs.declared.probed.Probed.{Probed}
use Rattle.rgm_member.specs.declared.probed.Probed.TheVariants as probe
use Rattle.status_report.specs.declared.command_entry.Answer.{Answer}
use Rattle.status_report.specs.declared.command_entry.Answer.TheVariants as answer
use Rattle.status_report.specs.declared.status_entry.StatusEntry.{StatusEntry}
use Rattle.update_words.specs.Words.{ask_words_of, words_of}
use Rattle.run_outcomes.proofs.requests.Presidents.{either_bare, handling_bare}
use Rattle.run_outcomes.specs.reports.Requests.{IsBare}

kept_again_bare : (x : UpNode) (from : ℕ) (o : Option Kept) → IsBare (cuts.kept_again_course x from o)
kept_again_bare x from None = tt
kept_again_bare x from (Some k) = (tt, tt)

arrived_bare : (c : Cluster) (me : ℕ) (x : UpNode) (p : Presidency) (a : Arrived) (how : Arrival) → IsBare (cuts.arrived_course c me x p a how)
arrived_bare c me x p a New = let s : State = with_arrival p.proposals a New in (tt, handling_bare c me (with_proposals x p s))
arrived_bare c me x p a Waits_already = tt
arrived_bare c me x p a Answered_last = kept_again_bare x a.from (kept_at p.proposals.answers a.from)
arrived_bare c me x p a Past = tt

arriving_bare : (c : Cluster) (me : ℕ) (x : UpNode) (p : Presidency) (a : Arrived) → IsBare (cuts.arriving_course c me x p a)
arriving_bare c me x p a = arrived_bare c me x p a (arrival_of p.proposals a.from a.number)

requested_bare : (c : Cluster) (me : ℕ) (x : UpNode) (from number : ℕ) (text : List ℕ) (o : Option Presidency) → IsBare (cuts.requested_course c me x from number text o)
requested_bare c me x from number text None = tt
requested_bare c me x from number text (Some p) = arriving_bare c me x p (record { from = from; number = number; text = text })

pub asked_bare : (c : Cluster) (me : ℕ) (x : UpNode) (from e number : ℕ) (text : List ℕ) → IsBare (cuts.asked_course c me x from e number text)
asked_bare c me x from e number text = either_bare (is_of_member x from e) _ _ (requested_bare c me x from number text x.presidency) tt

request_to_bare : (x : UpNode) (r : Request) (o : Option ℕ) → IsBare (cuts.request_to_course x r o)
request_to_bare x r None = tt
request_to_bare x r (Some president) = (tt, tt)

asking_of_bare : (c : Cluster) (me : ℕ) (x : UpNode) (r : Request) (o : Option Presidency) → IsBare (cuts.asking_of_course c me x r o)
asking_of_bare c me x r None = request_to_bare x r (coordinator_of x)
asking_of_bare c me x r (Some p) = arriving_bare c me x p (own_arrival me r)

asking_for_bare : (c : Cluster) (me : ℕ) (x : UpNode) (o : Option Request) → IsBare (cuts.asking_for_course c me x o)
asking_for_bare c me x None = tt
asking_for_bare c me x (Some r) = asking_of_bare c me x r x.presidency

asking_bare : (c : Cluster) (me : ℕ) (x : UpNode) → IsBare (cuts.asking_course c me x)
asking_bare c me x = asking_for_bare c me x (oldest x.requests)

replying_bare : (me number : ℕ) (told : Answer) → IsBare (cuts.replying_course me number told)
replying_bare me number told = (tt, tt)

asking_if_bare : (alone : Bool) (c : Cluster) (me : ℕ) (x : UpNode) → IsBare (cuts.asking_if_course alone c me x)
asking_if_bare alone c me x = either_bare alone _ _ (asking_bare c me x) tt

waiting_bare : (c : Cluster) (me : ℕ) (x : UpNode) (number : ℕ) (text : List ℕ) → IsBare (cuts.waiting_course c me x number text)
waiting_bare c me x number text = either_bare (is_full x.requests) _ _ (replying_bare me number answer.QueueFull) (tt, asking_if_bare (is_idle x.requests.waiting) c me (waiting_with x number text))

elsewhere_bare : (me number : ℕ) (o : Option ℕ) → IsBare (cuts.elsewhere_course me number o)
elsewhere_bare me number None = tt
elsewhere_bare me number (Some president) = replying_bare me number (answer.Ask president)

telling_bare : (me number : ℕ) (lines : List StatusEntry) → IsBare (cuts.telling_course me number lines)
telling_bare me number lines = (tt, replying_bare me number answer.Ok)

query_bare : (me : ℕ) (x : UpNode) (p : Presidency) (number : ℕ) (s : ConfigState) (r : Result Accepted CheckError) → IsBare (cuts.query_course me x p number s r)
query_bare me x p number s (Ok (accepted.Query q)) = telling_bare me number (query_lines x p s q)
query_bare me x p number s (Ok (accepted.Change u)) = tt
query_bare me x p number s (Ok (accepted.Act ask)) = tt
query_bare me x p number s (Err (because.Refused r)) = replying_bare me number (answer.Refused r)
query_bare me x p number s (Err because.NoMemory) = tt

queried_bare : (c : Cluster) (me : ℕ) (x : UpNode) (number : ℕ) (question : AdminCommand) (o : Option Presidency) → IsBare (cuts.queried_course c me x number question o)
queried_bare c me x number question None = elsewhere_bare me number (coordinator_of x)
queried_bare c me x number question (Some p) = either_bare (is_full x.requests) _ _ (replying_bare me number answer.QueueFull) (query_bare me x p number (in_force c x) (checked c x p question))

commanded_bare : (c : Cluster) (me : ℕ) (x : UpNode) (number : ℕ) (o : AdminCommand) → IsBare (cuts.commanded_course c me x number o)
commanded_bare c me x number (wish.Change u) = waiting_bare c me x number (words_of u)
commanded_bare c me x number (wish.Act a) = waiting_bare c me x number (ask_words_of a)
commanded_bare c me x number (wish.Status q) = queried_bare c me x number (wish.Status q) x.presidency
commanded_bare c me x number (wish.Rows table) = queried_bare c me x number (wish.Rows table) x.presidency

worded_bare : (c : Cluster) (me : ℕ) (x : UpNode) (number : ℕ) (r : Result AdminCommand WordError) → IsBare (cuts.worded_course c me x number r)
worded_bare c me x number (Err e) = replying_bare me number (word_answer e)
worded_bare c me x number (Ok command) = either_bare (is_member x.seat) _ _ (commanded_bare c me x number command) (replying_bare me number answer.NotMember)

pub command_bare : (c : Cluster) (me : ℕ) (x : UpNode) (words : List ℕ) → IsBare (cuts.command_course c me x words)
command_bare c me x words = (tt, (tt, worded_bare c me (numbered x) (next_number x.requests) (command_of (version_of c) words)))

replied_to_bare : (c : Cluster) (me : ℕ) (x : UpNode) (number : ℕ) (told : Answer) (o : Option Request) → IsBare (cuts.replied_to_course c me x number told o)
replied_to_bare c me x number told None = tt
replied_to_bare c me x number told (Some r) = (tt, (tt, asking_bare c me (record x { requests = queue.answered x.requests number })))

replied_bare : (c : Cluster) (me : ℕ) (x : UpNode) (number : ℕ) (o : Option Answer) → IsBare (cuts.replied_course c me x number o)
replied_bare c me x number None = tt
replied_bare c me x number (Some told) = replied_to_bare c me x number told (found x.requests.waiting number)

pub reply_bare : (c : Cluster) (me : ℕ) (x : UpNode) (e number : ℕ) (told : Option Answer) → IsBare (cuts.reply_course c me x e number told)
reply_bare c me x e number told = either_bare (is_member x.seat && is_in x e) _ _ (replied_bare c me x number told) tt

asking_this_bare : (c : Cluster) (me : ℕ) (x : UpNode) (o : Option Ask) → IsBare (cuts.asking_this_course c me x o)
asking_this_bare c me x None = tt
asking_this_bare c me x (Some ask) = either_bare (is_member x.seat && not (is_full x.requests)) _ _ (tt, asking_if_bare (is_idle x.requests.waiting) c me (monitor_asked x ask)) tt

reporting_bare : (c : Cluster) (me : ℕ) (x : UpNode) (r : List ℕ) (how : Probed) → IsBare (cuts.reporting_course c me x r how)
reporting_bare c me x r probe.NoMonitor = tt
reporting_bare c me x r probe.Good = (tt, (tt, tt))
reporting_bare c me x r (probe.Failed a) = (tt, (tt, asking_this_bare c me (reported x c r (probe.Failed a)) (asked_by a r)))

pub report_bare : (c : Cluster) (me : ℕ) (x : UpNode) (r : List ℕ) (good : Bool) → IsBare (cuts.report_course c me x r good)
report_bare c me x r good = reporting_bare c me x r (probed x.worker (own_config c x) r good x.second)
