-- What the parts of a node's step make of it has its widths.
use Rattle.std.specs.Prelude.{ℕ, ◌≡◌, ◌≤◌, ◌+◌, ◌++◌, ◌%◌, ◌&&◌, nat_le, Bool, true, List, [], ◌∷◌, Option, None, Some, IfSome, length, map, if◌then◌else◌}
use Rattle.std.proofs.Common.{refl, sym, subst, arith}
use Rattle.std.specs.List.{AllByRecursion}
use Rattle.std.proofs.lemmas.List.{append-nil, length-append}
use Rattle.cl_base.specs.Limits.{most_nodes}
use Rattle.cl_base.specs.Numbers.{numbers_to}
use Rattle.cl_base.specs.Sets.{has}
use Rattle.ccr_commit.specs.Entries.{EntryList, all_committed, texts_of, with_next}
use Rattle.cmm_attempt.specs.Attempts.{AttemptState}
use Rattle.cmm_attempt.proofs.Basics.{and_cases, if_either}
use Rattle.attempt_laws.proofs.Walk.{if_with}
use Rattle.cmm_member.specs.Nodes.{Devices, NodeState, devices_after, installed_with, joining_all, joining_one, joins, promised_to, with_entries, with_joined, with_valid}
use Rattle.cmm_member.specs.Records.{NodeRecord}
use Rattle.device_queue.specs.Queue.{seizure_of}
use Rattle.device_queue.specs.declared.task.Task.{Task}
use Rattle.heartbeats.specs.Peers.{older}
use Rattle.heartbeats.specs.Views.{is_in_view, view_of}
use Rattle.request_queue.specs.Queue.{Queue}
use Rattle.request_queue.specs.declared.request.Request.{Request}
use Rattle.rgm_member.specs.Keeping.{kept_under}
use Rattle.rgm_member.specs.State.{WorkerState}
use Rattle.seize.specs.declared.kind.SeizeKind.{SeizeKind}
use Rattle.seize.specs.declared.kind.SeizeKind.TheVariants.{Vote, Plain}
use Rattle.seize.specs.Seizing.{first_step}
use Rattle.status_report.specs.declared.command_entry.Answer.{Answer}
use Rattle.wire.specs.declared.lists.Reading.{Reading}
use Rattle.wire.specs.declared.message.Body.{Body}
use Rattle.wire.specs.declared.message.Body.TheVariants as body
use Rattle.wire.specs.declared.message.Install.{Install}
use Rattle.wire.specs.Spelling.{FitsReading, IsDevice, IsDevices, IsNode, IsWord}
use Rattle.node_model.specs.Configurations.{configured_at}
use Rattle.node_model.specs.declared.cluster.Cluster.{Cluster}
use Rattle.node_model.specs.declared.node.UpNode.{UpNode}
use Rattle.node_model.specs.declared.output.Output.{Output}
use Rattle.node_model.specs.declared.output.Output.TheVariants.{Tells, Sends}
use Rattle.node_model.specs.declared.presidency.Presidency.{Presidency}
use Rattle.node_model.specs.declared.seat.Seat.{Seat}
use Rattle.node_model.specs.declared.seat.Seat.TheVariants.{Forming, Member}
use Rattle.node_model.specs.Attempts.{base_lines, installing, joining_from, seizing_here, shown_in}
use Rattle.node_model.specs.Entries.{answering, keeping, replying, unknown_line, unknown_lines}
use Rattle.node_model.specs.Plans.{Plan, and_then}
use Rattle.node_model.specs.Plans.Plan.{Stays, Falls, Says, Saves}
use Rattle.node_model.specs.Configurations.{own_config}
use Rattle.node_model.specs.Presidents.{sent_to, tidied}
use Rattle.node_model.specs.Seats.{coordinator_of, node_numbered, session_of, state_of, with_state}
use Rattle.node_model.specs.Ticks.{heartbeat_of, heartbeats_to, later}
use Rattle.node_model.specs.Updates.{later_presidency}
use Rattle.refinement.specs.node_widths.Widths.{AllFit, AttemptFits, BodyFits, PresidencyFits, QueueFits, ReadFits, RecordFits, StateFits, UpFits, WorkerFits}
use Rattle.refinement.specs.node_widths.Plans.{PlanFits}
use Rattle.refinement.proofs.node_widths.Sets.{device_with, device_without, nodes_where}
use Rattle.refinement.proofs.node_widths.Tasks.{TasksFit, joinings_fit, put_fits}
use Rattle.refinement.proofs.node_widths.Turns.{numbers_are_nodes}
use Rattle.refinement.proofs.node_widths.Workers.{kept_fits}

-- Plans, one after another.

pub then_fits : (c : Cluster) (n : ℕ) (p : Plan) (next : UpNode → Plan) → PlanFits c n p → ((y : UpNode) → UpFits c n y → PlanFits c n (next y)) → PlanFits c n (and_then p next)
then_fits c n (Stays x) next h f = f x h
then_fits c n (Falls why) next h f = tt
then_fits c n (Says os rest) next h f = (h.0, then_fits c n rest next h.1 f)
then_fits c n (Saves r rest) next h f = (h.0, then_fits c n rest next h.1 f)

pub either_fits : (c : Cluster) (n : ℕ) (b : Bool) (p q : Plan) → PlanFits c n p → PlanFits c n q → PlanFits c n (if b then p else q)
either_fits c n b p q h k = if_either (PlanFits c n) b p q h k

pub both_fit : (first second : List Output) → AllFit first → AllFit second → AllFit (first ++ second)
both_fit [] second h k = k
both_fit (Tells e ∷ os) second h k = both_fit os second h k
both_fit (Sends to b ∷ os) second h k = (h.0, h.1, both_fit os second h.2 k)

-- Lines have no widths.
pub base_fits : (e before : ℕ) (texts : List (List ℕ)) → AllFit (base_lines e before texts)
base_fits e before [] = tt
base_fits e before (text ∷ texts) = base_fits e (before + 1) texts

pub unknown_fit : (n : ℕ) (rs : List Request) → AllFit (unknown_lines n rs)
unknown_fit n [] = tt
unknown_fit n (r ∷ rs) = both_fit (unknown_line n r) (unknown_lines n rs) (if_either AllFit r.told _ [] tt tt) (unknown_fit n rs)

-- One message to each of some nodes.

each_fits : (b : Body) (ns : List ℕ) → BodyFits b → AllByRecursion IsNode ns → AllFit (map (λ k. Sends k b) ns)
each_fits b [] f h = tt
each_fits b (k ∷ ns) f h = (h.0.0, f, each_fits b ns f h.1)

pub sent_to_fits : (receivers : ℕ) (b : Body) → BodyFits b → AllFit (sent_to receivers b)
unfolding sent_to
sent_to_fits receivers b f = each_fits b (numbers_to receivers most_nodes) f (numbers_are_nodes receivers 32 (omega arith))

pub heartbeats_fit : (x : UpNode) (receivers : ℕ) → StateFits (state_of x.seat) → AllFit (heartbeats_to x receivers)
unfolding heartbeats_to
heartbeats_fit x receivers f = each_fits (heartbeat_of x) (numbers_to receivers most_nodes) (f.record_fits.promised, f.session) (numbers_are_nodes receivers 32 (omega arith))

-- Records and states.

pub shown_fits : (r : NodeRecord) (flagged : Bool) (p : ℕ) → RecordFits r → IsWord p → BodyFits (shown_in r flagged p)
shown_fits r flagged p h small = (small, h.installed, h.members, h.valid, h.places)

pub promised_fits : (s : NodeState) (p : ℕ) → IsWord p → StateFits s → StateFits (promised_to s p)
promised_fits s p small h = record {
  session = small;
  record_fits = record {
    promised = small;
    installed = h.record_fits.installed;
    members = h.record_fits.members;
    valid = h.record_fits.valid;
    places = h.record_fits.places;
  };
  joined = omega arith;
}

pub valid_fits : (s : NodeState) (valid : ℕ) → IsDevices valid → StateFits s → StateFits (with_valid s valid)
valid_fits s valid small h = record {
  session = h.session;
  record_fits = record {
    promised = h.record_fits.promised;
    installed = h.record_fits.installed;
    members = h.record_fits.members;
    valid = small;
    places = h.record_fits.places;
  };
  joined = h.joined;
}

pub joined_fits : (s : NodeState) (d : ℕ) → IsDevice d → StateFits s → StateFits (with_joined s d)
joined_fits s d is h = record {
  session = h.session;
  record_fits = record {
    promised = h.record_fits.promised;
    installed = h.record_fits.installed;
    members = h.record_fits.members;
    valid = device_with s.saved.valid d h.record_fits.valid is;
    places = h.record_fits.places;
  };
  joined = device_with s.joined d h.joined is;
}

pub entries_fit : (s : NodeState) (entries : EntryList) → IsWord (length (texts_of entries)) → StateFits s → StateFits (with_entries s entries)
entries_fit s entries places h = record {
  session = h.session;
  record_fits = record {
    promised = h.record_fits.promised;
    installed = h.record_fits.installed;
    members = h.record_fits.members;
    valid = h.record_fits.valid;
    places = places;
  };
  joined = h.joined;
}

-- what was pending keeps its place
pub committed_fits : (s : NodeState) → StateFits s → StateFits (with_entries s (all_committed s.saved.entries))
committed_fits s h =
    entries_fit s (all_committed s.saved.entries)
    (subst (λ (texts : List (List ℕ)). IsWord (length texts)) (sym (append-nil (texts_of s.saved.entries))) h.record_fits.places) h

-- one more is at the next place
pub next_entry_fits : (s : NodeState) (text : List ℕ) → IsWord (length (texts_of s.saved.entries) + 1) → StateFits s → StateFits (with_entries s (with_next s.saved.entries text))
next_entry_fits s text small h =
    entries_fit s (with_next s.saved.entries text) (subst IsWord (sym (length-append (texts_of s.saved.entries) (text ∷ []))) small) h

-- A worker.

pub with_worker_fits : (c : Cluster) (n : ℕ) (x : UpNode) (w : WorkerState) → WorkerFits w → UpFits c n x → UpFits c n (record x { worker = w })
with_worker_fits c n x w f h = record { state = h.state; all_tasks = h.all_tasks; own = h.own; seen = h.seen; asked = h.asked; works = f; clock = h.clock; presides = h.presides }

-- An install.

abbrev pub TwoFit : Devices → Type 0
TwoFit d = IsDevices d.valid × IsDevices d.joined

pub one_fits : (me : ℕ) (d : Devices) (r : Reading) → IsDevice r.device → TwoFit d → TwoFit (joining_one me d r)
one_fits me d r is h =
    if_either TwoFit (joins me d.valid r) _ _ (device_with d.valid r.device h.0 is, device_with d.joined r.device h.1 is) (device_without d.valid r.device h.0, device_without d.joined r.device h.1)

all_fit : (me : ℕ) (d : Devices) (rs : List Reading) → AllByRecursion FitsReading rs → TwoFit d → TwoFit (joining_all me d rs)
all_fit me d [] f h = h
all_fit me d (r ∷ rs) f h = all_fit me (joining_one me d r) rs f.1 (one_fits me d r f.0.0 h)

pub installed_fits : (s : NodeState) (i : Install) → BodyFits (body.Install i) → StateFits s → StateFits (installed_with s i)
installed_fits s i f h =
    let two : TwoFit (devices_after s i) = all_fit s.me (record { valid = s.saved.valid; joined = 0 }) i.readings f.3.1 (h.record_fits.valid, omega arith) in
    record {
      session = h.session;
      record_fits = record {
        promised = h.record_fits.promised;
        installed = f.0;
        members = f.1;
        valid = two.0;
        places = f.2;
      };
      joined = two.1;
    }

-- it keeps no more of resources and groups than its own configuration has
pub tidied_fits : (c : Cluster) (n : ℕ) (x : UpNode) → UpFits c n x → UpFits c n (tidied c x)
tidied_fits c n x h = with_worker_fits c n x (kept_under (own_config c x) x.worker) (kept_fits (own_config c x) x.worker h.works) h

pub installing_fits : (c : Cluster) (n : ℕ) (x : UpNode) (s : NodeState) (tasks : List Task) (i : Install) → BodyFits (body.Install i) → StateFits s → TasksFit c n tasks → UpFits c n x
    → UpFits c n (installing c n x s tasks i)
installing_fits c n x s tasks i f state all h = tidied_fits c n (record x { seat = Forming (installed_with s i); tasks = joining_from c n i.epoch (installed_with s i).joined tasks i.readings }) (record {
  state = installed_fits s i f state;
  all_tasks = joinings_fit c n i.epoch (installed_with s i).joined tasks i.readings f.3.1 all;
  own = h.own;
  seen = h.seen;
  asked = h.asked;
  works = h.works;
  clock = h.clock;
  presides = h.presides;
})

-- The node with one of its parts changed.

pub state_with : (seat : Seat) (s : NodeState) → state_of (with_state seat s) ≡ s
state_with (Forming t) s = refl
state_with (Member t) s = refl

pub with_state_fits : (c : Cluster) (n : ℕ) (x : UpNode) (s : NodeState) → StateFits s → UpFits c n x → UpFits c n (record x { seat = with_state x.seat s })
with_state_fits c n x s f h = record { state = subst StateFits (sym (state_with x.seat s)) f; all_tasks = h.all_tasks; own = h.own; seen = h.seen; asked = h.asked; works = h.works; clock = h.clock; presides = h.presides }

pub with_tasks_fits : (c : Cluster) (n : ℕ) (x : UpNode) (tasks : List Task) → TasksFit c n tasks → UpFits c n x → UpFits c n (record x { tasks = tasks })
with_tasks_fits c n x tasks f h = record { state = h.state; all_tasks = f; own = h.own; seen = h.seen; asked = h.asked; works = h.works; clock = h.clock; presides = h.presides }

pub with_attempt_fits : (c : Cluster) (n : ℕ) (x : UpNode) (o : Option AttemptState) → IfSome o AttemptFits → UpFits c n x → UpFits c n (record x { attempt = o })
with_attempt_fits c n x o f h = record { state = h.state; all_tasks = h.all_tasks; own = f; seen = h.seen; asked = h.asked; works = h.works; clock = h.clock; presides = h.presides }

pub with_requests_fits : (c : Cluster) (n : ℕ) (x : UpNode) (q : Queue) (o : Option Presidency) → QueueFits q → IfSome o PresidencyFits → UpFits c n x
    → UpFits c n (record x { requests = q; presidency = o })
with_requests_fits c n x q o f k h = record { state = h.state; all_tasks = h.all_tasks; own = h.own; seen = h.seen; asked = f; works = h.works; clock = h.clock; presides = k }

later_presides : (o : Option Presidency) → IfSome o PresidencyFits → IfSome (later_presidency o) PresidencyFits
later_presides None h = tt
later_presides (Some p) h = h

pub later_fits : (c : Cluster) (n : ℕ) (x : UpNode) → UpFits c n x → UpFits c n (later c x)
unfolding view_of
later_fits c n x h = record {
  state = h.state;
  all_tasks = h.all_tasks;
  own = h.own;
  seen = nodes_where (is_in_view x.beats.me (map older x.beats.peers) (configured_at c x)) 32 (omega arith);
  asked = h.asked;
  works = h.works;
  clock = h.clock;
  presides = later_presides x.presidency h.presides;
}

pub first_read_fits : (kind : SeizeKind) → ReadFits (first_step kind)
first_read_fits Vote = tt
first_read_fits Plain = tt

pub seizing_here_fits : (c : Cluster) (n : ℕ) (x : UpNode) (d : ℕ) (kind : SeizeKind) (o : Option AttemptState) → IsDevice d → IfSome o AttemptFits → UpFits c n x
    → UpFits c n (seizing_here c n x d kind o)
seizing_here_fits c n x d kind None is f h = h
seizing_here_fits c n x d kind (Some a) is f h =
    if_either (UpFits c n) (has a.plan.members n) _ x
    (with_tasks_fits c n x _ (put_fits c n (seizure_of x.tasks d) _ x.tasks (is, (f.epoch, refl, refl, first_read_fits kind)) h.all_tasks) h) h

-- the coordinator of a session is a node
numbered_is_node : (n : ℕ) → IfSome (node_numbered n) IsNode
numbered_is_node n =
    if_with (λ o. IfSome o IsNode) (nat_le 1 n && nat_le n 32) (nat_le 1 n && nat_le n 32) (Some n) None refl
    (λ e. let two : (nat_le 1 n ≡ true) × (nat_le n 32 ≡ true) = and_cases (nat_le 1 n) (nat_le n 32) e in (at_most 1 n two.0, at_most n 32 two.1)) (λ e. tt)
  where
    at_most : (a b : ℕ) → nat_le a b ≡ true → a ≤ b
    at_most a b h = grind arith

pub coordinator_is_node : (x : UpNode) → IfSome (coordinator_of x) IsNode
coordinator_is_node x = numbered_is_node (session_of x % 64)

-- One message, a save, a line.

pub answers : (c : Cluster) (n : ℕ) (to : ℕ) (b : Body) (x : UpNode) → 1 ≤ to → BodyFits b → UpFits c n x → PlanFits c n (answering to b x)
answers c n to b x low f h = ((low, f, tt), h)

pub keeps : (c : Cluster) (n : ℕ) (y : UpNode) (rest : Plan) → UpFits c n y → PlanFits c n rest → PlanFits c n (keeping n y rest)
keeps c n y rest h k = (h.state.record_fits, (tt, k))

pub replies : (c : Cluster) (n number : ℕ) (told : Answer) (x : UpNode) → UpFits c n x → PlanFits c n (replying n number told x)
replies c n number told x h = (tt, h)
