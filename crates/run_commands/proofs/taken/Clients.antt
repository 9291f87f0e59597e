-- A client's request is skipped, served, or told that there is no such address.
use Rattle.std.specs.Prelude.{ℕ, ◌≡◌, ◌≢◌, ◌⊎◌, ◌++◌, ◌==◌, ◌&&◌, ◌||◌, Bool, true, false, List, [], ◌∷◌, Option, None, Some}
use Rattle.std.specs.List.{list_any}
use Rattle.std.proofs.Common.{refl, sym, ap, subst, ◌∙◌, inl, inr, arith}
use Rattle.ccr_tables.specs.declared.address.Address.{Address}
use Rattle.cl_base.specs.declared.method.Outcome as method
use Rattle.cmm_attempt.proofs.Basics.{false_true}
use Rattle.machine_base.specs.Epochs.{coordinator as machine_coordinator}
use Rattle.record_disk.specs.Disks.{DiskState}
use Rattle.rg_props.specs.Lookups.{named}
use Rattle.schedule_text.specs.declared.event.Event.{Event}
use Rattle.schedule_text.specs.declared.event.Event.TheVariants as event
use Rattle.schedule_text.specs.declared.line.Line.TheVariants as line
use Rattle.shared_address.specs.Choosing.{Outcome, chosen}
use Rattle.shared_address.specs.History.{state_of}
use Rattle.shared_address.specs.declared.choice.Client.{Client}
use Rattle.status_report.specs.declared.address_entry.AddressEntry.TheVariants.{Served}
use Rattle.status_report.specs.declared.entry.Entry.TheVariants as entry
use Rattle.status_report.specs.declared.schedule_entry.SkipCause.TheVariants as skip
use Rattle.history.specs.Lines.{IsAnsweredBy, is_service, skip_president}
use Rattle.history.specs.Member.{is_up, member_of}
use Rattle.history.specs.Moment.{Moment, Said}
use Rattle.history.specs.Setting.{Setting, coordinator}
use Rattle.history.specs.Trace.{skipped}
use Rattle.node_model.specs.Addresses.{forgot_lines, if_unknown, refusal_at, refusal_by, request_for, serving_at, serving_by}
use Rattle.node_model.specs.Configurations.{in_force}
use Rattle.node_model.specs.Steps.{at_second, carried, stepped}
use Rattle.node_model.specs.declared.cluster.Cluster.{Cluster}
use Rattle.node_model.specs.declared.input.Input.{Input}
use Rattle.node_model.specs.declared.input.Input.TheVariants as input
use Rattle.node_model.specs.declared.node.Node.{Node}
use Rattle.node_model.specs.declared.node.Node.TheVariants.{Down, Up}
use Rattle.node_model.specs.declared.node.UpNode.{UpNode}
use Rattle.node_model.specs.declared.output.Output.TheVariants.{Tells}
use Rattle.node_model.specs.declared.presidency.Presidency.{Presidency}
use Rattle.node_model.specs.declared.seat.Seat.{Seat}
use Rattle.node_model.specs.declared.seat.Seat.TheVariants.{Forming, Member}
use Rattle.refinement.specs.Steps.{disk_rules}
use Rattle.run_history.proofs.Idle.{if_false, if_true}
use Rattle.run_history.specs.Happenings.{happened}
use Rattle.run_history.specs.Happenings.Happening.{Speaks}
use Rattle.run_history.specs.Members.{NodeLines}
use Rattle.run_history.specs.Scenes.{Scene}
use Rattle.run_history.specs.Shapes.{asking, brings, if_up}
use Rattle.run_lines.specs.Entries.{NodePresides as OwnPresident, PresidesAt}
use Rattle.run_messages.specs.Laws.{IsSeated, membership_in}
use Rattle.run_commands.proofs.Presiding.{NodePresides, Presides}
use Rattle.run_commands.specs.taken.Entries.{Leaves, any_told}
use Rattle.run_commands.specs.taken.Laws.{ClientIsAnswered}
use Rattle.run_commands.proofs.taken.Walk.{Opening}

-- ---- what the president gives

is_same : (a b : ℕ) → a ≡ b → (a == b) ≡ true
is_same a b e = grind arith

is_other : (a b : ℕ) → a ≢ b → (a == b) ≡ false
is_other a b ne = grind arith

both_true : (a b : Bool) → a ≡ true → b ≡ true → (a && b) ≡ true
both_true true b g h = h
both_true false b g h = cc

or_first : (a b : Bool) → a ≡ true → (a || b) ≡ true
or_first true b h = refl
or_first false b h = cc

-- the line of the node that serves stands behind that of the client that is forgotten
served_told : (name : List ℕ) (client port : ℕ) (by : Option ℕ) (k : Option Client) → any_told (is_service client port) (forgot_lines name k ++ Tells (entry.Address (Served name client port by)) ∷ []) ≡ true
served_told name client port by None =
    or_first ((client == client) && (port == port)) false (both_true (client == client) (port == port) (is_same client client refl) (is_same port port refl))
served_told name client port by (Some k) =
    or_first ((client == client) && (port == port)) false (both_true (client == client) (port == port) (is_same client client refl) (is_same port port refl))

-- the president serves a request of an address that there is
serves : (c : Cluster) (n now : ℕ) (ends : method.Outcome) (x : UpNode) (disk : DiskState) (address : List ℕ) (client port : ℕ) (p : Presidency) (a : Address) → x.presidency ≡ Some p
    → named (in_force c x).addresses address ≡ Some a → any_told (is_service client port) (stepped disk_rules c n now ends (Up x) disk (input.Client address client port)).given ≡ true
serves c n now ends x disk address client port p a office at =
    let y : UpNode = at_second now x in
    let o : Outcome = chosen (state_of p.balancer address) (request_for (in_force c y) p a client port) in
    subst (λ q. any_told (is_service client port) (carried disk_rules.saving n (serving_by c y address client port q) [] disk).given ≡ true) (sym office)
    (subst (λ k. any_told (is_service client port) (carried disk_rules.saving n (serving_at (in_force c y) y p address client port k) [] disk).given ≡ true) (sym at)
    (served_told address client port o.node o.forgot))

-- ---- what is due

-- a node that is no president is none by its lines
none_skips : (n : ℕ) (seat : Seat) → Presides n seat None → skip_president n true (membership_in seat) ≡ Some skip.NoPresident
unfolding machine_coordinator
none_skips n (Forming s) h = refl
none_skips n (Member s) h = if_false (coordinator s.session == n) None (Some skip.NoPresident) (is_other (coordinator s.session) n (λ own. false_true (h own)))

own_comes : (n : ℕ) (p : Presidency) (seat : Seat) → PresidesAt n (Some p) seat → skip_president n true (membership_in seat) ≡ None
own_comes n p (Forming s) h = absurd h
own_comes n p (Member s) h = if_true (coordinator s.session == n) None (Some skip.NoPresident) (is_same (coordinator s.session) n h)

-- what is known of the node
record At (n : ℕ) (node : Node) (ms : List Moment) : Type 0 where
  lines : NodeLines n node ms
  seated : IsSeated ms n node
  own : OwnPresident n node
  presides : NodePresides n node

up_so : (c : Cluster) (S : Setting) (ms : List Moment) (n : ℕ) (address : List ℕ) (client port : ℕ) (x : UpNode) (u : Scene) (later : List Moment) → At n (Up x) ms → u.nodes.node n ≡ Up x
    → Leaves c u (asking n (input.Client address client port) (refusal_by c x address x.presidency)) later
    → IsAnsweredBy S ms (event.Client n address client port) later (skip_president n (is_up n ms) (member_of n ms))
up_so c S ms n address client port x u later k at leaves = by_office x.presidency refl
  where
    i : Input
    i = input.Client address client port

    what : Event
    what = event.Client n address client port

    here : skip_president n (is_up n ms) (member_of n ms) ≡ skip_president n true (membership_in x.seat)
    here = ap (λ b. skip_president n b (member_of n ms)) k.lines.0 ∙ ap (λ o. skip_president n true o) k.seated

    by_address : (p : Presidency) → x.presidency ≡ Some p → (o : Option Address) → named (in_force c x).addresses address ≡ o → Leaves c u (asking n i (if_unknown o)) later
        → (list_any (is_service client port) later ≡ true) ⊎ (later ≡ skipped skip.NoAddress ∷ [])
    by_address p office None known l = inr l
    by_address p office (Some a) known l =
        inl (l.leave.any (is_service client port) (λ e. refl)
        ∙ subst (λ z. any_told (is_service client port) (stepped disk_rules c n l.now l.ends z (u.nodes.disk n) i).given ≡ true) (sym at)
        (serves c n l.now l.ends x (u.nodes.disk n) address client port p a office known))

    by_office : (o : Option Presidency) → x.presidency ≡ o → IsAnsweredBy S ms what later (skip_president n (is_up n ms) (member_of n ms))
    by_office None is =
        subst (λ z. IsAnsweredBy S ms what later z) (sym (here ∙ none_skips n x.seat (subst (λ z. Presides n x.seat z) is k.presides)))
        (subst (λ z. Leaves c u (asking n i (refusal_by c x address z)) later) is leaves)
    by_office (Some p) is =
        subst (λ z. IsAnsweredBy S ms what later z) (sym (here ∙ own_comes n p x.seat (subst (λ z. PresidesAt n z x.seat) is k.own)))
        (by_address p is (named (in_force c x).addresses address) refl (subst (λ z. Leaves c u (asking n i (refusal_by c x address z)) later) is leaves))

client_so : (c : Cluster) (S : Setting) (ms : List Moment) (n : ℕ) (address : List ℕ) (client port : ℕ) (node : Node) (u : Scene) (later : List Moment) → At n node ms → u.nodes.node n ≡ node
    → Leaves c u (if_up node (λ x. asking n (input.Client address client port) (refusal_at c address node))) later
    → IsAnsweredBy S ms (event.Client n address client port) later (skip_president n (is_up n ms) (member_of n ms))
client_so c S ms n address client port Down u later k at leaves =
    subst (λ b. IsAnsweredBy S ms (event.Client n address client port) later (skip_president n b (member_of n ms))) (sym k.lines) leaves
client_so c S ms n address client port (Up x) u later k at leaves = up_so c S ms n address client port x u later k at leaves

-- ---- each line

-- what is known of a scene
pub record ClientFacts (s : Scene) : Type 0 where
  pub lines : (n : ℕ) → NodeLines n (s.nodes.node n) s.moments
  pub seated : (n : ℕ) → IsSeated s.moments n (s.nodes.node n)
  pub own : (n : ℕ) → OwnPresident n (s.nodes.node n)
  pub presides : (n : ℕ) → NodePresides n (s.nodes.node n)

event_so : (c : Cluster) (S : Setting) (s : Scene) (e : Event) (later : List Moment) → ClientFacts s → Leaves c (happened c s (Speaks e)) (brings c (happened c s (Speaks e)) e) later
    → ClientIsAnswered S s.moments (Said (line.Event e)) later
event_so c S s (event.Client n address client port) later f leaves =
    client_so c S s.moments n address client port (s.nodes.node n) (happened c s (Speaks (event.Client n address client port))) later
    (record { lines = f.lines n; seated = f.seated n; own = f.own n; presides = f.presides n }) refl leaves
event_so c S s _ later f leaves = tt

pub clients_open : (c : Cluster) (S : Setting) → Opening (ClientIsAnswered S) c ClientFacts
clients_open c S = record { line = λ s e later f leaves. event_so c S s e later f leaves; part = λ before e later. tt }
