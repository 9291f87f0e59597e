-- A president sends updates of the log of its membership, which are no bad list.
use Rattle.std.specs.Prelude.{ℕ, zero, suc, ◌+◌, ◌≡◌, ◌≢◌, ◌≤◌, ◌++◌, All, true, List, [], ◌∷◌, length, take, slice_get, Option, None, Some, Ok, Err, IsSome, is_some}
use Rattle.std.specs.List.{AllByRecursion}
use Rattle.std.proofs.Common.{refl, sym, ap, subst, ◌∙◌, arith}
use Rattle.ccr_commit.specs.Entries.{listed, texts_of}
use Rattle.cl_base.specs.Limits.{most_nodes}
use Rattle.cl_base.specs.Numbers.{numbers_to}
use Rattle.cmm_attempt.proofs.Basics.{false_true, if_either}
use Rattle.cmm_attempt.specs.Calls.{IsDevice}
use Rattle.cmm_member.specs.Machine.{ShowsMember}
use Rattle.cmm_member.specs.Nodes.{NodeState}
use Rattle.cmm_member.specs.Records.{NodeRecord}
use Rattle.heartbeats.specs.Views.{receivers_of}
use Rattle.membership_machine.proofs.Growth.{grows_over}
use Rattle.membership_machine.specs.Growth.{Grows}
use Rattle.membership_machine.specs.Invariant.{Fits, Holds}
use Rattle.membership_machine.specs.Records.{Saved}
use Rattle.membership_machine.specs.State.{Memberships}
use Rattle.node_model.specs.Configurations.{configured_at}
use Rattle.node_model.specs.Presidents.{sent_to}
use Rattle.node_model.specs.Seats.{coordinator_of, state_of}
use Rattle.node_model.specs.Ticks.{heartbeat_of, heartbeats_to, later, ticked_output}
use Rattle.node_model.specs.Updates.{request_again, request_again_by, request_again_to}
use Rattle.node_model.specs.declared.cluster.Cluster.{Cluster}
use Rattle.node_model.specs.declared.node.Node.{Node}
use Rattle.node_model.specs.declared.node.Node.TheVariants.{Down, Up}
use Rattle.node_model.specs.declared.node.UpNode.{UpNode}
use Rattle.node_model.specs.declared.output.Output.{Output}
use Rattle.node_model.specs.declared.output.Output.TheVariants.{Sends, Tells}
use Rattle.node_model.specs.declared.presidency.Presidency.{Presidency}
use Rattle.node_model.specs.declared.seat.Seat.{Seat}
use Rattle.node_model.specs.declared.seat.Seat.TheVariants.{Forming, Member}
use Rattle.refinement.proofs.Acts.{does_one}
use Rattle.refinement.proofs.Logs.{LogOf, log_committed, log_of}
use Rattle.refinement.proofs.Presidents.{MemberTied, member_tied}
use Rattle.refinement.proofs.Texts.{one_longer, texts_some}
use Rattle.refinement.proofs.Ties.{known_stays, no_event, outputs_stay, told_append}
use Rattle.refinement.specs.Doings.{Act, Change, Doing, Site, after_all, effect, first_lines, given_all, gives, gone_line, last_lines, said, saved_lines, site, write_lines}
use Rattle.refinement.specs.Doings.Act.{Accepts, Dates, Ends, Gives, Goes_on, Hears, Makes, Minds, Notes, Queues, Spreads, Stores, Takes, Ticks, Waits, Works, Writes}
use Rattle.refinement.specs.Doings.Doing.{Comes_up, Does, Forgets, Goes_down, Loses, Saves}
use Rattle.refinement.specs.Events.{of_doing}
use Rattle.refinement.specs.Guards.{May, MayAct, MayAll, MayPrepare, MayWrite, TellNothing, TellsNothing}
use Rattle.refinement.specs.Ties.{AllTold, Delivered, GoesOn, HasLog, Known, PresidentTied, SiteTied, setting_of}
use Rattle.request_queue.specs.Queue.{goes_again, oldest}
use Rattle.request_queue.specs.declared.request.Request.{Request}
use Rattle.run_history.proofs.Changes.{At}
use Rattle.run_history.proofs.Lists.{both, mapped}
use Rattle.run_commands.proofs.carried.Carried.{IsMute}
use Rattle.run_commands.proofs.carried.Mute.{first_mute, last_mute}
use Rattle.pgr_device.specs.declared.command.PrAnswer.TheVariants as given
use Rattle.seize.specs.Answers.{Answer}
use Rattle.update_log.specs.Logs.{config_after}
use Rattle.wire.specs.declared.message.Body.{Body}
use Rattle.wire.specs.declared.message.Body.TheVariants as body
use Rattle.run_packets.specs.admitted.Logged.{AllLogged, BodyLogged, OutputLogged, PlaceLogged}

-- ---- first parts of lists

take_part : (k n : ℕ) (xs : List (List ℕ)) → k ≤ n → take k (take n xs) ≡ take k xs
take_part zero n xs le = refl
take_part (suc k) zero xs le = absurd (omega (arith, le))
take_part (suc k) (suc n) [] le = refl
take_part (suc k) (suc n) (x ∷ xs) le = ap (λ z. x ∷ z) (take_part k n xs (omega (arith, le)))

pub take_next : (k : ℕ) (xs : List (List ℕ)) (u : List ℕ) → slice_get xs k ≡ Some u → take (suc k) xs ≡ take k xs ++ u ∷ []
take_next zero [] u is = absurd (cc)
take_next zero (x ∷ xs) u is = ap (λ z. z ∷ []) (some_is x u is)
  where
    some_is : (a b : List ℕ) → Some a ≡ Some b → a ≡ b
    some_is a b e = cc
take_next (suc k) [] u is = absurd (cc)
take_next (suc k) (x ∷ xs) u is = ap (λ z. x ∷ z) (take_next k xs u is)

-- a log that goes on at its end has the same first part
grown : (k : ℕ) (part all : List (List ℕ)) → part ≡ take (length part) all → k ≤ length part → take k all ≡ take k part
grown k part all is le = sym (ap (take k) is ∙ take_part k (length part) all le)

up_to : (a b d : ℕ) → a ≤ b → b ≤ d → a ≤ d
up_to a b d h k = omega (arith, h, k)

place_stays : (c : Cluster) (M N : Memberships) (e place : ℕ) → Grows M N → PlaceLogged c M e place → PlaceLogged c N e place
place_stays c M N e place g h = (
  h.0,
  up_to place (length (M.epoch e).log) (length (N.epoch e).log) h.1 (g.epoch e).log_length,
  subst (λ z. is_some (config_after c.header z) ≡ true) (sym (grown place (M.epoch e).log (N.epoch e).log (g.epoch e).log h.1)) h.2,
)

pub body_stays : (c : Cluster) (M N : Memberships) (b : Body) → Grows M N → BodyLogged c M b → BodyLogged c N b
body_stays c M N (body.Prepare e place text) g h = place_stays c M N e place g h
body_stays c M N _ g h = tt

all_stay : (c : Cluster) (M N : Memberships) (os : List Output) → Grows M N → AllLogged c M os → AllLogged c N os
all_stay c M N [] g h = tt
all_stay c M N (Tells e ∷ os) g h = (tt, all_stay c M N os g h.1)
all_stay c M N (Sends to b ∷ os) g h = (body_stays c M N b g h.0, all_stay c M N os g h.1)

-- ---- what a member has of its log

pub record HasPart (c : Cluster) (M : Memberships) (s : NodeState) : Type 0 where
  pub entries : texts_of s.saved.entries ≡ take (length (texts_of s.saved.entries)) (M.epoch s.session).log
  pub within : length (texts_of s.saved.entries) ≤ length (M.epoch s.session).log

pub part_of : (c : Cluster) (M : Memberships) (n : ℕ) (s : NodeState) → Holds (setting_of c) M → ShowsMember s (M.node n) → HasPart c M s
part_of c M n s i h =
    let fits : Fits (M.node n).saved (M.epoch (M.node n).saved.installed) = (i.node n).fits in
    let here : (M.node n).saved.installed ≡ s.session = sym ((i.node n).member_installed h.member) ∙ h.session in
    let same : (M.node n).saved.entries ≡ texts_of s.saved.entries = ap (λ (r : Saved). r.entries) h.saved in
    record {
      entries =
          subst (λ xs. xs ≡ take (length xs) (M.epoch s.session).log) same
          (subst (λ q. (M.node n).saved.entries ≡ take (length (M.node n).saved.entries) (M.epoch q).log) here fits.entries);
      within = subst (λ xs. length xs ≤ length (M.epoch s.session).log) same (subst (λ q. length (M.node n).saved.entries ≤ length (M.epoch q).log) here fits.within);
    }

-- its last update, where one is pending, is of a list that is not bad
last_logged : (c : Cluster) (M : Memberships) (n : ℕ) (s : NodeState) (text : List ℕ) → Holds (setting_of c) M → ShowsMember s (M.node n) → HasLog c s.saved → s.saved.entries.pending ≡ Some text
    → PlaceLogged c M s.session (length (texts_of s.saved.entries))
last_logged c M n s text i h log pending =
    let part : HasPart c M s = part_of c M n s i h in
    let good : LogOf c.header (s.saved.entries.committed ++ listed s.saved.entries.pending) None =
    log_of c (s.saved.entries.committed ++ listed s.saved.entries.pending) None (log_committed c s.saved.entries.committed s.saved.entries.pending log) in (
      some_length s.saved.entries.committed (texts_of s.saved.entries) text (texts_some s.saved.entries text pending),
      part.within,
      subst (λ z. is_some (config_after c.header z) ≡ true) part.entries (ap is_some good.is),
    )
  where
    low : (k : ℕ) → 1 ≤ k + 1
    low k = omega arith

    some_length : (before all : List (List ℕ)) (u : List ℕ) → all ≡ before ++ u ∷ [] → 1 ≤ length all
    some_length before all u is = subst (λ k. 1 ≤ k) (sym (ap length is ∙ one_longer before u)) (low (length before))

-- ---- what a president sends

record MemberAt (seat : Seat) : Type 0 where
  state : NodeState
  is : seat ≡ Member state

member_at : (M : Memberships) (n : ℕ) (o : Option Presidency) (seat : Seat) → IsSome o → PresidentTied M n o seat → MemberAt seat
member_at M n None seat some tied = absurd (false_true some)
member_at M n (Some p) (Forming s) some tied = absurd tied
member_at M n (Some p) (Member s) some tied = record { state = s; is = refl }

prepare_logged : (c : Cluster) (M : Memberships) (n : ℕ) (told : Delivered) (disk : NodeRecord) (x : UpNode) (p place : ℕ) (text : List ℕ) → At c M n told disk x → MayPrepare x p place text
    → PlaceLogged c M p place
prepare_logged c M n told disk x p place text at may =
    let m : MemberAt x.seat = member_at M n x.presidency x.seat may.0 at.tied.1 in
    let t : MemberTied c M n x m.state = member_tied c M n x disk m.state at.tied m.is in
    let last : PlaceLogged c M m.state.session (length (texts_of m.state.saved.entries)) =
    last_logged c M n m.state text at.holds t.shows t.log (subst (λ z. (state_of z).saved.entries.pending ≡ Some text) m.is may.3) in
    subst (λ q. PlaceLogged c M q place) (sym (may.1 ∙ ap (λ z. (state_of z).session) m.is))
    (subst (λ k. PlaceLogged c M m.state.session k) (sym (may.2 ∙ ap (λ z. length (texts_of (state_of z).saved.entries)) m.is)) last)

write_logged : (c : Cluster) (M : Memberships) (n : ℕ) (told : Delivered) (disk : NodeRecord) (x : UpNode) (b : Body) → At c M n told disk x → MayWrite x b → BodyLogged c M b
write_logged c M n told disk x (body.Prepare p place text) at may = prepare_logged c M n told disk x p place text at may
write_logged c M n told disk x _ at may = tt

-- ---- lines, and other messages

append_logged : (c : Cluster) (M : Memberships) (os more : List Output) → AllLogged c M os → AllLogged c M more → AllLogged c M (os ++ more)
append_logged c M os more h k = both (OutputLogged c M) os more h k

mute_logged : (c : Cluster) (M : Memberships) (os : List Output) → AllByRecursion IsMute os → AllLogged c M os
mute_logged c M [] h = tt
mute_logged c M (Tells e ∷ os) h = (tt, mute_logged c M os h.1)
mute_logged c M (Sends to b ∷ os) h = absurd h.0

first_logged : (c : Cluster) (M : Memberships) (n : ℕ) (ch : Change) → AllLogged c M (first_lines n ch)
first_logged c M n ch = mute_logged c M (first_lines n ch) (first_mute n ch)

last_lines_logged : (c : Cluster) (M : Memberships) (n : ℕ) (x : UpNode) (ch : Change) → AllLogged c M (last_lines c n x ch)
last_lines_logged c M n x ch = mute_logged c M (last_lines c n x ch) (last_mute c n x ch)

one_logged : (c : Cluster) (M : Memberships) (to : ℕ) (b : Body) → TellsNothing (Sends to b) → BodyLogged c M b
one_logged c M to (body.Request p number text) h = tt
one_logged c M to (body.Answer p number text) h = tt
one_logged c M to (body.Order o) h = tt
one_logged c M to _ h = absurd h

nothing_logged : (c : Cluster) (M : Memberships) (os : List Output) → TellNothing os → AllLogged c M os
nothing_logged c M [] h = tt
nothing_logged c M (Tells e ∷ os) h = (tt, nothing_logged c M os h.1)
nothing_logged c M (Sends to b ∷ os) h = (one_logged c M to b h.0, nothing_logged c M os h.1)

sent_logged : (c : Cluster) (M : Memberships) (receivers : ℕ) (b : Body) → BodyLogged c M b → AllLogged c M (sent_to receivers b)
unfolding sent_to
sent_logged c M receivers b h = mapped (OutputLogged c M) (λ k. Sends k b) (numbers_to receivers most_nodes) (λ k. h)

beats_logged : (c : Cluster) (M : Memberships) (x : UpNode) (receivers : ℕ) → AllLogged c M (heartbeats_to x receivers)
unfolding heartbeats_to
beats_logged c M x receivers = mapped (OutputLogged c M) (λ k. Sends k (heartbeat_of x)) (numbers_to receivers most_nodes) (λ k. tt)

again_to_logged : (c : Cluster) (M : Memberships) (x : UpNode) (r : Option Request) (o : Option ℕ) → AllLogged c M (request_again_to x r o)
again_to_logged c M x (Some r) (Some president) = (tt, tt)
again_to_logged c M x None o = tt
again_to_logged c M x (Some r) None = tt

again_logged : (c : Cluster) (M : Memberships) (x : UpNode) (o : Option Presidency) → AllLogged c M (request_again_by x o)
again_logged c M x None =
    if_either (AllLogged c M) (goes_again x.requests) (request_again_to x (oldest x.requests) (coordinator_of x)) [] (again_to_logged c M x (oldest x.requests) (coordinator_of x)) tt
again_logged c M x (Some p) = tt

tick_logged : (c : Cluster) (M : Memberships) (x : UpNode) → AllLogged c M (ticked_output c x (later c x))
tick_logged c M x =
    let receivers : ℕ = receivers_of (later c x).beats (configured_at c (later c x)) in
    append_logged c M (heartbeats_to (later c x) receivers) (request_again x) (beats_logged c M (later c x) receivers) (again_logged c M x x.presidency)

stores_logged : (c : Cluster) (M : Memberships) (n : ℕ) (x : UpNode) (d value : ℕ) (a : Answer) → AllLogged c M (write_lines n x d value a)
stores_logged c M n x d value (Ok given.Good) = (tt, tt)
stores_logged c M n x d value (Ok given.Conflict) = (tt, tt)
stores_logged c M n x d value (Ok given.InvalidRelease) = (tt, tt)
stores_logged c M n x d value (Ok given.NoPath) = (tt, tt)
stores_logged c M n x d value (Ok (given.Keys keys)) = (tt, tt)
stores_logged c M n x d value (Ok (given.Holder holder)) = (tt, tt)
stores_logged c M n x d value (Ok (given.Word w)) = (tt, tt)
stores_logged c M n x d value (Ok (given.Value v)) = (tt, tt)
stores_logged c M n x d value (Ok (given.Miscompare w)) = (tt, tt)
stores_logged c M n x d value (Err e) = (tt, tt)

-- ---- each small step

act_logged : (c : Cluster) (M : Memberships) (n : ℕ) (told : Delivered) (disk : NodeRecord) (x : UpNode) (a : Act) → At c M n told disk x → MayAct c n told x a → AllLogged c M (said c n x a)
act_logged c M n told disk x (Writes to b) at may = (write_logged c M n told disk x b at may, tt)
act_logged c M n told disk x (Spreads receivers b) at may = sent_logged c M receivers b (write_logged c M n told disk x b at may)
act_logged c M n told disk x (Gives os) at may = nothing_logged c M os may
act_logged c M n told disk x (Makes ch) at may = append_logged c M (first_lines n ch) (last_lines c n x ch) (first_logged c M n ch) (last_lines_logged c M n x ch)
act_logged c M n told disk x Ticks at may = (tt, tick_logged c M x)
act_logged c M n told disk x (Stores d value a) at may = (tt, stores_logged c M n x d value a)
act_logged c M n told disk x (Ends a e) at may = (tt, tt)
act_logged c M n told disk x (Takes on command a) at may = (tt, tt)
act_logged c M n told disk x (Hears from b) at may = tt
act_logged c M n told disk x Waits at may = tt
act_logged c M n told disk x (Goes_on a k) at may = tt
act_logged c M n told disk x (Queues a d kind) at may = tt
act_logged c M n told disk x (Accepts kind e members d) at may = tt
act_logged c M n told disk x (Minds q p) at may = tt
act_logged c M n told disk x (Notes from place p) at may = tt
act_logged c M n told disk x (Dates now) at may = tt
act_logged c M n told disk x (Works w) at may = tt

one_logs : (c : Cluster) (M : Memberships) (n : ℕ) (told : Delivered) (node : Node) (disk : NodeRecord) (d : Doing) → Holds (setting_of c) M → Known M told → SiteTied c M n (site node disk)
    → May c n told (site node disk) d → AllLogged c M (gives c n (site node disk) d)
one_logs c M n told node disk Comes_up i known tied may = (tt, tt)
one_logs c M n told node disk (Goes_down why) i known tied may = (tt, tt)
one_logs c M n told Down disk (Does a) i known tied may = absurd may
one_logs c M n told (Up x) disk (Does a) i known tied may = act_logged c M n told disk x a (record { holds = i; known = known; tied = tied }) may
one_logs c M n told Down disk (Saves ch) i known tied may = absurd may
one_logs c M n told (Up x) disk (Saves ch) i known tied may = append_logged c M (first_lines n ch) (saved_lines c n x ch) (first_logged c M n ch) (tt, last_lines_logged c M n x ch)
one_logs c M n told node disk (Loses ch why) i known tied may = append_logged c M (first_lines n ch) (gone_line n why) (first_logged c M n ch) (tt, tt)
one_logs c M n told node disk (Forgets ch why) i known tied may = append_logged c M (first_lines n ch) (gone_line n why) (first_logged c M n ch) (tt, tt)

-- ---- all of them

pub record Went (c : Cluster) (M : Memberships) (n : ℕ) (y : Site) (os : List Output) : Type 0 where
  pub machine : Memberships
  pub holds : Holds (setting_of c) machine
  pub grows : Grows M machine
  pub tied : SiteTied c machine n y
  pub others : (k : ℕ) → k ≢ n → machine.node k ≡ M.node k
  pub said : AllTold machine n os
  pub logged : AllLogged c machine os

pub all_went : (c : Cluster) (M : Memberships) (n : ℕ) (told : Delivered) (x : Site) (ds : List Doing) → All IsDevice c.attached → Holds (setting_of c) M → Known M told → SiteTied c M n x
    → MayAll c n told x ds → Went c M n (after_all c n x ds) (given_all c n x ds)
all_went c M n told x [] fits i known tied may =
    let g : GoesOn c M n x [] [] = no_event c M n x [] i tied tt in
    record { machine = g.machine; holds = g.holds; grows = g.grows; tied = g.tied; others = g.others; said = tt; logged = tt }
all_went c M n told x (d ∷ ds) fits i known tied may =
    let g : GoesOn c M n (effect c n x d) (gives c n x d) (of_doing n d) = does_one c M n told x d fits i known tied may.0 in
    let h : Went c g.machine n (after_all c n (effect c n x d) ds) (given_all c n (effect c n x d) ds) =
    all_went c g.machine n told (effect c n x d) ds fits g.holds (known_stays c M g.machine told i g.grows known) g.tied may.1 in
    record {
      machine = h.machine;
      holds = h.holds;
      grows = grows_over M g.machine h.machine g.grows h.grows;
      tied = h.tied;
      others = λ k ne. h.others k ne ∙ g.others k ne;
      said = told_append h.machine n (gives c n x d) (given_all c n (effect c n x d) ds) (outputs_stay c g.machine h.machine n (gives c n x d) g.holds h.grows g.said) h.said;
      logged =
          append_logged c h.machine (gives c n x d) (given_all c n (effect c n x d) ds)
          (all_stay c M h.machine (gives c n x d) (grows_over M g.machine h.machine g.grows h.grows) (one_logs c M n told x.node x.disk d i known tied may.0)) h.logged;
    }
