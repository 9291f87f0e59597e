-- As a thing happens, what the lines newly show changes nothing of seizings that have ended, nor of attempts that were counted.
use Rattle.std.specs.Prelude.{ℕ, ◌≡◌, ◌==◌, ◌⊎◌, true, false, List, [], ◌∷◌, Option, None, Some}
use Rattle.std.specs.List.{AllByRecursion, list_any}
use Rattle.std.proofs.Common.{refl, sym, subst, ◌∙◌, inl, inr}
use Rattle.attempt_laws.proofs.Walk.{IsSeizing}
use Rattle.attempt_laws.specs.Asking.{AreApart, AskedBy, DeviceHas, EndedAs as EndedIn, EndedSo, HasEntry, HasIn, entry_numbers, entry_of}
use Rattle.attempt_laws.specs.Staying.{IsBefore}
use Rattle.cl_base.specs.Seizings.{SeizeResult}
use Rattle.cl_base.specs.declared.header.Header.{Header}
use Rattle.cl_base.specs.declared.seizing.SeizeEnd.TheVariants as end
use Rattle.cluster_machine.proofs.Whole.{InOrder}
use Rattle.cluster_machine.specs.Cluster.{Cluster as Whole}
use Rattle.cluster_ties.specs.Ties.{AttemptAt, NodeAt}
use Rattle.cluster_ties.specs.Told.{ToldOf}
use Rattle.cmm_attempt.proofs.Basics.{same_number}
use Rattle.cmm_attempt.specs.Attempts.{AttemptState}
use Rattle.cmm_attempt.specs.declared.phase.Phase.{Phase}
use Rattle.cmm_attempt.specs.declared.phase.Phase.TheVariants.{Choosing, Collecting, Installing, Over, SeizingOthers, SeizingVotes}
use Rattle.cmm_attempt.specs.declared.plan.Plan.{Plan}
use Rattle.cmm_attempt.specs.declared.promised.Promised.{Promised}
use Rattle.cmm_attempt.specs.declared.seizing.Seizing.{Seizing}
use Rattle.cmm_member.specs.Records.{NodeRecord}
use Rattle.device_machine.specs.Sharing.{Sharing}
use Rattle.history.specs.Moment.{Moment}
use Rattle.history.specs.Seizing.{keys_seized}
use Rattle.interconnect.specs.Links.{Links, Packet}
use Rattle.membership_machine.specs.State.{Memberships}
use Rattle.membership_machine.specs.Votes.{Setting}
use Rattle.node_model.specs.declared.cluster.Cluster.{Cluster}
use Rattle.node_model.specs.declared.node.Node.{Node}
use Rattle.node_model.specs.declared.node.Node.TheVariants.{Down, Up}
use Rattle.refinement.proofs.Worlds.{all_found}
use Rattle.run_history.specs.Wholes.{PacketTold}
use Rattle.wire.specs.declared.message.Body.{Body}
use Rattle.wire.specs.declared.message.Body.TheVariants as body
use Rattle.run_seizings.proofs.Progress.{if_not, if_so, no_truth, not_same, same_is}
use Rattle.run_devices.specs.valid.Engaged.{Engaged, SeizersEngaged}
use Rattle.run_devices.specs.installs.Shown.{AttemptIn, AttemptShown, BodyShown, EntryShown, NodeIn, shown_in}
use Rattle.run_devices.proofs.installs.Acts.{MineIn, OptMine}
use Rattle.run_devices.proofs.installs.Asks.{Sought, begins, found_is}
use Rattle.run_devices.proofs.installs.Calls.{NobodyHas}
use Rattle.run_devices.proofs.installs.Dues.{Runs}
use Rattle.run_devices.proofs.installs.Fulls.{found_number}
use Rattle.run_devices.proofs.installs.Links.{AllSay, SaysSo}
use Rattle.run_devices.proofs.installs.News.{NewSeizers}
use Rattle.run_devices.proofs.installs.Turns.{none_choosing, none_collecting, none_installing, none_over}

-- ---- what has ended, and what was counted

-- of a seizing that has ended nothing new is shown
same_ended : (h : Header) (W : Whole) (ms later : List Moment) (k e d : ℕ) → NewSeizers h W ms later → ((W.device d).node k).past.ended e ≡ true
    → keys_seized h k e d later ≡ keys_seized h k e d ms
same_ended h W ms later k e d new ended = by_cases (new k e d)
  where
    by_cases : (keys_seized h k e d later ≡ keys_seized h k e d ms) ⊎ (Runs (W.device d) k e × Engaged (W.device d) k e) → keys_seized h k e d later ≡ keys_seized h k e d ms
    by_cases (inl same) = same
    by_cases (inr runs) = absurd (no_truth (sym runs.0 ∙ ended))

-- .. nor of an attempt that was counted
same_counted : (h : Header) (S : Setting) (W : Whole) (ms later : List Moment) (k e d : ℕ) → InOrder S W → NewSeizers h W ms later → ((W.device d).attempt e).counted ≡ true
    → keys_seized h k e d later ≡ keys_seized h k e d ms
same_counted h S W ms later k e d order new counted = by_cases (new k e d)
  where
    by_cases : (keys_seized h k e d later ≡ keys_seized h k e d ms) ⊎ (Runs (W.device d) k e × Engaged (W.device d) k e) → keys_seized h k e d later ≡ keys_seized h k e d ms
    by_cases (inl same) = same
    by_cases (inr runs) = absurd (no_truth (sym runs.0 ∙ ((order.device d).attempt e).answered k counted runs.1.asked))

-- and all who seized are engaged
pub engaged_later : (h : Header) (W : Whole) (ms later : List Moment) → NewSeizers h W ms later → SeizersEngaged h W ms → SeizersEngaged h W later
engaged_later h W ms later new old k e d keys is = by_cases (new k e d)
  where
    by_cases : (keys_seized h k e d later ≡ keys_seized h k e d ms) ⊎ (Runs (W.device d) k e × Engaged (W.device d) k e) → Engaged (W.device d) k e
    by_cases (inl same) = old k e d keys (sym same ∙ is)
    by_cases (inr runs) = runs.1

-- ---- messages

ended_told : (s : Sharing) (e k : ℕ) (r : SeizeResult) → EndedSo s e k r → (s.node k).past.ended e ≡ true
ended_told s e k (end.Held keys) h = h.0
ended_told s e k (end.NotRegistered keys) h = h.0
ended_told s e k (end.Greater w) h = h.0
ended_told s e k end.Expelled h = h.0
ended_told s e k (end.Contended key) h = h.0
ended_told s e k end.Fault h = h.0

body_begins : (h : Header) (S : Setting) (W : Whole) (M : Memberships) (ms later : List Moment) (from to : ℕ) (b : Body) → InOrder S W → NewSeizers h W ms later → ToldOf W from to b
    → BodyShown (shown_in h ms) M ms from b → BodyShown (shown_in h later) M ms from b
body_begins h S W M ms later from to (body.Seized e d r) order new told (inl counted) = inl counted
body_begins h S W M ms later from to (body.Seized e d r) order new told (inr ended) =
    inr (same_ended h W ms later from e d new (ended_told (W.device d) e from r told) ∙ ended)
body_begins h S W M ms later from to (body.Install i) order new told all =
    ((λ k d keys seized. all.0 k d keys (sym (same_counted h S W ms later k i.epoch d order new (told.0 d)) ∙ seized)), all.1, all.2)
body_begins h S W M ms later from to _ order new told all = tt

packets_begin : (h : Header) (S : Setting) (W : Whole) (M : Memberships) (ms later : List Moment) (xs : List Packet) → InOrder S W → NewSeizers h W ms later → AllByRecursion (PacketTold W) xs
    → AllByRecursion (SaysSo (BodyShown (shown_in h ms) M ms)) xs → AllByRecursion (SaysSo (BodyShown (shown_in h later) M ms)) xs
packets_begin h S W M ms later [] order new told say = tt
packets_begin h S W M ms later (x ∷ xs) order new told say = (
  (λ m is. body_begins h S W M ms later x.from x.to m.body order new (told.0 m is) (say.0 m is)),
  packets_begin h S W M ms later xs order new told.1 say.1,
)

pub links_begin : (h : Header) (S : Setting) (W : Whole) (M : Memberships) (ms later : List Moment) (l : Links) → InOrder S W → NewSeizers h W ms later → AllByRecursion (PacketTold W) l.packets
    → AllSay (BodyShown (shown_in h ms) M ms) l → AllSay (BodyShown (shown_in h later) M ms) l
links_begin h S W M ms later l order new told say = packets_begin h S W M ms later l.packets order new told say

-- ---- attempts

-- each is the one of its device
each_found : (Q : Seizing → Type 0) (es : List Seizing) → AreApart (entry_numbers es) → ((d : ℕ) (x : Seizing) → entry_of es d ≡ Some x → Q x) → AllByRecursion Q es
each_found Q [] apart f = tt
each_found Q (e ∷ es) apart f = (
  f e.attached.device e (if_so (e.attached.device == e.attached.device) (Some e) (entry_of es e.attached.device) (same_is e.attached.device)),
  each_found Q es apart.1
      (λ d x there. f d x (if_not (e.attached.device == d) (Some e) (entry_of es d)
      (not_same e.attached.device d (λ same. no_truth (sym apart.0 ∙ subst (λ z. list_any (λ y. y == z) (entry_numbers es) ≡ true) (sym same) (found_number d es x there)))) ∙ there)),
)

entry_ended : (s : Sharing) (e k : ℕ) (r : SeizeResult) (x : Seizing) → x.seizer ≡ Some k → x.result ≡ Some r → HasEntry s e (Some x) → (s.node k).past.ended e ≡ true
entry_ended s e k r x seizer result has =
    ended_told s e k r (subst (λ o. EndedIn s e k o) result (subst (λ o. AskedBy s e x o) seizer has).ended)

in_seizing : (s : Sharing) (plan : Plan) (promises : List Promised) (devices : List Seizing) (d : ℕ) (phase : Phase) → IsSeizing phase → HasIn s plan promises devices d phase
    → HasEntry s plan.epoch (entry_of devices d)
in_seizing s plan promises devices d SeizingVotes is k = k.1
in_seizing s plan promises devices d SeizingOthers is k = k.1
in_seizing s plan promises devices d Collecting is k = absurd (none_collecting is)
in_seizing s plan promises devices d Choosing is k = absurd (none_choosing is)
in_seizing s plan promises devices d Installing is k = absurd (none_installing is)
in_seizing s plan promises devices d Over is k = absurd (none_over is)

attempt_begins : (h : Header) (S : Setting) (W : Whole) (ms later : List Moment) (a : AttemptState) → InOrder S W → NewSeizers h W ms later → ((d : ℕ) → DeviceHas (W.device d) a d)
    → AttemptShown (shown_in h ms) a → AttemptShown (shown_in h later) a
attempt_begins h S W ms later a order new has k = record {
  seizing = λ is. (
    each_found (EntryShown (shown_in h later) a.plan.epoch) a.devices (has 0).apart
        (λ d x there m r seizer result.
        same_ended h W ms later m a.plan.epoch x.attached.device new
        (subst (λ z. ((W.device z).node m).past.ended a.plan.epoch ≡ true) (sym (same_number x.attached.device d (found_is (λ (e : Seizing). e.attached.device == d) a.devices x there)))
        (entry_ended (W.device d) a.plan.epoch m r x seizer result
        (subst (λ o. HasEntry (W.device d) a.plan.epoch o) there (in_seizing (W.device d) a.plan a.promises a.devices d a.phase is (has d).has))))
        ∙ all_found (EntryShown (shown_in h ms) a.plan.epoch) (λ (e : Seizing). e.attached.device == d) a.devices x (k.seizing is).0 there m r seizer result),
    (k.seizing is).1,
  );
  installing = λ phase j d keys seized. k.installing phase j d keys (sym (same_counted h S W ms later j a.plan.epoch d order new
      (subst (λ p. HasIn (W.device d) a.plan a.promises a.devices d p) phase (has d).has).0) ∙ seized);
}

pub opt_begins : (h : Header) (S : Setting) (W : Whole) (ms later : List Moment) (o : Option AttemptState) → InOrder S W → NewSeizers h W ms later → AttemptAt W o
    → AttemptIn (shown_in h ms) o → AttemptIn (shown_in h later) o
opt_begins h S W ms later None order new at k = tt
opt_begins h S W ms later (Some a) order new at k = attempt_begins h S W ms later a order new at k

pub node_begins : (h : Header) (S : Setting) (c : Cluster) (W : Whole) (ms later : List Moment) (n : ℕ) (disk : NodeRecord) (node : Node) → InOrder S W → NewSeizers h W ms later
    → NodeAt c W n disk node → NodeIn (shown_in h ms) node → NodeIn (shown_in h later) node
node_begins h S c W ms later n disk Down order new at k = tt
node_begins h S c W ms later n disk (Up x) order new at k = opt_begins h S W ms later x.attempt order new at.attempt k

-- ---- the attempt of the node that goes on

clash : true ≡ false → ⊥
clash is = cc

unasked : (h : Header) (W : Whole) (ms : List Moment) (e : ℕ) → SeizersEngaged h W ms → ((d k : ℕ) → ((W.device d).attempt e).asked k ≡ false) → NobodyHas (shown_in h ms) e
unasked h W ms e engaged none k d = by_keys (keys_seized h k e d ms) refl
  where
    by_keys : (o : Option (List ℕ)) → keys_seized h k e d ms ≡ o → keys_seized h k e d ms ≡ None
    by_keys None is = is
    by_keys (Some keys) is = absurd (clash (sym (engaged k e d keys is).asked ∙ none d k))

attempt_mine : (h : Header) (S : Setting) (W : Whole) (ms : List Moment) (high : ℕ) (a : AttemptState) (phase : Phase) → a.phase ≡ phase → InOrder S W → SeizersEngaged h W ms
    → ((d : ℕ) → DeviceHas (W.device d) a d) → AttemptShown (shown_in h ms) a → IsBefore phase
    → (NobodyHas (shown_in h ms) a.plan.epoch) ⊎ ((d : ℕ) → Sought (shown_in h ms) high a.plan.epoch d a)
attempt_mine h S W ms high a Collecting is order engaged has shown before =
    inl (unasked h W ms a.plan.epoch engaged (λ d k. (subst (λ p. HasIn (W.device d) a.plan a.promises a.devices d p) is (has d).has).0.unasked.asked k))
attempt_mine h S W ms high a Choosing is order engaged has shown before =
    inl (unasked h W ms a.plan.epoch engaged (λ d k. (subst (λ p. HasIn (W.device d) a.plan a.promises a.devices d p) is (has d).has).1.asked k))
attempt_mine h S W ms high a SeizingVotes is order engaged has shown before =
    inr (λ d. begins (shown_in h ms) high d (W.device d) a (order.device d) (inl is) (shown.seizing (inl is)).0 (λ k keys seized. engaged k a.plan.epoch d keys seized) (has d))
attempt_mine h S W ms high a SeizingOthers is order engaged has shown before =
    inr (λ d. begins (shown_in h ms) high d (W.device d) a (order.device d) (inr is) (shown.seizing (inr is)).0 (λ k keys seized. engaged k a.plan.epoch d keys seized) (has d))
attempt_mine h S W ms high a Installing is order engaged has shown before = absurd before
attempt_mine h S W ms high a Over is order engaged has shown before = absurd before

opt_mine : (h : Header) (S : Setting) (W : Whole) (ms : List Moment) (high : ℕ) (o : Option AttemptState) → InOrder S W → SeizersEngaged h W ms → AttemptAt W o
    → AttemptIn (shown_in h ms) o → OptMine (shown_in h ms) high o
opt_mine h S W ms high None order engaged at k = tt
opt_mine h S W ms high (Some a) order engaged at k =
    record { before = λ before. attempt_mine h S W ms high a a.phase refl order engaged at k before; shown = k }

pub mine_begins : (h : Header) (S : Setting) (c : Cluster) (W : Whole) (ms : List Moment) (high n : ℕ) (disk : NodeRecord) (node : Node) → InOrder S W → SeizersEngaged h W ms
    → NodeAt c W n disk node → NodeIn (shown_in h ms) node → MineIn (shown_in h ms) high node
mine_begins h S c W ms high n disk Down order engaged at k = tt
mine_begins h S c W ms high n disk (Up x) order engaged at k = opt_mine h S W ms high x.attempt order engaged at.attempt k
