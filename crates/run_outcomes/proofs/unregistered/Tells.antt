-- What a node tells of keys that are not registered, and what it has then.
use Rattle.std.specs.Prelude.{ℕ, ◌%◌, ◌≡◌, ◌≢◌, ◌<◌, ◌≤◌, ◌⊎◌, ◌++◌, List, [], ◌∷◌, Option, None, Some}
use Rattle.std.specs.List.{AllByRecursion}
use Rattle.std.proofs.Common.{refl, sym, ap, subst, ◌∙◌, inl, inr, arith}
use Rattle.cl_base.specs.Seizings.{SeizeResult}
use Rattle.cl_base.specs.declared.header.Header.{Header}
use Rattle.cl_base.specs.declared.seizing.SeizeEnd.TheVariants.{Fault, NotRegistered}
use Rattle.cmm_attempt.specs.Attempts.{AttemptState}
use Rattle.cmm_member.specs.Records.{NodeRecord}
use Rattle.node_model.specs.Seats.{promised_of, record_of, session_of}
use Rattle.node_model.specs.Ticks.{later, ticked_output}
use Rattle.node_model.specs.declared.cluster.Cluster.{Cluster}
use Rattle.node_model.specs.declared.node.Node.{Node}
use Rattle.node_model.specs.declared.node.Node.TheVariants.{Down, Up}
use Rattle.node_model.specs.declared.node.UpNode.{UpNode}
use Rattle.node_model.specs.declared.output.Output.{Output}
use Rattle.node_model.specs.declared.output.Output.TheVariants.{Sends, Tells}
use Rattle.refinement.specs.Doings.{Act, Site, acted, said, site}
use Rattle.refinement.specs.Doings.Act.{Accepts, Dates, Ends, Gives, Goes_on, Hears, Makes, Minds, Notes, Queues, Spreads, Stores, Takes, Ticks, Waits, Works, Writes}
use Rattle.refinement.specs.Guards.{MayAct}
use Rattle.refinement.specs.Runs.{Letter, letters_of}
use Rattle.refinement.specs.Ties.{Delivered}
use Rattle.run_history.specs.Guards.{AtWrite, Hand, hand_by}
use Rattle.run_history.specs.Marks.{ActSo}
use Rattle.run_seizings.proofs.Acts.{ActMay}
use Rattle.wire.specs.declared.message.Body.{Body}
use Rattle.wire.specs.declared.message.Body.TheVariants as body
use Rattle.run_outcomes.proofs.results.Acted.{plain_mute}
use Rattle.run_outcomes.proofs.results.Calm.{AllMute, IsMute, all_mute, made_mute, minor_calm, spread_calm, ticked_calm, write_calm}
use Rattle.run_outcomes.proofs.results.PathWalk.{made_plain}
use Rattle.run_outcomes.proofs.shown.Letters.{IsMore, older, quorum_more}
use Rattle.run_outcomes.proofs.shown.Now.{Now}
use Rattle.run_outcomes.proofs.unregistered.Acts.{Here, NoneOf, act_kept, hand_acted}
use Rattle.run_outcomes.proofs.unregistered.Tasks.{ended_votes, tasks_with}
use Rattle.run_outcomes.specs.accounts.Unregistered.{AreAsked, AttemptKept, HandKept, NodeKept, SiteKept, TellsSo, UpKept, VotedFor}
use Rattle.run_outcomes.specs.phases.Kept.{In}
use Rattle.run_outcomes.specs.tasks.Shown.{AsksQuorum, HandSent, IsVoteTo}

-- ---- what is given beside

-- it is no Seized
abbrev pub IsOther : Body → Type 0
IsOther (body.Seized e d r) = ⊥
IsOther _ = Unit {0}

abbrev pub GivesOther : Output → Type 0
GivesOther (Tells e) = Unit {0}
GivesOther (Sends to b) = IsOther b

abbrev pub AllOther : List Output → Type 0
AllOther os = AllByRecursion GivesOther os

mute_other : (b : Body) → IsMute b → IsOther b
mute_other (body.Seized e d r) k = absurd k
mute_other _ k = tt

pub muted_other : (os : List Output) → AllMute os → AllOther os
muted_other [] k = tt
muted_other (Tells e ∷ os) k = (tt, muted_other os k.1)
muted_other (Sends to b ∷ os) k = (mute_other b k.0, muted_other os k.1)

tells_before : (n : ℕ) (os : List Output) (L : List Letter) (m e d : ℕ) (keys : List ℕ) → AllOther os → TellsSo (letters_of n os ++ L) m e d keys → TellsSo L m e d keys
tells_before n [] L m e d keys k t = t
tells_before n (Tells e ∷ os) L m p d keys k t = tells_before n os L m p d keys k.1 t
tells_before n (Sends to b ∷ os) L m e d keys k (inl here) = absurd (subst IsOther here.1 k.0)
tells_before n (Sends to b ∷ os) L m e d keys k (inr there) = tells_before n os L m e d keys k.1 there

-- ---- what holds in the step of a node

pub record KeptAt (L : List Letter) (n : ℕ) (x : Site) (g : Hand) : Type 0 where
  pub asked : AreAsked L
  pub here : SiteKept L n x
  pub hand : HandKept g

voted_more : (L M : List Letter) (n q d : ℕ) (x : UpNode) → IsMore L M → VotedFor L n q x.attempt d → VotedFor M n q x.attempt d
voted_more L M n q d x f v = record { asked = λ other. quorum_more L M q d f (v.asked other); own = v.own }

-- with more letters, of which those of the node tell its attempt of devices with votes
attempt_more : (L M : List Letter) (n : ℕ) (o : Option AttemptState) → ((a : AttemptState) → o ≡ Some a → (d : ℕ) (keys : List ℕ) → TellsSo M n a.plan.epoch d keys → TellsSo L n a.plan.epoch d keys ⊎ IsVoteTo a d)
    → In (AttemptKept L n) o → In (AttemptKept M n) o
attempt_more L M n None f k = tt
attempt_more L M n (Some a) f k = record { entries = k.entries; own = λ d keys t. by_side d keys (f a refl d keys t) }
  where
    by_side : (d : ℕ) (keys : List ℕ) → TellsSo L n a.plan.epoch d keys ⊎ IsVoteTo a d → IsVoteTo a d
    by_side d keys (inl old) = k.own d keys old
    by_side d keys (inr new) = new

up_more : (L M : List Letter) (n : ℕ) (x : UpNode) → IsMore L M
    → ((a : AttemptState) → x.attempt ≡ Some a → (d : ℕ) (keys : List ℕ) → TellsSo M n a.plan.epoch d keys → TellsSo L n a.plan.epoch d keys ⊎ IsVoteTo a d) → UpKept L n x → UpKept M n x
up_more L M n x f own k = record {
  tasks = tasks_with L M n (session_of x) (session_of x) x.attempt x.attempt x.tasks (λ d v. voted_more L M n (session_of x) d x f v) k.tasks;
  attempt = attempt_more L M n x.attempt own k.attempt;
}

node_more : (L M : List Letter) (n : ℕ) (node : Node) → IsMore L M → ((e d : ℕ) (keys : List ℕ) → TellsSo M n e d keys → TellsSo L n e d keys) → NodeKept L n node → NodeKept M n node
node_more L M n Down f g k = tt
node_more L M n (Up x) f g k = up_more L M n x f (λ a is d keys t. inl (g a.plan.epoch d keys t)) k

-- no Seized more
pub site_more : (L M : List Letter) (n : ℕ) (x : Site) → IsMore L M → ((e d : ℕ) (keys : List ℕ) → TellsSo M n e d keys → TellsSo L n e d keys) → SiteKept L n x → SiteKept M n x
site_more L M n x f g k = record { low = λ e d keys t. k.low e d keys (g e d keys t); up = node_more L M n x.node f g k.up }

pub kept_more : (L M : List Letter) (n : ℕ) (x : Site) (g : Hand) → IsMore L M → ((m e d : ℕ) (keys : List ℕ) → TellsSo M m e d keys → TellsSo L m e d keys) → KeptAt L n x g → KeptAt M n x g
kept_more L M n x g f back k = record {
  asked = λ m e d keys other t. quorum_more L M e d f (k.asked m e d keys other (back m e d keys t));
  here = site_more L M n x f (λ e d keys t. back n e d keys t) k.here;
  hand = k.hand;
}

pub after_other : (L : List Letter) (n : ℕ) (x : Site) (g : Hand) (os : List Output) → AllOther os → KeptAt L n x g → KeptAt (letters_of n os ++ L) n x g
after_other L n x g os other k = kept_more L (letters_of n os ++ L) n x g (older n os L) (λ m e d keys t. tells_before n os L m e d keys other t) k

-- ---- how a seizing ended is told

no_fault : (keys : List ℕ) → NotRegistered keys ≡ Fault → ⊥
no_fault keys e = cc

tells_after : (L : List Letter) (n : ℕ) (told : Delivered) (x : UpNode) (disk : NodeRecord) (g : Hand) (to e d : ℕ) (r : SeizeResult) → AtWrite told g x to (body.Seized e d r) → record_of x ≡ disk → session_of x ≤ promised_of x
    → KeptAt L n (site (Up x) disk) g → KeptAt (letters_of n (Sends to (body.Seized e d r) ∷ []) ++ L) n (site (Up x) disk) g
tells_after L n told x disk g to e d r at same low k = record {
  asked = λ m p i keys other t. asked_so m p i keys other t;
  here = record {
    low = λ p i keys t. low_so p i keys t;
    up = up_more L M n x f (λ a is i keys t. own_so a is i keys t) k.here.up;
  };
  hand = k.hand;
}
  where
    M : List Letter
    M = letters_of n (Sends to (body.Seized e d r) ∷ []) ++ L

    f : IsMore L M
    f = older n (Sends to (body.Seized e d r) ∷ []) L

    voted : (p i : ℕ) (keys : List ℕ) → body.Seized e d r ≡ body.Seized p i (NotRegistered keys) → (p ≡ session_of x) × VotedFor L n (session_of x) x.attempt i
    voted p i keys is = by_side (subst (AtWrite told g x to) is at)
      where
        by_side : AtWrite told g x to (body.Seized p i (NotRegistered keys)) → (p ≡ session_of x) × VotedFor L n (session_of x) x.attempt i
        by_side (inl ended) = (ended.0, ended_votes L n (session_of x) i x.attempt keys x.tasks ended.1 k.here.up.tasks)
        by_side (inr fault) = absurd (no_fault keys fault.0)

    asked_so : (m p i : ℕ) (keys : List ℕ) → p % 64 ≢ m → TellsSo M m p i keys → AsksQuorum M p i
    asked_so m p i keys other (inl here) =
        let v : (p ≡ session_of x) × VotedFor L n (session_of x) x.attempt i = voted p i keys here.1 in
        quorum_more L M p i f (subst (λ q. AsksQuorum L q i) (sym v.0) (v.1.asked (λ own. other (ap (λ q. q % 64) v.0 ∙ (own ∙ here.0)))))
    asked_so m p i keys other (inr there) = quorum_more L M p i f (k.asked m p i keys other there)

    low_so : (p i : ℕ) (keys : List ℕ) → TellsSo M n p i keys → p ≤ disk.promised
    low_so p i keys (inl here) = subst (λ (z : NodeRecord). p ≤ z.promised) same (subst (λ q. q ≤ promised_of x) (sym (voted p i keys here.1).0) low)
    low_so p i keys (inr there) = k.here.low p i keys there

    own_so : (a : AttemptState) → x.attempt ≡ Some a → (i : ℕ) (keys : List ℕ) → TellsSo M n a.plan.epoch i keys → TellsSo L n a.plan.epoch i keys ⊎ IsVoteTo a i
    own_so a is i keys (inl here) = inr (subst (In (λ z. IsVoteTo z i)) is (voted a.plan.epoch i keys here.1).1.own)
    own_so a is i keys (inr there) = inl there

-- ---- each act

pub in_step : (L : List Letter) (n : ℕ) (told : Delivered) (x : UpNode) (disk : NodeRecord) (g : Hand) → HandSent L told → Now L n (site (Up x) disk) g → KeptAt L n (site (Up x) disk) g → Here L n told x
in_step L n told x disk g sent now k = record { asked = k.asked; sent = sent; so = now.here.up.1; kept = k.here.up }

-- what it told is of numbers that it has promised
pub none_above : (L : List Letter) (n : ℕ) (x : UpNode) (disk : NodeRecord) (g : Hand) → record_of x ≡ disk → KeptAt L n (site (Up x) disk) g → (p : ℕ) → promised_of x < p → NoneOf L n p
none_above L n x disk g same k p above d keys t = too_low (promised_of x) p above (subst (λ (z : NodeRecord). p ≤ z.promised) (sym same) (k.here.low p d keys t))
  where
    too_low : (a b : ℕ) → a < b → b ≤ a → ⊥
    too_low a b i j = omega (arith, i, j)

pub act_done : (h : Header) (L : List Letter) (c : Cluster) (n : ℕ) (told : Delivered) (g : Hand) (x : UpNode) (disk : NodeRecord) (a : Act) → HandSent L told → MayAct c n told x a → ActMay h n told g x a → ActSo a
    → Now L n (site (Up x) disk) g → KeptAt L n (site (Up x) disk) g → KeptAt (letters_of n (said c n x a) ++ L) n (site (Up (acted c n x a)) disk) (hand_by g a)
act_done h L c n told g x disk a sent may at so now k = by_act a may at so
  where
    other : (b : Act) → MayAct c n told x b → ActMay h n told g x b → AllOther (said c n x b) → KeptAt (letters_of n (said c n x b) ++ L) n (site (Up (acted c n x b)) disk) (hand_by g b)
    other b m l os =
        after_other L n (site (Up (acted c n x b)) disk) (hand_by g b) (said c n x b) os (record {
          asked = k.asked;
          here = record { low = k.here.low; up = act_kept h L c n told g x b m l k.hand (none_above L n x disk g now.here.up.0 k) (in_step L n told x disk g sent now k) };
          hand = hand_acted L c n told g x b m now.here.up.1 k.hand;
        })

    by_body : (to : ℕ) (b : Body) → MayAct c n told x (Writes to b) → ActMay h n told g x (Writes to b) → KeptAt (letters_of n (Sends to b ∷ []) ++ L) n (site (Up x) disk) g
    by_body to (body.Seized e d r) m l = tells_after L n told x disk g to e d r l now.here.up.0 now.here.up.1.session k
    by_body to (body.Heartbeat promised session is_member) m l = other (Writes to (body.Heartbeat promised session is_member)) m l (tt, tt)
    by_body to (body.Collect e members) m l = other (Writes to (body.Collect e members)) m l (tt, tt)
    by_body to (body.Promise e newest members valid flagged committed pending) m l = other (Writes to (body.Promise e newest members valid flagged committed pending)) m l (tt, tt)
    by_body to (body.Nack e promised) m l = other (Writes to (body.Nack e promised)) m l (tt, tt)
    by_body to (body.SeizeQuorum e members d) m l = other (Writes to (body.SeizeQuorum e members d)) m l (tt, tt)
    by_body to (body.SeizeData e members d) m l = other (Writes to (body.SeizeData e members d)) m l (tt, tt)
    by_body to (body.Install i) m l = other (Writes to (body.Install i)) m l (tt, tt)
    by_body to (body.Ready e joined report) m l = other (Writes to (body.Ready e joined report)) m l (tt, tt)
    by_body to (body.Start e) m l = other (Writes to (body.Start e)) m l (tt, tt)
    by_body to (body.Prepare e place text) m l = other (Writes to (body.Prepare e place text)) m l (tt, tt)
    by_body to (body.Prepared e place) m l = other (Writes to (body.Prepared e place)) m l (tt, tt)
    by_body to (body.Commit e place) m l = other (Writes to (body.Commit e place)) m l (tt, tt)
    by_body to (body.Order o) m l = other (Writes to (body.Order o)) m l (tt, tt)
    by_body to (body.Done e number outcome) m l = other (Writes to (body.Done e number outcome)) m l (tt, tt)
    by_body to (body.Request e number text) m l = other (Writes to (body.Request e number text)) m l (tt, tt)
    by_body to (body.Answer e number text) m l = other (Writes to (body.Answer e number text)) m l (tt, tt)
    by_body to (body.Excluded e newest) m l = other (Writes to (body.Excluded e newest)) m l (tt, tt)

    by_act : (b : Act) → MayAct c n told x b → ActMay h n told g x b → ActSo b → KeptAt (letters_of n (said c n x b) ++ L) n (site (Up (acted c n x b)) disk) (hand_by g b)
    by_act (Writes to b) m l o = by_body to b m l
    by_act (Hears from b) m l o = other (Hears from b) m l tt
    by_act Ticks m l o = other Ticks m l (tt, muted_other _ (all_mute (ticked_output c x (later c x)) (ticked_calm c x (later c x))))
    by_act Waits m l o = other Waits m l tt
    by_act (Goes_on b q) m l o = other (Goes_on b q) m l tt
    by_act (Ends b e) m l o = other (Ends b e) m l (tt, tt)
    by_act (Queues b d kind) m l o = other (Queues b d kind) m l tt
    by_act (Accepts kind e members d) m l o = other (Accepts kind e members d) m l tt
    by_act (Takes on command b) m l o = other (Takes on command b) m l (tt, tt)
    by_act (Stores d value b) m l o = other (Stores d value b) m l (tt, muted_other _ (all_mute _ (write_calm n x d value b)))
    by_act (Makes ch) m l o = other (Makes ch) m l (muted_other _ (made_mute c n x ch (made_plain ch l)))
    by_act (Gives os) m l o = other (Gives os) m l (muted_other os (all_mute os (minor_calm os o m)))
    by_act (Spreads receivers b) m l o = other (Spreads receivers b) m l (muted_other _ (all_mute _ (spread_calm receivers b (plain_mute b l))))
    by_act (Minds q p) m l o = other (Minds q p) m l tt
    by_act (Notes from place p) m l o = other (Notes from place p) m l tt
    by_act (Dates second) m l o = other (Dates second) m l tt
    by_act (Works w) m l o = other (Works w) m l tt
