-- Through small steps the last Promise of a node stays of its session, where it promises no other.
use Rattle.std.specs.Prelude.{ℕ, ◌%◌, ◌++◌, ◌≡◌, ◌<◌, ◌⊎◌, false, List, [], ◌∷◌, Some}
use Rattle.std.specs.List.{AllByRecursion}
use Rattle.std.proofs.Common.{refl, sym, ap, subst, ◌∙◌, inl, inr, arith}
use Rattle.ccr_commit.specs.Entries.{all_committed, with_next}
use Rattle.cl_base.specs.Sets.{has, set_without}
use Rattle.cmm_attempt.proofs.Basics.{if_either}
use Rattle.cmm_member.specs.Nodes.{NodeState, with_entries, with_joined, with_valid}
use Rattle.cmm_member.specs.Records.{NodeRecord}
use Rattle.device_queue.specs.Queue.{after_seize}
use Rattle.history.specs.Moment.{Moment}
use Rattle.history.specs.Queue.{shown_valid, valid_in}
use Rattle.node_model.specs.Seats.{record_of, session_of, state_of, with_state}
use Rattle.node_model.specs.declared.cluster.Cluster.{Cluster}
use Rattle.node_model.specs.declared.node.Node.{Node}
use Rattle.node_model.specs.declared.node.Node.TheVariants.{Down, Up}
use Rattle.node_model.specs.declared.node.UpNode.{UpNode}
use Rattle.node_model.specs.declared.output.Output.{Output}
use Rattle.node_model.specs.declared.output.Output.TheVariants.{Sends}
use Rattle.refinement.specs.Doings.{Act, Change, Doing, Site, acted, after_all, changed, effect, given_all, gives, said, site}
use Rattle.refinement.specs.Doings.Act.{Accepts, Dates, Ends, Gives, Goes_on, Hears, Makes, Minds, Notes, Queues, Spreads, Stores, Takes, Ticks, Waits, Works, Writes}
use Rattle.refinement.specs.Doings.Change.{Acks, Admits, Commits, Counts, Distrusts, Installs, Leads, Prepares, Promises, Proposes, Sits, Starts}
use Rattle.refinement.specs.Doings.Doing.{Comes_up, Does, Forgets, Goes_down, Loses, Saves}
use Rattle.refinement.specs.Guards.{May, MayAct, MayAll, MayChange, MayWrite}
use Rattle.refinement.specs.Runs.{Letter, letters_of}
use Rattle.refinement.specs.Ties.{Delivered}
use Rattle.refinement.specs.Worlds.{AllFit, SpelledIfShort}
use Rattle.run_downs.proofs.Packets.{IsNoPacket}
use Rattle.run_history.proofs.Lists.{second}
use Rattle.run_history.proofs.Ups.{same_state}
use Rattle.run_history.proofs.Walk.{passing_append}
use Rattle.run_history.specs.Guards.{Hand, MadeAt, hand_after}
use Rattle.run_history.specs.Scenes.{Scene, passing, posting}
use Rattle.run_seizings.proofs.Acts.{ActMay}
use Rattle.run_seizings.proofs.Asked.{AllMay, DoingMay}
use Rattle.run_seizings.proofs.Changes.{fit_parts}
use Rattle.seize.specs.Seizing as seizing
use Rattle.wire.specs.declared.message.Body.{Body}
use Rattle.wire.specs.declared.message.Body.TheVariants as body
use Rattle.cl_base.specs.declared.header.Header.{Header}
use Rattle.world_model.specs.Sends.{is_sent}
use Rattle.run_outcomes.specs.tasks.Shown.{HasShown}
use Rattle.run_outcomes.proofs.shown.Aside.{made_aside, minor_aside, plain_aside, saved_aside, spread_aside, tick_aside, write_aside}
use Rattle.run_outcomes.proofs.shown.Last.{LastSo, NodeLast, UpLast, aside_mute, last_still, passing_mute, promise_posted}
use Rattle.run_outcomes.proofs.shown.Letters.{AllAside, IsMore, older, one}
use Rattle.run_outcomes.proofs.shown.Walk.{on_all}

-- ---- the session stays

-- no promise to another
abbrev pub IsCalm : Change → Type 0
IsCalm (Promises p) = ⊥
IsCalm _ = Unit {0}

-- it is the same, or its own
abbrev Stays : ℕ → UpNode → UpNode → Type 0
Stays n x y = (session_of y ≡ session_of x) ⊎ (session_of y % 64 ≡ n)

seat_same : (x : UpNode) (s : NodeState) → s ≡ state_of x.seat → s.session ≡ session_of x
seat_same x s is = ap (λ (z : NodeState). z.session) is

with_same : (x : UpNode) (t : NodeState) → t.session ≡ session_of x → (state_of (with_state x.seat t)).session ≡ session_of x
with_same x t is = ap (λ (z : NodeState). z.session) (same_state x.seat t) ∙ is

change_session : (c : Cluster) (n : ℕ) (told : Delivered) (x : UpNode) (ch : Change) → MayChange c n told x ch → IsCalm ch → Stays n x (changed c n x ch)
change_session c n told x (Promises p) may calm = absurd calm
change_session c n told x (Leads p members) may calm = inr may.1
change_session c n told x (Counts a k s i) may calm = inl (seat_same x s (sym (ap state_of may.1)))
change_session c n told x (Installs s i) may calm = inl (seat_same x s (sym (ap state_of may.0)))
change_session c n told x (Starts a k s) may calm = inl (seat_same x s (sym (ap state_of may.1)))
change_session c n told x (Sits s e) may calm = inl (seat_same x s (sym (ap state_of may.0)))
change_session c n told x (Distrusts d) may calm = inl (with_same x (with_valid (state_of x.seat) (set_without (record_of x).valid d)) refl)
change_session c n told x (Admits on command b d) may calm = inl (with_same x (with_joined (state_of x.seat) d) refl)
change_session c n told x (Proposes s p text) may calm = inl (with_same x (with_entries (state_of x.seat) (with_next (record_of x).entries text)) refl)
change_session c n told x (Acks s p q left text) may calm = inl (with_same x (with_entries (state_of x.seat) (all_committed (record_of x).entries)) refl)
change_session c n told x (Prepares s text) may calm = inl (seat_same x s (sym (ap state_of may.0)))
change_session c n told x (Commits s) may calm = inl (seat_same x s (sym (ap state_of may.0)))

made_calm : (ch : Change) → MadeAt ch → IsCalm ch
made_calm (Promises p) m = absurd m
made_calm _ m = tt

act_session : (h : Header) (c : Cluster) (n : ℕ) (told : Delivered) (g : Hand) (x : UpNode) (a : Act) → MayAct c n told x a → ActMay h n told g x a → Stays n x (acted c n x a)
act_session h c n told g x (Makes ch) may at = change_session c n told x ch may.0 (made_calm ch at)
act_session h c n told g x (Queues b d kind) may at =
    if_either (λ y. Stays n x y) (has b.plan.members n) (record x { tasks = after_seize x.tasks d (seizing.begun kind b.plan.epoch b.plan.members n c.id (has (record_of x).valid d)) }) x (inl refl) (inl refl)
act_session h c n told g x _ may at = inl refl

-- ---- with these outputs

-- the node goes on, and the last Promise is as before
goes_still : (L M : List Letter) (n : ℕ) (ms after : List Moment) (x y : UpNode) → IsMore L M → Stays n x y → shown_valid n after ≡ shown_valid n ms → UpLast L n ms x → UpLast M n after y
goes_still L M n ms after x y f (inr own) same h = λ some other. absurd (other own)
goes_still L M n ms after x y f (inl session) same h = λ some other.
    subst (λ e. LastSo M n e after) (sym session) (last_still L M n (session_of x) ms after f same (h (subst (λ e. 0 < e) session some) (λ is. other (ap (λ e. e % 64) session ∙ is))))

-- it sends a Promise of its session
write_last : (L : List Letter) (n to : ℕ) (x : UpNode) (b : Body) (t : Scene) → MayWrite x b → SpelledIfShort (record { sender = n; body = b }) → AllByRecursion IsNoPacket (Sends to b ∷ []) → UpLast L n t.moments x
    → UpLast (one n b ∷ L) n (passing n (Sends to b ∷ []) t).moments x
write_last L n to x (body.Promise p newest members valid flagged committed pending) t may fits none h = λ some other. by_side (h some other) (promise_posted n to b t fits refl)
  where
    b : Body
    b = body.Promise p newest members valid flagged committed pending

    M : List Letter
    M = one n b ∷ L

    given : HasShown M n (session_of x) valid
    given = subst (λ e. HasShown M n e valid) may.1 (record { newest = newest; members = members; flagged = flagged; committed = committed; pending = pending; among = inl (refl, refl) })

    by_side : LastSo L n (session_of x) t.moments
        → (shown_valid n (posting n to (record { sender = n; body = b }) t).moments ≡ valid_in (Some b)) ⊎ (posting n to (record { sender = n; body = b }) t ≡ t) × (is_sent t.links (record { sender = n; body = b }) ≡ false)
        → LastSo M n (session_of x) (posting n to (record { sender = n; body = b }) t).moments
    by_side old (inl posted) = record { valid = valid; shown = given; last = posted }
    by_side old (inr still) = last_still L M n (session_of x) t.moments _ (λ from k z. inr z) (ap (λ (z : Scene). shown_valid n z.moments) still.0) old
write_last L n to x b t may fits none h =
    goes_still L (one n b ∷ L) n t.moments (passing n (Sends to b ∷ []) t).moments x x (λ from k z. inr z) (inl refl) (passing_mute n n (Sends to b ∷ []) t (tt, tt) none) h

-- ---- each small step

abbrev pub CalmDoing : Doing → Type 0
CalmDoing (Saves ch) = IsCalm ch
CalmDoing _ = Unit {0}

abbrev pub LastAfter : List Letter → Cluster → ℕ → Site → Doing → Scene → Type 0
LastAfter L c n x d t = NodeLast (letters_of n (gives c n x d) ++ L) n (passing n (gives c n x d) t).moments (effect c n x d).node

act_last : (h : Header) (L : List Letter) (c : Cluster) (n : ℕ) (told : Delivered) (g : Hand) (x : UpNode) (a : Act) (t : Scene) → MayAct c n told x a → ActMay h n told g x a → AllFit n (said c n x a) → AllByRecursion IsNoPacket (said c n x a)
    → UpLast L n t.moments x → UpLast (letters_of n (said c n x a) ++ L) n (passing n (said c n x a) t).moments (acted c n x a)
act_last h L c n told g x a t may at fits none last = by_act a may at fits none
  where
    still : (a : Act) → MayAct c n told x a → ActMay h n told g x a → AllByRecursion IsNoPacket (said c n x a) → AllAside (said c n x a)
        → UpLast (letters_of n (said c n x a) ++ L) n (passing n (said c n x a) t).moments (acted c n x a)
    still a m k free os =
        goes_still L (letters_of n (said c n x a) ++ L) n t.moments (passing n (said c n x a) t).moments x (acted c n x a) (older n (said c n x a) L) (act_session h c n told g x a m k)
        (passing_mute n n (said c n x a) t (aside_mute (said c n x a) os) free) last

    by_act : (a : Act) → MayAct c n told x a → ActMay h n told g x a → AllFit n (said c n x a) → AllByRecursion IsNoPacket (said c n x a)
        → UpLast (letters_of n (said c n x a) ++ L) n (passing n (said c n x a) t).moments (acted c n x a)
    by_act (Writes to b) m k f free = write_last L n to x b t m f.1 free last
    by_act (Hears from b) m k f free = still (Hears from b) m k free tt
    by_act Ticks m k f free = still Ticks m k free (tt, tick_aside c x)
    by_act Waits m k f free = still Waits m k free tt
    by_act (Goes_on b q) m k f free = still (Goes_on b q) m k free tt
    by_act (Ends b e) m k f free = still (Ends b e) m k free (tt, tt)
    by_act (Queues b d kind) m k f free = still (Queues b d kind) m k free tt
    by_act (Accepts kind e members d) m k f free = still (Accepts kind e members d) m k free tt
    by_act (Takes on command b) m k f free = still (Takes on command b) m k free (tt, tt)
    by_act (Stores d value b) m k f free = still (Stores d value b) m k free (tt, write_aside n x d value b)
    by_act (Makes ch) m k f free = still (Makes ch) m k free (made_aside c n x ch)
    by_act (Gives os) m k f free = still (Gives os) m k free (minor_aside os m)
    by_act (Spreads receivers b) m k f free = still (Spreads receivers b) m k free (spread_aside receivers b (plain_aside b k))
    by_act (Minds q p) m k f free = still (Minds q p) m k free tt
    by_act (Notes from place p) m k f free = still (Notes from place p) m k free tt
    by_act (Dates now_is) m k f free = still (Dates now_is) m k free tt
    by_act (Works w) m k f free = still (Works w) m k free tt

no_session : 0 < 0 → ⊥
no_session k = omega (arith, k)

doing_last : (h : Header) (L : List Letter) (c : Cluster) (n : ℕ) (told : Delivered) (g : Hand) (node : Node) (disk : NodeRecord) (d : Doing) (t : Scene) → May c n told (site node disk) d → DoingMay h n told g (site node disk) d → CalmDoing d
    → AllFit n (gives c n (site node disk) d) → AllByRecursion IsNoPacket (gives c n (site node disk) d) → NodeLast L n t.moments node → LastAfter L c n (site node disk) d t
doing_last h L c n told g (Up x) disk (Does a) t may at calm fits none last = act_last h L c n told g x a t may at fits none last
doing_last h L c n told g (Up x) disk (Saves ch) t may at calm fits none last =
    let os : List Output = gives c n (site (Up x) disk) (Saves ch) in
    goes_still L (letters_of n os ++ L) n t.moments (passing n os t).moments x (changed c n x ch) (older n os L) (change_session c n told x ch may calm) (passing_mute n n os t (aside_mute os (saved_aside c n x ch)) none) last
doing_last h L c n told g (Up x) disk (Loses ch why) t may at calm fits none last = tt
doing_last h L c n told g node disk (Forgets ch why) t may at calm fits none last = tt
doing_last h L c n told g node disk (Goes_down why) t may at calm fits none last = tt
doing_last h L c n told g Down disk Comes_up t may at calm fits none last = λ some other. absurd (no_session some)
doing_last h L c n told g (Up x) disk Comes_up t may at calm fits none last = absurd may
doing_last h L c n told g Down disk (Does a) t may at calm fits none last = absurd may
doing_last h L c n told g Down disk (Saves ch) t may at calm fits none last = absurd may
doing_last h L c n told g Down disk (Loses ch why) t may at calm fits none last = absurd may

-- ---- one after another

abbrev pub AllCalm : List Doing → Type 0
AllCalm ds = AllByRecursion CalmDoing ds

-- after all of these
abbrev pub LastAll : List Letter → Cluster → ℕ → Site → List Doing → Scene → Type 0
LastAll L c n x ds t = NodeLast (on_all n c x ds L) n (passing n (given_all c n x ds) t).moments (after_all c n x ds).node

first_part : (xs ys : List Output) → AllByRecursion IsNoPacket (xs ++ ys) → AllByRecursion IsNoPacket xs
first_part [] ys h = tt
first_part (x ∷ xs) ys h = (h.0, first_part xs ys h.1)

-- the first, and then the others
pub then_last : (L : List Letter) (c : Cluster) (n : ℕ) (x : Site) (d : Doing) (ds : List Doing) (t : Scene) → LastAll (letters_of n (gives c n x d) ++ L) c n (effect c n x d) ds (passing n (gives c n x d) t) → LastAll L c n x (d ∷ ds) t
then_last L c n x d ds t h =
    subst (λ (z : Scene). NodeLast (on_all n c (effect c n x d) ds (letters_of n (gives c n x d) ++ L)) n z.moments (after_all c n (effect c n x d) ds).node)
    (sym (passing_append n (gives c n x d) (given_all c n (effect c n x d) ds) t)) h

pub record Parts (c : Cluster) (n : ℕ) (x : Site) (d : Doing) (ds : List Doing) : Type 0 where
  pub first_fits : AllFit n (gives c n x d)
  pub rest_fits : AllFit n (given_all c n (effect c n x d) ds)
  pub first_free : AllByRecursion IsNoPacket (gives c n x d)
  pub rest_free : AllByRecursion IsNoPacket (given_all c n (effect c n x d) ds)

pub parts_of : (c : Cluster) (n : ℕ) (x : Site) (d : Doing) (ds : List Doing) → AllFit n (given_all c n x (d ∷ ds)) → AllByRecursion IsNoPacket (given_all c n x (d ∷ ds)) → Parts c n x d ds
parts_of c n x d ds fits none =
    let both : AllFit n (gives c n x d) × AllFit n (given_all c n (effect c n x d) ds) = fit_parts n (gives c n x d) (given_all c n (effect c n x d) ds) fits in
    record {
      first_fits = both.0;
      rest_fits = both.1;
      first_free = first_part (gives c n x d) (given_all c n (effect c n x d) ds) none;
      rest_free = second IsNoPacket (gives c n x d) (given_all c n (effect c n x d) ds) none;
    }

pub all_last : (h : Header) (L : List Letter) (c : Cluster) (n : ℕ) (told : Delivered) (g : Hand) (x : Site) (ds : List Doing) (t : Scene) → MayAll c n told x ds → AllMay h c n told g x ds → AllCalm ds
    → AllFit n (given_all c n x ds) → AllByRecursion IsNoPacket (given_all c n x ds) → NodeLast L n t.moments x.node → LastAll L c n x ds t
all_last h L c n told g x [] t may at calm fits none last = last
all_last h L c n told g x (d ∷ ds) t may at calm fits none last =
    let p : Parts c n x d ds = parts_of c n x d ds fits none in
    then_last L c n x d ds t
    (all_last h (letters_of n (gives c n x d) ++ L) c n told (hand_after g d) (effect c n x d) ds (passing n (gives c n x d) t) may.1 at.1 calm.1 p.rest_fits p.rest_free
    (doing_last h L c n told g x.node x.disk d t may.0 at.0 calm.0 p.first_fits p.first_free last))
