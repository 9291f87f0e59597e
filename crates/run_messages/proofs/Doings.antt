-- Each small step of a node leaves it seated, and its Heartbeats right; so do all of a step.
use Rattle.std.specs.Prelude.{ℕ, ◌≡◌, ◌==◌, ◌&&◌, ◌++◌, Bool, true, false, List, [], ◌∷◌, Option, None, Some, if◌then◌else◌}
use Rattle.std.proofs.Common.{refl, ap, sym, subst, ◌∙◌, arith}
use Rattle.std.proofs.lemmas.List.{append_assoc}
use Rattle.cl_base.specs.Sets.{has}
use Rattle.cmm_attempt.proofs.Basics.{false_true, if_either}
use Rattle.cmm_member.specs.Records.{NodeRecord}
use Rattle.device_queue.specs.Queue.{after_seize}
use Rattle.history.specs.Contents.{Heartbeats}
use Rattle.history.specs.Letters.{Letter, passes}
use Rattle.history.specs.Member.{in_collect, member_of}
use Rattle.history.specs.Names as name
use Rattle.history.specs.Names.{same_name}
use Rattle.node_model.specs.Clusters.{first_valid_of}
use Rattle.node_model.specs.declared.cluster.Cluster.{Cluster}
use Rattle.node_model.specs.declared.node.Node.{Node}
use Rattle.node_model.specs.declared.node.Node.TheVariants.{Down, Up}
use Rattle.node_model.specs.declared.node.UpNode.{UpNode}
use Rattle.node_model.specs.declared.output.Output.{Output}
use Rattle.node_model.specs.declared.output.Output.TheVariants.{Sends}
use Rattle.node_model.specs.Presidents.{sent_to}
use Rattle.node_model.specs.Seats.{record_of, up_with}
use Rattle.node_model.specs.Ticks.{later, ticked_output}
use Rattle.refinement.specs.Doings.{Act, Change, Doing, Site, acted, after_all, changed, effect, first_lines, given_all, gives, gone_line, last_lines, of_node, said, saved_lines, site}
use Rattle.refinement.specs.Doings.Act.{Accepts, Dates, Ends, Gives, Goes_on, Hears, Makes, Minds, Notes, Queues, Spreads, Stores, Takes, Ticks, Waits, Works, Writes}
use Rattle.refinement.specs.Doings.Change.{Promises, Leads as Leads_to, Counts, Installs, Starts, Sits, Distrusts, Admits, Proposes, Acks, Prepares, Commits}
use Rattle.refinement.specs.Doings.Doing.{Comes_up, Does, Forgets, Goes_down, Loses, Saves}
use Rattle.refinement.specs.Guards.{Asks, May, MayAct, MayAll, MayChange, Says}
use Rattle.refinement.specs.Ties.{Delivered}
use Rattle.run_history.proofs.Idle.{if_true, passing_append}
use Rattle.run_history.proofs.Lists.{both}
use Rattle.run_history.proofs.Small.{AllSmall, IsSmall, IsSmallAct, IsSmallChange}
use Rattle.run_history.specs.Scenes.{Scene, passing}
use Rattle.seize.specs.Seizing as seizing
use Rattle.status_report.specs.declared.node_entry.DownCause.{DownCause}
use Rattle.status_report.specs.declared.node_entry.NodeEntry.TheVariants as note
use Rattle.wire.specs.declared.message.Body.{Body}
use Rattle.wire.specs.declared.message.Body.TheVariants as body
use Rattle.run_messages.specs.Laws.{IsSeated, membership_in}
use Rattle.run_messages.specs.Outputs.{AreEven, AreGood, IsStillOutput}
use Rattle.run_messages.specs.Steps.{AreCollected, IsCollected, IsCollectedDoing, Leads, collecting, is_collect}
use Rattle.run_messages.proofs.Beats.{NoBeatOutput, evens_others, passing_others, passing_truthful}
use Rattle.run_messages.proofs.Changes.{Follows, IsSteady, Opens, change_opens, made_steady, steady_follows}
use Rattle.run_messages.proofs.Lines.{evens_still, passing_arrived, passing_still}
use Rattle.run_messages.proofs.Seats.{ended_even, first_even, given_even, rested_seat, spread_even, ticked_still, ticked_truthful, write_even, written_even}

-- ---- outputs that say nothing of members

same_number : (n : ℕ) → (n == n) ≡ true
same_number n = grind arith

evens_lead : (n : ℕ) (x y : UpNode) (os : List Output) (s : Scene) → AreGood n os → AreEven os → membership_in y.seat ≡ membership_in x.seat → IsSeated s.moments n (Up x) → Leads n (Up y) os s
evens_lead n x y os s good even same h = record {
  own = passing_still n n os s (evens_still n os even) ∙ (h ∙ sym same);
  others = λ k ne. evens_still k os even;
  beats = passing_others n os s good (evens_others os even);
}

opens_first : (n : ℕ) (x : UpNode) (os : List Output) (s : Scene) → AreEven os → IsSeated s.moments n (Up x) → Opens n (membership_in x.seat) os s
opens_first n x os s even h = record { own = passing_still n n os s (evens_still n os even) ∙ h; others = λ k ne. evens_still k os even; none = evens_others os even }

opened : (n : ℕ) (y : UpNode) (os : List Output) (s : Scene) → AreGood n os → Opens n (membership_in y.seat) os s → Leads n (Up y) os s
opened n y os s good h = record { own = h.own; others = h.others; beats = passing_others n os s good h.none }

down_leads : (n : ℕ) (os : List Output) (why : DownCause) (s : Scene) → AreGood n (os ++ gone_line n why) → AreEven os → Leads n Down (os ++ gone_line n why) s
down_leads n os why s good even = record {
  own = subst (λ (t : Scene). member_of n t.moments ≡ None) (sym (passing_append n os (gone_line n why) s)) (if_true (n == n) None (member_of n (passing n os s).moments) (same_number n));
  others = λ k ne. both (IsStillOutput k) os (gone_line n why) (evens_still k os even) (λ is. ne (sym is), tt);
  beats = passing_others n (os ++ gone_line n why) s good (both NoBeatOutput os (gone_line n why) (evens_others os even) (tt, tt));
}

-- ---- a change that is saved

both_true : (a b : Bool) → a ≡ true → (a && b) ≡ b
both_true true b h = refl
both_true false b h = absurd (false_true h)

pub collects_after : (n : ℕ) (os : List Output) (s : Scene) → AreGood n os → in_collect n (passing n os s).moments ≡ in_collect n s.moments
collects_after n os s good = ap (λ (o : Option Letter). passes (λ l. same_name l.name name.Collect && (l.to == n)) o) (passing_arrived n os s good)

-- the membership once the record is saved
abbrev saved_so : Bool → Option ℕ → Option ℕ
saved_so b v = if b then None else v

opens_saved : (n : ℕ) (b : Bool) (v : Option ℕ) (os : List Output) (s : Scene) → AreGood n os → in_collect n s.moments ≡ b → Opens n v os s → Opens n (saved_so b v) (os ++ of_node n note.Saved ∷ []) s
opens_saved n b v os s good at h =
    let t : Scene = passing n os s in
    let collects : ((n == n) && in_collect n t.moments) ≡ b = both_true (n == n) (in_collect n t.moments) (same_number n) ∙ (collects_after n os s good ∙ at) in
    record {
      own = subst (λ (z : Scene). member_of n z.moments ≡ saved_so b v) (sym (passing_append n os (of_node n note.Saved ∷ []) s))
          (ap (λ c. if c then None else member_of n t.moments) collects ∙ ap (λ o. saved_so b o) h.own);
      others = λ k ne. both (IsStillOutput k) os (of_node n note.Saved ∷ []) (h.others k ne) (λ is. ne (sym is), tt);
      none = both NoBeatOutput os (of_node n note.Saved ∷ []) h.none (tt, tt);
    }

asked_collects : (p : ℕ) (told : Delivered) → Says (Asks p) told → collecting told ≡ true
asked_collects p None h = absurd h
asked_collects p (Some d) h = asks d.1.body h
  where
    asks : (b : Body) → Asks p b → is_collect b ≡ true
    asks (body.Collect e members) h = refl
    asks _ h = absurd h

-- in the event of no Collect nothing is promised
no_promise : (c : Cluster) (n : ℕ) (told : Delivered) (x : UpNode) (change : Change) → collecting told ≡ false → MayChange c n told x change → IsSteady change
no_promise c n told x (Promises p) nothing may = absurd (false_true (sym nothing ∙ asked_collects p told may.0))
no_promise c n told x (Leads_to p members) nothing may = tt
no_promise c n told x (Counts a k s i) nothing may = tt
no_promise c n told x (Installs s i) nothing may = tt
no_promise c n told x (Starts a k s) nothing may = tt
no_promise c n told x (Sits s e) nothing may = tt
no_promise c n told x (Distrusts d) nothing may = tt
no_promise c n told x (Admits at command a d) nothing may = tt
no_promise c n told x (Proposes s p text) nothing may = tt
no_promise c n told x (Acks s p q left text) nothing may = tt
no_promise c n told x (Prepares s text) nothing may = tt
no_promise c n told x (Commits s) nothing may = tt

only_promise : (c : Cluster) (n : ℕ) (x : UpNode) (change : Change) → IsCollected true change → Follows c n x None change
only_promise c n x (Promises p) h = sym (rested_seat p x x.attempt)
only_promise c n x _ h = absurd h

saved_follows : (c : Cluster) (n : ℕ) (told : Delivered) (x : UpNode) (change : Change) (b : Bool) → collecting told ≡ b → IsCollected b change → MayChange c n told x change
    → Follows c n x (saved_so b (membership_in x.seat)) change
saved_follows c n told x change true at calm may = only_promise c n x change calm
saved_follows c n told x change false at calm may = steady_follows c n told x change (membership_in x.seat) may (no_promise c n told x change at may) refl

pub first_good : (n : ℕ) (os more : List Output) → AreGood n (os ++ more) → AreGood n os
first_good n [] more h = tt
first_good n (o ∷ os) more h = (h.0, first_good n os more h.1)

pub then_good : (n : ℕ) (os more : List Output) → AreGood n (os ++ more) → AreGood n more
then_good n [] more h = h
then_good n (o ∷ os) more h = then_good n os more h.1

after_saved : (n : ℕ) (v : Option ℕ) (os more : List Output) (o : Output) (s : Scene) → Opens n v ((os ++ o ∷ []) ++ more) s → Opens n v (os ++ o ∷ more) s
after_saved n v os more o s h = subst (λ z. Opens n v z s) (append_assoc os (o ∷ []) more) h

saved_leads : (c : Cluster) (n : ℕ) (told : Delivered) (x : UpNode) (change : Change) (s : Scene) → MayChange c n told x change → IsSmallChange change → IsCollected (collecting told) change
    → in_collect n s.moments ≡ collecting told → AreGood n (first_lines n change ++ saved_lines c n x change) → IsSeated s.moments n (Up x)
    → Leads n (Up (changed c n x change)) (first_lines n change ++ saved_lines c n x change) s
saved_leads c n told x change s may small calm at good h =
    let first : List Output = first_lines n change in
    let v : Option ℕ = membership_in x.seat in
    let w : Option ℕ = saved_so (collecting told) v in
    opened n (changed c n x change) (first ++ saved_lines c n x change) s good
    (after_saved n (membership_in (changed c n x change).seat) first (last_lines c n x change) (of_node n note.Saved) s
    (change_opens c n told x change w (first ++ of_node n note.Saved ∷ []) s may small (saved_follows c n told x change (collecting told) refl calm may)
    (opens_saved n (collecting told) v first s (first_good n first (saved_lines c n x change) good) at (opens_first n x first s (first_even n change) h))))

-- ---- acts

act_leads : (c : Cluster) (n : ℕ) (told : Delivered) (x : UpNode) (a : Act) (s : Scene) → MayAct c n told x a → IsSmallAct a → AreGood n (said c n x a) → IsSeated s.moments n (Up x)
    → Leads n (Up (acted c n x a)) (said c n x a) s
act_leads c n told x (Hears from b) s may small good h = evens_lead n x (acted c n x (Hears from b)) [] s tt tt refl h
act_leads c n told x Ticks s may small good h =
    let os : List Output = of_node n note.Ticked ∷ ticked_output c x (later c x) in
    record {
      own = passing_still n n os s (tt, ticked_still n c x) ∙ h;
      others = λ k ne. (tt, ticked_still k c x);
      beats = λ beats. passing_truthful n (membership_in x.seat) os s good (tt, ticked_still n c x) (tt, ticked_truthful c x) h beats;
    }
act_leads c n told x Waits s may small good h = evens_lead n x (acted c n x Waits) [] s tt tt refl h
act_leads c n told x (Goes_on a k) s may small good h = evens_lead n x (acted c n x (Goes_on a k)) [] s tt tt refl h
act_leads c n told x (Ends a e) s may small good h = evens_lead n x (acted c n x (Ends a e)) _ s good (ended_even a.plan.epoch e, tt) refl h
act_leads c n told x (Queues a d kind) s may small good h =
    evens_lead n x (acted c n x (Queues a d kind)) [] s tt tt
    (if_either (λ (z : UpNode). membership_in z.seat ≡ membership_in x.seat) (has a.plan.members n)
    (record x { tasks = after_seize x.tasks d (seizing.begun kind a.plan.epoch a.plan.members n c.id (has (record_of x).valid d)) }) x refl refl) h
act_leads c n told x (Accepts kind e members d) s may small good h = evens_lead n x (acted c n x (Accepts kind e members d)) [] s tt tt refl h
act_leads c n told x (Takes at command a) s may small good h = evens_lead n x (acted c n x (Takes at command a)) _ s good (tt, tt) refl h
act_leads c n told x (Stores d value a) s may small good h = evens_lead n x x _ s good (tt, write_even n x d value a) refl h
act_leads c n told x (Writes to b) s may small good h = evens_lead n x x (Sends to b ∷ []) s good (written_even x b may, tt) refl h
act_leads c n told x (Makes change) s may small good h =
    opened n (changed c n x change) (first_lines n change ++ last_lines c n x change) s good
    (change_opens c n told x change (membership_in x.seat) (first_lines n change) s may.0 small
    (steady_follows c n told x change (membership_in x.seat) may.0 (made_steady c n told x change may.0 may.1) refl) (opens_first n x (first_lines n change) s (first_even n change) h))
act_leads c n told x (Gives os) s may small good h = evens_lead n x x os s good (given_even os small may) refl h
act_leads c n told x (Spreads receivers b) s may small good h = evens_lead n x x (sent_to receivers b) s good (spread_even receivers b (written_even x b may)) refl h
act_leads c n told x (Minds q p) s may small good h = evens_lead n x (acted c n x (Minds q p)) [] s tt tt refl h
act_leads c n told x (Notes from place p) s may small good h = evens_lead n x (acted c n x (Notes from place p)) [] s tt tt refl h
act_leads c n told x (Dates now) s may small good h = evens_lead n x (acted c n x (Dates now)) [] s tt tt refl h
act_leads c n told x (Works w) s may small good h = evens_lead n x (acted c n x (Works w)) [] s tt tt refl h

-- ---- small steps

up_leads : (n : ℕ) (x : UpNode) (s : Scene) → membership_in x.seat ≡ None → Leads n (Up x) (of_node n note.Up ∷ []) s
up_leads n x s is = record {
  own = if_true (n == n) None (member_of n s.moments) (same_number n) ∙ sym is;
  others = λ k ne. (λ same. ne (sym same), tt);
  beats = passing_others n (of_node n note.Up ∷ []) s (tt, tt) (tt, tt);
}

pub doing_leads : (c : Cluster) (n : ℕ) (told : Delivered) (node : Node) (disk : NodeRecord) (d : Doing) (s : Scene) → May c n told (site node disk) d → IsSmall d → IsCollectedDoing (collecting told) d
    → in_collect n s.moments ≡ collecting told → AreGood n (gives c n (site node disk) d) → IsSeated s.moments n node
    → Leads n (effect c n (site node disk) d).node (gives c n (site node disk) d) s
doing_leads c n told Down disk Comes_up s may small calm at good h = up_leads n (up_with n (first_valid_of c n) disk) s refl
doing_leads c n told (Up x) disk Comes_up s may small calm at good h = absurd may
doing_leads c n told node disk (Goes_down why) s may small calm at good h = down_leads n [] why s good tt
doing_leads c n told Down disk (Does a) s may small calm at good h = absurd may
doing_leads c n told (Up x) disk (Does a) s may small calm at good h = act_leads c n told x a s may small good h
doing_leads c n told Down disk (Saves change) s may small calm at good h = absurd may
doing_leads c n told (Up x) disk (Saves change) s may small calm at good h = saved_leads c n told x change s may small calm at good h
doing_leads c n told node disk (Loses change why) s may small calm at good h = down_leads n (first_lines n change) why s good (first_even n change)
doing_leads c n told node disk (Forgets change why) s may small calm at good h = down_leads n (first_lines n change) why s good (first_even n change)

-- one after another
pub all_lead : (c : Cluster) (n : ℕ) (told : Delivered) (x : Site) (ds : List Doing) (s : Scene) → MayAll c n told x ds → AllSmall ds → AreCollected (collecting told) ds
    → in_collect n s.moments ≡ collecting told → AreGood n (given_all c n x ds) → IsSeated s.moments n x.node
    → Leads n (after_all c n x ds).node (given_all c n x ds) s
all_lead c n told x [] s may small calm at good h = record { own = h; others = λ k ne. tt; beats = λ beats. beats }
all_lead c n told x (d ∷ ds) s may small calm at good h =
    let os : List Output = gives c n x d in
    let more : List Output = given_all c n (effect c n x d) ds in
    let t : Scene = passing n os s in
    let here : AreGood n os = first_good n os more good in
    let g : Leads n (effect c n x d).node os s = doing_leads c n told x.node x.disk d s may.0 small.0 calm.0 at here h in
    let r : Leads n (after_all c n (effect c n x d) ds).node more t =
    all_lead c n told (effect c n x d) ds t may.1 small.1 calm.1 (collects_after n os s here ∙ at) (then_good n os more good) g.own in
    record {
      own = subst (λ (z : Scene). IsSeated z.moments n (after_all c n (effect c n x d) ds).node) (sym (passing_append n os more s)) r.own;
      others = λ k ne. both (IsStillOutput k) os more (g.others k ne) (r.others k ne);
      beats = λ beats. subst (λ (z : Scene). Heartbeats z.moments) (sym (passing_append n os more s)) (r.beats (g.beats beats));
    }
