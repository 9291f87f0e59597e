-- What each small step of a node adds to the moments: its deed.
use Rattle.std.specs.Prelude.{ℕ, ◌≡◌, ◌++◌, List, [], ◌∷◌, flat_map, map, Option, None, Some, Ok, Err}
use Rattle.std.proofs.Common.{refl, sym, ap, subst, ◌∙◌}
use Rattle.cl_base.specs.Limits.{most_nodes}
use Rattle.cl_base.specs.Numbers.{numbers_to}
use Rattle.cmm_attempt.specs.Attempts.{AttemptState}
use Rattle.cmm_attempt.specs.Calls.{turn}
use Rattle.cmm_attempt.proofs.Basics.{if_either}
use Rattle.cmm_member.specs.Records.{NodeRecord}
use Rattle.heartbeats.specs.Views.{receivers_of}
use Rattle.pgr_device.specs.declared.command.PrAnswer.TheVariants as given
use Rattle.request_queue.specs.Queue.{goes_again, oldest}
use Rattle.request_queue.specs.declared.request.Request.{Request}
use Rattle.rg_view.specs.States as states
use Rattle.seize.specs.Answers.{Answer}
use Rattle.status_report.specs.declared.node_entry.NodeEntry.TheVariants as note
use Rattle.wire.specs.declared.message.Body.{Body}
use Rattle.history.specs.Deeds.{deeds}
use Rattle.node_model.specs.Attempts.{adopted_line, adopted_lines, adopted_of, adopted_on, is_adopted, starting_as}
use Rattle.node_model.specs.Configurations.{configured_at, in_force}
use Rattle.node_model.specs.Entries.{unknown_line, unknown_lines}
use Rattle.node_model.specs.Presidents.{sent_to}
use Rattle.node_model.specs.Seats.{coordinator_of}
use Rattle.node_model.specs.Ticks.{heartbeat_of, heartbeats_to, later, ticked_output}
use Rattle.node_model.specs.Updates.{request_again, request_again_by, request_again_to}
use Rattle.node_model.specs.declared.cluster.Cluster.{Cluster}
use Rattle.node_model.specs.declared.node.Node.{Node}
use Rattle.node_model.specs.declared.node.Node.TheVariants.{Down, Up}
use Rattle.node_model.specs.declared.node.UpNode.{UpNode}
use Rattle.node_model.specs.declared.output.Output.{Output}
use Rattle.node_model.specs.declared.output.Output.TheVariants.{Sends}
use Rattle.node_model.specs.declared.presidency.Presidency.{Presidency}
use Rattle.refinement.specs.Doings.{Act, Change, Doing, Site, adopted_by, effect, first_lines, given_all, gives, gone_line, last_lines, of_node, said, site, start_lines, superseded_lines, write_lines}
use Rattle.refinement.specs.Doings.Act.{Accepts, Dates, Ends, Gives, Goes_on, Hears, Makes, Minds, Notes, Queues, Spreads, Stores, Takes, Ticks, Waits, Works, Writes}
use Rattle.refinement.specs.Doings.Change.{Acks, Admits, Commits, Counts, Distrusts, Installs, Leads, Prepares, Promises, Proposes, Sits, Starts}
use Rattle.refinement.specs.Doings.Doing.{Comes_up, Does, Forgets, Goes_down, Loses, Saves}
use Rattle.refinement.specs.Guards.{May, MayAll}
use Rattle.refinement.specs.Ties.{Delivered}
use Rattle.run_history.specs.Scenes.{Scene, passing}
use Rattle.run_history.specs.DeedLines.{AreAside, Closed, Passes}
use Rattle.run_history.specs.Marks.{AllSo, DoingSo, deed_in, deed_of, deeds_on, first_deed, start_of}
use Rattle.run_history.proofs.DeedOutputs.{ack_passes, aside_append, asides_pass, both_pass, minors_aside, passing_append, propose_passes, start_passes, stays}

-- ---- what changes say besides

sends_aside : (b : Body) (ns : List ℕ) → AreAside (map (λ k. Sends k b) ns)
sends_aside b [] = tt
sends_aside b (k ∷ ns) = sends_aside b ns

aside_each : {X : Type 0} → (f : X → List Output) (xs : List X) → ((x : X) → AreAside (f x)) → AreAside (flat_map f xs)
aside_each f [] h = tt
aside_each f (x ∷ xs) h = aside_append (f x) (flat_map f xs) (h x) (aside_each f xs h)

superseded_aside : (p : ℕ) (o : Option AttemptState) → AreAside (superseded_lines p o)
superseded_aside p None = tt
superseded_aside p (Some a) = (tt, tt)

unknown_aside : (n : ℕ) (rs : List Request) → AreAside (unknown_lines n rs)
unknown_aside n [] = tt
unknown_aside n (r ∷ rs) = aside_append (unknown_line n r) (unknown_lines n rs) (if_either AreAside r.told _ [] (tt, tt) tt) (unknown_aside n rs)

adopted_aside : (c : Cluster) (a : AttemptState) (y : UpNode) → AreAside (adopted_by c a y)
unfolding adopted_lines
adopted_aside c a y = by_presidency y.presidency
  where
    by_presidency : (o : Option Presidency) → AreAside (adopted_of a.plan.epoch (in_force c y) o)
    by_presidency None = tt
    by_presidency (Some p) =
        aside_each (adopted_on a.plan.epoch p.groups.view (in_force c y).groups.resources) (numbers_to p.groups.view.members most_nodes)
        (λ m. aside_each (λ r. adopted_line a.plan.epoch m r.0 (states.state_of p.groups.view.resources r.0 m)) (in_force c y).groups.resources
        (λ r. if_either AreAside (is_adopted (states.state_of p.groups.view.resources r.0 m)) _ [] (tt, tt) tt))

around : (first middle last : List Output) → AreAside first → AreAside middle → AreAside last → AreAside (first ++ (middle ++ last))
around first middle last f m l = aside_append first (middle ++ last) f (aside_append middle last m l)

aside_change : (c : Cluster) (n : ℕ) (x : UpNode) (ch : Change) (middle : List Output) (s : Scene) → AreAside (first_lines n ch) → AreAside middle → AreAside (last_lines c n x ch)
    → Closed s.moments → Passes s (passing n (first_lines n ch ++ (middle ++ last_lines c n x ch)) s) []
aside_change c n x ch middle s f m l h =
    asides_pass n (first_lines n ch ++ (middle ++ last_lines c n x ch)) s (around (first_lines n ch) middle (last_lines c n x ch) f m l) h

-- a change, with what stands between its first and its last lines
change_passes : (c : Cluster) (n : ℕ) (x : UpNode) (ch : Change) (middle : List Output) (s : Scene) → AreAside middle → Closed s.moments
    → Passes s (passing n (first_lines n ch ++ (middle ++ last_lines c n x ch)) s) (deed_in ch)
change_passes c n x (Promises p) middle s m h =
    aside_change c n x (Promises p) middle s tt m (aside_append (superseded_lines p x.attempt) (unknown_lines n x.requests.waiting) (superseded_aside p x.attempt) (unknown_aside n x.requests.waiting)) h
change_passes c n x (Leads p members) middle s m h = aside_change c n x (Leads p members) middle s tt m (tt, unknown_aside n x.requests.waiting) h
change_passes c n x (Counts a k t i) middle s m h = aside_change c n x (Counts a k t i) middle s tt m (tt, tt) h
change_passes c n x (Installs t i) middle s m h = aside_change c n x (Installs t i) middle s tt m (tt, tt) h
change_passes c n x (Starts a k t) middle s m h =
    let y : AttemptState = (turn a k).after in
    let adopted : List Output = adopted_by c y (starting_as c n x y t) in
    let member : List Output = of_node n (note.Member y.plan.epoch) ∷ [] in
    both_pass n middle (start_lines y t ++ (adopted ++ member)) s [] (start_of y t ∷ []) (asides_pass n middle s m h)
    (λ k. both_pass n (start_lines y t) (adopted ++ member) (passing n middle s) (start_of y t ∷ []) [] (start_passes n y t (passing n middle s) k)
    (λ l. asides_pass n (adopted ++ member) (passing n (start_lines y t) (passing n middle s)) (aside_append adopted member (adopted_aside c y (starting_as c n x y t)) (tt, tt)) l))
change_passes c n x (Sits t e) middle s m h = aside_change c n x (Sits t e) middle s tt m (tt, tt) h
change_passes c n x (Distrusts d) middle s m h = aside_change c n x (Distrusts d) middle s tt m tt h
change_passes c n x (Admits at command a d) middle s m h = aside_change c n x (Admits at command a d) middle s (tt, tt) m tt h
change_passes c n x (Proposes t p text) middle s m h =
    both_pass n (first_lines n (Proposes t p text)) (middle ++ []) s (deed_in (Proposes t p text)) [] (propose_passes n _ _ text s h)
    (λ k. asides_pass n (middle ++ []) (passing n (first_lines n (Proposes t p text)) s) (aside_append middle [] m tt) k)
change_passes c n x (Acks t p q left text) middle s m h =
    both_pass n middle (last_lines c n x (Acks t p q left text)) s [] (deed_in (Acks t p q left text)) (asides_pass n middle s m h) (λ k. ack_passes n _ _ text (passing n middle s) k)
change_passes c n x (Prepares t text) middle s m h = aside_change c n x (Prepares t text) middle s tt m tt h
change_passes c n x (Commits t) middle s m h = aside_change c n x (Commits t) middle s tt m tt h

-- what stands before a save that is lost
lost_passes : (n : ℕ) (ch : Change) (more : List Output) (s : Scene) → AreAside more → Closed s.moments → Passes s (passing n (first_lines n ch ++ more) s) (first_deed ch)
lost_passes n (Promises p) more s m h = asides_pass n more s m h
lost_passes n (Leads p members) more s m h = asides_pass n more s m h
lost_passes n (Counts a k t i) more s m h = asides_pass n more s m h
lost_passes n (Installs t i) more s m h = asides_pass n more s m h
lost_passes n (Starts a k t) more s m h = asides_pass n more s m h
lost_passes n (Sits t e) more s m h = asides_pass n more s m h
lost_passes n (Distrusts d) more s m h = asides_pass n more s m h
lost_passes n (Admits at command a d) more s m h = asides_pass n (first_lines n (Admits at command a d) ++ more) s (tt, m) h
lost_passes n (Proposes t p text) more s m h =
    both_pass n (first_lines n (Proposes t p text)) more s (first_deed (Proposes t p text)) [] (propose_passes n _ _ text s h)
    (λ k. asides_pass n more (passing n (first_lines n (Proposes t p text)) s) m k)
lost_passes n (Acks t p q left text) more s m h = asides_pass n more s m h
lost_passes n (Prepares t text) more s m h = asides_pass n more s m h
lost_passes n (Commits t) more s m h = asides_pass n more s m h

-- ---- acts

write_aside : (n : ℕ) (x : UpNode) (d value : ℕ) (a : Answer) → AreAside (write_lines n x d value a)
write_aside n x d value (Ok given.Good) = (tt, tt)
write_aside n x d value (Ok given.Conflict) = (tt, tt)
write_aside n x d value (Ok given.InvalidRelease) = (tt, tt)
write_aside n x d value (Ok given.NoPath) = (tt, tt)
write_aside n x d value (Ok (given.Keys keys)) = (tt, tt)
write_aside n x d value (Ok (given.Holder holder)) = (tt, tt)
write_aside n x d value (Ok (given.Word w)) = (tt, tt)
write_aside n x d value (Ok (given.Value v)) = (tt, tt)
write_aside n x d value (Ok (given.Miscompare w)) = (tt, tt)
write_aside n x d value (Err e) = (tt, tt)

spread_aside : (receivers : ℕ) (b : Body) → AreAside (sent_to receivers b)
unfolding sent_to
spread_aside receivers b = sends_aside b (numbers_to receivers most_nodes)

beats_aside : (x : UpNode) (receivers : ℕ) → AreAside (heartbeats_to x receivers)
unfolding heartbeats_to
beats_aside x receivers = sends_aside (heartbeat_of x) (numbers_to receivers most_nodes)

again_to_aside : (x : UpNode) (r : Option Request) (o : Option ℕ) → AreAside (request_again_to x r o)
again_to_aside x (Some r) (Some president) = tt
again_to_aside x None o = tt
again_to_aside x (Some r) None = tt

again_by_aside : (x : UpNode) (o : Option Presidency) → AreAside (request_again_by x o)
again_by_aside x None = if_either AreAside (goes_again x.requests) (request_again_to x (oldest x.requests) (coordinator_of x)) [] (again_to_aside x (oldest x.requests) (coordinator_of x)) tt
again_by_aside x (Some p) = tt

tick_aside : (c : Cluster) (x : UpNode) → AreAside (ticked_output c x (later c x))
tick_aside c x =
    aside_append (heartbeats_to (later c x) (receivers_of (later c x).beats (configured_at c (later c x)))) (request_again x)
    (beats_aside (later c x) (receivers_of (later c x).beats (configured_at c (later c x)))) (again_by_aside x x.presidency)

act_passes : (c : Cluster) (n : ℕ) (x : UpNode) (a : Act) (s : Scene) → DoingSo (Does a) → Closed s.moments → Passes s (passing n (said c n x a) s) (deed_of (Does a))
act_passes c n x (Hears from b) s so h = stays s h
act_passes c n x Ticks s so h = asides_pass n (said c n x Ticks) s (tt, tick_aside c x) h
act_passes c n x Waits s so h = stays s h
act_passes c n x (Goes_on a k) s so h = stays s h
act_passes c n x (Ends a e) s so h = asides_pass n (said c n x (Ends a e)) s (tt, tt) h
act_passes c n x (Queues a d kind) s so h = stays s h
act_passes c n x (Accepts kind e members d) s so h = stays s h
act_passes c n x (Takes at command a) s so h = asides_pass n (said c n x (Takes at command a)) s (tt, tt) h
act_passes c n x (Stores d value a) s so h = asides_pass n (said c n x (Stores d value a)) s (tt, write_aside n x d value a) h
act_passes c n x (Writes to b) s so h = asides_pass n (Sends to b ∷ []) s tt h
act_passes c n x (Makes ch) s so h = change_passes c n x ch [] s tt h
act_passes c n x (Gives os) s so h = asides_pass n os s (minors_aside os so) h
act_passes c n x (Spreads receivers b) s so h = asides_pass n (sent_to receivers b) s (spread_aside receivers b) h
act_passes c n x (Minds q p) s so h = stays s h
act_passes c n x (Notes from place p) s so h = stays s h
act_passes c n x (Dates now) s so h = stays s h
act_passes c n x (Works w) s so h = stays s h

-- ---- each small step

doing_passes : (c : Cluster) (n : ℕ) (told : Delivered) (node : Node) (disk : NodeRecord) (d : Doing) (s : Scene) → May c n told (site node disk) d → DoingSo d → Closed s.moments
    → Passes s (passing n (gives c n (site node disk) d) s) (deed_of d)
doing_passes c n told node disk Comes_up s may so h = asides_pass n (gives c n (site node disk) Comes_up) s (tt, tt) h
doing_passes c n told node disk (Goes_down why) s may so h = asides_pass n (gone_line n why) s (tt, tt) h
doing_passes c n told (Up x) disk (Does a) s may so h = act_passes c n x a s so h
doing_passes c n told (Up x) disk (Saves ch) s may so h = change_passes c n x ch (of_node n note.Saved ∷ []) s (tt, tt) h
doing_passes c n told node disk (Loses ch why) s may so h = lost_passes n ch (gone_line n why) s (tt, tt) h
doing_passes c n told node disk (Forgets ch why) s may so h = lost_passes n ch (gone_line n why) s (tt, tt) h
doing_passes c n told Down disk (Does a) s may so h = absurd may
doing_passes c n told Down disk (Saves ch) s may so h = absurd may

-- one after another: the moments are closed again, with these deeds
pub record AllPass (s t : Scene) (ds : List Doing) : Type 0 where
  pub closed : Closed t.moments
  pub deeds : deeds t.moments ≡ deeds_on (deeds s.moments) ds
  pub nodes : t.nodes ≡ s.nodes

pub doings_pass : (c : Cluster) (n : ℕ) (told : Delivered) (x : Site) (ds : List Doing) (s : Scene) → MayAll c n told x ds → AllSo ds → Closed s.moments → AllPass s (passing n (given_all c n x ds) s) ds
doings_pass c n told x [] s may so h = record { closed = h; deeds = refl; nodes = refl }
doings_pass c n told x (d ∷ ds) s may so h =
    let first : List Output = gives c n x d in
    let rest : List Output = given_all c n (effect c n x d) ds in
    let p : Passes s (passing n first s) (deed_of d) = doing_passes c n told x.node x.disk d s may.0 so.0 h in
    let q : AllPass (passing n first s) (passing n rest (passing n first s)) ds = doings_pass c n told (effect c n x d) ds (passing n first s) may.1 so.1 p.adds.closed in
    subst (λ t. AllPass s t (d ∷ ds)) (sym (passing_append n first rest s))
    (record { closed = q.closed; deeds = q.deeds ∙ ap (λ es. deeds_on es ds) p.adds.deeds; nodes = q.nodes ∙ p.nodes })
