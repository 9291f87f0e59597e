-- A president acknowledges an update: its request is open, and what it then owes is acknowledged.
use Rattle.std.specs.Prelude.{ℕ, ◌+◌, ◌≡◌, ◌≢◌, ◌≤◌, ◌++◌, ◌==◌, ◌&&◌, ◌||◌, cond, Bool, true, false, List, [], ◌∷◌, length, Option, None, Some, is_some}
use Rattle.std.specs.List.{AllByRecursion, list_any}
use Rattle.std.proofs.Common.{refl, sym, ap, subst, ◌∙◌, arith, inl, inr}
use Rattle.ccr_commit.specs.Entries.{all_committed, texts_of}
use Rattle.cmm_member.specs.Nodes.{NodeState, with_entries}
use Rattle.proposals.specs.Arrivals.{answer_first, answered}
use Rattle.proposals.specs.Proposing.{is_prepared_in}
use Rattle.proposals.specs.State.{State, first_in, kept_at}
use Rattle.proposals.specs.declared.arrived.Arrived.{Arrived}
use Rattle.proposals.specs.declared.arrived.Proposed.{Proposed}
use Rattle.request_queue.specs.Queue.{Queue}
use Rattle.status_report.specs.CommandLines.{reply_text}
use Rattle.status_report.specs.declared.command_entry.Answer.TheVariants as answer
use Rattle.status_report.specs.declared.entry.Entry.TheVariants as entry
use Rattle.status_report.specs.declared.node_entry.NodeEntry.TheVariants as note
use Rattle.status_report.specs.declared.update_entry.UpdateEntry.TheVariants as update
use Rattle.update_words.specs.Words.{words_of}
use Rattle.history.specs.Moment.{Moment, Told}
use Rattle.history.specs.Requests.{Request, Stage, Waiting, is_request_of, requests_of, same_words}
use Rattle.history.specs.Setting.{Setting}
use Rattle.node_model.specs.Seats.{promised_of, record_of, session_of, state_of}
use Rattle.node_model.specs.declared.cluster.Cluster.{Cluster}
use Rattle.node_model.specs.declared.input.Input.{Input}
use Rattle.node_model.specs.declared.node.UpNode.{UpNode}
use Rattle.node_model.specs.declared.output.Output.{Output}
use Rattle.node_model.specs.declared.output.Output.TheVariants.{Tells}
use Rattle.node_model.specs.declared.presidency.Presidency.{Presidency}
use Rattle.node_model.specs.declared.seat.Seat.TheVariants.{Member}
use Rattle.refinement.proofs.Handlers.{delivered_by}
use Rattle.refinement.specs.Doings.{changed}
use Rattle.refinement.specs.Doings.Change.{Acks}
use Rattle.refinement.specs.Guards.{MayChange}
use Rattle.run_history.specs.Scenes.{Scene, passing}
use Rattle.run_messages.specs.Outputs.{AreGood}
use Rattle.run_messages.proofs.Lines.{passing_arrived}
use Rattle.run_messages.proofs.Seats.{seat_with}
use Rattle.run_commands.specs.carried.Guards.{Command}
use Rattle.run_commands.proofs.carried.Changes.{state_with}
use Rattle.run_commands.specs.acknowledged.Askings.{held, is_it, passes_test}
use Rattle.run_commands.specs.acknowledged.Guards.{CauseOf}
use Rattle.run_commands.specs.acknowledged.Hands.{IsLater, Sound}
use Rattle.run_commands.specs.acknowledged.Steps.{Backed, Hand, HandIn}
use Rattle.run_commands.proofs.acknowledged.Askings.{is_equal, true_two, two_true}
use Rattle.run_commands.proofs.acknowledged.Changes.{seat_state, with_promise}
use Rattle.run_commands.proofs.acknowledged.Granting.{IsAcked, is_open, open_in, open_stays, waits_with}
use Rattle.run_commands.proofs.acknowledged.Hands.{first_of}
use Rattle.run_commands.proofs.acknowledged.Pending.{acked_is}
use Rattle.run_commands.proofs.acknowledged.Carrying.{Around, CameFrom, IsSaving, change_lines}
use Rattle.run_commands.specs.acknowledged.AnsweringGuards.{AcksSo, Due}
use Rattle.run_commands.specs.acknowledged.AnsweringGuards.Due.{Even, Owes}
use Rattle.run_commands.proofs.acknowledged.Own.{FirstIn, FirstSo}
use Rattle.run_commands.proofs.acknowledged.Remote.{IsOpenTo, IsOwed, Remote, RemoteIn, RemoteUp, WaitAll}
use Rattle.run_commands.proofs.acknowledged.Settled.{AcksArePending, AnswersAreSettled}
use Rattle.run_commands.proofs.acknowledged.RemoteActs.{answers_hand}
use Rattle.run_commands.proofs.acknowledged.RemoteFirsts.{remote_firsts}
use Rattle.run_commands.proofs.acknowledged.RemoteGives.{LeavesUp}
use Rattle.run_commands.proofs.acknowledged.RemoteUps.{request_came, up_seen}
use Rattle.run_commands.proofs.acknowledged.Remotes.{slot_here}
use Rattle.run_commands.proofs.acknowledged.AnsweringWalk.{from_stays}

-- ---- a request that waits is open

or_left : (a b : Bool) → a ≡ true → (a || b) ≡ true
or_left true b h = refl
or_left false b h = cc

or_right : (a b : Bool) → b ≡ true → (a || b) ≡ true
or_right true b h = refl
or_right false b h = h

-- among those with these words one waits
held_open : (F : ℕ → ℕ → Type 0) (n q : ℕ) (words : List ℕ) (rs : List Request) → F n q → WaitAll F rs → 1 ≤ held (is_it n q words) rs → list_any (is_open n q words) rs ≡ true
held_open F n q words [] f all h = absurd (none h)
  where
    none : 1 ≤ 0 → ⊥
    none k = omega (arith, k)
held_open F n q words (r ∷ rs) f all h = by (passes_test (is_it n q words) r) refl h (λ k. held_open F n q words rs f all.1 k)
  where
    waits_so : (z : Stage) → r.stage ≡ z → z ≡ Waiting → same_words r.words words ≡ true → waits_with words r.stage r.words ≡ true
    waits_so z at is same = subst (λ y. waits_with words y r.words ≡ true) (sym (at ∙ is)) same

    less : (b : Bool) (k : ℕ) → b ≡ false → 1 ≤ cond b 1 0 + k → 1 ≤ k
    less true k z j = cc
    less false k z j = omega (arith, j)

    by : (b : Bool) → passes_test (is_it n q words) r ≡ b → 1 ≤ held (is_it n q words) (r ∷ rs) → (1 ≤ held (is_it n q words) rs → list_any (is_open n q words) rs ≡ true) → list_any (is_open n q words) (r ∷ rs) ≡ true
    by true is k rest =
        let two : _ = two_true ((r.node == n) && (r.number == q)) (same_words r.words words) is in
        let at : _ = two_true (r.node == n) (r.number == q) two.0 in
        let waits : r.stage ≡ Waiting = all.0 (subst (λ z. F z r.number) (sym (is_equal r.node n at.0)) (subst (λ z. F n z) (sym (is_equal r.number q at.1)) f)) in
        or_left (is_open n q words r) _ (true_two (is_request_of n q r) (waits_with words r.stage r.words) two.0 (waits_so r.stage refl waits two.1))
    by false is k rest = or_right (is_open n q words r) _ (rest (less (passes_test (is_it n q words) r) (held (is_it n q words) rs) is k))

-- ---- the lines of an acknowledgement

-- what its lines leave: what is acknowledged, and each request that is open
pub record AckLines (S : Setting) (e : ℕ) (text : List ℕ) (before after : List Moment) : Type 0 where
  pub acked : IsAcked e text after
  pub opens : (m q : ℕ) (words : List ℕ) → open_in S e m q words before ≡ true → open_in S e m q words after ≡ true

ack_lines : (S : Setting) (n e v : ℕ) (text : List ℕ) (middle : List Output) (s : Scene) → IsSaving n middle
    → (let os : List Output = middle ++ Tells (entry.Update (update.Acknowledged e v text)) ∷ [] in AcksArePending (passing n os s).moments → AckLines S e text s.moments (passing n os s).moments)
ack_lines S n e v text middle s (inl is) =
    subst (λ (z : List Output). AcksArePending (passing n (z ++ Tells (entry.Update (update.Acknowledged e v text)) ∷ []) s).moments
    → AckLines S e text s.moments (passing n (z ++ Tells (entry.Update (update.Acknowledged e v text)) ∷ []) s).moments) (sym is)
    (λ acks. record {
      acked = acked_is e (record { place = v; words = text }) text s.moments acks.0;
      opens = λ m q words h. open_stays S m q e words (Told (entry.Update (update.Acknowledged e v text))) s.moments tt h;
    })
ack_lines S n e v text middle s (inr is) =
    subst (λ (z : List Output). AcksArePending (passing n (z ++ Tells (entry.Update (update.Acknowledged e v text)) ∷ []) s).moments
    → AckLines S e text s.moments (passing n (z ++ Tells (entry.Update (update.Acknowledged e v text)) ∷ []) s).moments) (sym is)
    (λ acks. record {
      acked = acked_is e (record { place = v; words = text }) text (Told (entry.Node n note.Saved) ∷ s.moments) acks.0;
      opens = λ m q words h. open_stays S m q e words (Told (entry.Update (update.Acknowledged e v text))) (Told (entry.Node n note.Saved) ∷ s.moments) tt
          (open_stays S m q e words (Told (entry.Node n note.Saved)) s.moments tt h);
    })

-- ---- what is acknowledged is the first request's

proposed_some : (o : Option Proposed) → is_prepared_in o ≡ true → is_some o ≡ true
proposed_some None h = h
proposed_some (Some pr) h = refl

some_first : (a b : Arrived) → Some a ≡ Some b → a ≡ b
some_first a b e = cc

kept_first : (s : State) (a : Arrived) (text : List ℕ) → Sound s → first_in s.arrived ≡ Some a → kept_at (answered s text).answers a.from ≡ Some (record { number = a.number; text = text })
kept_first s a text sound first = by s.arrived first sound.later
  where
    by : (xs : List Arrived) → first_in xs ≡ Some a → AllByRecursion (IsLater s.answers) xs → kept_at (answer_first s xs text).answers a.from ≡ Some (record { number = a.number; text = text })
    by [] z later = cc
    by (b ∷ rest) z later =
        let l : IsLater s.answers a = subst (IsLater s.answers) (some_first b a z) later.0 in
        subst (λ (y : Arrived). kept_at (answer_first s (y ∷ rest) text).answers a.from ≡ Some (record { number = a.number; text = text })) (sym (some_first b a z))
        (slot_here s.answers a text a.from refl l.low l.high sound.slots)

-- ---- the change, with its lines

pub acks_leaves : (S : Setting) (c : Cluster) (n : ℕ) (i : Input) (v : Option ℕ) (o : Option Command) (h : Option ℕ) (promised : ℕ) (x : UpNode) (z : NodeState) (p : Presidency) (q : Queue) (left : Presidency) (text : List ℕ) (g : Due)
    (middle : List Output) (s : Scene) → Around S c n i v o h promised x s → IsSaving n middle → MayChange c n (delivered_by i) x (Acks z p q left text) → AcksSo c i n v x p left text g
    → AreGood n (change_lines c n x (Acks z p q left text) middle) → AcksArePending (passing n (change_lines c n x (Acks z p q left text) middle) s).moments
    → RemoteUp S c n promised Even x s.links.next s.moments → AnswersAreSettled S c (passing n (change_lines c n x (Acks z p q left text) middle) s).moments
    → RemoteUp S c n promised Even x (passing n (change_lines c n x (Acks z p q left text) middle) s).links.next (passing n (change_lines c n x (Acks z p q left text) middle) s).moments
    → LeavesUp S c n (promised_of (changed c n x (Acks z p q left text))) g (changed c n x (Acks z p q left text)) (change_lines c n x (Acks z p q left text) middle) s
acks_leaves S c n i v o h promised x z p q left text g middle s k saving may so good acks inside told later =
    let y : UpNode = changed c n x (Acks z p q left text) in
    let os : List Output = change_lines c n x (Acks z p q left text) middle in
    let t : Scene = passing n os s in
    let e : ℕ = session_of x in
    let a : Arrived = so.request in
    let r : NodeState = with_entries (state_of x.seat) (all_committed (record_of x).entries) in
    let here : session_of x ≡ z.session = seat_state x (Member z) may.1 in
    let lines : AckLines S e text s.moments t.moments =
    subst (λ w. AckLines S w text s.moments t.moments) (sym here) (ack_lines S n z.session (length (texts_of z.saved.entries)) text middle s saving acks) in
    let now : Remote S c n e Even p.proposals s.links.next s.moments = subst (λ w. RemoteIn S c n e Even w s.links.next s.moments) may.0 inside.hand in
    let then : Remote S c n e Even p.proposals t.links.next t.moments = subst (λ w. RemoteIn S c n e Even w t.links.next t.moments) may.0 later.hand in
    let sound : Hand S c s.moments e p.proposals = subst (λ w. HandIn S c s.moments e w) may.0 k.holds.up.hand in
    let first : first_in p.proposals.arrived ≡ Some a = so.answers.first in
    let f : FirstSo c x a =
    (subst (FirstIn c x) may.0 (remote_firsts S c n promised Even x s.links.next s.moments k.place k.before.pending inside)) (proposed_some p.proposals.proposed may.2) a first in
    let l : IsLater p.proposals.answers a = first_of (IsLater p.proposals.answers) p.proposals a sound.sound.later first in
    let backed : Backed S c e s.moments a.from a.number a.text = first_of (λ (w : Arrived). Backed S c e s.moments w.from w.number w.text) p.proposals a sound.backed first in
    let opens : a.from ≢ n → open_in S e a.from a.number (words_of f.update) t.moments ≡ true =
    λ ne. lines.opens a.from a.number (words_of f.update)
    (held_open (IsOpenTo n Even p.proposals.answers) a.from a.number (words_of f.update) (requests_of S e s.moments) (record { other = ne; later = l.later; given = tt }) now.waits (backed f.update f.read)) in
    let due : IsOwed S c n e a (answered p.proposals (reply_text answer.Ok)).answers t.moments = record {
      update = f.update;
      read = f.read;
      acked = subst (λ w. IsAcked e w t.moments) (f.words text so.pending) lines.acked;
      opens = opens;
      kept = λ ne. kept_first p.proposals a (reply_text answer.Ok) sound.sound first;
    } in
    let came : CameFrom i t.moments = from_stays i s.moments t.moments (passing_arrived n os s good) k.from in
    let hand : Remote S c n e (Owes a) left.proposals t.links.next t.moments =
    answers_hand S c n e Even (Owes a) (CauseOf i n v x) a answer.Ok p.proposals left.proposals t.links.next t.moments (request_came c i n v x t.moments came) tt sound.sound (λ ne ok owed. absurd (owed refl)) due so.answers then in
    record {
      up = subst (λ w. RemoteUp S c n (promised_of y) w y t.links.next t.moments) (sym so.then)
          (subst (λ w. RemoteUp S c n w (Owes a) y t.links.next t.moments) (k.bound.promise ∙ sym (with_promise x r refl))
          (up_seen S c n promised Even (Owes a) x y t.links.next t.moments (seat_with x.seat r refl) (ap (λ (w : NodeState). w.session) (state_with x.seat r)) hand later));
      told = told;
    }
