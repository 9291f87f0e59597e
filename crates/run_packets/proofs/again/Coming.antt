-- What has come stays so with each line; and what a node sends keeps it that Answers were asked for.
use Rattle.std.specs.Prelude.{ℕ, ◌≡◌, ◌≢◌, ◌||◌, Bool, true, false, List, [], ◌∷◌, Option, None, Some}
use Rattle.std.specs.List.{AllByRecursion}
use Rattle.std.proofs.Common.{refl, ap, sym, subst, ◌∙◌}
use Rattle.cmm_attempt.proofs.Basics.{same_some}
use Rattle.history.specs.Letters.{Letter, arrived, arriving, letter_of, passes, reached}
use Rattle.history.specs.Moment.{Moment, Part, Said, Told}
use Rattle.node_model.specs.Seats.{session_of}
use Rattle.node_model.specs.declared.node.UpNode.{UpNode}
use Rattle.node_model.specs.declared.output.Output.{Output}
use Rattle.node_model.specs.declared.output.Output.TheVariants.{Sends, Tells}
use Rattle.node_model.specs.declared.presidency.Presidency.{Presidency}
use Rattle.proposals.specs.declared.arrived.Arrived.{Arrived}
use Rattle.refinement.specs.Widths.{LetterFits}
use Rattle.run_commands.proofs.acknowledged.Carrying.{IsOutside}
use Rattle.run_commands.proofs.acknowledged.Passing.{dropped_line, passing_stays, sent_line}
use Rattle.run_commands.proofs.acknowledged.Quiet.{says_it}
use Rattle.run_commands.specs.acknowledged.AnsweringGuards.{Due}
use Rattle.run_commands.specs.acknowledged.AnsweringGuards.Due.{Even, Gave, Owes}
use Rattle.run_commands.specs.acknowledged.Askings.{requested_as}
use Rattle.run_history.specs.Scenes.{Scene, passing}
use Rattle.status_report.specs.declared.entry.Entry.{Entry}
use Rattle.status_report.specs.declared.entry.Entry.TheVariants as entry
use Rattle.status_report.specs.declared.node_entry.NodeEntry.TheVariants as note
use Rattle.status_report.specs.declared.packet_entry.PacketEntry.TheVariants as packet
use Rattle.wire.specs.declared.message.Body.{Body}
use Rattle.wire.specs.declared.message.Body.TheVariants as body
use Rattle.run_packets.specs.again.Coming.{HasCome, IsOwed, Knows, OfficeHas, ToldWell, is_asking}

-- ---- what has come

or_left : (a b : Bool) → a ≡ true → (a || b) ≡ true
or_left true b h = refl
or_left false b h = cc

or_right : (a b : Bool) → b ≡ true → (a || b) ≡ true
or_right true b h = refl
or_right false b h = h

come_more : (n c q e : ℕ) (x : Moment) (ms : List Moment) → HasCome n c q e ms → HasCome n c q e (x ∷ ms)
come_more n c q e x ms h = or_right (passes (is_asking n c q e) (arriving ms x)) (reached (is_asking n c q e) ms) h

-- the letter that came last
pub arrived_reached : (test : Letter → Bool) (l : Letter) (ms : List Moment) → arrived ms ≡ Some l → test l ≡ true → reached test ms ≡ true
arrived_reached test l [] is good = cc
arrived_reached test l (Said line ∷ ms) is good = cc
arrived_reached test l (Part event ∷ ms) is good = cc
arrived_reached test l (Told (entry.Packet (packet.Delivered p a b)) ∷ ms) is good = or_left (passes test (letter_of p ms)) (reached test ms) (ap (passes test) is ∙ good)
arrived_reached test l (x ∷ ms) is good = or_right (passes test (arriving ms x)) (reached test ms) (arrived_reached test l ms is good)

-- ---- what is known, with one more line

all_more : (n e : ℕ) (x : Moment) (ms : List Moment) (xs : List Arrived) → AllByRecursion (λ (a : Arrived). a.from ≢ n → HasCome a.from n a.number e ms) xs
    → AllByRecursion (λ (a : Arrived). a.from ≢ n → HasCome a.from n a.number e (x ∷ ms)) xs
all_more n e x ms [] h = tt
all_more n e x ms (a ∷ xs) h = (λ other. come_more a.from n a.number e x ms (h.0 other), all_more n e x ms xs h.1)

office_more : (n e : ℕ) (x : Moment) (ms : List Moment) (o : Option Presidency) → OfficeHas n e ms o → OfficeHas n e (x ∷ ms) o
office_more n e x ms None h = tt
office_more n e x ms (Some p) h =
    record { arrived = all_more n e x ms p.proposals.arrived h.arrived; kept = λ m k one other is. come_more m n k.number e x ms (h.kept m k one other is) }

owed_more : (n e : ℕ) (x : Moment) (ms : List Moment) (d : Due) → IsOwed n e ms d → IsOwed n e (x ∷ ms) d
owed_more n e x ms Even h = tt
owed_more n e x ms (Gave a reply) h = tt
owed_more n e x ms (Owes a) h = λ other. come_more a.from n a.number e x ms (h other)

pub knows_more : (n : ℕ) (d : Due) (y : UpNode) (x : Moment) (ms : List Moment) → Knows n d y ms → Knows n d y (x ∷ ms)
knows_more n d y x ms h = record { hand = office_more n (session_of y) x ms y.presidency h.hand; owed = owed_more n (session_of y) x ms d h.owed }

all_any : (os : List Output) → AllByRecursion (λ (o : Output). Unit {0}) os
all_any [] = tt
all_any (o ∷ os) = (tt, all_any os)

-- .. with all that some node gives
pub knows_passing : (n m : ℕ) (d : Due) (y : UpNode) (os : List Output) (s : Scene) → Knows n d y s.moments → Knows n d y (passing m os s).moments
knows_passing n m d y os s h =
    passing_stays (λ (o : Output). Unit {0}) m (λ ms. Knows n d y ms) os s (record {
      tells = λ e ms all k. knows_more n d y (Told e) ms k;
      sends = λ p to b ms all short k. knows_more n d y (sent_line p m to b) ms k;
      drops = λ p why ms k. knows_more n d y (dropped_line p why) ms k;
    }) (all_any os) h

-- ---- what a node tells and sends

-- an Answer to another node is to a Request that has come
abbrev pub AnswersWell : ℕ → List Moment → ℕ → Body → Type 0
AnswersWell n base to (body.Answer e q text) = to ≢ n → HasCome to n q e base
AnswersWell n base to _ = Unit {0}

-- no line of a packet, and none that a node is a member
abbrev pub LineWell : Entry → Type 0
LineWell (entry.Packet e) = ⊥
LineWell (entry.Node m (note.Member e)) = ⊥
LineWell _ = Unit {0}

abbrev pub OutWell : ℕ → List Moment → Output → Type 0
OutWell n base (Tells e) = LineWell e
OutWell n base (Sends to b) = LetterFits (record { from = n; body = b }) × AnswersWell n base to b

-- since these moments
record Since (base ms : List Moment) : Type 0 where
  more : (m c q e : ℕ) → HasCome m c q e base → HasCome m c q e ms
  told : ToldWell ms

since_line : (base : List Moment) (x : Moment) (ms : List Moment) → ToldWell (x ∷ ms) → Since base ms → Since base (x ∷ ms)
since_line base x ms told h = record { more = λ m c q e k. come_more m c q e x ms (h.more m c q e k); told = told }

line_well : (e : Entry) (ms : List Moment) → LineWell e → ToldWell ms → ToldWell (Told e ∷ ms)
line_well (entry.Packet e) ms well h = absurd well
line_well (entry.Node m (note.Member e)) ms well h = absurd well
line_well _ ms well h = record { answers = (tt, h.answers); fresh = (tt, h.fresh) }

sent_so : (n to : ℕ) (b : Body) (base ms : List Moment) (e q : ℕ) (text : List ℕ) → b ≡ body.Answer e q text → AnswersWell n base to b → to ≢ n → HasCome to n q e base
sent_so n to b base ms e q text is well = subst (AnswersWell n base to) is well

pub told_passing : (n : ℕ) (os : List Output) (s : Scene) → AllByRecursion (OutWell n s.moments) os → ToldWell s.moments → ToldWell (passing n os s).moments
told_passing n os s all h =
    (passing_stays (OutWell n s.moments) n (Since s.moments) os s (record {
      tells = λ e ms well k. since_line s.moments (Told e) ms (line_well e ms well k.told) k;
      sends = λ p to b ms well short k.
          since_line s.moments (sent_line p n to b) ms (record {
            answers = (
              λ e q text other said.
                  k.more to n q e (sent_so n to b s.moments ms e q text (same_some b (body.Answer e q text) (sym (says_it n b well.0 short) ∙ said)) well.1 other),
              k.told.answers,
            );
            fresh = (tt, k.told.fresh);
          }) k;
      drops = λ p why ms k. since_line s.moments (dropped_line p why) ms (record { answers = (tt, k.told.answers); fresh = (tt, k.told.fresh) }) k;
    }) all (record { more = λ m c q e k. k; told = h })).told

-- ---- lines of a change, among which a node may become a member

abbrev pub ChangeLine : List Moment → Entry → Type 0
ChangeLine base (entry.Packet e) = ⊥
ChangeLine base (entry.Node m (note.Member e)) = (q : ℕ) → requested_as m q e base ≡ false
ChangeLine base _ = Unit {0}

abbrev pub ChangeOut : List Moment → Output → Type 0
ChangeOut base (Tells e) = ChangeLine base e
ChangeOut base (Sends to b) = ⊥

record Still (base ms : List Moment) : Type 0 where
  same : (m q e : ℕ) → requested_as m q e ms ≡ requested_as m q e base
  told : ToldWell ms

still_line : (base : List Moment) (e : Entry) (ms : List Moment) → ChangeLine base e → Still base ms → Still base (Told e ∷ ms)
still_line base (entry.Packet e) ms line h = absurd line
still_line base (entry.Node m (note.Member e)) ms line h = record { same = h.same; told = record { answers = (tt, h.told.answers); fresh = (λ q. h.same m q e ∙ line q, h.told.fresh) } }
still_line base _ ms line h = record { same = h.same; told = record { answers = (tt, h.told.answers); fresh = (tt, h.told.fresh) } }

pub change_passing : (n : ℕ) (os : List Output) (s : Scene) → AllByRecursion (ChangeOut s.moments) os → ToldWell s.moments → ToldWell (passing n os s).moments
change_passing n os s all h =
    (passing_stays (ChangeOut s.moments) n (Still s.moments) os s (record {
      tells = λ e ms line k. still_line s.moments e ms line k;
      sends = λ p to b ms line short k. absurd line;
      drops = λ p why ms k. record { same = k.same; told = record { answers = (tt, k.told.answers); fresh = (tt, k.told.fresh) } };
    }) all (record { same = λ m q e. refl; told = h })).told

-- ---- a moment in which no node does anything

pub outside_told : (x : Moment) (ms : List Moment) → IsOutside x → ToldWell ms → ToldWell (x ∷ ms)
outside_told (Told (entry.Packet (packet.Sent p n b called bytes))) ms out h = absurd out
outside_told (Told (entry.Node m e)) ms out h = absurd out
outside_told _ ms out h = record { answers = (tt, h.answers); fresh = (tt, h.fresh) }
