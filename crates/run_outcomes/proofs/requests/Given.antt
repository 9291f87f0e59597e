-- Most of what a node gives begins no attempt, and is neither a request to seize nor a Collect nor an Install.
use Rattle.std.specs.Prelude.{ℕ, ◌++◌, ◌≡◌, ◌≢◌, List, [], ◌∷◌, Option, None, Some}
use Rattle.std.proofs.Common.{refl, sym, ap, subst, ◌∙◌}
use Rattle.cl_base.specs.Limits.{most_nodes}
use Rattle.cl_base.specs.Numbers.{numbers_to}
use Rattle.node_model.specs.Attempts.{ended_entry}
use Rattle.node_model.specs.Entries.{unknown_lines}
use Rattle.node_model.specs.Presidents.{sent_to}
use Rattle.node_model.specs.Ticks.{later, ticked_output}
use Rattle.node_model.specs.declared.cluster.Cluster.{Cluster}
use Rattle.node_model.specs.declared.node.UpNode.{UpNode}
use Rattle.node_model.specs.declared.output.Output.{Output}
use Rattle.node_model.specs.declared.output.Output.TheVariants.{Sends, Tells}
use Rattle.refinement.specs.Doings.{Act, Change, first_lines, gone_line, last_lines, said, saved_lines, write_lines}
use Rattle.refinement.specs.Doings.Act.{Accepts, Dates, Ends, Gives, Goes_on, Hears, Makes, Minds, Notes, Queues, Spreads, Stores, Takes, Ticks, Waits, Works, Writes}
use Rattle.refinement.specs.Doings.Change.{Leads}
use Rattle.refinement.specs.Guards.{TellNothing, TellsNothing}
use Rattle.run_attempts.proofs.Mild.{AreMild, IsMild, first_mild, last_mild, unknown_mild}
use Rattle.run_attempts.specs.Steps.{CalmChange}
use Rattle.run_history.proofs.Lists.{both, mapped}
use Rattle.run_history.specs.Marks.{AreMinor, IsMinor}
use Rattle.status_report.specs.declared.attempt_entry.AttemptEntry.TheVariants as attempt
use Rattle.status_report.specs.declared.entry.Entry.{Entry}
use Rattle.status_report.specs.declared.entry.Entry.TheVariants as entry
use Rattle.status_report.specs.declared.node_entry.DownCause.{DownCause}
use Rattle.wire.specs.declared.message.Body.{Body}
use Rattle.wire.specs.declared.message.Body.TheVariants as body
use Rattle.run_outcomes.proofs.Mute.{ended_none, ticked_none, write_none}
use Rattle.run_outcomes.proofs.shown.Aside.{lost_aside, made_aside, saved_aside, tick_aside, write_aside}
use Rattle.run_outcomes.proofs.shown.Letters.{AllAside, IsAside}
use Rattle.run_outcomes.specs.reports.Requests.{AreQuiet, BodyAsks, BodyFrom, HandLast, IsNoRequest, IsQuiet, OutsAsk, Tried, last_by, last_of}
use Rattle.run_outcomes.specs.Mute.{AskNone, AsksNone}
use Rattle.run_outcomes.proofs.silence.asked.Beside.{AllElse, IsElse, lost_else, made_else, saved_else, ticked_else, unknown_else, write_else}

-- ---- quiet outputs

no_request : (n to : ℕ) (o : Option ℕ) (b : Body) → IsNoRequest b → BodyAsks n o to b
no_request n to o (body.Collect e members) h = absurd h
no_request n to o (body.SeizeQuorum e members d) h = absurd h
no_request n to o (body.SeizeData e members d) h = absurd h
no_request n to o (body.Install i) h = absurd h
no_request n to o _ h = tt

line_last : (n : ℕ) (o : Option ℕ) (e : Entry) → IsQuiet (Tells e) → last_by n o (Tells e) ≡ o
line_last n o (entry.Attempt (attempt.Begun e members)) h = absurd h
line_last n o _ h = refl

pub quiet_last : (n : ℕ) (o : Option ℕ) (os : List Output) → AreQuiet os → last_of n o os ≡ o
quiet_last n o [] h = refl
quiet_last n o (Tells e ∷ os) h = ap (λ z. last_of n z os) (line_last n o e h.0) ∙ quiet_last n o os h.1
quiet_last n o (Sends to b ∷ os) h = quiet_last n o os h.1

pub quiet_asks : (n : ℕ) (o : Option ℕ) (os : List Output) → AreQuiet os → OutsAsk n o os
quiet_asks n o [] h = tt
quiet_asks n o (Tells e ∷ os) h = (tt, subst (λ z. OutsAsk n z os) (sym (line_last n o e h.0)) (quiet_asks n o os h.1))
quiet_asks n o (Sends to b ∷ os) h = (no_request n to o b h.0, quiet_asks n o os h.1)

pub append_asks : (n : ℕ) (o : Option ℕ) (os more : List Output) → OutsAsk n o os → OutsAsk n (last_of n o os) more → OutsAsk n o (os ++ more)
append_asks n o [] more h k = k
append_asks n o (x ∷ os) more h k = (h.0, append_asks n (last_by n o x) os more h.1 k)

-- a message of the attempt that is the last
pub write_asks : (n to : ℕ) (o : Option ℕ) (g : Option Tried) (b : Body) → HandLast n o g → BodyFrom g to b → BodyAsks n o to b
write_asks n to o None b hand h = no_request n to o b h
write_asks n to o (Some t) (body.SeizeQuorum e members d) hand h = (hand.0 ∙ ap Some (sym h.0), subst (λ k. to ≢ k) hand.1 h.1)
write_asks n to o (Some t) (body.SeizeData e members d) hand h = (hand.0 ∙ ap Some (sym h.0), subst (λ k. to ≢ k) hand.1 h.1)
write_asks n to o (Some t) (body.Collect e members) hand h = subst (λ k. to ≢ k) hand.1 h
write_asks n to o (Some t) (body.Install i) hand h = subst (λ k. to ≢ k) hand.1 h
write_asks n to o (Some t) _ hand h = tt

-- ---- what is quiet

aside_body : (b : Body) → IsAside b → IsElse b → IsNoRequest b
aside_body (body.Collect e members) h k = k
aside_body (body.SeizeQuorum e members d) h k = h
aside_body (body.SeizeData e members d) h k = h
aside_body (body.Install i) h k = h
aside_body _ h k = tt

asked_line : (e : Entry) → AsksNone (Tells e) → IsQuiet (Tells e)
asked_line (entry.Attempt (attempt.Begun e members)) h = h
asked_line _ h = tt

asked_quiet : (os : List Output) → AskNone os → AllAside os → AllElse os → AreQuiet os
asked_quiet [] h k j = tt
asked_quiet (Tells e ∷ os) h k j = (asked_line e h.0, asked_quiet os h.1 k.1 j.1)
asked_quiet (Sends to b ∷ os) h k j = (aside_body b k.0 j.0, asked_quiet os h.1 k.1 j.1)

mild_line : (e : Entry) → IsMild (Tells e) → IsQuiet (Tells e)
mild_line (entry.Attempt (attempt.Begun e members)) h = h
mild_line _ h = tt

mild_quiet : (os : List Output) → AreMild os → AllAside os → AllElse os → AreQuiet os
mild_quiet [] h k j = tt
mild_quiet (Tells e ∷ os) h k j = (mild_line e h.0, mild_quiet os h.1 k.1 j.1)
mild_quiet (Sends to b ∷ os) h k j = (aside_body b k.0 j.0, mild_quiet os h.1 k.1 j.1)

minor_line : (e : Entry) → IsMinor e → IsQuiet (Tells e)
minor_line (entry.Command e) h = tt
minor_line (entry.Call e) h = tt
minor_line (entry.Status e) h = tt
minor_line (entry.Address e) h = tt
minor_line _ h = absurd h

nothing_body : (to : ℕ) (b : Body) → TellsNothing (Sends to b) → IsNoRequest b
nothing_body to (body.Collect e members) h = h
nothing_body to (body.SeizeQuorum e members d) h = h
nothing_body to (body.SeizeData e members d) h = h
nothing_body to (body.Install i) h = h
nothing_body to _ h = tt

given_quiet : (os : List Output) → AreMinor os → TellNothing os → AreQuiet os
given_quiet [] h k = tt
given_quiet (Tells e ∷ os) h k = (minor_line e h.0, given_quiet os h.1 k.1)
given_quiet (Sends to b ∷ os) h k = (nothing_body to b k.0, given_quiet os h k.1)

spread_quiet : (receivers : ℕ) (b : Body) → IsNoRequest b → AreQuiet (sent_to receivers b)
unfolding sent_to
spread_quiet receivers b h = mapped IsQuiet (λ n. Sends n b) (numbers_to receivers most_nodes) (λ n. h)

-- ---- lines of changes

pub saved_quiet : (c : Cluster) (n : ℕ) (x : UpNode) (change : Change) → CalmChange change → AreQuiet (first_lines n change ++ saved_lines c n x change)
saved_quiet c n x change calm =
    mild_quiet (first_lines n change ++ saved_lines c n x change)
    (both IsMild (first_lines n change) (saved_lines c n x change) (first_mild n change) (tt, last_mild c n x change calm)) (saved_aside c n x change) (saved_else c n x change)

pub made_quiet : (c : Cluster) (n : ℕ) (x : UpNode) (change : Change) → CalmChange change → AreQuiet (first_lines n change ++ last_lines c n x change)
made_quiet c n x change calm =
    mild_quiet (first_lines n change ++ last_lines c n x change)
    (both IsMild (first_lines n change) (last_lines c n x change) (first_mild n change) (last_mild c n x change calm)) (made_aside c n x change) (made_else c n x change)

pub lost_quiet : (n : ℕ) (change : Change) (why : DownCause) → AreQuiet (first_lines n change ++ gone_line n why)
lost_quiet n change why =
    mild_quiet (first_lines n change ++ gone_line n why) (both IsMild (first_lines n change) (gone_line n why) (first_mild n change) (tt, tt)) (lost_aside n change why) (lost_else n change why)

-- .. but for the line of an attempt that begins
pub unknown_quiet : (c : Cluster) (n : ℕ) (x : UpNode) (p members : ℕ) → AreQuiet (unknown_lines n x.requests.waiting)
unknown_quiet c n x p members = mild_quiet (unknown_lines n x.requests.waiting) (unknown_mild n x.requests.waiting) (saved_aside c n x (Leads p members)).1.1 (unknown_else n x.requests.waiting)

-- ---- small steps but for a change and a message

abbrev pub IsOther : Act → Type 0
IsOther (Makes change) = ⊥
IsOther (Writes to b) = ⊥
IsOther (Spreads receivers b) = IsNoRequest b
IsOther (Gives os) = AreMinor os × TellNothing os
IsOther _ = Unit {0}

pub said_quiet : (c : Cluster) (n : ℕ) (x : UpNode) (a : Act) → IsOther a → AreQuiet (said c n x a)
said_quiet c n x Ticks k = (tt, asked_quiet (ticked_output c x (later c x)) (ticked_none c x (later c x)) (tick_aside c x) (ticked_else c x (later c x)))
said_quiet c n x (Ends a e) k = (asked_line (entry.Attempt (ended_entry a.plan.epoch e)) (ended_none a.plan.epoch e), tt)
said_quiet c n x (Takes at command a) k = (tt, tt)
said_quiet c n x (Stores d value a) k = (tt, asked_quiet (write_lines n x d value a) (write_none n x d value a) (write_aside n x d value a) (write_else n x d value a))
said_quiet c n x (Gives os) k = given_quiet os k.0 k.1
said_quiet c n x (Spreads receivers b) k = spread_quiet receivers b k
said_quiet c n x (Makes change) k = absurd k
said_quiet c n x (Writes to b) k = absurd k
said_quiet c n x (Hears from b) k = tt
said_quiet c n x Waits k = tt
said_quiet c n x (Goes_on a q) k = tt
said_quiet c n x (Queues a d kind) k = tt
said_quiet c n x (Accepts kind e members d) k = tt
said_quiet c n x (Minds q p) k = tt
said_quiet c n x (Notes from place p) k = tt
said_quiet c n x (Dates now) k = tt
said_quiet c n x (Works w) k = tt
