-- Over `history`'s own way to tell which nodes have work the parts are its rounds.
use Rattle.std.specs.Prelude.{◌≡◌, ℕ, ◌-◌, nat_lt, List, [], ◌∷◌, Option, None, Some, option_map, is_some, if◌then◌else◌}
use Rattle.std.specs.Option.{option_and_then, option_or}
use Rattle.std.proofs.Common.{refl, sym, ap, ◌∙◌}
use Rattle.schedule_text.specs.declared.event.Event.{Event}
use Rattle.schedule_text.specs.declared.event.Event.TheVariants as event
use Rattle.schedule_text.specs.declared.line.Line.TheVariants as line
use Rattle.status_report.specs.declared.entry.Entry.TheVariants as entry
use Rattle.status_report.specs.declared.schedule_entry.ScheduleEntry.TheVariants as schedule
use Rattle.history.specs.Links.{in_flight}
use Rattle.history.specs.Moment.{Moment, Part, Said, Told}
use Rattle.history.specs.Round as told
use Rattle.history.specs.Round.{Next, Progress, Stage, round_of, works}
use Rattle.history.specs.Round.Stage.{Delivering, Working, Ticking}
use Rattle.history.specs.Setting.{Setting, nodes_of}
use Rattle.run_lines.specs.rounds.Parts as parts
use Rattle.run_lines.specs.rounds.Laws.{PartsAreRounds}

works_agree : (S : Setting) (coming : Option Event) (ms : List Moment) (p : Progress) (ns : List ℕ) → parts.next_work (works S) coming ms p ns ≡ told.next_work S coming ms p ns
works_agree S coming ms p [] = refl
works_agree S coming ms p (n ∷ ns) =
    ap (λ o. if works S coming n ms then Some (record { event = event.Disk n; after = record p { stage = Working (n ∷ ns) } }) else o) (works_agree S coming ms p ns)

packets_agree : (S : Setting) (coming : Option Event) (ms : List Moment) (p : Progress) (ks : List ℕ) → parts.next_delivery S (works S) coming ms p ks ≡ told.next_delivery S coming ms p ks
packets_agree S coming ms p [] = works_agree S coming ms p (nodes_of p.nodes)
packets_agree S coming ms p (k ∷ ks) =
    ap (λ o. if is_some (in_flight S.cells k ms) then Some (record { event = event.Deliver k; after = record p { stage = Delivering ks } }) else o) (packets_agree S coming ms p ks)

stages_agree : (S : Setting) (coming : Option Event) (ms : List Moment) (p : Progress) (stage : Stage) → parts.next_at S (works S) coming ms p stage ≡ told.next_at S coming ms p stage
stages_agree S coming ms p (Delivering ks) = packets_agree S coming ms p ks
stages_agree S coming ms p (Working ns) = works_agree S coming ms p ns
stages_agree S coming ms p (Ticking ns) = refl

next_agree : (S : Setting) (coming : Option Event) (ms : List Moment) (p : Progress) → parts.next_part S (works S) coming ms p ≡ told.next_part S coming ms p
next_agree S coming ms p =
    let other : Progress = round_of S (p.left - 1) p.nodes ms in
    ap (λ o. option_or o (if nat_lt 1 p.left then parts.next_in S (works S) coming ms other else None)) (stages_agree S coming ms p p.stage)
    ∙ ap (λ o. option_or (told.next_in S coming ms p) (if nat_lt 1 p.left then o else None)) (stages_agree S coming ms other other.stage)

-- what follows of the rounds that are under way
after_agree : (S : Setting) (coming : Option Event) (ms : List Moment) (o : Option Progress)
    → option_and_then (λ p. option_map (λ (n : Next). n.after) (parts.next_part S (works S) coming ms p)) o ≡ option_and_then (λ p. option_map (λ (n : Next). n.after) (told.next_part S coming ms p)) o
after_agree S coming ms None = refl
after_agree S coming ms (Some p) = ap (λ z. option_map (λ (n : Next). n.after) z) (next_agree S coming ms p)

event_agree : (S : Setting) (coming : Option Event) (ms : List Moment) (o : Option Progress)
    → option_and_then (λ p. option_map (λ (n : Next). n.event) (parts.next_part S (works S) coming ms p)) o ≡ option_and_then (λ p. option_map (λ (n : Next). n.event) (told.next_part S coming ms p)) o
event_agree S coming ms None = refl
event_agree S coming ms (Some p) = ap (λ z. option_map (λ (n : Next). n.event) z) (next_agree S coming ms p)

pub progress_agrees : (S : Setting) (ms : List Moment) → parts.progress_of S (works S) ms ≡ told.progress_of S ms
progress_agrees S [] = refl
progress_agrees S (Said (line.Event (event.Rounds count nodes)) ∷ ms) = refl
progress_agrees S (Said l ∷ ms) = refl
progress_agrees S (Told (entry.Schedule schedule.RoundsDone) ∷ ms) = refl
progress_agrees S (Part e ∷ ms) =
    ap (λ o. option_and_then (λ p. option_map (λ (n : Next). n.after) (parts.next_part S (works S) (Some e) ms p)) o) (progress_agrees S ms) ∙ after_agree S (Some e) ms (told.progress_of S ms)
progress_agrees S (Told e ∷ ms) = progress_agrees S ms

due_agrees : (S : Setting) (coming : Option Event) (ms : List Moment) → parts.part_due S (works S) coming ms ≡ told.part_due S coming ms
due_agrees S coming ms =
    ap (λ o. option_and_then (λ p. option_map (λ (n : Next). n.event) (parts.next_part S (works S) coming ms p)) o) (progress_agrees S ms) ∙ event_agree S coming ms (told.progress_of S ms)

-- ---- each moment

to_round : (S : Setting) (ms : List Moment) (m : Moment) → parts.KeepsParts S (works S) ms m → told.KeepsRound S ms m
to_round S ms (Said l) h = sym (progress_agrees S ms) ∙ h
to_round S ms (Part e) h = sym (due_agrees S (Some e) ms) ∙ h
to_round S ms (Told (entry.Schedule schedule.RoundsDone)) h = (ap (λ o. is_some o) (sym (progress_agrees S ms)) ∙ h.0, sym (due_agrees S None ms) ∙ h.1)
to_round S ms (Told e) h = tt

from_round : (S : Setting) (ms : List Moment) (m : Moment) → told.KeepsRound S ms m → parts.KeepsParts S (works S) ms m
from_round S ms (Said l) h = progress_agrees S ms ∙ h
from_round S ms (Part e) h = due_agrees S (Some e) ms ∙ h
from_round S ms (Told (entry.Schedule schedule.RoundsDone)) h = (ap (λ o. is_some o) (progress_agrees S ms) ∙ h.0, due_agrees S None ms ∙ h.1)
from_round S ms (Told e) h = tt

pub to_rounds : (S : Setting) (ms : List Moment) → parts.PartsInOrder S (works S) ms → told.Rounds S ms
to_rounds S [] h = tt
to_rounds S (m ∷ ms) h = (to_round S ms m h.0, to_rounds S ms h.1)

from_rounds : (S : Setting) (ms : List Moment) → told.Rounds S ms → parts.PartsInOrder S (works S) ms
from_rounds S [] h = tt
from_rounds S (m ∷ ms) h = (from_round S ms m h.0, from_rounds S ms h.1)

pub parts_are_rounds : PartsAreRounds
parts_are_rounds S ms = (λ h. to_rounds S ms h, λ h. from_rounds S ms h)
