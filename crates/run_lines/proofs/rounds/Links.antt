-- The links by the lines: they rise, and hold of old packets only those that they held; what is left of rounds stays the same while lines are told.
use Rattle.std.specs.Prelude.{ℕ, ◌≤◌, ◌<◌, List, [], ◌∷◌, Option, None, Some}
use Rattle.std.proofs.Common.{refl, ap, arith}
use Rattle.cl_base.specs.declared.packet.DropCause.TheVariants.{Down}
use Rattle.interconnect.specs.Links.{Links, packet_of}
use Rattle.status_report.specs.declared.entry.Entry.{Entry}
use Rattle.history.specs.Links.{links_after}
use Rattle.history.specs.Moment.{Moment, Told}
use Rattle.history.specs.Round as told
use Rattle.history.specs.Round.{Progress, Stage}
use Rattle.history.specs.Round.Stage.{Delivering, Working, Ticking}
use Rattle.history.specs.Setting.{Setting}
use Rattle.history.specs.Trace.{delivered, dropped, lost, repeated, sent}
use Rattle.run_history.specs.Rounds as world
use Rattle.run_lines.specs.rounds.Following.{Reckons, SameLeft, SamePackets, SameRounds, SameStage}
use Rattle.run_lines.proofs.rounds.Numbers.{below_low}
use Rattle.run_lines.proofs.rounds.Rising.{Later, Rises, kind_of, later_removing, later_resending, later_same, later_sending, numbers_kept, rises_removing, rises_resending, rises_sending}

rises : (cells : ℕ) (ms : List Moment) → Rises (links_after cells ms)
rises cells [] = omega arith
rises cells (sent p a b message bytes ∷ ms) = rises_sending (links_after cells ms) a b bytes (rises cells ms)
rises cells (repeated p copy ∷ ms) = rises_resending (links_after cells ms) (packet_of (links_after cells ms).packets p) (rises cells ms)
rises cells (delivered p a b ∷ ms) = rises_removing (links_after cells ms) p (rises cells ms)
rises cells (lost p ∷ ms) = rises_removing (links_after cells ms) p (rises cells ms)
rises cells (dropped p Down ∷ ms) = rises_removing (links_after cells ms) p (rises cells ms)
rises cells (_ ∷ ms) = rises cells ms

later_told : (cells : ℕ) (m : Moment) (ms : List Moment) → Later (links_after cells ms) (links_after cells (m ∷ ms))
later_told cells (sent p a b message bytes) ms = later_sending (links_after cells ms) a b bytes
later_told cells (repeated p copy) ms = later_resending (links_after cells ms) (packet_of (links_after cells ms).packets p)
later_told cells (delivered p a b) ms = later_removing (links_after cells ms) p
later_told cells (lost p) ms = later_removing (links_after cells ms) p
later_told cells (dropped p Down) ms = later_removing (links_after cells ms) p
later_told cells _ ms = later_same (links_after cells ms)

-- ---- a round begins

pub round_same : (S : Setting) (left nodes : ℕ) (ms : List Moment) → SameLeft (links_after S.cells ms) ms (world.round_of (links_after S.cells ms) left nodes) (told.round_of S left nodes ms)
round_same S left nodes ms = record {
  left = refl;
  nodes = refl;
  stage = record {
    test = λ k. kind_of (told.is_between nodes) (packet_of l.packets k);
    bound = l.next;
    below = below_low l.next;
    old = omega arith;
    are = numbers_kept (told.is_between nodes) l (rises S.cells ms);
    right = λ k x less at. ap (λ o. kind_of (told.is_between nodes) o) at;
  };
}
  where
    l : Links
    l = links_after S.cells ms

-- ---- lines are told

packets_stay : (before after : Links) (nodes : ℕ) (all kept : List ℕ) → Later before after → SamePackets before nodes all kept → SamePackets after nodes all kept
packets_stay before after nodes all kept later h = record {
  test = h.test;
  bound = h.bound;
  below = h.below;
  old = up h.bound before.next after.next h.old later.next;
  are = h.are;
  right = λ k x less at. h.right k x less (later.old k x (lower k h.bound before.next less h.old) at);
}
  where
    up : (a b c : ℕ) → a ≤ b → b ≤ c → a ≤ c
    up a b c h k = omega (arith, h, k)

    lower : (a b c : ℕ) → a < b → b ≤ c → a < c
    lower a b c h k = omega (arith, h, k)

reckons_still : (commands : ℕ) (ns : List ℕ) (e : Entry) (ms : List Moment) → Reckons commands ns ms → Reckons commands ns (Told e ∷ ms)
reckons_still commands [] e ms h = tt
reckons_still commands (n ∷ ns) e ms h = h

stage_stays : (cells : ℕ) (e : Entry) (ms : List Moment) (nodes : ℕ) (p : world.Stage) (q : Stage) → SameStage (links_after cells ms) ms nodes p q
    → SameStage (links_after cells (Told e ∷ ms)) (Told e ∷ ms) nodes p q
stage_stays cells e ms nodes (world.Delivering all) (Delivering kept) h =
    packets_stay (links_after cells ms) (links_after cells (Told e ∷ ms)) nodes all kept (later_told cells (Told e) ms) h
stage_stays cells e ms nodes (world.Working commands ns) (Working others) h = (h.0, h.1, reckons_still commands ns e ms h.2)
stage_stays cells e ms nodes (world.Ticking ns) (Ticking others) h = h
stage_stays cells e ms nodes _ _ h = absurd h

pub told_same : (cells : ℕ) (e : Entry) (ms : List Moment) (p : Option world.Progress) (q : Option Progress) → SameRounds (links_after cells ms) ms p q
    → SameRounds (links_after cells (Told e ∷ ms)) (Told e ∷ ms) p q
told_same cells e ms None None h = tt
told_same cells e ms (Some p) (Some q) h = record { left = h.left; nodes = h.nodes; stage = stage_stays cells e ms p.nodes p.stage q.stage h.stage }
told_same cells e ms _ _ h = absurd h
