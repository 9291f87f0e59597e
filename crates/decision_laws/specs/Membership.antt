-- What a president does in its membership, one thing after the other.
use Rattle.std.specs.Prelude.{ℕ, ◌<◌, ◌^◌, Bool, List, [], ◌∷◌, fold}
use Rattle.cl_base.specs.declared.command.Ask.{Ask}
use Rattle.cl_base.specs.declared.method.Outcome.{Outcome}
use Rattle.ccr_tables.specs.declared.update.Update.{Update}
use Rattle.ccr_tables.specs.State.{ConfigState}
use Rattle.sequencer_laws.specs.Orders.{AreApart}
use Rattle.wire.specs.declared.report.Report.{Report}
use Rattle.rgm_president.specs.Acts.{president_of, with_ask, with_done, with_update}
use Rattle.rgm_president.specs.Decisions.{decision}
use Rattle.rgm_president.specs.State.{PresidentState}
use Rattle.decision_laws.specs.Safe.{HoldsOrders, IsOfNode, NothingIsOutstanding}

-- it decides; a node tells how an order ended; something is asked for; an update was committed, and this is the configuration with it
pub data Act : Type 0 where
  Decide : (now : ℕ) (held_up : Bool) → Act
  Done : (from number : ℕ) (outcome : Outcome) (now : ℕ) → Act
  Asked : (from : ℕ) (what : Ask) (now : ℕ) → Act
  Updated : (u : Update) (new : ConfigState) → Act

-- the configuration in force, and what the president keeps
pub record Reign : Type 0 where
  pub config : ConfigState
  pub president : PresidentState

abbrev pub after_act : Reign → Act → Reign
after_act r (Decide now held_up) = record r { president = (decision r.config now held_up r.president).president }
after_act r (Done from number outcome now) = record r { president = with_done r.config from number outcome now r.president }
after_act r (Asked from what now) = record r { president = with_ask r.config from what now r.president }
after_act r (Updated u new) = record { config = new; president = with_update new u r.president }

-- It decides where no two resources have one name; a clear is for a node; an update comes where nothing is outstanding.
abbrev pub MayAct : Reign → Act → Type 0
MayAct r (Decide now held_up) = AreApart r.config.groups
MayAct r (Done from number outcome now) = Unit {0}
MayAct r (Asked from what now) = IsOfNode what
MayAct r (Updated u new) = NothingIsOutstanding r.president

-- each of these, one after the other
abbrev pub MayAllAct : Reign → List Act → Type 0
MayAllAct r [] = Unit {0}
MayAllAct r (act ∷ acts) = MayAct r act × MayAllAct (after_act r act) acts

-- as a membership begins
abbrev pub begun : ConfigState → ℕ → ℕ → List (ℕ × Report) → ℕ → Reign
begun c e members reports now = record { config = c; president = president_of c e members reports now }

-- Whatever a president does in its membership, its outstanding orders are safe.
abbrev pub OrdersAreSafeThroughout : Type 0
OrdersAreSafeThroughout = (c : ConfigState) (e members : ℕ) (reports : List (ℕ × Report)) (now : ℕ) (acts : List Act) → members < 2 ^ 32
    → MayAllAct (begun c e members reports now) acts
    → HoldsOrders (fold after_act (begun c e members reports now) acts).config (fold after_act (begun c e members reports now) acts).president
