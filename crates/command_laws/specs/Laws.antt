-- What is true of an update that is accepted.
use Rattle.std.specs.Prelude.{◌≡◌, ◌<◌, ◌≤◌, ◌-◌, ◌^◌, ℕ, Bool, true, false, List, [], ◌∷◌, length, Some, None, Ok}
use Rattle.cl_base.specs.declared.header.Header.{Header}
use Rattle.quorum_votes.specs.Votes.{held_of, needed_of}
use Rattle.rg_deps.specs.Orderings.{first_cycle}
use Rattle.rg_view.specs.declared.view.GroupView.{GroupView}
use Rattle.ccr_tables.specs.declared.command.AdminCommand.TheVariants.{Change}
use Rattle.ccr_tables.specs.declared.update.Update.{Update}
use Rattle.ccr_tables.specs.declared.update.Update.TheVariants.{Device, NodeVote}
use Rattle.ccr_tables.specs.Changes.{applied, changed, config_of}
use Rattle.ccr_tables.specs.Refusals.{refusal_of}
use Rattle.ccr_tables.specs.State.{ConfigState, first_config}
use Rattle.admin_commands.specs.declared.accepted.Accepted.TheVariants as accepted
use Rattle.admin_commands.specs.Answers.{answer_to}
use Rattle.admin_commands.specs.Orders.{makes_order}
use Rattle.admin_commands.specs.Records.{length_with, most_bytes, updates_in}
use Rattle.admin_commands.specs.Standing.{is_up, wants_down}

-- the commands of `clq`
abbrev pub changes_votes : Update → Bool
changes_votes (Device d change) = true
changes_votes (NodeVote n vote) = true
changes_votes _ = false

-- what it is for an update to be accepted, over a configuration, with what is known of groups, in a membership that holds devices
pub record Holds (s : ConfigState) (v : GroupView) (members held length : ℕ) (u : Update) : Type 0 where
  -- it can be applied
  pub applied : refusal_of s u ≡ None
  -- the group that may not be up for it is up on no member
  pub down : (group : List ℕ) → wants_down s u ≡ Some group → is_up s.groups v.resources members group ≡ false
  -- what is set of what comes after what makes no cycle
  pub order : makes_order s u ≡ true → first_cycle (changed s u).groups ≡ None
  -- under the new votes the membership has what is needed
  pub votes : changes_votes u ≡ true → needed_of (changed s u).votes ≤ held_of (changed s u).votes members held
  -- the record is not too long
  pub room : length_with s length u ≤ most_bytes

-- An update that is accepted has all of this.
abbrev pub AcceptedUpdatesHold : Type 0
AcceptedUpdatesHold =
    (s : ConfigState) (v : GroupView) (members held length : ℕ) (u : Update) → answer_to s v members held length (Change u) ≡ Ok (accepted.Change u)
    → Holds s v members held length u

-- updates that are taken one after the other, none of them refused
abbrev pub AreTaken : ConfigState → List Update → Type 0
AreTaken s [] = Unit {0}
AreTaken s (u ∷ us) = (refusal_of s u ≡ None) × AreTaken (applied s u) us

-- The updates of a configuration are as many as it was made by.
abbrev pub UpdatesAreCounted : Type 0
UpdatesAreCounted =
    (h : Header) (us : List Update) → AreTaken (first_config h) us → length us < 2 ^ 64 - 1
    → updates_in (config_of h us).generations ≡ length us
