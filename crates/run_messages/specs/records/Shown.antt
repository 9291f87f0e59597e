-- The record of a node: as the node keeps it, as the history has it, and as the machine has it.
use Rattle.std.specs.Prelude.{ℕ, ◌+◌, ◌≡◌, ◌++◌, Bool, true, if◌then◌else◌, List, length, is_some, IfSome}
use Rattle.std.specs.Option.{option_to_list}
use Rattle.cmm_member.specs.Records.{NodeRecord}
use Rattle.history.specs.Member.{installed_of}
use Rattle.history.specs.Moment.{Moment}
use Rattle.history.specs.Records.{NodeRecord as Shown, record_of}
use Rattle.membership_machine.specs.Records.{Saved}
use Rattle.membership_machine.specs.State.{Memberships}

-- what of it a Promise shows
abbrev pub shown : NodeRecord → Shown
shown r = record {
  installed = r.installed;
  texts = r.entries.committed ++ option_to_list r.entries.pending;
  pending = is_some r.entries.pending;
}

abbrev pub flag : Bool → ℕ
flag b = if b then 1 else 0

-- they tell the same
pub record IsOf (r : Shown) (s : Saved) : Type 0 where
  pub installed : r.installed ≡ s.installed
  pub texts : r.texts ≡ s.entries
  pub pending : length s.entries ≡ s.committed + flag r.pending

-- where the trace tells the record, it is this one; and so of the installed epoch
abbrev pub RecordIn : List Moment → ℕ → NodeRecord → Type 0
RecordIn moments n disk = IfSome (record_of n moments) (λ r. r ≡ shown disk)

abbrev pub InstalledIn : List Moment → ℕ → NodeRecord → Type 0
InstalledIn moments n disk = IfSome (installed_of n moments) (λ f. f ≡ disk.installed)

-- a member of the attempt showed it
pub record ShownBy (M : Memberships) (q : ℕ) (r : Shown) : Type 0 where
  pub node : ℕ
  pub member : (M.epoch q).members node ≡ true
  pub answered : (M.node node).answered q ≡ true
  pub is : IsOf r ((M.node node).showed q)
