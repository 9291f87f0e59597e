-- For which updates each record has room on its disk, and how the machine of memberships keeps to them.
use Rattle.std.specs.Prelude.{ℕ, ◌≡◌, ◌<◌, ◌≤◌, ◌^◌, ◌++◌, true, List, [], ◌∷◌}
use Rattle.std.specs.List.{list_all}
use Rattle.cmm_member.specs.Lengths.{full_length}
use Rattle.membership_machine.specs.Events.{Begin, Event, Propose, Propose_lost, after}
use Rattle.membership_machine.specs.State.{Memberships}
use Rattle.record_disk.specs.Disks.{is_row_text}

-- Each update can stand in a row, and a record with all of them, these nodes and these devices, whose numbers have twenty digits, fits its slot.
pub record HasRoom (nodes devices : ℕ) (texts : List (List ℕ)) : Type 0 where
  pub rows : list_all is_row_text texts ≡ true
  pub most : full_length nodes devices texts ≤ 65536

-- all that was ever proposed in a membership has room, with what stood before it; each attempt has a number below 2^63, and so has each promise
pub record AllHaveRoom (nodes devices : ℕ) (M : Memberships) : Type 0 where
  pub logs : (q : ℕ) → HasRoom nodes devices (M.epoch q).log
  pub low : (q : ℕ) → (M.epoch q).tried ≡ true → q < 2 ^ 63
  pub promised : (m : ℕ) → (M.node m).promised < 2 ^ 63

-- an attempt begins with such a number, and what is proposed has room
abbrev pub EventRoom : ℕ → ℕ → Memberships → Event → Type 0
EventRoom nodes devices M (Begin q members) = q < 2 ^ 63
EventRoom nodes devices M (Propose q u) = HasRoom nodes devices ((M.epoch q).log ++ u ∷ [])
EventRoom nodes devices M (Propose_lost q u) = HasRoom nodes devices ((M.epoch q).log ++ u ∷ [])
EventRoom nodes devices M _ = Unit {0}

abbrev pub EventsRoom : ℕ → ℕ → Memberships → List Event → Type 0
EventsRoom nodes devices M [] = Unit {0}
EventsRoom nodes devices M (e ∷ es) = EventRoom nodes devices M e × EventsRoom nodes devices (after M e) es
