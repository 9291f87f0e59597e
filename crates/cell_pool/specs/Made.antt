-- How the cells of a pool are made: none at first, and one more where a chain needs it.
use Rattle.std.specs.Prelude.{ℕ, ◌-◌, ◌<◌, ◌≤◌, ◌^◌, List, ◌++◌, Option, None, length, replicate}
use Rattle.cell_pool.specs.Region.{IsWhole}

-- the made cells, as a pool of their own, and how many cells there may be
pub record Making : Type 0 where
  pub pool : List (Option (List ℕ))
  pub room : ℕ

-- the whole pool: the made cells, and those that are not made, in which no chain begins
abbrev pub all_cells : Making → List (Option (List ℕ))
all_cells made = made.pool ++ replicate (made.room - length made.pool) None

-- the made cells are whole, and there is room for all that may be made
pub record IsMade (cells : List (List ℕ)) (links : List ℕ) (lengths : List (Option ℕ)) (free_first free_count room cells_room links_room lengths_room : ℕ) : Type 0 where
  pub whole : IsWhole cells links lengths free_first free_count
  pub within : length lengths ≤ room
  pub few : room < 2 ^ 24
  pub of_cells : room ≤ cells_room
  pub of_links : room ≤ links_room
  pub of_lengths : room ≤ lengths_room
