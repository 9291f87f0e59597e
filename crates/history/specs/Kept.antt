-- Kept: each update that is acknowledged stands at its place in the base of each membership with a greater number, wherever that start
-- stands in the trace. It follows from Lineage, and from the places that updates have; it is stated because users rely on it.
use Rattle.std.specs.Prelude.{◌≡◌, ◌<◌, ℕ, ◌-◌, List, slice_get, Some}
use Rattle.std.specs.List.{AllByRecursion}
use Rattle.history.specs.Deeds.{Deed, Update, start_numbers, acks, base_in}

-- the update stands at its place, counted from 1
abbrev pub StandsIn : List (List ℕ) → Update → Type 0
StandsIn updates u = slice_get updates (u.place - 1) ≡ Some u.words

abbrev pub Kept : List Deed → Type 0
Kept deeds = AllByRecursion (λ u. AllByRecursion (λ f. u.epoch < f → StandsIn (base_in f deeds) u) (start_numbers deeds)) (acks deeds)
