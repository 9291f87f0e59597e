-- Which accesses a reservation lets through, by its type (SPC-3, clause 5.6.1 and clause 6.11.3.4),
-- for a node that holds the reservation or does not, and is registered or is not.
use Rattle.std.specs.Prelude.{Bool, true, false}
use Rattle.pgr_device.specs.declared.kind.PrKind.{PrKind}
use Rattle.pgr_device.specs.declared.kind.PrKind.TheVariants.{WriteExclusive, ExclusiveAccess, WriteExclusiveRegistrantsOnly, ExclusiveAccessRegistrantsOnly}

-- 1h and 5h let everyone read, 3h the holder, 6h the registered
abbrev pub reads_allowed : PrKind → Bool → Bool → Bool
reads_allowed WriteExclusive holds registered = true
reads_allowed ExclusiveAccess holds registered = holds
reads_allowed WriteExclusiveRegistrantsOnly holds registered = true
reads_allowed ExclusiveAccessRegistrantsOnly holds registered = registered

-- 1h and 3h let the holder write, 5h and 6h the registered
abbrev pub writes_allowed : PrKind → Bool → Bool → Bool
writes_allowed WriteExclusive holds registered = holds
writes_allowed ExclusiveAccess holds registered = holds
writes_allowed WriteExclusiveRegistrantsOnly holds registered = registered
writes_allowed ExclusiveAccessRegistrantsOnly holds registered = registered

-- whether two types are the same one
abbrev pub same_kind : PrKind → PrKind → Bool
same_kind WriteExclusive WriteExclusive = true
same_kind ExclusiveAccess ExclusiveAccess = true
same_kind WriteExclusiveRegistrantsOnly WriteExclusiveRegistrantsOnly = true
same_kind ExclusiveAccessRegistrantsOnly ExclusiveAccessRegistrantsOnly = true
same_kind _ _ = false
