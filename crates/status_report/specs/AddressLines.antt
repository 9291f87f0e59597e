-- Shared addresses and their clients.
use Rattle.std.specs.Prelude.{ℕ, List, codes, [], ◌∷◌, Option, Some, None}
use Rattle.std.specs.Fmt.{decimal}
use Rattle.status_report.specs.declared.address_entry.AddressEntry.{AddressEntry}
use Rattle.status_report.specs.declared.address_entry.AddressEntry.TheVariants.{Served, Forgot}
use Rattle.status_report.specs.Words.{spaced}

-- the node that serves
abbrev pub target_text : Option ℕ → List ℕ
target_text None = codes "none"
target_text (Some node) = decimal node

abbrev pub address_text : AddressEntry → List ℕ
address_text (Served address client port node) =
    spaced (codes "served" ∷ address ∷ decimal client ∷ decimal port ∷ target_text node ∷ [])
address_text (Forgot address client port) = spaced (codes "forgot" ∷ address ∷ decimal client ∷ decimal port ∷ [])
