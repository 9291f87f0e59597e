-- Updates of the configuration.
use Rattle.std.specs.Prelude.{ℕ, List, codes, [], ◌∷◌}
use Rattle.std.specs.Fmt.{decimal}
use Rattle.status_report.specs.declared.update_entry.UpdateEntry.{UpdateEntry}
use Rattle.status_report.specs.declared.update_entry.UpdateEntry.TheVariants.{Proposed, Acknowledged}
use Rattle.status_report.specs.Words.{spaced}

abbrev pub update_text : UpdateEntry → List ℕ
update_text (Proposed epoch place words) = spaced (codes "propose" ∷ decimal epoch ∷ decimal place ∷ words ∷ [])
update_text (Acknowledged epoch place words) = spaced (codes "ack" ∷ decimal epoch ∷ decimal place ∷ words ∷ [])
