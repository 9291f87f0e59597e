-- A configuration is what its updates made of the header's, the last one last.
use Rattle.std.proofs.Common.{◌≡◌, List, [], ◌∷◌, ◌++◌, sym, ap, ◌∙◌}
use Rattle.std.specs.List.{fold}
use Rattle.std.proofs.lemmas.List.Sums.{fold-append}
use Rattle.cl_base.specs.declared.header.Header.{Header}
use Rattle.ccr_tables.specs.declared.update.Update.{Update}
use Rattle.ccr_tables.specs.Changes.{applied, config_of}
use Rattle.ccr_tables.specs.State.{ConfigState, first_config}

pub one_more : (old new : ConfigState) (u : Update) (h : Header) (updates : List Update) → old ≡ config_of h updates → new ≡ applied old u
    → new ≡ config_of h (updates ++ u ∷ [])
one_more old new u h updates was is = is ∙ ap (λ (s : ConfigState). applied s u) was ∙ sym (fold-append applied (first_config h) updates (u ∷ []))
