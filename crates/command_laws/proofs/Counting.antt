-- Each update that is taken counts for one table.
use Rattle.std.proofs.Common.{◌≡◌, ◌<◌, ◌+◌, ◌-◌, ◌^◌, min, ℕ, List, [], ◌∷◌, None, length, ap, ◌∙◌, arith}
use Rattle.std.specs.List.{fold}
use Rattle.cl_base.specs.declared.command.Table.{Table}
use Rattle.cl_base.specs.declared.command.Table.TheVariants.{Infrastructure, Types, Groups, Resources, Addresses}
use Rattle.ccr_tables.specs.declared.generations.Generations.{Generations}
use Rattle.ccr_tables.specs.declared.update.Update.{Update}
use Rattle.ccr_tables.specs.Changes.{applied, unless_refused, updated}
use Rattle.ccr_tables.specs.State.{ConfigState, first_config}
use Rattle.ccr_tables.specs.Updates.{counted, table_of}
use Rattle.admin_commands.specs.Records.{updates_in}
use Rattle.command_laws.specs.Laws.{AreTaken, UpdatesAreCounted}

one_more : (g : Generations) (t : Table) → updates_in g < 2 ^ 64 - 1 → updates_in (counted g t) ≡ updates_in g + 1
one_more g Infrastructure lt = omega (arith, lt)
one_more g Types lt = omega (arith, lt)
one_more g Groups lt = omega (arith, lt)
one_more g Resources lt = omega (arith, lt)
one_more g Addresses lt = omega (arith, lt)

taken : (us : List Update) (s : ConfigState) → AreTaken s us → updates_in s.generations + length us < 2 ^ 64 - 1
    → updates_in (fold applied s us).generations ≡ updates_in s.generations + length us
taken [] s h lt = omega arith
taken (u ∷ us) s h lt =
    let less : updates_in s.generations < 2 ^ 64 - 1 = omega (arith, lt) in
    let one : updates_in (applied s u).generations ≡ updates_in s.generations + 1 =
    ap (λ r. updates_in (unless_refused s u r).generations) h.0 ∙ one_more s.generations (table_of u) less in
    taken us (applied s u) h.1 (omega (arith, one, lt)) ∙ omega (arith, one)

pub counting : UpdatesAreCounted
counting h us all lt = taken us (first_config h) all (omega (arith, lt)) ∙ omega arith
