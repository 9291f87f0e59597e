-- The law of the rows of tables.
use Rattle.std.specs.Prelude.{List}
use Rattle.std.specs.List.{AllByRecursion}
use Rattle.cl_base.specs.declared.command.Table.{Table}
use Rattle.cl_base.specs.declared.header.Header.{Header}
use Rattle.ccr_text.specs.TableText.{AreRows}
use Rattle.ccr_tables.specs.Changes.{config_of}
use Rattle.ccr_tables.specs.declared.update.Update.{Update}
use Rattle.ccr_rows.specs.Rows.{rows_of}
use Rattle.row_laws.specs.Given.{IsGiven}

-- After each header and each list of updates, of which those that are refused change nothing, the rows of each table have the
-- form of a table.
abbrev pub TablesHaveTheirForm : Type 0
TablesHaveTheirForm = (h : Header) (us : List Update) (t : Table) → AllByRecursion IsGiven us → AreRows (rows_of (config_of h us) t)
