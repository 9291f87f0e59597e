use Rattle.std.proofs.Common.{◌≡◌, ℕ, List, ◌++◌, length}
use Rattle.std.specs.Prelude.{nat_eq}
use Rattle.std.specs.List.{list_any}
use Rattle.std.specs.Cmp.Lexicographic.{pointwise}
use Rattle.ccr_text.specs.TableText.{AreRows, row_lines}
use Rattle.ccr_text.proofs.RowLemmas.{has_key}
use Rattle.ccr_text.proofs.read.read_rows.Given as goal

abbrev pub invariant-loop-rest : goal.invariant-loop-rest
invariant-loop-rest l = record {
  form : AreRows l.rows.items;
  begun : l.fn.body ≡ row_lines l.rows.items ++ l.rest;
  known : (q : List ℕ) → list_any (λ key. pointwise nat_eq q key.now) l.keys.keys ≡ has_key q l.rows.items;
}

abbrev pub decreases-loop-rest : goal.decreases-loop-rest
decreases-loop-rest l = length l.rest
