use Rattle.std.proofs.Common.{refl}
use Rattle.std.specs.Fmt.{digits}
use Rattle.hex.specs.Hex.{encode_with}
use Rattle.cl_base.specs.Numbers.{set_text}
use Rattle.cl_base.specs.Sets.{has}
use Rattle.status_report.proofs.laws.examples_print_as_wanted.Goals as goal

pub returns : goal.returns
unfolding digits encode_with set_text has
returns c = record { nodes = refl; packets = refl; devices = refl; memberships = refl; answers = refl; statuses = refl; others = refl }
