use Rattle.config_cache.proofs.Makes.{new_made}
use Rattle.config_cache.proofs.made.Made.new.Goals as goal

pub invariant_of-result : goal.invariant_of-result
invariant_of-result c =
    new_made c.args.header.now c.in_ok-copied.field-0 c.in_ok-first.field-0 c.in_ok-first-2.field-0 c.new.result.items
    c.in_ok-copied.ensures.value c.requires.devices c.in_ok-first.ensures.value c.in_ok-first-2.ensures.value c.new.ensures.items
