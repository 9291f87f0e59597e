use Rattle.config_cache.proofs.Makes.{first_left}
use Rattle.config_cache.proofs.made.Made.config.Goals as goal

pub returns-in-None : goal.returns-in-None
returns-in-None c = record {
  value = first_left c.args.self.now c.self.inside.header c.self.inside.texts.items c.self.inside.config c.self.inside.first c.self.view_is
      c.self.invariant.2 c.in-None.is c.self.invariant.1;
}
