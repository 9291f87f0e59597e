use Rattle.config_cache.proofs.Makes.{followed}
use Rattle.config_cache.proofs.made.Made.may_follow.Goals as goal

pub returns-in-Some : goal.returns-in-Some
returns-in-Some c = record {
  value = followed c.self.inside.header c.self.inside.texts.items c.args.text.now c.args.self.now c.self.inside.config c.in-Some.config
      c.may_come.result c.self.view_is c.self.invariant.2 c.in-Some.is c.may_come.ensures.value;
}
