use Rattle.std.proofs.Common.{ℕ, ◌<◌, Option, None, length, get_or, set, ap, ◌∙◌, arith}
use Rattle.std.proofs.lemmas.List.{get_or_default}
use Rattle.std.proofs.lemmas.List.Edits.{map_over_more}
use Rattle.std.proofs.lemmas.List.Elements.{All-set}
use Rattle.sent_orders.specs.Ages.{IsYoung}
use Rattle.sent_orders.specs.Ticks.{age_after}
use Rattle.sent_orders.proofs.orders.grow.Goals as goal

pub loop-age-preserved : goal.loop-age-preserved
loop-age-preserved c =
    let i : ℕ = c.loop-age.age-index in
    let here : Option ℕ = get_or c.loop-age.ages i None in
    let within : i < length c.loop-age.ages = omega (arith, c.loop-age.auto.ages, c.loop-age-test.true) in
    record {
      grown =
          ap (λ (a : Option ℕ). set c.loop-age.ages i a) c.age_after.ensures.value
          ∙ map_over_more age_after c.args.ages.now c.loop-age.ages i here c.loop-age-test.true c.loop-age.invariant.grown (get_or_default c.loop-age.ages i None here within);
      young = All-set IsYoung c.loop-age.ages i c.age_after.result c.age_after.ensures.young c.loop-age.invariant.young;
    }
