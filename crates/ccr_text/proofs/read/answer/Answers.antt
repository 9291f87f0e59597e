use Rattle.std.proofs.Common.{◌≡◌, inl, inr, refl, rules, arith}
use Rattle.std.proofs.lemmas.Grind.{common_steps}
use Rattle.ccr_text.proofs.TableLemmas.{table_read}
use Rattle.ccr_text.proofs.read.answer.Goals as goal

pub returns-in_default-second_line : goal.returns-in_default-second_line
returns-in_default-second_line c =
    inr (inr (inl (
      refl,
      record {
        gennum = c.in-Some.gennum;
        rest = c.in-Some.rest.now;
        fits = c.in-Some.ensures.0;
        begun = c.in-Some.ensures.1;
        none = c.in_default-second_line.ensures;
      },
    )))

pub returns : goal.returns
returns c =
    let same : c.in-Some-second_line.kept.bytes ≡ c.digest_of-computed.result.bytes = first_of (search rules, grind (arith, common_steps)) in
    inr (table_read c.args.text.now c.in-Some.gennum c.in-Some.rest.now c.in-Some-second_line.kept.bytes c.in-Some-second_line.body.now c.digest_of-computed.result.bytes c.in_ok-rows.rows
    c.in-Some.ensures.0 c.in-Some.ensures.1 c.in-Some-second_line.ensures c.in_ok-rows.ensures.0 c.in_ok-rows.ensures.1 c.digest_of-computed.ensures same)
