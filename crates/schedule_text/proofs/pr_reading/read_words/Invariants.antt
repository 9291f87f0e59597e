use Rattle.std.proofs.Common.{◌≡◌, ◌++◌, length, map, take}
use Rattle.schedule_text.specs.Words.{words_of}
use Rattle.schedule_text.proofs.pr_reading.read_words.Given as goal

abbrev pub invariant-loop-place : goal.invariant-loop-place
invariant-loop-place l = record {
  five : length l.words ≡ 5;
  whole : map (λ w. w.now) (take l.place l.words) ++ words_of l.rest ≡ words_of l.fn.line;
}
