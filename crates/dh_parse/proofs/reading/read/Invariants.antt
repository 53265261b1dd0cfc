use Rattle.std.proofs.Common.{◌≡◌, ◌+◌, ◌<◌, ◌^◌, [], length}
use Rattle.std.specs.Vec.Iter.{into_iter_items, into_iter_len}
use Rattle.dh_reader.specs.States.{state_of}
use Rattle.dh_grammar.specs.Depths.{Within}
use Rattle.dh_grammar.specs.Machine.{need}
use Rattle.dh_grammar.specs.Reading.{reading_at}
use Rattle.dh_parse.specs.Inside.Steps.{EndsOn}
use Rattle.dh_parse.proofs.reading.read.Given as goal

abbrev pub invariant-loop-token : goal.invariant-loop-token
invariant-loop-token g l =
    let s = state_of g.M.Makes.views l.reader.frames l.reader.top in
    let left = into_iter_items l.token-iterator in
    record {
      reads : reading_at g.M.Makes.makes l.at s left ≡ reading_at g.M.Makes.makes 0 (need []) (into_iter_items l.initial.token-iterator);
      counted : into_iter_len l.token-iterator ≡ length left;
      numbered : l.at + length left < 2 ^ 32;
      within : Within s;
      ends : EndsOn s left;
    }
