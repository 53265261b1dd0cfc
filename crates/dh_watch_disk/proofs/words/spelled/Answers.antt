use Rattle.std.proofs.Common.{string_bytes, rules}
use Rattle.std.proofs.lemmas.List.Elements.{All-push}
use Rattle.dh_script.specs.Locations.{IsPlace}
use Rattle.dh_watch_disk.specs.Words.{no_words}
use Rattle.dh_watch_disk.proofs.Located.{located_more, wrong_word}
use Rattle.dh_watch_disk.proofs.words.spelled.Goals as goal

pub loop-i-init : goal.loop-i-init
loop-i-init c = record { located = rw c.new-locs.ensures.items no_words; places = rw c.new-locs.ensures.items (search rules) }

pub returns-in-Err-clause-wrong : goal.returns-in-Err-clause-wrong
returns-in-Err-clause-wrong c =
    wrong_word string_bytes _ c.loop-i.i c.index-words-i.result c.loop-i-test.true c.index-words-i.is _ c.loop-i.invariant.located _ c.as_str.ensures.value c.in-Err.fault c.in-Err.ensures.wrong

pub loop-i-preserved : goal.loop-i-preserved
loop-i-preserved c = record {
  located = rw c.in-Ok-push.ensures.items
      (located_more string_bytes _ c.loop-i.i c.index-words-i.result c.loop-i-test.true c.index-words-i.is _ c.loop-i.invariant.located _ c.as_str.ensures.value c.in-Ok.loc c.in-Ok.ensures.spelled);
  places = rw c.in-Ok-push.ensures.items (All-push IsPlace _ c.in-Ok.loc c.loop-i.invariant.places c.in-Ok.ensures.place);
}
