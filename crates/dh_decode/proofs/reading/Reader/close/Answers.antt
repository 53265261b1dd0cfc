use Rattle.std.proofs.Common.{◌∙◌, sym}
use Rattle.dh_decode.specs.Inside.Views.{place_of, frames_of}
use Rattle.dh_decode.proofs.ReadingLaws.{settle_more}
use Rattle.dh_decode.proofs.reading.Reader.close.Goals as goal

pub returns-then-left-gt0-clause-ok : goal.returns-then-left-gt0-clause-ok
returns-then-left-gt0-clause-ok c = settle_more (place_of c.args.place) c.args.left (frames_of c.args.self.now.frames) c.if-left-gt0.true ∙ sym c.in_ok-wait.ensures.ok
