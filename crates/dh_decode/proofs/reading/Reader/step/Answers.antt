use Rattle.std.proofs.Common.{◌≡◌, ◌∙◌, sym, ap}
use Rattle.dh_cbor.specs.Readings.{the_mark, the_marked}
use Rattle.dh_decode.specs.Inside.States.{state_of, outcome_of, want_of}
use Rattle.dh_decode.specs.Inside.Views.{frames_of}
use Rattle.dh_decode.proofs.DecodingLaws.{decides_over, decides_on, reached_more, outcome_runs, frames_length, refusal_decides}
use Rattle.dh_decode.proofs.reading.Reader.step.Goals as goal

pub returns-in-Ok-take-clause-err : goal.returns-in-Ok-take-clause-err
returns-in-Ok-take-clause-err c =
    let fs = c.args.self.now.frames in
    let w = want_of c.args.self.now.want (frames_of fs) in
    λ n k. decides_over c.args.bytes.now c.args.from c.args.at k w (frames_of fs) (the_marked c.args.bytes.now c.in-Ok.marked) (outcome_of c.in-Ok-take.field-0 c.take.new.self.want c.take.new.self.frames)
    c.requires.within c.in-Ok.ensures.reads c.in-Ok-take.ensures.ok (outcome_runs c.in-Ok-take.field-0 c.take.new.self.want c.take.new.self.frames)
    (sym (c.is_over-is_over.ensures (frames_of fs) (frames_length fs ∙ sym c.len.ensures)) ∙ c.if-is_over.true)

pub returns-in-Ok-2-clause-reached : goal.returns-in-Ok-2-clause-reached
returns-in-Ok-2-clause-reached c =
    reached_more (the_mark c.in-Ok.marked.mark) (state_of c.args.self.now.want c.args.self.now.frames) (outcome_of c.in-Ok-take.field-0 c.take.new.self.want c.take.new.self.frames) c.requires.reached c.in-Ok-take.ensures.ok

pub returns-in-Ok-2-clause-ok : goal.returns-in-Ok-2-clause-ok
returns-in-Ok-2-clause-ok c =
    let fs = c.args.self.now.frames in
    let w = want_of c.args.self.now.want (frames_of fs) in
    λ k. decides_on c.args.bytes.now c.args.from c.args.at k w (frames_of fs) (the_marked c.args.bytes.now c.in-Ok.marked) (outcome_of c.in-Ok-take.field-0 c.take.new.self.want c.take.new.self.frames)
    c.requires.within c.in-Ok.ensures.reads c.in-Ok-take.ensures.ok (outcome_runs c.in-Ok-take.field-0 c.take.new.self.want c.take.new.self.frames)
    (sym (c.is_over-is_over.ensures (frames_of fs) (frames_length fs ∙ sym c.len.ensures)) ∙ c.if-is_over.false)

pub returns-clause-err : goal.returns-clause-err
returns-clause-err c =
    let fs = c.args.self.now.frames in
    λ n. refusal_decides c.args.bytes.now c.args.from c.args.at c.args.self.now.want fs (the_marked c.args.bytes.now c.in-Ok.marked) c.in-Err-take.stop c.refusal.result c.is_big-is_big.result
    c.requires.within c.requires.reached c.in-Ok.ensures.reads c.in-Err-take.ensures.err (c.is_big-is_big.ensures (frames_of fs)) c.refusal.ensures.misfit c.refusal.ensures.wide c.refusal.ensures.memory n
