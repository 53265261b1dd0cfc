use Rattle.std.proofs.Common.{◌∙◌, ◌+◌, drop, ap, sym, Ok, arith}
use Rattle.dh_syntax.specs.Text.Lexing.{end_at, tokens_from}
use Rattle.dh_tokens.specs.Reading.{onto}
use Rattle.dh_tokens.specs.Inside.States.{state_of}
use Rattle.dh_tokens.proofs.ReadingLaws.{read-begins, read-ends, read-further, whole-fault, ready-begins}
use Rattle.dh_tokens.proofs.reading.tokens.Goals as goal

pub forms-init : goal.forms-init
forms-init c = record {
  ready = ready-begins c.start-state.result 0 c.args.text.now c.start-state.ensures.rooted c.start-state.ensures.value;
  read = read-begins c.args.text.now c.new-made.result (state_of c.start-state.result) c.new-made.ensures c.start-state.ensures.value;
}

pub read_form-requires-clause-ready : goal.read_form-requires-clause-ready
read_form-requires-clause-ready c = c.forms.invariant.ready

pub forms-preserved : goal.forms-preserved
forms-preserved c = record {
  ready = c.in-Ok.ensures.ready;
  read = read-further c.args.text.now c.forms.made c.read_form.new.made (state_of c.forms.state) (state_of c.read_form.new.state) c.forms.at (c.forms.at + c.in-Ok.len) c.forms.invariant.read c.in-Ok.ensures.within.1 c.in-Ok.ensures.value;
}

pub returns-in-Err-clause-fault : goal.returns-in-Err-clause-fault
returns-in-Err-clause-fault c =
    let text = c.args.text.now in
    whole-fault text c.forms.made (tokens_from (state_of c.forms.state) 0 c.forms.at (drop c.forms.at text)) c.in-Err.fault c.forms.invariant.read.so_far c.in-Err.ensures.fault

pub end-requires-clause-small : goal.end-requires-clause-small
end-requires-clause-small c = omega (arith, c.forms.invariant.read.within, c.requires.small)

pub end-requires-clause-rooted : goal.end-requires-clause-rooted
end-requires-clause-rooted c = c.forms.invariant.ready.0

pub returns-in_ok-push-in-Ok-end-clause-ok : goal.returns-in_ok-push-in-Ok-end-clause-ok
returns-in_ok-push-in-Ok-end-clause-ok c =
    let text = c.args.text.now in
    let s = state_of c.forms.state in
    read-ends text c.forms.made s c.forms.at c.forms.invariant.read (omega (arith, c.forms-test.false)) ∙ ap (onto c.forms.made) c.in-Ok-end.ensures ∙ ap Ok (sym c.in_ok-push-in-Ok-end.ensures.ok)

pub returns-in-Err-end-clause-fault : goal.returns-in-Err-end-clause-fault
returns-in-Err-end-clause-fault c =
    let text = c.args.text.now in
    let s = state_of c.forms.state in
    let ends = read-ends text c.forms.made s c.forms.at c.forms.invariant.read (omega (arith, c.forms-test.false)) in
    whole-fault text c.forms.made (end_at s c.forms.at s.place) c.in-Err-end.fault ends c.in-Err-end.ensures
