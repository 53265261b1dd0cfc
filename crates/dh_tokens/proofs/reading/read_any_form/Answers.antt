use Rattle.std.proofs.Common.{◌∙◌, ◌+◌, drop, ap, sym}
use Rattle.dh_syntax.specs.Text.Lexing.{step_at, tokens_from}
use Rattle.dh_tokens.specs.Reading.{onto}
use Rattle.dh_tokens.specs.Inside.Forms.{form_of}
use Rattle.dh_tokens.specs.Inside.States.{state_of}
use Rattle.dh_tokens.proofs.ReadingSteps.{FormRead, read-fault, read-gives, read-may_stand, read-skips, read-sound, gives-whole, skips-whole, pass_skips, pass_gives}
use Rattle.dh_tokens.proofs.reading.read_any_form.Goals as goal

pub pass-requires-clause-sound : goal.pass-requires-clause-sound
pass-requires-clause-sound c =
    let s = state_of c.args.state.now in
    let f = c.in_ok-form.form in
    let read : FormRead s c.args.at c.args.text.now f = record { utf8 = c.utf8.text; here = c.requires.within; value = c.in_ok-form.ensures.value; within = c.in_ok-form.ensures.within; whole = c.in_ok-form.ensures.whole } in
    read-sound s c.args.at c.args.text.now f read

pub pass-requires-clause-may_stand : goal.pass-requires-clause-may_stand
pass-requires-clause-may_stand c =
    let s = state_of c.args.state.now in
    let f = c.in_ok-form.form in
    let read : FormRead s c.args.at c.args.text.now f = record { utf8 = c.utf8.text; here = c.requires.within; value = c.in_ok-form.ensures.value; within = c.in_ok-form.ensures.within; whole = c.in_ok-form.ensures.whole } in
    read-may_stand s c.args.at c.args.text.now f read

pub returns-in-Ok-None-clause-ready : goal.returns-in-Ok-None-clause-ready
returns-in-Ok-None-clause-ready c =
    let s = state_of c.args.state.now in
    let t = state_of c.pass.new.self in
    let f = c.in_ok-form.form in
    let text = c.args.text.now in
    let read : FormRead s c.args.at text f = record { utf8 = c.utf8.text; here = c.requires.within; value = c.in_ok-form.ensures.value; within = c.in_ok-form.ensures.within; whole = c.in_ok-form.ensures.whole } in
    (c.in-Ok-None.ensures.rooted, skips-whole s t c.args.at text f read (pass_skips c.in-Ok-None.field-0 t f.len (step_at s c.args.at (form_of f)) c.in-Ok-None.field-0-is c.in-Ok-None.ensures.value))

pub returns-in-Ok-None-clause-value : goal.returns-in-Ok-None-clause-value
returns-in-Ok-None-clause-value c =
    let s = state_of c.args.state.now in
    let t = state_of c.pass.new.self in
    let f = c.in_ok-form.form in
    let text = c.args.text.now in
    let read : FormRead s c.args.at text f = record { utf8 = c.utf8.text; here = c.requires.within; value = c.in_ok-form.ensures.value; within = c.in_ok-form.ensures.within; whole = c.in_ok-form.ensures.whole } in
    ap (onto c.args.made.now) (read-skips s t c.args.at text f read (pass_skips c.in-Ok-None.field-0 t f.len (step_at s c.args.at (form_of f)) c.in-Ok-None.field-0-is c.in-Ok-None.ensures.value))

pub returns-in_ok-push-in-Ok-Some-clause-ready : goal.returns-in_ok-push-in-Ok-Some-clause-ready
returns-in_ok-push-in-Ok-Some-clause-ready c =
    let s = state_of c.args.state.now in
    let t = state_of c.pass.new.self in
    let f = c.in_ok-form.form in
    let text = c.args.text.now in
    let read : FormRead s c.args.at text f = record { utf8 = c.utf8.text; here = c.requires.within; value = c.in_ok-form.ensures.value; within = c.in_ok-form.ensures.within; whole = c.in_ok-form.ensures.whole } in
    (c.in-Ok-Some.ensures.rooted, gives-whole s t c.in-Ok-Some.token c.args.at text f read (pass_gives c.in-Ok-Some.field-0 c.in-Ok-Some.token t f.len (step_at s c.args.at (form_of f)) c.in-Ok-Some.field-0-is c.in-Ok-Some.ensures.value))

pub returns-in_ok-push-in-Ok-Some-clause-value : goal.returns-in_ok-push-in-Ok-Some-clause-value
returns-in_ok-push-in-Ok-Some-clause-value c =
    let s = state_of c.args.state.now in
    let t = state_of c.pass.new.self in
    let f = c.in_ok-form.form in
    let text = c.args.text.now in
    let read : FormRead s c.args.at text f = record { utf8 = c.utf8.text; here = c.requires.within; value = c.in_ok-form.ensures.value; within = c.in_ok-form.ensures.within; whole = c.in_ok-form.ensures.whole } in
    let gives = pass_gives c.in-Ok-Some.field-0 c.in-Ok-Some.token t f.len (step_at s c.args.at (form_of f)) c.in-Ok-Some.field-0-is c.in-Ok-Some.ensures.value in
    read-gives s t c.in-Ok-Some.token c.args.at text f c.args.made.now read gives ∙ ap (λ ts. onto ts (tokens_from t 0 (c.args.at + f.len) (drop (c.args.at + f.len) text))) (sym c.in_ok-push-in-Ok-Some.ensures.ok)

pub returns-in-Err-clause-fault : goal.returns-in-Err-clause-fault
returns-in-Err-clause-fault c =
    let s = state_of c.args.state.now in
    let f = c.in_ok-form.form in
    let text = c.args.text.now in
    let read : FormRead s c.args.at text f = record { utf8 = c.utf8.text; here = c.requires.within; value = c.in_ok-form.ensures.value; within = c.in_ok-form.ensures.within; whole = c.in_ok-form.ensures.whole } in
    read-fault s (state_of c.pass.new.self) c.args.at text f c.in-Err.fault read c.in-Err.ensures.value
