use Rattle.std.proofs.Common.{◌≡◌, ◌∙◌, sym, ap, subst, refl, arith, Option, drop}
use Rattle.dh_binary.specs.Machine as machine
use Rattle.dh_binary.specs.Stubs.{decoded}
use Rattle.dh_decode.specs.Inside.States.{state_of, outcome_of}
use Rattle.dh_decode.specs.Inside.Steps.{IsReached}
use Rattle.dh_decode.specs.Inside.Views.{value_of}
use Rattle.dh_decode.specs.declared.places.Value.{Value}
use Rattle.dh_decode.proofs.DecodingLaws.{Goes, goes_first, goes_on, goes_out, goes_wrong, reached_start, into_ok, into_err, handed_on}
use Rattle.dh_decode.proofs.decoding.decoded.Goals as goal

pub loop-reader-init : goal.loop-reader-init
loop-reader-init c =
    let s = state_of c.new-reader.result.want c.new-reader.result.frames in
    (goes_first c.args.bytes.now s c.new-reader.ensures, reached_start s c.new-reader.ensures, omega arith, omega arith)

pub returns-in_err-step-clause-err : goal.returns-in_err-step-clause-err
returns-in_err-step-clause-err c =
    handed_on c.args.bytes.now c.from_residual.result c.in_err-step.field-0.0 c.from_residual.ensures.1
    (λ n. goes_wrong c.args.bytes.now c.loop-reader.from c.loop-reader.at (state_of c.loop-reader.reader.want c.loop-reader.reader.frames) c.in_err-step.field-0.0 c.loop-reader.invariant.0 c.loop-reader.invariant.3 (c.in_err-step.ensures.err n))

pub returns-in-Some-clause-ok : goal.returns-in-Some-clause-ok
returns-in-Some-clause-ok c =
    let bytes = c.args.bytes.now in
    let w = c.step.new.self.want in
    let fs = c.step.new.self.frames in
    let t = outcome_of c.in_ok-step.step.value w fs in
    into_ok c.finish.result _ (decoded bytes)
    (goes_out bytes c.loop-reader.at c.in_ok-step.step.next t (value_of _) _
    (goes_on bytes c.loop-reader.from c.loop-reader.at c.in_ok-step.step.next (state_of c.loop-reader.reader.want c.loop-reader.reader.frames) t c.loop-reader.invariant.0 c.loop-reader.invariant.3 c.in_ok-step.ensures.goes_on.0 c.in_ok-step.ensures.ok)
    (ap (λ (o : Option Value). outcome_of o w fs) c.in-Some.is ∙ ap (λ (v : Value). machine.done (value_of v)) (sym c.in-Some.value-is)) refl)
    c.finish.ensures.ok

pub returns-in-Some-clause-err : goal.returns-in-Some-clause-err
returns-in-Some-clause-err c =
    let bytes = c.args.bytes.now in
    let w = c.step.new.self.want in
    let fs = c.step.new.self.frames in
    let t = outcome_of c.in_ok-step.step.value w fs in
    into_err c.finish.result _ (decoded bytes)
    (goes_out bytes c.loop-reader.at c.in_ok-step.step.next t (value_of _) _
    (goes_on bytes c.loop-reader.from c.loop-reader.at c.in_ok-step.step.next (state_of c.loop-reader.reader.want c.loop-reader.reader.frames) t c.loop-reader.invariant.0 c.loop-reader.invariant.3 c.in_ok-step.ensures.goes_on.0 c.in_ok-step.ensures.ok)
    (ap (λ (o : Option Value). outcome_of o w fs) c.in-Some.is ∙ ap (λ (v : Value). machine.done (value_of v)) (sym c.in-Some.value-is)) refl)
    c.finish.ensures.err

pub loop-reader-preserved : goal.loop-reader-preserved
loop-reader-preserved c =
    let bytes = c.args.bytes.now in
    let w = c.step.new.self.want in
    let fs = c.step.new.self.frames in
    let t = outcome_of c.in_ok-step.step.value w fs in
    let e = ap (λ (o : Option Value). outcome_of o w fs) c.in-None.is in (
      subst (Goes bytes c.loop-reader.at c.in_ok-step.step.next) e
          (goes_on bytes c.loop-reader.from c.loop-reader.at c.in_ok-step.step.next (state_of c.loop-reader.reader.want c.loop-reader.reader.frames) t c.loop-reader.invariant.0 c.loop-reader.invariant.3 c.in_ok-step.ensures.goes_on.0 c.in_ok-step.ensures.ok),
      subst IsReached e c.in_ok-step.ensures.reached,
      c.loop-reader.invariant.3,
      c.in_ok-step.ensures.goes_on.1,
    )
