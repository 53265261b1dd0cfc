use Rattle.std.proofs.Common.{◌∙◌, ap, subst}
use Rattle.std.proofs.lemmas.Result.{IfOk-weaker}
use Rattle.dh_imports.specs.declared.outcomes.Outcome.TheVariants as outcomes
use Rattle.dh_syntax.specs.Expressions.Bridge.{term}
use Rattle.dh_imports.specs.LastStep.{text_outcome}
use Rattle.dh_record.specs.Values.{IsFit}
use Rattle.dh_work.specs.Inside.Coming.{IsCame}
use Rattle.dh_work.proofs.Comings.{code_item, text_item, location_item, compare_item, entry_item, fault_item}
use Rattle.dh_work.proofs.last_steps.came.Goals as goal

pub code_came-requires : goal.code_came-requires
code_came-requires c = subst IsFit c.in-Code.is c.requires

pub compared-requires : goal.compared-requires
compared-requires c = subst IsFit c.in-Compare.is c.requires

pub cached-requires : goal.cached-requires
cached-requires c = subst IsFit c.in-Entry.is c.requires

pub returns-in-Code : goal.returns-in-Code
returns-in-Code c = IfOk-weaker c.code_came.result _ (IsCame c.args.item.now) (λ x h. code_item c.args.item.now c.in-Code.code x c.in-Code.is h) c.code_came.ensures

pub returns-in_ok-text_outcome-in-Text : goal.returns-in_ok-text_outcome-in-Text
returns-in_ok-text_outcome-in-Text c =
    text_item c.args.item.now c.in-Text.bytes c.in_ok-text_outcome-in-Text.field-0 c.in-Text.is
    (c.in_ok-text_outcome-in-Text.ensures.outcome ∙ ap (λ b. text_outcome c.args.item.now.key b c.args.item.now.allow) c.as_slice.ensures) c.in_ok-text_outcome-in-Text.ensures.value

pub returns-in_ok-made-in-Location : goal.returns-in_ok-made-in-Location
returns-in_ok-made-in-Location c =
    location_item c.args.item.now c.in-Location.loc c.in_ok-made-in-Location.field-0 c.in-Location.is c.in_ok-made-in-Location.ensures.outcome c.in_ok-made-in-Location.ensures.value

pub returns-in_ok-compared-in-Compare : goal.returns-in_ok-compared-in-Compare
returns-in_ok-compared-in-Compare c =
    compare_item c.args.item.now c.in-Compare.value c.in-Compare.origin c.in_ok-compared-in-Compare.field-0 c.in-Compare.is c.in_ok-compared-in-Compare.ensures.outcome
    c.in_ok-compared-in-Compare.ensures.value

pub returns-in_ok-cached-in-Entry : goal.returns-in_ok-cached-in-Entry
returns-in_ok-cached-in-Entry c =
    entry_item c.args.item.now c.in-Entry.value c.in_ok-cached-in-Entry.field-0 c.in-Entry.is c.in_ok-cached-in-Entry.ensures.outcome c.in_ok-cached-in-Entry.ensures.value

pub returns-in_ok-copied-in-Fault : goal.returns-in_ok-copied-in-Fault
returns-in_ok-copied-in-Fault c =
    fault_item c.args.item.now c.in-Fault.blame _ c.in-Fault.is (ap (λ b. outcomes.Bad b) c.in_ok-copied-in-Fault.ensures)
