use Rattle.std.proofs.Common.{Some, ap, sym, ◌∙◌, subst as along}
use Rattle.std.specs.Prelude.{Option, Result, false}
use Rattle.dh_syntax.specs.declared.faults.ParseFault.{ParseFault}
use Rattle.dh_syntax.specs.declared.locations.Loc.{Loc}
use Rattle.dh_imports.specs.Records as found
use Rattle.dh_imports.specs.Resolver.{plan_text}
use Rattle.dh_demand.specs.declared.scans.Scan.{Scan}
use Rattle.dh_ports.specs.declared.worlds.Got.TheVariants as gots
use Rattle.dh_record.specs.declared.news.Noted.{Noted}
use Rattle.dh_record.specs.declared.news.Noted.TheVariants as noteds
use Rattle.dh_record.specs.Reading.{IsPlan, IsScan}
use Rattle.dh_record.specs.Rows.{noted_by, scanned}
use Rattle.dh_record.proofs.Stages.{noted_read}
use Rattle.dh_record.proofs.stage.plans.plan_text.Goals as goal

pub returns-in-Failed-clause-plan : goal.returns-in-Failed-clause-plan
returns-in-Failed-clause-plan c rows k r h =
    let t = c.args.text.now in
    along (λ (g : Noted). IsPlan rows k (plan_text k c.args.as_text (Some (noted_by g (scanned t.read)))) c.faulty.result) (sym c.in-Failed.is) (c.faulty.ensures.plan rows k)

pub returns-in-Absent-clause-plan : goal.returns-in-Absent-clause-plan
returns-in-Absent-clause-plan c rows k r h =
    let t = c.args.text.now in
    along (λ (g : Noted). IsPlan rows k (plan_text k c.args.as_text (Some (noted_by g (scanned t.read)))) c.faulty-in-Absent.result) (sym (c.in-Got.is ∙ ap noteds.Got c.in-Absent.is)) (c.faulty-in-Absent.ensures.plan rows k)

pub returns-in-Broken-clause-plan : goal.returns-in-Broken-clause-plan
returns-in-Broken-clause-plan c rows k r h =
    let t = c.args.text.now in
    along (λ (g : Noted). IsPlan rows k (plan_text k c.args.as_text (Some (noted_by g (scanned t.read)))) c.faulty-in-Broken.result) (sym (c.in-Got.is ∙ ap noteds.Got c.in-Broken.is)) (c.faulty-in-Broken.ensures.plan rows k)

pub returns-in-None-clause-plan : goal.returns-in-None-clause-plan
returns-in-None-clause-plan c rows k r h =
    let t = c.args.text.now in
    along (λ (g : Noted). IsPlan rows k (plan_text k c.args.as_text (Some (noted_by g (scanned t.read)))) c.faulty-in-None.result) (sym (c.in-Got.is ∙ ap noteds.Got c.in-Found.is))
    (along (λ (x : Option (Result Scan ParseFault)). IsPlan rows k (plan_text k c.args.as_text (Some (noted_by (noteds.Got (gots.Found c.in-Found.found)) (scanned x)))) c.faulty-in-None.result)
    (sym c.in-None.is)
    (c.faulty-in-None.ensures.plan rows k))

pub returns-in-Some-clause-plan : goal.returns-in-Some-clause-plan
returns-in-Some-clause-plan c rows k r h =
    let t = c.args.text.now in
    let read = along (λ (l : Loc). IsScan rows l (Some c.in-Some.read)) r.loc_is (along (λ (x : Option (Result Scan ParseFault)). IsScan rows t.loc x) c.in-Some.is r.read) in
    along (λ (n : found.Noted). IsPlan rows k (plan_text k c.args.as_text (Some n)) c.plan_found.result)
    (sym (noted_read t c.in-Got.got c.in-Found.found c.in-Some.read c.in-Got.is c.in-Found.is c.in-Some.is))
    (c.plan_found.ensures.plan rows k read h)
