use Rattle.std.proofs.Common.{sym, subst as along}
use Rattle.std.specs.Prelude.{Result}
use Rattle.dh_syntax.specs.declared.faults.ParseFault.{ParseFault}
use Rattle.dh_imports.specs.Resolver.{plan_parsed}
use Rattle.dh_demand.specs.declared.scans.Scan.{Scan}
use Rattle.dh_record.specs.Due.{term_read}
use Rattle.dh_record.specs.Reading.{IsPlan}
use Rattle.dh_record.proofs.stage.plans.plan_parsed.Goals as goal

pub returns-in-Err-clause-plan : goal.returns-in-Err-clause-plan
returns-in-Err-clause-plan c rows k h s = along (λ (r : Result Scan ParseFault). IsPlan rows k (plan_parsed k c.args.found.now.allow (term_read r)) c.faulty.result) (sym c.in-Err.is) (c.faulty.ensures.plan rows k)
