-- Worked examples of the lines of faults of imports.
use Rattle.std.specs.Prelude.{◌≡◌, ◌++◌, None, Some, codes, refl}
use Rattle.std.specs.Fmt.{decimal}
use Rattle.dh_syntax.specs.declared.faults.ParseFault.TheVariants as parse
use Rattle.dh_syntax.specs.declared.locations.Loc.TheVariants as locs
use Rattle.dh_imports.specs.declared.outcomes.Why.TheVariants as why
use Rattle.dh_command.specs.declared.statuses.Status.TheVariants as status
use Rattle.dh_imports.specs.ImportFaults.{in_item, why_line}
use Rattle.dh_command.specs.Statuses.{why_status}
use Rattle.dh_examples.specs.Imports.ImportExamples.{a_, b_, code}

in_a_file : in_item (Some (code a_)) (why_line why.Absent) ≡ codes "in ./a: absent"
in_a_file = refl

in_the_input : in_item None (why_line why.TooMany) ≡ codes "more than 4096 imports"
in_the_input = refl

of_a_text : in_item (Some (code a_)) (why_line (why.Parse (parse.Syntax 7))) ≡ codes "in ./a: syntax at " ++ decimal 7
of_a_text = refl

refused : why_line (why.Insane (locs.Env (codes "HOME"))) ≡ codes "may not import env:HOME"
refused = refl

other_origin : why_line (why.Cors b_) ≡ codes "cross-origin import of ./b refused"
other_origin = refl

-- a failed device is no fault of an import
device : why_status why.Failed ≡ status.Desk
device = refl

circle : why_status why.Cycle ≡ status.Import
circle = refl
