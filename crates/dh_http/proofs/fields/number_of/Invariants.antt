use Rattle.dh_http.proofs.FieldLaws.{Reads}
use Rattle.dh_http.proofs.fields.number_of.Given as goal

abbrev pub invariant-loop-digit : goal.invariant-loop-digit
invariant-loop-digit l = Reads l.value l.digit-index l.number
