use Rattle.std.proofs.Common.{sym, subst}
use Rattle.dh_cbor.specs.Readings.{the_atom}
use Rattle.dh_cbor.specs.declared.marks.Atom.{Atom}
use Rattle.dh_binary.specs.Machine.{term_atom}
use Rattle.dh_binary.specs.Stubs.{stubs}
use Rattle.dh_decode.specs.Inside.Takings.{Takes}
use Rattle.dh_decode.proofs.taking.term.Goals as goal

pub returns-in-Characters : goal.returns-in-Characters
returns-in-Characters c = subst (λ (a : Atom). Takes (λ b. term_atom stubs b (the_atom a)) c.builtin.result) (sym c.in-Characters.is) c.builtin.ensures
