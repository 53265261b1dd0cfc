use Rattle.std.proofs.Common.{◌≡◌, ◌∙◌, ap}
use Rattle.dh_cbor.specs.Readings.{the_atom}
use Rattle.dh_cbor.specs.declared.marks.Atom.{Atom}
use Rattle.dh_binary.specs.Machine.{opening_atom}
use Rattle.dh_binary.specs.Stubs.{stubs}
use Rattle.dh_decode.proofs.ReadingLaws.{opening_none}
use Rattle.dh_decode.proofs.taking.opening.Goals as goal

pub returns-in-Characters-2 : goal.returns-in-Characters-2
returns-in-Characters-2 c =
    let e = ap (λ (a : Atom). opening_atom stubs c.args.items (the_atom a)) c.in-Characters-2.is ∙ opening_none c.args.items c.in-Characters-2.field-0.now c.if-items-eq1.false in
    (e, e)
