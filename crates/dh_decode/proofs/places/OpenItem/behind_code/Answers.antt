use Rattle.std.proofs.Common.{◌≡◌, ◌∙◌, sym, ap}
use Rattle.dh_binary.specs.Machine as machine
use Rattle.dh_binary.specs.Machine.{or_first}
use Rattle.dh_binary.specs.Stubs.{stubs}
use Rattle.dh_decode.specs.Inside.Views.{place_of}
use Rattle.dh_decode.specs.declared.places.OpenItem.{OpenItem}
use Rattle.dh_decode.proofs.places.OpenItem.behind_code.Goals as goal

pub returns-in-Some : goal.returns-in-Some
returns-in-Some c =
    ap or_first (c.in-Some.ensures)
    ∙ ap (λ (p : OpenItem). machine.fill stubs (place_of p) (machine.coded c.args.code c.args.items)) (sym c.in-First.is)

pub returns-in-None : goal.returns-in-None
returns-in-None c =
    ap or_first (c.in-None.ensures)
    ∙ ap (λ (p : OpenItem). machine.fill stubs (place_of p) (machine.coded c.args.code c.args.items)) (sym c.in-First.is)
