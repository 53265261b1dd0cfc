use Rattle.std.proofs.Common.{◌≡◌, ◌∙◌, sym, ap, Bool}
use Rattle.dh_syntax.proofs.NativeTests.{eq-native}
use Rattle.dh_binary.specs.Machine as machine
use Rattle.dh_binary.specs.Stubs.{stubs}
use Rattle.dh_decode.specs.Inside.States.{want_of}
use Rattle.dh_decode.specs.Inside.Views.{frames_of}
use Rattle.dh_decode.specs.declared.places.Want.{Want}
use Rattle.dh_decode.proofs.reading.Reader.array.Goals as goal

pub returns-in-Boxed : goal.returns-in-Boxed
returns-in-Boxed c =
    c.when-in-Boxed.ensures ∙ ap (λ (b : Bool). machine.when b machine.boxing) (sym (eq-native c.args.items 1))
    ∙ ap (λ (w : Want). machine.array_as stubs (want_of w (frames_of c.args.self.now.frames)) c.args.items) (sym c.in-Boxed.is)
