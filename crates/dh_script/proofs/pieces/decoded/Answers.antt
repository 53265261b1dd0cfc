use Rattle.std.proofs.Common.{◌∙◌, ap, Some}
use Rattle.hex.specs.declared.error.FromHexError.TheVariants.{OddLength, InvalidStringLength}
use Rattle.dh_script.proofs.Decoding.{decodes, refuses}
use Rattle.dh_script.proofs.pieces.decoded.Goals as goal

pub returns-in-Ok : goal.returns-in-Ok
returns-in-Ok c = ap Some c.of.ensures ∙ decodes c.args.text.now c.in-Ok.bytes.items c.in-Ok.ensures.ok

pub returns-in-Err-OddLength : goal.returns-in-Err-OddLength
returns-in-Err-OddLength c = refuses c.args.text.now c.in-Err-OddLength.field-0 OddLength c.in-Err-OddLength.field-0-is c.in-Err-OddLength.ensures.err (λ e. cc)

pub returns-in-Err-InvalidHexCharacter : goal.returns-in-Err-InvalidHexCharacter
returns-in-Err-InvalidHexCharacter c =
    refuses c.args.text.now c.in-Err-InvalidHexCharacter.field-0 _ c.in-Err-InvalidHexCharacter.field-0-is c.in-Err-InvalidHexCharacter.ensures.err (λ e. cc)

pub returns-in-Err-InvalidStringLength : goal.returns-in-Err-InvalidStringLength
returns-in-Err-InvalidStringLength c =
    refuses c.args.text.now c.in-Err-InvalidStringLength.field-0 InvalidStringLength c.in-Err-InvalidStringLength.field-0-is c.in-Err-InvalidStringLength.ensures.err (λ e. cc)
