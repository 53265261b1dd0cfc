use Rattle.std.proofs.Common.{ap, is_ok}
use Rattle.std.proofs.lemmas.Result.{MatchResult-at_ok}
use Rattle.dh_syntax.specs.Text.LexLocations.{hex_bytes}
use Rattle.dh_tokens.proofs.DigestLaws.{decode_sized-hex_bytes, same_digest}
use Rattle.dh_tokens.proofs.digests.digest_of.Goals as goal

pub unwrap-requires : goal.unwrap-requires
unwrap-requires c =
    let ds = c.args.digits.now in
    let decoded = MatchResult-at_ok _ _ (hex_bytes ds) (decode_sized-hex_bytes ds c.requires.len c.requires.digits) c.decode_to_slice.ensures.value in
    ap is_ok decoded.0

pub returns : goal.returns
returns c =
    let ds = c.args.digits.now in
    let decoded = MatchResult-at_ok _ _ (hex_bytes ds) (decode_sized-hex_bytes ds c.requires.len c.requires.digits) c.decode_to_slice.ensures.value in
    same_digest c.decode_to_slice.new.out (hex_bytes ds) decoded.1
