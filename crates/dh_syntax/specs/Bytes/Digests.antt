-- The digest of an expression (the standard's "Semantic integrity checks"; FIPS 180-4).
use Rattle.std.specs.Prelude.{List}
use Rattle.dh_syntax.specs.declared.locations.Digest.{Digest}
use Rattle.dh_syntax.specs.Bytes.Binary.{enc}
use Rattle.dh_syntax.specs.Expressions.Tree.{Term}
use Rattle.dh_syntax.specs.Names.Alpha.{alpha}
use Rattle.sha2.specs.Sha256.{sha256}

-- SHA-256 of the binary form of the α-normal form
abbrev pub digest_of : Term → Digest
digest_of e = record { 0 = sha256 (enc (alpha e)) }
