-- Terms that have values, and terms that have none: no expression of the program is one of these.
use Rattle.std.specs.Prelude.{◌≡◌, ℕ, ◌-◌, ◌^◌, pos, negsuc, true, false, List, [], ◌∷◌, ◌++◌, Some, map, refl}
use Rattle.dh_syntax.specs.declared.expressions.Op.TheVariants as ops
use Rattle.dh_syntax.specs.declared.locations.Loc.TheVariants as locs
use Rattle.dh_syntax.specs.declared.locations.Mode.TheVariants as mode
use Rattle.dh_syntax.specs.Expressions.Tree.{Node, end, Term}
use Rattle.dh_syntax.specs.Expressions.Values.{every, op_in_range, op_has_no_noncharacter}
use Rattle.dh_examples.specs.Vocabulary.{x, x0}
use Rattle.dh_syntax.specs.Expressions.Forms.{integer, lambda, natural, plain_text, some}
use Rattle.dh_examples.specs.Bytes.ExampleBytes.{hex}
use Prim.Native.String.{String}

-- an import with this digest
abbrev with_digest : List ℕ → Term
with_digest d = Node (ops.Import (record { loc = locs.Missing; mode = mode.Code; digest = Some (record { 0 = d }) })) end

-- sixteen bytes, half a digest
abbrev sixteen : List ℕ
sixteen = hex "00 11 22 33 44 55 66 77 88 99 AA BB CC DD EE FF"

in_range :
    map (every op_in_range)
    (x0 ∷ natural 0 ∷ natural (2 ^ 128 - 1) ∷ integer (pos (2 ^ 127 - 1)) ∷ integer (negsuc (2 ^ 127 - 1)) ∷ with_digest (sixteen ++ sixteen) ∷ plain_text (hex "FF") ∷ [])
    ≡ true ∷ true ∷ true ∷ true ∷ true ∷ true ∷ true ∷ []
in_range = refl

out_of_range :
    map (every op_in_range)
    (natural (2 ^ 128) ∷ integer (pos (2 ^ 127)) ∷ integer (negsuc (2 ^ 127)) ∷ with_digest sixteen ∷ with_digest (sixteen ++ sixteen ++ 0 ∷ []) ∷ some (lambda x x0 (natural (2 ^ 128))) ∷ [])
    ≡ false ∷ false ∷ false ∷ false ∷ false ∷ false ∷ []
out_of_range = refl

-- the text of these bytes
abbrev of_bytes : String → Term
of_bytes digits = plain_text (hex digits)

-- `é` and U+FFFD are characters, U+FFFF and U+1FFFE are non-characters
noncharacters :
    map (every op_has_no_noncharacter) (of_bytes "C3 A9" ∷ of_bytes "EF BF BD" ∷ of_bytes "61 EF BF BF" ∷ of_bytes "F0 9F BF BE" ∷ [])
    ≡ true ∷ true ∷ false ∷ false ∷ []
noncharacters = refl
