-- What the machine answers on a few bytes.
use Rattle.std.specs.Prelude.{◌≡◌, [], ◌∷◌, None, Err, Ok, refl}
use Rattle.dh_syntax.specs.declared.faults.DecodeFault.TheVariants as fault
use Rattle.dh_syntax.specs.declared.operators.BinOp.TheVariants as op
use Rattle.dh_syntax.specs.declared.expressions.Op.TheVariants as ops
use Rattle.dh_syntax.specs.Expressions.Tree.{Node, end, kid}
use Rattle.dh_binary.specs.Stubs.{decoded}

sum : decoded (0x84 ∷ 0x03 ∷ 0x04 ∷ 0x82 ∷ 0x0F ∷ 0x01 ∷ 0x82 ∷ 0x0F ∷ 0x02 ∷ []) ≡ Ok (Node (ops.Bin op.Plus) (kid None (Node (ops.Nat 1) end) (kid None (Node (ops.Nat 2) end) end)))
sum = refl

array_of_one : decoded (0x81 ∷ 0x00 ∷ []) ≡ Err (fault.Shape 0)
array_of_one = refl

no_room : decoded (0x83 ∷ 0x0F ∷ 0x01 ∷ 0x01 ∷ []) ≡ Err (fault.Shape 1)
no_room = refl

key_twice : decoded (0x82 ∷ 0x08 ∷ 0xA2 ∷ 0x61 ∷ 0x78 ∷ 0x00 ∷ 0x61 ∷ 0x78 ∷ 0x00 ∷ []) ≡ Err (fault.Shape 6)
key_twice = refl

projected_twice : decoded (0x84 ∷ 0x0A ∷ 0x00 ∷ 0x61 ∷ 0x78 ∷ 0x61 ∷ 0x78 ∷ []) ≡ Err (fault.Shape 5)
projected_twice = refl

wide_bignum : decoded (0x82 ∷ 0x0F ∷ 0xC2 ∷ 0x51 ∷ 0x01 ∷ 0x00 ∷ 0x00 ∷ 0x00 ∷ 0x00 ∷ 0x00 ∷ 0x00 ∷ 0x00 ∷ 0x00 ∷ 0x00 ∷ 0x00 ∷ 0x00 ∷ 0x00 ∷ 0x00 ∷ 0x00 ∷ 0x00 ∷ 0x00 ∷ []) ≡ Err (fault.Wide 2)
wide_bignum = refl

long_bignum : decoded (0x82 ∷ 0x0F ∷ 0xC2 ∷ 0x51 ∷ 0x00 ∷ 0x00 ∷ 0x00 ∷ 0x00 ∷ 0x00 ∷ 0x00 ∷ 0x00 ∷ 0x00 ∷ 0x00 ∷ 0x00 ∷ 0x00 ∷ 0x00 ∷ 0x00 ∷ 0x00 ∷ 0x00 ∷ 0x00 ∷ 0x01 ∷ []) ≡ Err (fault.Shape 3)
long_bignum = refl

-- a URL has four items at least behind its scheme
short_url : decoded (0x85 ∷ 0x18 ∷ 0x18 ∷ 0xF6 ∷ 0x00 ∷ 0x00 ∷ 0xF6 ∷ []) ≡ Err (fault.Shape 5)
short_url = refl

marked : decoded (0xD9 ∷ 0xD9 ∷ 0xF7 ∷ 0xD9 ∷ 0xD9 ∷ 0xF7 ∷ 0x1A ∷ 0x80 ∷ 0x00 ∷ 0x00 ∷ 0x00 ∷ []) ≡ Err (fault.Wide 6)
marked = refl

after_all : decoded (0xF5 ∷ 0xFF ∷ []) ≡ Err (fault.Rest 1)
after_all = refl
