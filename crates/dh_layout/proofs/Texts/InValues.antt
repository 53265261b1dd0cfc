-- The values of an expression node by node, from the tests of the base crate.
use Rattle.std.proofs.Common.{◌≡◌, ℕ, ◌^◌, true, not, List, [], ◌∷◌, length, Option, Some, None}
use Rattle.std.specs.Prelude.{◌==◌, nat_lt}
use Rattle.std.specs.List.{list_all}
use Rattle.std.specs.Str.{is_utf8}
use Rattle.std.proofs.lemmas.Bool.{and_parts, eqb-true, ltb-true, not-true}
use Rattle.std.proofs.lemmas.Str.{IsUtf8-from_is_utf8}
use Rattle.dh_syntax.specs.declared.expressions.Op.{Op}
use Rattle.dh_syntax.specs.declared.expressions.Op.TheVariants as ops
use Rattle.dh_syntax.specs.declared.locations.Digest.{Digest}
use Rattle.dh_syntax.specs.Expressions.Tree.{Row, Leaf, Node, end, kid, Name, Var, Term}
use Rattle.dh_syntax.specs.Expressions.Values as tests
use Rattle.dh_syntax.specs.Expressions.Values.{every, every_part, op_in_range, op_has_text, op_has_no_noncharacter, digest_if, has_no_noncharacter}
use Rattle.dh_syntax.specs.Text.Characters.{code_at, is_noncharacter}
use Rattle.dh_layout.proofs.Texts.Values.{ArePieces, HasNoNoncharacter, HasValues, HaveValues, IsDigest, OpHasValues}

no_noncharacter : (bs : List ℕ) → has_no_noncharacter bs ≡ true → HasNoNoncharacter bs
no_noncharacter [] h = tt
no_noncharacter (b ∷ bs) h =
    let parts = and_parts (not (is_noncharacter (code_at (b ∷ bs)))) (has_no_noncharacter bs) h in
    (not-true (is_noncharacter (code_at (b ∷ bs))) parts.0, no_noncharacter bs parts.1)

pieces : (ps : List (List ℕ)) → list_all is_utf8 ps ≡ true → list_all has_no_noncharacter ps ≡ true → ArePieces ps
pieces [] h g = tt
pieces (p ∷ ps) h g =
    let a = and_parts (is_utf8 p) (list_all is_utf8 ps) h in
    let b = and_parts (has_no_noncharacter p) (list_all has_no_noncharacter ps) g in
    ((IsUtf8-from_is_utf8 p a.0, no_noncharacter p b.0), pieces ps a.1 b.1)

digest : (d : Option Digest) → digest_if d ≡ true → IsDigest d
digest None h = tt
digest (Some d) h = let parts = and_parts (length d.0 == 32) (list_all (λ b. nat_lt b 256) d.0) h in (eqb-true (length d.0) 32 parts.0, parts.1)

op_values : (op : Op) → op_in_range op ≡ true → op_has_text op ≡ true → op_has_no_noncharacter op ≡ true → OpHasValues op
op_values (ops.Nat n) r t g = ltb-true n (2 ^ 128) r
op_values (ops.Int z) r t g = r
op_values (ops.Text ps) r t g = pieces ps t g
op_values (ops.Import i) r t g = digest i.digest r
op_values _ r t g = tt

mutual
  pub in_values : (e : Term) → every op_in_range e ≡ true → every op_has_text e ≡ true → every op_has_no_noncharacter e ≡ true → HasValues e
  in_values (Leaf v) r t g = tt
  in_values (Node op row) r t g =
      let a = and_parts (op_in_range op) (every_part op_in_range row) r in
      let b = and_parts (op_has_text op) (every_part op_has_text row) t in
      let c = and_parts (op_has_no_noncharacter op) (every_part op_has_no_noncharacter row) g in
      (op_values op a.0 b.0 c.0, in_row row a.1 b.1 c.1)

  in_row : (r : Row Var Name) → every_part op_in_range r ≡ true → every_part op_has_text r ≡ true → every_part op_has_no_noncharacter r ≡ true → HaveValues r
  in_row end r t g = tt
  in_row (kid b e row) r t g =
      let a = and_parts (every op_in_range e) (every_part op_in_range row) r in
      let b' = and_parts (every op_has_text e) (every_part op_has_text row) t in
      let c = and_parts (every op_has_no_noncharacter e) (every_part op_has_no_noncharacter row) g in
      (in_values e a.0 b'.0 c.0, in_row row a.1 b'.1 c.1)

pub values : (e : Term) → tests.HasValues e → tests.HasNoNoncharacters e → HasValues e
values e v g = in_values e v.0 v.1 g
