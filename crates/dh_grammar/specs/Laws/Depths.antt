-- What nests too deep, and where too many expressions stand open.
use Rattle.std.specs.Prelude.{true, false, nat_lt, ◌≡◌, ◌↔◌, ◌<◌, List, [], ◌∷◌, ◌++◌, Option}
use Rattle.dh_syntax.specs.declared.expressions.Op.{Op}
use Rattle.dh_syntax.specs.declared.tokens.Token.{Token}
use Rattle.dh_syntax.specs.Limits.{most_nesting, most_open}
use Rattle.dh_syntax.specs.Text.Spelling.{NestsTooDeep}
use Rattle.dh_syntax.specs.Expressions.Tree.{Name}
use Rattle.dh_grammar.specs.Machine.{Sorts, Making, State, need, after, depth_at}
use Rattle.dh_grammar.specs.Reading.{accepted, reading, runs_still}
use Rattle.dh_grammar.specs.Stubs.{Part, Parts, Kept, stub, node, stubs}
use Rattle.dh_grammar.specs.Depths.{Within, opens_many}
use Rattle.dh_syntax.specs.declared.tokens.TokenKind.{TokenKind}

-- the tokens derive an expression that nests too deep exactly where the machine accepts them with a stub
abbrev pub DeepExactly : Type 0
DeepExactly = (ts : List Token) → NestsTooDeep ts ↔ ((x : Kept) × (reading stubs (need []) ts ≡ accepted x) × (most_nesting < x.part.nests))

-- a node with a part that nests too deep does so too
abbrev pub StubsSpread : Type 0
StubsSpread = (op : Op) (before after : Parts) (b : Option Name) (p : Part) → most_nesting < p.nests → node op (before ++ (b, p) ∷ after) ≡ stub

-- ---- where too many expressions stand open

-- a token read keeps within the limit, if it does not open too many
abbrev pub KeepsWithin : {K : Sorts} → Making K → Type 0
KeepsWithin {K} m = (s : State K) (k : TokenKind) → Within s → opens_many s k ≡ false → Within (after m k s)

-- of a token that can stand there, the test of the definition is the one of the reader
abbrev pub TestsDepth : {K : Sorts} → Making K → Type 0
TestsDepth {K} m = (s : State K) (k : TokenKind) → Within s → runs_still (after m k s) ≡ true → nat_lt most_open (depth_at s k) ≡ opens_many s k
