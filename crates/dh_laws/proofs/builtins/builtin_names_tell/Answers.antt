use Rattle.std.proofs.Common.{refl}
use Rattle.dh_syntax.specs.declared.operators.Builtin.TheVariants as builtin
use Rattle.dh_laws.specs.BuiltinNames.{NamesTell}
use Rattle.dh_laws.proofs.builtins.builtin_names_tell.Goals as goal

names_tell : NamesTell
names_tell builtin.TypeConst = refl
names_tell builtin.Kind = refl
names_tell builtin.Sort = refl
names_tell builtin.Bool = refl
names_tell builtin.Natural = refl
names_tell builtin.Integer = refl
names_tell builtin.Text = refl
names_tell builtin.List = refl
names_tell builtin.Optional = refl
names_tell builtin.None = refl
names_tell builtin.NaturalFold = refl
names_tell builtin.NaturalBuild = refl
names_tell builtin.NaturalIsZero = refl
names_tell builtin.NaturalEven = refl
names_tell builtin.NaturalOdd = refl
names_tell builtin.NaturalToInteger = refl
names_tell builtin.NaturalShow = refl
names_tell builtin.NaturalSubtract = refl
names_tell builtin.IntegerShow = refl
names_tell builtin.IntegerNegate = refl
names_tell builtin.IntegerClamp = refl
names_tell builtin.ListBuild = refl
names_tell builtin.ListFold = refl
names_tell builtin.ListLength = refl
names_tell builtin.ListHead = refl
names_tell builtin.ListLast = refl
names_tell builtin.ListIndexed = refl
names_tell builtin.ListReverse = refl
names_tell builtin.TextShow = refl
names_tell builtin.TextReplace = refl

pub returns : goal.returns
returns c = names_tell
