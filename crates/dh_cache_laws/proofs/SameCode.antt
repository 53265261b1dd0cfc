-- Code that differs only in the names of binders comes to values that differ only so, or is refused at one place by one rule.
use Rattle.std.specs.Prelude.{ℕ, List, [], Option}
use Rattle.std.proofs.Common.{subst}
use Rattle.dh_syntax.specs.declared.locations.Key.{Key}
use Rattle.dh_imports.specs.declared.outcomes.Origin.TheVariants as origins
use Rattle.dh_syntax.specs.Expressions.Tree.{Term}
use Rattle.dh_imports.specs.Outcomes.{Good}
use Rattle.dh_syntax.specs.Names.Alpha.{IsSame}
use Rattle.dh_syntax.specs.Normalising.Named.{names}
use Rattle.dh_syntax.specs.Normalising.Normal.{HasNormalForm}
use Rattle.dh_syntax.specs.Typing.Inference.{Has}
use Rattle.dh_syntax.specs.Typing.NamedTyping.{infer, Infers, IsIll}
use Rattle.dh_laws.proofs.Normalising.NamedAnswers.{same_normal_forms}
use Rattle.dh_import_laws.specs.ImportLaws.{ComesOf, normal}
use Rattle.dh_cache_laws.specs.SameTyping.{IsSameJudgment}
use Rattle.dh_cache_laws.proofs.SameTypings.{same_judged}

pub same_infers : (units : ℕ) (e f t : Term) (left : ℕ) → IsSame e f → Infers [] units e (Has t left) → (u : Term) × Infers [] units f (Has u left) × IsSame t u
same_infers units e f t left s (depth, (heights, purse, h)) =
    let (u, p, q) = subst (λ j. IsSameJudgment j (infer heights purse depth [] units f)) h (same_judged heights purse depth units e f s) in
    (u, (depth, (heights, purse, q)), p)

pub same_ill : (e f : Term) (path : List ℕ) (number : ℕ) → IsSame e f → IsIll [] e path number → IsIll [] f path number
same_ill e f path number s (rule, units, (depth, (heights, purse, h)), p) =
    (rule, units, (depth, (heights, purse, subst (λ j. IsSameJudgment j (infer heights purse depth [] units f)) h (same_judged heights purse depth units e f s))), p)

pub same_values : (k : Key) (e f v : Term) (allow : Option (List ℕ)) (units : ℕ) (t : Term) (left : ℕ) → IsSame e f → Infers [] units e (Has t left) → HasNormalForm names e v
    → (w : Term) × ComesOf k f allow (Good w (origins.Fetched allow)) × IsSame v w
same_values k e f v allow units t left s h g =
    let (u, i, p) = same_infers units e f t left s h in
    let (w, n, q) = same_normal_forms e f v s g in
    (w, normal units u left i n, q)
