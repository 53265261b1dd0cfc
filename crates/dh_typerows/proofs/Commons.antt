-- Rulings that are equal go equally far, and what follows from a result that is known.
use Rattle.std.specs.Prelude.{◌≡◌, ℕ, Option, Result, Ok, Err, option_map}
use Rattle.std.proofs.Common.{ap}
use Rattle.dh_syntax.specs.Names.Nameless.{Core}
use Rattle.dh_syntax.specs.Typing.TypeRuling.{Ruling}
use Rattle.dh_types.specs.Following.{follow, Course, Facts, Refuses}
use Rattle.dh_typerows.specs.Merging.{result_course, results_course}

pub along-follow : (facts : Facts Core) {r s : Ruling Core} → r ≡ s → follow facts r ≡ follow facts s
along-follow facts e = ap (follow facts) e

module _ (f : ℕ → Core) where
  pub result-goes : (o : Result ℕ ℕ) (r : ℕ) (next : Core → Course Core) → o ≡ Ok r → result_course f o next ≡ next (f r)
  result-goes o r next e = ap (λ q. result_course f q next) e

  pub result-refused : (o : Result ℕ ℕ) (rule : ℕ) (next : Core → Course Core) → o ≡ Err rule → result_course f o next ≡ Refuses rule
  result-refused o rule next e = ap (λ q. result_course f q next) e

  pub results-go : (o : Result (Option ℕ) ℕ) (r : Option ℕ) (next : Option Core → Course Core) → o ≡ Ok r → results_course f o next ≡ next (option_map f r)
  results-go o r next e = ap (λ q. results_course f q next) e

  pub results-refused : (o : Result (Option ℕ) ℕ) (rule : ℕ) (next : Option Core → Course Core) → o ≡ Err rule → results_course f o next ≡ Refuses rule
  results-refused o rule next e = ap (λ q. results_course f q next) e
