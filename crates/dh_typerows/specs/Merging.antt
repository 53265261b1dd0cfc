-- Parts of the rule of `merge`: handlers and their results.
use Rattle.std.specs.Prelude.{ℕ, Bool, Option, None, Result, Ok, Err, map, option_map}
use Rattle.dh_syntax.specs.Expressions.Forms.{Fields, labels_of}
use Rattle.dh_syntax.specs.Expressions.Numbers.{bytes_eq}
use Rattle.dh_syntax.specs.Expressions.SameTree.{list_eq}
use Rattle.dh_syntax.specs.Expressions.Tree.{Tree}
use Rattle.dh_syntax.specs.Names.Nameless.{Core}
use Rattle.dh_syntax.specs.Typing.Scopes.{Scopes}
use Rattle.dh_syntax.specs.Typing.TypeRules as rule
use Rattle.dh_syntax.specs.Typing.TypeRulesUnions.{agreed, all_handled, handled, merged}
use Rattle.dh_syntax.specs.Typing.TypeRuling.{Ruling, Takes, require, given}
use Rattle.dh_syntax.specs.Typing.TypeViews.{Alternatives, as_merged}
use Rattle.dh_types.specs.Following.{Course, Refuses}

-- what follows from a result, or the rule that fails
abbrev pub result_course : (ℕ → Core) → Result ℕ ℕ → (Core → Course Core) → Course Core
result_course f (Ok r) next = next (f r)
result_course f (Err number) next = Refuses number

-- what follows from a result, if there is one, or the rule that fails
abbrev pub results_course : (ℕ → Core) → Result (Option ℕ) ℕ → (Option Core → Course Core) → Course Core
results_course f (Ok r) next = next (option_map f r)
results_course f (Err number) next = Refuses number

module _ {A B : Type 0} (S : Scopes A B) where
  -- the result of one more handler, beside that of those before
  abbrev pub handled_by : Option (Tree A B) → Option (Tree A B) → Tree A B → (Tree A B → Ruling (Tree A B)) → Ruling (Tree A B)
  handled_by before t h next = handled S t h (λ r. agreed S before r next)

  -- a result of the handlers beside the annotation, which is in normal form
  abbrev pub beside : Tree A B → Tree A B → Ruling (Tree A B)
  beside r t = require (S.same r t) rule.MergeAnnotation (Takes r)

  -- a `merge` with these handlers, of these alternatives
  abbrev pub handled_all : Bool → Fields A B → Alternatives A B → Ruling (Tree A B)
  handled_all annotated hs alts = require (list_eq bytes_eq (labels_of hs) (map (λ a. a.0) alts)) rule.HandlerLabels (all_handled S None hs alts (λ result. merged S annotated result))

  -- a `merge` with these handlers, of a value of the type u
  abbrev pub merged_with : Bool → Fields A B → Tree A B → Ruling (Tree A B)
  merged_with annotated hs u = given (as_merged u) rule.MergeNoUnion (λ alts. handled_all annotated hs alts)
