-- Worked examples of places in a text that holds imports, and of how the root of a run ends.
use Rattle.std.specs.Prelude.{◌≡◌, ℕ, [], ◌∷◌, None, Some, codes, refl}
use Rattle.dh_syntax.specs.declared.operators.BinOp.TheVariants as bins
use Rattle.dh_imports.specs.declared.outcomes.Origin.TheVariants.{Fetched}
use Rattle.dh_imports.specs.declared.outcomes.Why.TheVariants.{Absent}
use Rattle.dh_syntax.specs.Expressions.Forms as form
use Rattle.dh_syntax.specs.Expressions.Tree.{Term}
use Rattle.dh_imports.specs.LastStep.{own, last_step}
use Rattle.dh_imports.specs.Outcomes.{Good}
use Rattle.dh_imports.specs.Records as found
use Rattle.dh_imports.specs.Replay.{ready, bad}
use Rattle.dh_imports.specs.RootEnds.{EndsBy, resolved}
use Rattle.dh_imports.specs.TextPaths.{text_path}
use Rattle.dh_imports.specs.Walk.{Ask, Ready, Fails}
use Rattle.dh_examples.specs.Imports.ImportExamples.{a_, code, import, one, says, sum, texts}

-- `a ? b`
abbrev choice : Term → Term → Term
choice a b = form.operator bins.Fallback a b

-- `1 + (./a ? (1 + 1))`
abbrev text : Term
text = sum one (choice (import a_) (sum one one))

-- each key has the value `1`
abbrev with_value : Ask
with_value k = Some (Good one (Fetched None))

-- each key is at fault itself, for its text is absent
abbrev with_fault : Ask
with_fault k = Some (own k Absent)

-- Where `./a` has a value, the right side of the sum is that value, and a place in it is the import.
taken_left : text_path None with_value text (1 ∷ 7 ∷ []) ≡ 1 ∷ 0 ∷ []
taken_left = refl

-- Where it is absent, the right side is `1 + 1`, which stands on the right of the `?`.
taken_right : text_path None with_fault text (1 ∷ 0 ∷ []) ≡ 1 ∷ 1 ∷ 0 ∷ []
taken_right = refl

-- a place beside the imports is what it is
beside : text_path None with_fault text (0 ∷ []) ≡ 0 ∷ []
beside = refl

-- `./a` over a text that says `1 + 1` ends with `2`, and over none with its fault
ends_ready : EndsBy (texts ((a_, says (sum one one)) ∷ [])) (import a_) (ready (form.natural 2))
unfolding last_step
ends_ready = resolved (Ready (form.natural 2)) refl (4, refl) refl

ends_bad : EndsBy (texts ((a_, found.Absent) ∷ [])) (import a_) (bad (record { at = Some (code a_); why = Absent }))
unfolding last_step
ends_bad = resolved (Fails (record { at = Some (code a_); why = Absent })) refl (4, refl) refl
