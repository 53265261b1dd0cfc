-- Worked examples of which imports of a root get a digest when it is frozen, and of its text.
use Rattle.std.specs.Prelude.{◌≡◌, ℕ, true, if◌then◌else◌, List, [], ◌∷◌, None, Some, codes, refl}
use Rattle.dh_syntax.specs.declared.locations.Digest.{Digest}
use Rattle.dh_syntax.specs.declared.operators.BinOp.TheVariants as bins
use Rattle.dh_imports.specs.declared.outcomes.Origin.TheVariants.{Fetched}
use Rattle.dh_imports.specs.declared.outcomes.Why.TheVariants.{Absent}
use Rattle.dh_imports.specs.FrozenTexts.{Insertion, with_digests}
use Rattle.dh_syntax.specs.Expressions.Forms as form
use Rattle.dh_syntax.specs.Expressions.Tree.{Term}
use Rattle.dh_imports.specs.Freezing.{digests_behind}
use Rattle.dh_syntax.specs.Imports.Keys.{key_eq}
use Rattle.dh_syntax.specs.Bytes.Digests.{digest_of}
use Rattle.dh_imports.specs.LastStep.{own}
use Rattle.dh_imports.specs.Outcomes.{Good}
use Rattle.dh_imports.specs.Walk.{Ask}
use Rattle.dh_examples.specs.Imports.ImportExamples.{a_, b_, code, import, one, sum}

-- `a ? b`
abbrev choice : Term → Term → Term
choice a b = form.operator bins.Fallback a b

-- nothing is known
abbrev unknown : Ask
unknown k = None

-- each key has the value 1
abbrev all_one : Ask
all_one k = Some (Good one (Fetched None))

-- `./a` is absent, and each other key has the value 1
abbrev but_a : Ask
but_a k = if key_eq k (code a_) then Some (own k Absent) else Some (Good one (Fetched None))

nothing_known : digests_behind unknown true (sum (import a_) (import b_)) ≡ None ∷ None ∷ []
nothing_known = refl

each_has_a_value : digests_behind all_one true (sum (import a_) (import b_)) ≡ Some (digest_of one) ∷ Some (digest_of one) ∷ []
each_has_a_value = refl

-- a walk does not go on behind a fault
behind_a_fault : digests_behind but_a true (sum (import a_) (import b_)) ≡ None ∷ None ∷ []
behind_a_fault = refl

-- `./a ? ./b` is walked on its right where the left is absent, and only there
left_is_taken : digests_behind all_one true (choice (import a_) (import b_)) ≡ Some (digest_of one) ∷ None ∷ []
left_is_taken = refl

right_is_taken : digests_behind but_a true (choice (import a_) (import b_)) ≡ None ∷ Some (digest_of one) ∷ []
right_is_taken = refl

-- ---- the text

-- the 32 bytes of a digest, all zero
abbrev zeros : List ℕ
zeros = 0 ∷ 0 ∷ 0 ∷ 0 ∷ 0 ∷ 0 ∷ 0 ∷ 0 ∷ 0 ∷ 0 ∷ 0 ∷ 0 ∷ 0 ∷ 0 ∷ 0 ∷ 0 ∷ 0 ∷ 0 ∷ 0 ∷ 0 ∷ 0 ∷ 0 ∷ 0 ∷ 0 ∷ 0 ∷ 0 ∷ 0 ∷ 0 ∷ 0 ∷ 0 ∷ 0 ∷ 0 ∷ []

-- the insertion of a digest of zeros behind three characters
abbrev behind_three : List Insertion
behind_three = (3, record { 0 = zeros }) ∷ []

written_behind : with_digests 0 (codes "./a + 1") behind_three ≡ codes "./a sha256:0000000000000000000000000000000000000000000000000000000000000000 + 1"
written_behind = refl
