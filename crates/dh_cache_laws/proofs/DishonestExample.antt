-- A cache that is not honest changes what a root comes to: `https://e.x/p sha256:.. ? 2`, where the entry is that of `1`. A run writes such
-- an entry itself where another import of its root has this digest, so a cache that a run has written need not be honest for it.
use Rattle.std.specs.Prelude.{◌≡◌, true, if◌then◌else◌, codes, [], ◌∷◌, Some, None, refl}
use Rattle.std.proofs.Common.{ap, sym, ◌∙◌}
use Rattle.dh_syntax.specs.declared.expressions.Op.TheVariants as ops
use Rattle.dh_syntax.specs.declared.locations.Digest.{Digest}
use Rattle.dh_syntax.specs.declared.locations.Key.{Key}
use Rattle.dh_syntax.specs.declared.locations.Loc.{Loc}
use Rattle.dh_syntax.specs.declared.locations.Loc.TheVariants as locs
use Rattle.dh_syntax.specs.declared.locations.Mode.TheVariants as modes
use Rattle.dh_syntax.specs.declared.operators.BinOp.TheVariants as bins
use Rattle.dh_imports.specs.declared.outcomes.Origin.TheVariants as origins
use Rattle.dh_imports.specs.declared.outcomes.Why.TheVariants.{Https}
use Rattle.dh_syntax.specs.Bytes.Binary.{enc}
use Rattle.dh_syntax.specs.Expressions.Forms as form
use Rattle.dh_syntax.specs.Expressions.SameTree.{digest_eq}
use Rattle.dh_syntax.specs.Expressions.Tree.{Node, end, Term}
use Rattle.dh_syntax.specs.Imports.Keys.{bare}
use Rattle.dh_syntax.specs.Bytes.Digests.{digest_of}
use Rattle.dh_imports.specs.LastStep.{own, last_step}
use Rattle.dh_imports.specs.Outcomes.{Good}
use Rattle.dh_imports.specs.Records as found
use Rattle.dh_imports.specs.Records.{Record, look_at}
use Rattle.dh_imports.specs.Resolver.{plan_look, of_plan, ended, resolve, ResolvesRoot}
use Rattle.dh_imports.specs.Walk.{by_outcome, or_else, Ready}
use Rattle.dh_syntax.specs.Names.Alpha.{IsSame}
use Rattle.dh_syntax.proofs.AlphaEquations.{alpha-Node}
use Rattle.dh_syntax.proofs.SameTree.{digests_tell}

abbrev one : Term
one = form.natural 1

abbrev two : Term
two = form.natural 2

abbrev its_digest : Digest
its_digest = digest_of one

abbrev there : Loc
there = locs.Https (record { host = codes "e.x"; comps = codes "p" ∷ []; query = None })

abbrev frozen : Key
frozen = record { loc = there; mode = modes.Code; digest = Some its_digest }

abbrev root : Term
root = form.operator bins.Fallback (Node (ops.Import (record { loc = there; mode = modes.Code; digest = Some its_digest })) end) two

abbrev cached : Record
cached = record { texts = []; looks = (its_digest, found.Good (enc one) one) ∷ []; limits = [] }

abbrev plain : Record
plain = record { texts = []; looks = (its_digest, found.Miss) ∷ []; limits = [] }

itself : digest_eq its_digest its_digest ≡ true
itself = digests_tell.itself its_digest

by_entry : ended cached 0 frozen (of_plan (resolve cached 0 (frozen ∷ [])) frozen (plan_look frozen its_digest (Some (found.Good (enc one) one)))) ≡ Some (Good one origins.Cached)
unfolding last_step
by_entry = refl

-- with the entry it is `1`
pub comes-to_one : ResolvesRoot cached root (Ready one)
comes-to_one = (
  1,
  ap (λ o. or_else (by_outcome None frozen o) (Ready two))
      (ap (λ x. ended cached 0 frozen (of_plan (resolve cached 0 (frozen ∷ [])) frozen (plan_look frozen its_digest x))) (ap (λ b. if b then Some (found.Good (enc one) one) else None) itself) ∙ by_entry),
)

by_fault : ended plain 1 frozen (of_plan (resolve plain 1 (frozen ∷ [])) frozen (plan_look frozen its_digest (Some found.Miss))) ≡ Some (own (bare frozen) Https)
unfolding last_step
by_fault = refl

-- without a cache it is `2`
pub comes-to_two : ResolvesRoot plain root (Ready two)
comes-to_two = (
  2,
  ap (λ o. or_else (by_outcome None frozen o) (Ready two))
      (ap (λ x. ended plain 1 frozen (of_plan (resolve plain 1 (frozen ∷ [])) frozen (plan_look frozen its_digest x))) (ap (λ b. if b then Some found.Miss else None) itself) ∙ by_fault),
)

-- and these are not the same
literals-differ : one ≡ two → ⊥
literals-differ h = cc

pub differ : ¬ IsSame one two
differ h = absurd (literals-differ (sym (alpha-Node (ops.Nat 1) end) ∙ h ∙ alpha-Node (ops.Nat 2) end))
