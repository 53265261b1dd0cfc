-- How many parts of a node are typed.
use Rattle.std.specs.Prelude.{◌≡◌, ◌<◌, ◌≤◌, ◌++◌, ◌&&◌, ℕ, zero, suc, Bool, true, false, List, [], ◌∷◌, length, Some, None, IsTrue, slice_get, refl}
use Rattle.std.proofs.Common.{ap, arith}
use Rattle.dh_syntax.specs.declared.expressions.Op.{Op}
use Rattle.dh_syntax.specs.declared.expressions.Op.TheVariants as ops
use Rattle.dh_syntax.specs.Expressions.Arity.{fits}
use Rattle.dh_syntax.specs.Expressions.Tree.{Name}
use Rattle.dh_syntax.specs.Names.Nameless.{Ref, Core}
use Rattle.dh_syntax.specs.Typing.Inference.{Inference}
use Rattle.dh_syntax.specs.Typing.NamelessTyping.{core_scopes}
use Rattle.dh_syntax.specs.Typing.Scopes.{Context}
use Rattle.dh_syntax.specs.Typing.Typing as typings
use Rattle.dh_store.specs.declared.codes.CodeKid.{CodeKid}
use Rattle.dh_store.specs.Cells.{nothing, code_row}
use Rattle.dh_typerows.specs.Groups.{IsLabelled}
use Rattle.dh_infer.specs.Inside.Machine.{IsCounted}
use Rattle.dh_infer.proofs.Shapes.{plain-length}

both-left : (a b : Bool) → IsTrue (a && b) → IsTrue a
both-left true b h = refl
both-left false b h = absurd cc

both-right : (a b : Bool) → IsTrue (a && b) → IsTrue b
both-right true b h = h
both-right false b h = absurd cc

past-end : (ks : List CodeKid) (at : ℕ) → slice_get ks at ≡ None → length ks ≤ at
past-end [] at h = omega arith
past-end (k ∷ ks) zero h = absurd cc
past-end (k ∷ ks) (suc at) h = let l = past-end ks at h in omega arith

within : (ks : List CodeKid) (at : ℕ) (c : CodeKid) → slice_get ks at ≡ Some c → at < length ks
within [] at c h = absurd cc
within (k ∷ ks) zero c h = omega arith
within (k ∷ ks) (suc at) c h = let l = within ks at c h in omega arith

pub length-more : (cs : List ℕ) (t : ℕ) → length (cs ++ t ∷ []) ≡ suc (length cs)
length-more [] t = refl
length-more (c ∷ cs) t = ap suc (length-more cs t)

pub counted-none : (op : Op) → IsCounted op 0 0
counted-none (ops.Record xs) = (refl, omega arith)
counted-none op = tt

-- a record has as many parts as labels
record-length : (xs : List Name) (ks : List CodeKid) → ((f : ℕ → Core) → IsTrue (fits (ops.Record xs) (code_row f ks))) → length ks ≡ length xs
record-length xs ks fit = plain-length (length xs) ks (both-right _ _ (fit (λ c. nothing)))

pub labelled : (op : Op) (ks : List CodeKid) (n at : ℕ) → ((f : ℕ → Core) → IsTrue (fits op (code_row f ks))) → IsCounted op n at → slice_get ks at ≡ None → IsLabelled op n
labelled (ops.Record xs) ks n at fit (e, l) none = (both-left _ _ (fit (λ c. nothing)), let p = record-length xs ks fit in let q = past-end ks at none in omega arith)
labelled (ops.Project xs) ks n at fit h none = both-left _ _ (fit (λ c. nothing))
labelled op ks n at fit h none = tt

pub counted-part : (op : Op) (ks : List CodeKid) (n at : ℕ) (c : CodeKid) → ((f : ℕ → Core) → IsTrue (fits op (code_row f ks))) → IsCounted op n at → slice_get ks at ≡ Some c
    → IsCounted op (suc n) (suc at)
counted-part (ops.Record xs) ks n at c fit (e, l) there = (ap suc e, let p = record-length xs ks fit in let q = within ks at c there in omega arith)
counted-part op ks n at c fit h there = tt

-- a record has no annotation
pub counted-skipped : (op : Op) (n at : ℕ) (below : Context Ref Name → Core → Inference Core) (b : Bool) → (typings.is_annotation core_scopes below [] op at && b) ≡ true → IsCounted op n at
    → IsCounted op n (suc at)
counted-skipped (ops.Record xs) n at below b y h = absurd cc
counted-skipped op n at below b y h = tt
