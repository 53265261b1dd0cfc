-- Which part of a node is typed next.
use Rattle.std.specs.Prelude.{◌≡◌, ◌<◌, ◌≤◌, ◌+◌, ◌==◌, ◌&&◌, ℕ, zero, suc, nat_lt, Bool, true, false, List, [], ◌∷◌, map, length, Some, None, slice_get, refl}
use Rattle.std.proofs.Common.{Global, Vec, ap, sym, arith, get_or, subst as along}
use Rattle.std.proofs.lemmas.Bool.Decides.{nat_tests}
use Rattle.dh_syntax.specs.declared.expressions.Op.{Op}
use Rattle.dh_syntax.specs.declared.expressions.Op.TheVariants as ops
use Rattle.dh_syntax.specs.declared.operators.Builtin.TheVariants as builtins
use Rattle.dh_syntax.specs.Typing.NamelessTyping.{core_scopes}
use Rattle.dh_syntax.specs.Typing.TypeViews.{is_constant}
use Rattle.dh_syntax.specs.Typing.Typing as typings
use Rattle.dh_store.specs.declared.codes.CodeKid.{CodeKid}
use Rattle.dh_store.specs.declared.codes.Codes.{Codes}
use Rattle.dh_store.specs.Cells.{AreKidsBelow}
use Rattle.dh_store.specs.Growth.{count}
use Rattle.dh_infer.specs.declared.frames.Entry.{Entry}
use Rattle.dh_infer.specs.declared.frames.Frame.TheVariants as frames
use Rattle.dh_infer.specs.declared.frames.State.{State}
use Rattle.dh_infer.specs.declared.frames.State.TheVariants as states
use Rattle.dh_infer.specs.declared.frames.Typer.{Typer}
use Rattle.dh_infer.specs.declared.parts.Turn.{Turn}
use Rattle.dh_infer.specs.declared.parts.Turn.TheVariants as turns
use Rattle.dh_infer.specs.Inside.Machine.{IsReady, Advances, with_frame}
use Rattle.dh_infer.specs.Inside.OpenTyping.{typing_in}
use Rattle.dh_infer.specs.Inside.Scopes.{in_scope}
use Rattle.dh_infer.specs.Inside.Turns.{IsAnnotation, IsUntyped, IsTurn, IsTurnOf}
use Rattle.dh_infer.proofs.Modelled.{models-node}
use Rattle.dh_infer.proofs.Parting.{parts-done, part-skipped, part-begins, unknown}

-- ---- annotations

pub annotation-let : (t : Bool) (n : ℕ) → IsAnnotation (ops.Let t) n (t && n == 0)
annotation-let true zero = λ below. refl
annotation-let true (suc n) = λ below. grind (arith, nat_tests)
annotation-let false n = λ below. refl

pub annotation-empty : (n : ℕ) → IsAnnotation ops.EmptyList n (n == 0)
annotation-empty zero = λ below. refl
annotation-empty (suc n) = λ below. grind (arith, nat_tests)

pub annotation-annot : (n : ℕ) → IsAnnotation ops.Annot n (n == 1)
annotation-annot zero = λ below. refl
annotation-annot (suc zero) = λ below. refl
annotation-annot (suc (suc n)) = λ below. grind (arith, nat_tests)

pub annotation-map : (t : Bool) (n : ℕ) → IsAnnotation (ops.ToMap t) n (t && n == 1)
annotation-map true zero = λ below. refl
annotation-map true (suc zero) = λ below. refl
annotation-map true (suc (suc n)) = λ below. grind (arith, nat_tests)
annotation-map false n = λ below. refl

pub annotation-merge : (t : Bool) (n : ℕ) → IsAnnotation (ops.Merge t) n (t && n == 2)
annotation-merge true zero = λ below. refl
annotation-merge true (suc zero) = λ below. refl
annotation-merge true (suc (suc zero)) = λ below. refl
annotation-merge true (suc (suc (suc n))) = λ below. grind (arith, nat_tests)
annotation-merge false n = λ below. refl

pub annotation-other : (op : Op) (n : ℕ) → ((b : Bool) → op ≡ ops.Let b → ⊥) → (op ≡ ops.EmptyList → ⊥) → (op ≡ ops.Annot → ⊥) → ((b : Bool) → op ≡ ops.ToMap b → ⊥)
    → ((b : Bool) → op ≡ ops.Merge b → ⊥) → IsAnnotation op n false
annotation-other (ops.Let b) n n1 n2 n3 n4 n5 = absurd (n1 b refl)
annotation-other ops.EmptyList n n1 n2 n3 n4 n5 = absurd (n2 refl)
annotation-other ops.Annot n n1 n2 n3 n4 n5 = absurd (n3 refl)
annotation-other (ops.ToMap b) n n1 n2 n3 n4 n5 = absurd (n4 b refl)
annotation-other (ops.Merge b) n n1 n2 n3 n4 n5 = absurd (n5 b refl)
annotation-other op n n1 n2 n3 n4 n5 = λ below. refl

-- ---- parts

pub kid-there : (n : ℕ) (ks : List CodeKid) (at : ℕ) (c : CodeKid) → slice_get ks at ≡ Some c → AreKidsBelow n ks → c.code < n
kid-there n [] at c p h = absurd cc
kid-there n (k ∷ ks) zero c p h = let q : k ≡ c = cc in along (λ (z : CodeKid). z.code < n) q h.0
kid-there n (k ∷ ks) (suc at) c p h = kid-there n ks at c p h.1

-- a part that is there, and one that is not
pub get-some : {X : Type 0} (xs : List X) (at : ℕ) (x : X) → at < length xs → x ≡ get_or xs at x → slice_get xs at ≡ Some x
get-some [] at x l e = absurd (omega (arith, l))
get-some (y ∷ xs) zero x l e = ap Some (sym e)
get-some (y ∷ xs) (suc at) x l e = get-some xs at x (omega (arith, l)) e

not-below : (m n : ℕ) → false ≡ nat_lt m n → n ≤ m
not-below m n h = grind (arith, nat_tests)

none-past : {X : Type 0} (xs : List X) (at : ℕ) → length xs ≤ at → slice_get xs at ≡ None
none-past [] at l = refl
none-past (x ∷ xs) zero l = absurd (omega (arith, l))
none-past (x ∷ xs) (suc at) l = none-past xs at (omega (arith, l))

pub get-none : {X : Type 0} (xs : List X) (at : ℕ) → false ≡ nat_lt at (length xs) → slice_get xs at ≡ None
get-none xs at h = none-past xs at (not-below at (length xs) h)

module _ (cs : Codes) (es : List Entry) (op : Op) (ks : List CodeKid) (at : ℕ) (c : CodeKid) (there : slice_get ks at ≡ Some c) where
  pub turn-skip : IsUntyped cs es op at c.code true → IsTurnOf cs es op ks at turns.Skip
  turn-skip h = (c, there, h)

  pub turn-type : AreKidsBelow (count cs) ks → IsUntyped cs es op at c.code false → IsTurnOf cs es op ks at (turns.Type c.code)
  turn-type below h = (c, there, refl, kid-there (count cs) ks at c there below, h)

pub next-is : (at n : ℕ) → n ≡ at + 1 → suc at ≡ n
next-is at n h = omega (arith, h)

-- ---- the machine goes on

module _ (m : Typer) (k at : ℕ) (us : Vec ℕ Global) (u : ℕ) (ready : IsReady m (states.Parts k at us)) (turn : Turn) (is : IsTurn m.codes m.scope k at turn) where
  abbrev here : State
  here = states.Parts k at us

  pub turns-done : turn ≡ turns.Done → Advances m m here (states.Rule k us unknown) u u
  turns-done p =
      let (op, ks, n, t) = is in
      parts-done m k at us u ready op ks (λ g a. models-node m.codes g a k op ks ready.state.0 n) n.fits (along (IsTurnOf m.codes m.scope op ks at) p t)

  pub turns-skip : turn ≡ turns.Skip → Advances m m here (states.Parts k (suc at) us) u u
  turns-skip p =
      let (op, ks, n, t) = is in
      let (c, there, untyped) = along (IsTurnOf m.codes m.scope op ks at) p t in
      part-skipped m k at us u ready op ks (λ g a. models-node m.codes g a k op ks ready.state.0 n) n.fits c there true (λ g a d. untyped g a (typing_in (map g m.levels) d)) refl

  pub turns-type : (c : ℕ) → turn ≡ turns.Type c → Advances m (with_frame (frames.Part k at us) m) here (states.Type c) u u
  turns-type c p =
      let (op, ks, n, t) = is in
      let (kid, there, e, below, typed) = along (IsTurnOf m.codes m.scope op ks at) p t in
      along (λ z. Advances m (with_frame (frames.Part k at us) m) here (states.Type z) u u) e
      (part-begins m k at us u ready op ks (λ g a. models-node m.codes g a k op ks ready.state.0 n) n.fits kid there false
      (λ g a d. along (λ z. (typings.is_annotation core_scopes (typing_in (map g m.levels) d) [] op at && is_constant builtins.Sort (in_scope g m.scope z)) ≡ false) (sym e) (typed g a (typing_in (map g m.levels) d)))
      refl (along (λ z. z < count m.codes) (sym e) below))
