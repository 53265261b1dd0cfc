-- Steps of `let`, where codes are added on the way.
use Rattle.std.specs.Prelude.{◌≡◌, ◌<◌, ℕ, Bool, true, false, List, ◌∷◌, drop, Some, None, slice_get}
use Rattle.std.proofs.Common.{ap, sym, ◌∙◌, arith, set, subst as along}
use Rattle.dh_syntax.specs.Names.Nameless.{Core}
use Rattle.dh_syntax.specs.Normalising.NamelessRuns.{nameless_eq}
use Rattle.dh_store.specs.Cells.{code_core}
use Rattle.dh_store.specs.Growth.{count}
use Rattle.dh_types.specs.Growing.{Grows}
use Rattle.dh_infer.specs.declared.frames.Entry.{Entry}
use Rattle.dh_infer.specs.declared.frames.Frame.{Frame}
use Rattle.dh_infer.specs.declared.frames.Frame.TheVariants as frames
use Rattle.dh_infer.specs.declared.frames.State.{State}
use Rattle.dh_infer.specs.declared.frames.State.TheVariants as states
use Rattle.dh_infer.specs.declared.frames.Typer.{Typer}
use Rattle.dh_infer.specs.Inside.Machine.{IsReady, Advances, IsRefusal, with_frame}
use Rattle.dh_infer.specs.Inside.NormalCodes.{IsNormalCode}
use Rattle.dh_infer.specs.Inside.Scopes.{Models, in_scope}
use Rattle.dh_infer.proofs.AppliedSteps.{compared}
use Rattle.dh_infer.proofs.Holding as laws
use Rattle.dh_infer.proofs.Holding.{held}
use Rattle.dh_infer.proofs.Keeping.{used-typed}
use Rattle.dh_infer.proofs.Opening.{same-made}
use Rattle.dh_infer.proofs.Readiness.{with_codes, ready-grown, advances-grown}

-- ---- the annotation is compared

module _ (m new : Typer) (t a b c u e l : ℕ) (ready : IsReady (with_frame (frames.LetValue t a b) m) (states.Typed c)) (rest : new ≡ with_codes new.codes m) (grows : Grows m.codes new.codes)
    (normal : IsNormalCode new.codes u l (λ g. in_scope g m.scope t) e) (same : Bool) (compares : same ≡ nameless_eq (code_core new.codes c) (code_core new.codes e)) where
  c-there : c < count new.codes
  c-there = let p = ready.state in let q = grows.more in omega (arith, p, q)

  alike : (p : Bool) → same ≡ p → (g : ℕ → Core) → Models new.codes g → nameless_eq (g c) (g e) ≡ p
  alike p q g k = compared new.codes g k c e c-there normal.there same p compares q

  later : (s : State) → Advances (with_frame (frames.LetValue t a b) (with_codes new.codes m)) (with_codes new.codes m) (states.Typed c) s u l
      → Advances (with_frame (frames.LetValue t a b) m) new (states.Typed c) s u l
  later s p =
      along (λ z. Advances (with_frame (frames.LetValue t a b) m) z (states.Typed c) s u l) (sym rest)
      (advances-grown (with_frame (frames.LetValue t a b) m) (with_codes new.codes m) new.codes (states.Typed c) s u l grows p)

  ready-later : IsReady (with_frame (frames.LetValue t a b) (with_codes new.codes m)) (states.Typed c)
  ready-later = ready-grown (with_frame (frames.LetValue t a b) m) (states.Typed c) new.codes grows ready

  pub annotation-differs : same ≡ false → (s : State) → IsRefusal 9 s → Advances (with_frame (frames.LetValue t a b) m) new (states.Typed c) s u l
  annotation-differs p s i = later s (laws.annotation-differs (with_codes new.codes m) t a b c u ready-later e l normal.normal s i (alike false p))

  pub annotation-agrees : same ≡ true → Advances (with_frame (frames.LetValue t a b) m) new (states.Typed c) (states.Bind a b 2) u l
  annotation-agrees p = later (states.Bind a b 2) (laws.annotation-agrees (with_codes new.codes m) t a b c u ready-later e l normal.normal (alike true p))

-- ---- the value is bound

pub value-bound : (m mid : Typer) (a b k u v l : ℕ) → IsReady m (states.Bind a b k) → mid ≡ with_codes mid.codes m → Grows m.codes mid.codes
    → IsNormalCode mid.codes u l (λ g. in_scope g m.scope a) v → (es : List Entry) (fs : List Frame)
    → es ≡ record { value = v; typed = None; opened = false } ∷ mid.scope → fs ≡ frames.LetBody k ∷ mid.frames
    → Advances m (record mid { scope = es; frames = fs }) (states.Bind a b k) (states.Type b) u l
value-bound m mid a b k u v l ready rest grows normal es fs p q =
    let cs = mid.codes in
    let m' = with_codes cs m in
    along (λ z. Advances m z (states.Bind a b k) (states.Type b) u l)
    (sym (
    same-made cs es (record { value = v; typed = None; opened = false } ∷ m.scope) mid.levels m.levels fs (frames.LetBody k ∷ m.frames)
    (p ∙ ap (λ z. record { value = v; typed = None; opened = false } ∷ z.scope) rest) (ap (λ z. z.levels) rest) (q ∙ ap (λ z. frames.LetBody k ∷ z.frames) rest)))
    (advances-grown m (held m' v k) cs (states.Bind a b k) (states.Type b) u l grows
    (laws.value-held m' a b k u (ready-grown m (states.Bind a b k) cs grows ready) v l normal.there normal.normal))

-- ---- the body is typed

pub let-left : (m : Typer) (k t u : ℕ) → IsReady (with_frame (frames.LetBody k) m) (states.Typed t) → (es : List Entry) → es ≡ drop 1 m.scope
    → Advances (with_frame (frames.LetBody k) m) (record m { scope = es }) (states.Typed t) (states.Typed t) u u
let-left m k t u ready es p =
    along (λ z. Advances (with_frame (frames.LetBody k) m) (record m { scope = z }) (states.Typed t) (states.Typed t) u u) (sym p) (laws.after-body m k t u ready)

-- ---- the type of a value is kept

pub value-kept : (m : Typer) (i t u : ℕ) (e : Entry) → slice_get m.scope i ≡ Some e → IsReady (with_frame (frames.Used i) m) (states.Typed t) → (es : List Entry)
    → es ≡ set m.scope i (record { value = e.value; typed = Some t; opened = e.opened })
    → Advances (with_frame (frames.Used i) m) (record m { scope = es }) (states.Typed t) (states.Typed t) u u
value-kept m i t u e at ready es p =
    along (λ z. Advances (with_frame (frames.Used i) m) (record m { scope = z }) (states.Typed t) (states.Typed t) u u) (sym p)
    (used-typed m i t u e at ready)
