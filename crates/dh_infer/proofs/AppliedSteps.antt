-- The step of an argument, where codes are added on the way.
use Rattle.std.specs.Prelude.{◌≡◌, ◌<◌, ℕ, Bool, true, false, Some}
use Rattle.std.proofs.Common.{ap, sym, ◌∙◌, arith, subst as along}
use Rattle.dh_syntax.specs.Expressions.Tree.{Name}
use Rattle.dh_syntax.specs.Names.Nameless.{Core, sub, first}
use Rattle.dh_syntax.specs.Normalising.NamelessRuns.{nameless_eq}
use Rattle.dh_syntax.specs.Typing.TypeViews.{as_forall}
use Rattle.dh_store.specs.declared.codes.Codes.{Codes}
use Rattle.dh_store.specs.Cells.{code_core}
use Rattle.dh_store.specs.Growth.{count}
use Rattle.dh_types.specs.Growing.{Grows}
use Rattle.dh_infer.specs.declared.frames.Frame.TheVariants as frames
use Rattle.dh_infer.specs.declared.frames.State.{State}
use Rattle.dh_infer.specs.declared.frames.State.TheVariants as states
use Rattle.dh_infer.specs.declared.frames.Typer.{Typer}
use Rattle.dh_syntax.specs.declared.faults.NormFault.{NormFault}
use Rattle.dh_infer.specs.Inside.Machine.{IsReady, Advances, Halts, IsRefusal, with_frame}
use Rattle.dh_infer.specs.Inside.NormalCodes.{IsNormalCode, IsStopped}
use Rattle.dh_infer.specs.Inside.Scopes.{Models, in_scope}
use Rattle.dh_infer.proofs.Applying as laws
use Rattle.dh_infer.proofs.Modelled.{models-before}
use Rattle.dh_infer.proofs.Readiness.{with_codes, ready-grown, advances-grown}

-- the parts of a code that is a ∀
pub forall-seen : (cs : Codes) (t d b : ℕ) (x : Name) → t < count cs → d < t → b < t → Some (code_core cs d, x, code_core cs b) ≡ as_forall (code_core cs t) → (g : ℕ → Core) → Models cs g
    → (y : Name) × (as_forall (g t) ≡ Some (g d, y, g b))
forall-seen cs t d b x there older older-range view g k = (
  x,
  ap as_forall (k t there) ∙ sym view
      ∙ ap (λ y. Some (y, x, code_core cs b)) (sym (k d (omega (arith, there, older)))) ∙ ap (λ y. Some (g d, x, y)) (sym (k b (omega (arith, there, older-range)))),
)

-- two codes that were compared
pub compared : (cs : Codes) (g : ℕ → Core) → Models cs g → (a b : ℕ) → a < count cs → b < count cs → (same p : Bool) → same ≡ nameless_eq (code_core cs a) (code_core cs b) → same ≡ p
    → nameless_eq (g a) (g b) ≡ p
compared cs g k a b x y same p h e = ap (λ z. nameless_eq z (g b)) (k a x) ∙ ap (nameless_eq (code_core cs a)) (k b y) ∙ sym h ∙ e

module _ (m : Typer) (v t a u domain range : ℕ) (ready : IsReady (with_frame (frames.Argument t a) m) (states.Typed v)) (domain-there : domain < count m.codes)
    (is : (g : ℕ → Core) → Models m.codes g → (y : Name) × (as_forall (g t) ≡ Some (g domain, y, g range))) (same : Bool)
    (compares : same ≡ nameless_eq (code_core m.codes v) (code_core m.codes domain)) where
  pub argument-differs : same ≡ false → (s : State) → IsRefusal 8 s → Advances (with_frame (frames.Argument t a) m) m (states.Typed v) s u u
  argument-differs e s i = laws.wrong-argument m v t a u ready domain range is s i (λ g k. compared m.codes g k v domain ready.state domain-there same false compares e)

  module _ (e : same ≡ true) where
    pub argument-halts : (h : NormFault) → IsStopped m.codes u (λ g. sub (first (in_scope g m.scope a)) (g range)) h → Halts (with_frame (frames.Argument t a) m) (states.Typed v) u h
    argument-halts h stop = laws.put-halts m v t a u ready domain range is h (λ g k. compared m.codes g k v domain ready.state domain-there same true compares e) stop

    pub argument-put : (new : Typer) (c l : ℕ) → new ≡ with_codes new.codes m → Grows m.codes new.codes → IsNormalCode new.codes u l (λ g. sub (first (in_scope g m.scope a)) (g range)) c
        → Advances (with_frame (frames.Argument t a) m) new (states.Typed v) (states.Typed c) u l
    argument-put new c l rest grows normal =
        let cs = new.codes in
        let m' = with_codes cs m in
        along (λ z. Advances (with_frame (frames.Argument t a) m) z (states.Typed v) (states.Typed c) u l) (sym rest)
        (advances-grown (with_frame (frames.Argument t a) m) m' cs (states.Typed v) (states.Typed c) u l grows
        (laws.put-in m' v t a u (ready-grown (with_frame (frames.Argument t a) m) (states.Typed v) cs grows ready) domain range (λ g k. is g (models-before m.codes cs g grows k)) c l normal.there
        (λ g k. compared m.codes g (models-before m.codes cs g grows k) v domain ready.state domain-there same true compares e) normal.normal))
