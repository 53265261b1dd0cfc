-- Application.
use Rattle.std.specs.Prelude.{◌≡◌, ◌<◌, ◌+◌, ℕ, Bool, true, false, ◌∷◌, map, length, reverse, Some, None, if◌then◌else◌, refl}
use Rattle.std.proofs.Common.{ap, sym, ◌∙◌, subst as along}
use Rattle.dh_syntax.specs.declared.expressions.Op.TheVariants as ops
use Rattle.dh_syntax.specs.Expressions.Tree.{Node, kid, Name}
use Rattle.dh_syntax.specs.Names.Nameless.{Core, sub, first}
use Rattle.dh_syntax.specs.Normalising.NamelessRuns.{nameless_eq}
use Rattle.dh_syntax.specs.Typing.Inference.{Gives, Fails, FromNormal, Ill}
use Rattle.dh_syntax.specs.Typing.TypeRules as rule
use Rattle.dh_syntax.specs.Typing.TypeRules.{Rule, rule_number}
use Rattle.dh_syntax.specs.Typing.TypeViews.{as_forall}
use Rattle.dh_syntax.specs.Typing.Typing as typings
use Rattle.dh_store.specs.Growth.{count}
use Rattle.dh_norm.specs.Answers.{IsNormal}
use Rattle.dh_infer.specs.declared.frames.Frame.TheVariants as frames
use Rattle.dh_infer.specs.declared.frames.State.{State}
use Rattle.dh_infer.specs.declared.frames.State.TheVariants as states
use Rattle.dh_infer.specs.declared.frames.Typer.{Typer}
use Rattle.dh_syntax.specs.declared.faults.NormFault.{NormFault}
use Rattle.dh_infer.specs.Inside.Debts.{Family, whole, Comes}
use Rattle.dh_infer.specs.Inside.Levels.{IsOf, IsOfBelow}
use Rattle.dh_infer.specs.Inside.Machine.{debts, IsReady, Advances, Halts, IsRefusal, with_frame}
use Rattle.dh_infer.specs.Inside.Normals.{IsLicensedHalt}
use Rattle.dh_infer.specs.Inside.Rests as rests
use Rattle.dh_infer.specs.Inside.Scopes.{Models, in_scope}
use Rattle.dh_infer.proofs.Leading.{leads-part, leads-fails, leads-gives}
use Rattle.dh_infer.proofs.PartsOf.{of-node, of-rest, of-bound, of-put}
use Rattle.dh_infer.proofs.RenamedJudgments.{normal-of}
use Rattle.dh_infer.proofs.Returning.{returns, returns-pushing, halts-normal, goes-normal}

-- ---- the function is typed

pub after-function : (m : Typer) (t a u : ℕ) → IsReady (with_frame (frames.Function a) m) (states.Typed t)
    → Advances (with_frame (frames.Function a) m) (record m { frames = frames.Argument t a ∷ m.frames }) (states.Typed t) (states.Type a) u u
after-function m t a u r =
    returns-pushing m (frames.Function a) (states.Typed t) refl refl r (frames.Argument t a) a u u refl refl (r.state, r.frames.0) r.frames.0
    (λ g k s. ((s.state, s.frames.0), s.frames.0))
    (λ g k s root w.
    leads-part (Comes root (debts g m.scope m.levels m.frames)) u (rests.function_next (map g m.levels) (in_scope g m.scope a) (g t)) w 1 (whole (map g m.levels) (in_scope g m.scope a))
    (rests.argument_next (map g m.levels) (g t) (in_scope g m.scope a)) (λ d. refl))

-- ---- the argument is typed

some-once : {X : Type 0} (x y : X) → Some x ≡ Some y → x ≡ y
some-once x y h = cc

-- what is seen of the type of the function
pub forall-parts : (n : ℕ) (t : Core) (d : Core) (x : Name) (b : Core) → as_forall t ≡ Some (d, x, b) → IsOf n t → IsOfBelow n b
forall-parts n (Node ops.Pi (kid None e (kid (Some y) f r))) d x b p h =
    let q : f ≡ b = ap (λ z. z.2) (some-once (e, y, f) (d, x, b) p) in
    let k = of-node n ops.Pi (kid None e (kid (Some y) f r)) h in
    along (IsOfBelow n) q (of-bound n y f r (of-rest n e (kid (Some y) f r) k))
forall-parts n t d x b p h = absurd cc

module _ (m : Typer) (v t a u : ℕ) (r : IsReady (with_frame (frames.Argument t a) m) (states.Typed v)) where
  abbrev family : (ℕ → Core) → Family
  family g = rests.argument_next (map g m.levels) (g t) (in_scope g m.scope a) (g v)

  refused : (s : State) (q : Rule) → IsRefusal (rule_number q) s → ((g : ℕ → Core) → Models m.codes g → (d : ℕ) → family g d ≡ Fails q)
      → Advances (with_frame (frames.Argument t a) m) m (states.Typed v) s u u
  refused s q (f, p, e, n) h =
      along (λ z. Advances (with_frame (frames.Argument t a) m) m (states.Typed v) z u u) (sym p)
      (returns m (frames.Argument t a) (states.Typed v) refl refl r (states.Failed f) u u tt (λ g k s. tt)
      (λ g k s root w. (
        q,
        n,
        along (λ z. Comes root (debts g m.scope m.levels m.frames) (Ill z q)) (sym (ap reverse e))
            (leads-fails (Comes root (debts g m.scope m.levels m.frames)) u (family g) w q (h g k)),
      )))

  pub no-function : (s : State) → IsRefusal 7 s → ((g : ℕ → Core) → Models m.codes g → as_forall (g t) ≡ None) → Advances (with_frame (frames.Argument t a) m) m (states.Typed v) s u u
  no-function s i n =
      refused s rule.NoFunction i
      (λ g k d. ap (λ z. typings.given_form z rule.NoFunction (λ (dm, x, b). if nameless_eq (g v) dm then FromNormal (sub (first (in_scope g m.scope a)) b) (λ r. Gives r) else Fails rule.WrongArgument)) (n g k))

  module _ (dm b : ℕ) (is : (g : ℕ → Core) → Models m.codes g → (x : Name) × (as_forall (g t) ≡ Some (g dm, x, g b))) where
    by-forall : (g : ℕ → Core) → Models m.codes g → (s : Bool) → nameless_eq (g v) (g dm) ≡ s → (d : ℕ)
        → family g d ≡ (if s then FromNormal (sub (first (in_scope g m.scope a)) (g b)) (λ r. Gives r) else Fails rule.WrongArgument)
    by-forall g k s p d =
        ap (λ z. typings.given_form z rule.NoFunction (λ (dm, x, b). if nameless_eq (g v) dm then FromNormal (sub (first (in_scope g m.scope a)) b) (λ r. Gives r) else Fails rule.WrongArgument)) (is g k).1
        ∙ ap (λ z. if z then FromNormal (sub (first (in_scope g m.scope a)) (g b)) (λ r. Gives r) else Fails rule.WrongArgument) p

    pub wrong-argument : (s : State) → IsRefusal 8 s → ((g : ℕ → Core) → Models m.codes g → nameless_eq (g v) (g dm) ≡ false) → Advances (with_frame (frames.Argument t a) m) m (states.Typed v) s u u
    wrong-argument s i n = refused s rule.WrongArgument i (λ g k d. by-forall g k false (n g k) d)

    pub put-in : (c l : ℕ) → c < count m.codes → ((g : ℕ → Core) → Models m.codes g → nameless_eq (g v) (g dm) ≡ true)
        → ((g : ℕ → Core) → Models m.codes g → IsNormal u l (sub (first (in_scope g m.scope a)) (g b)) (g c))
        → Advances (with_frame (frames.Argument t a) m) m (states.Typed v) (states.Typed c) u l
    put-in c l there y n =
        returns m (frames.Argument t a) (states.Typed v) refl refl r (states.Typed c) u l there
        (λ g k s.
        let q = n g k in
        normal-of (length (map g m.levels)) (sub (first (in_scope g m.scope a)) (g b)) (g c) (u + q.extra) l
        (of-put (length (map g m.levels)) (in_scope g m.scope a) (g b) s.frames.0.1 (forall-parts (length (map g m.levels)) (g t) (g dm) (is g k).0 (g b) (is g k).1 s.frames.0.0)) q.cost)
        (λ g k s root w.
        leads-gives (Comes root (debts g m.scope m.levels m.frames)) l (λ d. Gives (g c))
        (goes-normal root (debts g m.scope m.levels m.frames) (family g) u l (sub (first (in_scope g m.scope a)) (g b)) (g c) (λ f d. Gives f) (by-forall g k true (y g k)) w (n g k)) (g c) (λ d. refl))

    pub put-halts : (h : NormFault) → ((g : ℕ → Core) → Models m.codes g → nameless_eq (g v) (g dm) ≡ true)
        → ((g : ℕ → Core) → Models m.codes g → IsLicensedHalt u (sub (first (in_scope g m.scope a)) (g b)) h)
        → Halts (with_frame (frames.Argument t a) m) (states.Typed v) u h
    put-halts h y n g k root w =
        halts-normal root (debts g m.scope m.levels m.frames) (family g) u (sub (first (in_scope g m.scope a)) (g b)) (λ f d. Gives f) (by-forall g k true (y g k)) w h (n g k)
