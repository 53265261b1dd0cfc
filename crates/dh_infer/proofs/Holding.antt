-- `let`.
use Rattle.std.specs.Prelude.{◌≡◌, ◌<◌, ◌+◌, ℕ, Bool, true, false, List, [], ◌∷◌, map, length, drop, reverse, None, if◌then◌else◌, refl}
use Rattle.std.proofs.Common.{ap, sym, subst as along}
use Rattle.dh_syntax.specs.Names.Nameless.{Core, sub, first}
use Rattle.dh_syntax.specs.Normalising.NamelessRuns.{nameless_eq}
use Rattle.dh_syntax.specs.Typing.Inference.{Gives, Fails, FromPart, Ill}
use Rattle.dh_syntax.specs.Typing.TypeRules as rule
use Rattle.dh_syntax.specs.Typing.TypeRules.{Rule, rule_number}
use Rattle.dh_store.specs.Growth.{count}
use Rattle.dh_norm.specs.Answers.{IsNormal}
use Rattle.dh_norm.proofs.Entrances.{opened as body-opened}
use Rattle.dh_infer.specs.declared.frames.Entry.{Entry}
use Rattle.dh_infer.specs.declared.frames.Frame.TheVariants as frames
use Rattle.dh_infer.specs.declared.frames.State.{State}
use Rattle.dh_infer.specs.declared.frames.State.TheVariants as states
use Rattle.dh_infer.specs.declared.frames.Typer.{Typer}
use Rattle.dh_syntax.specs.declared.faults.NormFault.{NormFault}
use Rattle.dh_infer.specs.Inside.Debts.{Family, whole, Root, Comes, Goes}
use Rattle.dh_infer.specs.Inside.Levels.{IsOf}
use Rattle.dh_infer.specs.Inside.Machine.{debt_of, debts, IsStateThere, IsStateSound, IsOwed, IsNearest, IsSound, IsReady, Advances, Halts, IsRefusal, with_frame}
use Rattle.dh_infer.specs.Inside.Normals.{IsLicensedHalt}
use Rattle.dh_infer.specs.Inside.Rests as rests
use Rattle.dh_infer.specs.Inside.Scopes.{Models, env, in_scope, below_scope, behind, IsScope}
use Rattle.dh_infer.proofs.Leading.{leads-part, leads-fails, leads-gives}
use Rattle.dh_infer.proofs.PartsOf.{of-put}
use Rattle.dh_infer.proofs.RenamedJudgments.{normal-of}
use Rattle.dh_infer.proofs.Returning.{entries-drop, returns, returns-pushing, halts-normal, goes-normal}

-- ---- the value is typed

pub after-value : (m : Typer) (a b t u : ℕ) → IsReady (with_frame (frames.Value a b) m) (states.Typed t)
    → Advances (with_frame (frames.Value a b) m) m (states.Typed t) (states.Bind a b 1) u u
after-value m a b t u r = returns m (frames.Value a b) (states.Typed t) refl refl r (states.Bind a b 1) u u r.frames.0 (λ g k s. s.frames.0) (λ g k s root w. w)

-- ---- the annotation is typed, and then the value

pub after-annotation : (m : Typer) (t a b c u : ℕ) → IsReady (with_frame (frames.LetAnnotation t a b) m) (states.Typed c)
    → Advances (with_frame (frames.LetAnnotation t a b) m) (record m { frames = frames.LetValue t a b ∷ m.frames }) (states.Typed c) (states.Type a) u u
after-annotation m t a b c u r =
    returns-pushing m (frames.LetAnnotation t a b) (states.Typed c) refl refl r (frames.LetValue t a b) a u u refl refl r.frames.0 r.frames.0.1
    (λ g k s. (s.frames.0, s.frames.0.1))
    (λ g k s root w.
    leads-part (Comes root (debts g m.scope m.levels m.frames)) u (rests.let_annotation_next (map g m.levels) (in_scope g m.scope t) (in_scope g m.scope a) (below_scope g m.scope b) (g c)) w 1
    (whole (map g m.levels) (in_scope g m.scope a)) (rests.let_value_next (map g m.levels) (in_scope g m.scope t) (in_scope g m.scope a) (below_scope g m.scope b)) (λ d. refl))

module _ (m : Typer) (t a b c u : ℕ) (r : IsReady (with_frame (frames.LetValue t a b) m) (states.Typed c)) where
  abbrev family : (ℕ → Core) → Family
  family g = rests.let_value_next (map g m.levels) (in_scope g m.scope t) (in_scope g m.scope a) (below_scope g m.scope b) (g c)

  -- what follows from the normal form of the annotation
  abbrev compared : (ℕ → Core) → Core → Family
  compared g e d = if nameless_eq (g c) e then rests.let_body (map g m.levels) 2 (in_scope g m.scope a) (below_scope g m.scope b) d else Fails rule.LetAnnotation

  pub annotation-halts : (h : NormFault) → ((g : ℕ → Core) → Models m.codes g → IsLicensedHalt u (in_scope g m.scope t) h) → Halts (with_frame (frames.LetValue t a b) m) (states.Typed c) u h
  annotation-halts h n g k root w = halts-normal root (debts g m.scope m.levels m.frames) (family g) u (in_scope g m.scope t) (compared g) (λ d. refl) w h (n g k)

  module _ (e l : ℕ) (normal : (g : ℕ → Core) → Models m.codes g → IsNormal u l (in_scope g m.scope t) (g e)) where
    goes-compared : (g : ℕ → Core) → Models m.codes g → (root : Root) → Goes root (debts g m.scope m.levels m.frames) (family g) u → Goes root (debts g m.scope m.levels m.frames) (compared g (g e)) l
    goes-compared g k root w = goes-normal root (debts g m.scope m.levels m.frames) (family g) u l (in_scope g m.scope t) (g e) (compared g) (λ d. refl) w (normal g k)

    pub annotation-differs : (s : State) → IsRefusal 9 s → ((g : ℕ → Core) → Models m.codes g → nameless_eq (g c) (g e) ≡ false)
        → Advances (with_frame (frames.LetValue t a b) m) m (states.Typed c) s u l
    annotation-differs s (f, p, q, n) unlike =
        along (λ z. Advances (with_frame (frames.LetValue t a b) m) m (states.Typed c) z u l) (sym p)
        (returns m (frames.LetValue t a b) (states.Typed c) refl refl r (states.Failed f) u l tt (λ g k s. tt)
        (λ g k s root w. (
          rule.LetAnnotation,
          n,
          along (λ z. Comes root (debts g m.scope m.levels m.frames) (Ill z rule.LetAnnotation)) (sym (ap reverse q))
              (leads-fails (Comes root (debts g m.scope m.levels m.frames)) l (compared g (g e)) (goes-compared g k root w) rule.LetAnnotation
              (λ d. ap (λ z. if z then rests.let_body (map g m.levels) 2 (in_scope g m.scope a) (below_scope g m.scope b) d else Fails rule.LetAnnotation) (unlike g k))),
        )))

    pub annotation-agrees : ((g : ℕ → Core) → Models m.codes g → nameless_eq (g c) (g e) ≡ true)
        → Advances (with_frame (frames.LetValue t a b) m) m (states.Typed c) (states.Bind a b 2) u l
    annotation-agrees alike =
        returns m (frames.LetValue t a b) (states.Typed c) refl refl r (states.Bind a b 2) u l (r.frames.0.1, r.frames.0.2) (λ g k s. (s.frames.0.1, s.frames.0.2))
        (λ g k s root w.
        along (λ f. Goes root (debts g m.scope m.levels m.frames) f l)
        (ap (λ z. λ d. if z then rests.let_body (map g m.levels) 2 (in_scope g m.scope a) (below_scope g m.scope b) d else Fails rule.LetAnnotation) (alike g k))
        (goes-compared g k root w))

-- ---- the value is bound

-- the machine below a `let` whose variable has this value
abbrev pub held : Typer → ℕ → ℕ → Typer
held m v k = record m { scope = record { value = v; typed = None; opened = false } ∷ m.scope; frames = frames.LetBody k ∷ m.frames }

module _ (m : Typer) (a b k u : ℕ) (r : IsReady m (states.Bind a b k)) where
  abbrev body_family : (ℕ → Core) → Family
  body_family g = rests.let_body (map g m.levels) k (in_scope g m.scope a) (below_scope g m.scope b)

  abbrev with_value : (ℕ → Core) → Core → Family
  with_value g e d = FromPart k (whole (map g m.levels) (sub (first e) (below_scope g m.scope b)) d) (λ t. Gives t)

  pub value-halts : (h : NormFault) → ((g : ℕ → Core) → Models m.codes g → IsLicensedHalt u (in_scope g m.scope a) h) → Halts m (states.Bind a b k) u h
  value-halts h n g l root w = halts-normal root (debts g m.scope m.levels m.frames) (body_family g) u (in_scope g m.scope a) (with_value g) (λ d. refl) w h (n g l)

  pub value-held : (v l : ℕ) → v < count m.codes → ((g : ℕ → Core) → Models m.codes g → IsNormal u l (in_scope g m.scope a) (g v))
      → Advances m (held m v k) (states.Bind a b k) (states.Type b) u l
  value-held v l there normal = record {
    ready = λ root w. record {
      coded = r.coded;
      entries = ((there, tt), r.entries);
      levels = r.levels;
      frames = (tt, r.frames);
      state = r.state.1;
      sound = λ g q. (let s = r.sound g q in record {
        scope = (record { value = of g q; typed = tt }, s.scope);
        frames = (refl, s.frames);
        state = along (IsOf (length (map g m.levels))) (body-opened (g v) (env g m.scope) (g b)) (of-put (length (map g m.levels)) (g v) (below_scope g m.scope b) (of g q) s.state.1);
      });
    };
    models = λ g q. q;
    works = λ g q root w.
        along (λ z. Goes root (debts g (record { value = v; typed = None; opened = false } ∷ m.scope) m.levels (frames.LetBody k ∷ m.frames)) (whole (map g m.levels) z) l) (body-opened (g v) (env g m.scope) (g b))
        (leads-part (Comes root (debts g m.scope m.levels m.frames)) l (with_value g (g v))
        (goes-normal root (debts g m.scope m.levels m.frames) (body_family g) u l (in_scope g m.scope a) (g v) (with_value g) (λ d. refl) w (normal g q))
        k (whole (map g m.levels) (sub (first (g v)) (below_scope g m.scope b))) (λ t d. Gives t) (λ d. refl));
  }
    where
      of : (g : ℕ → Core) → Models m.codes g → IsOf (length (map g m.levels)) (g v)
      of g q = let n = normal g q in normal-of (length (map g m.levels)) (in_scope g m.scope a) (g v) (u + n.extra) l ((r.sound g q).state.0) n.cost

-- ---- the body is typed

behind-valued : (g : ℕ → Core) (b : Bool) (es : List Entry) (ls : List ℕ) → b ≡ false → behind b g (IsScope g es) ls → IsScope g es ls
behind-valued g true es ls p h = absurd cc
behind-valued g false es ls p h = h

pub scope-let_go : (g : ℕ → Core) (es : List Entry) (ls : List ℕ) → IsNearest false es → IsScope g es ls → IsScope g (drop 1 es) ls
scope-let_go g [] ls p h = absurd p
scope-let_go g (e ∷ es) ls p h = behind-valued g e.opened es ls p h.1

-- the machine out of a `let`
abbrev pub let_go : Typer → Typer
let_go m = record m { scope = drop 1 m.scope }

module _ (m : Typer) (k : ℕ) (s : State) (r : IsReady (with_frame (frames.LetBody k) m) s) where
  pub leaves : (t : State) (u l : ℕ) → IsStateThere (count m.codes) t
      → ((g : ℕ → Core) → Models m.codes g → IsSound g (with_frame (frames.LetBody k) m) s → IsStateSound g (drop 1 m.scope) m.levels t)
      → ((g : ℕ → Core) → Models m.codes g → IsSound g (with_frame (frames.LetBody k) m) s → (root : Root)
      → IsOwed root (debt_of g m.scope m.levels (frames.LetBody k) ∷ debts g (drop 1 m.scope) m.levels m.frames) g m.scope m.levels s u
      → IsOwed root (debts g (drop 1 m.scope) m.levels m.frames) g (drop 1 m.scope) m.levels t l)
      → Advances (with_frame (frames.LetBody k) m) (let_go m) s t u l
  leaves t u l there sound works = record {
    ready = λ root w. record {
      coded = r.coded;
      entries = entries-drop (count m.codes) m.scope r.entries;
      levels = r.levels;
      frames = r.frames.1;
      state = there;
      sound = λ g q. (let o = r.sound g q in record { scope = scope-let_go g m.scope m.levels o.frames.0 o.scope; frames = o.frames.1; state = sound g q o });
    };
    models = λ g q. q;
    works = λ g q root w. works g q (r.sound g q) root w;
  }

pub after-body : (m : Typer) (k t u : ℕ) → IsReady (with_frame (frames.LetBody k) m) (states.Typed t) → Advances (with_frame (frames.LetBody k) m) (let_go m) (states.Typed t) (states.Typed t) u u
after-body m k t u r =
    leaves m k (states.Typed t) r (states.Typed t) u u r.state (λ g q s. s.state)
    (λ g q s root w. leads-gives (Comes root (debts g (drop 1 m.scope) m.levels m.frames)) u (λ d. Gives (g t)) w (g t) (λ d. refl))
