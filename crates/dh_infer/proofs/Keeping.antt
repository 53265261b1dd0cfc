-- The type of a value is kept where its variable was used for the first time.
use Rattle.std.specs.Prelude.{◌≡◌, ◌<◌, ℕ, zero, suc, Bool, true, false, List, [], ◌∷◌, map, length, drop, Some, slice_get, refl}
use Rattle.std.proofs.Common.{ap, sym, ◌∙◌, set, subst as along}
use Rattle.dh_syntax.specs.Names.Nameless.{Core, raised, sub}
use Rattle.dh_syntax.specs.Typing.Inference.{Has}
use Rattle.dh_store.specs.Cells.{bound}
use Rattle.dh_store.specs.Growth.{count}
use Rattle.dh_infer.specs.declared.frames.Entry.{Entry}
use Rattle.dh_infer.specs.declared.frames.Frame.{Frame}
use Rattle.dh_infer.specs.declared.frames.Frame.TheVariants as frames
use Rattle.dh_infer.specs.declared.frames.State.TheVariants as states
use Rattle.dh_infer.specs.declared.frames.Typer.{Typer}
use Rattle.dh_infer.specs.Inside.Debts.{whole, HasFound, Comes}
use Rattle.dh_infer.specs.Inside.Levels.{IsOf, IsOfBelow}
use Rattle.dh_infer.specs.Inside.Machine.{debt_of, debts, outer_scope, outer_levels, IsNearest, AreNormals, IsFrameSound, AreFramesSound, IsReady, Advances, with_frame}
use Rattle.dh_infer.specs.Inside.Rests.{bodies_of}
use Rattle.dh_infer.specs.Inside.Scopes.{env, behind, IsScope, AreEntriesThere}
use Rattle.dh_infer.proofs.Leading.{meets-found, found-shrunk}
use Rattle.dh_infer.proofs.Scoping.{scope-of, scope-knows, env-there}

-- an entry with this type
abbrev pub with_type : ℕ → Entry → Entry
with_type t e = record e { typed = Some t }

-- the same binders with the same values
abbrev AreSame : List Entry → List Entry → Type 0
AreSame [] [] = Unit {0}
AreSame [] (d ∷ ds) = ⊥
AreSame (e ∷ es) [] = ⊥
AreSame (e ∷ es) (d ∷ ds) = (e.value ≡ d.value) × (e.opened ≡ d.opened) × AreSame es ds

same-itself : (es : List Entry) → AreSame es es
same-itself [] = tt
same-itself (e ∷ es) = (refl, refl, same-itself es)

same-set : (es : List Entry) (i t : ℕ) (e : Entry) → slice_get es i ≡ Some e → AreSame es (set es i (with_type t e))
same-set [] i t e p = absurd cc
same-set (d ∷ es) zero t e p = let q : d ≡ e = cc in (ap (λ z. z.value) q, ap (λ z. z.opened) q, same-itself es)
same-set (d ∷ es) (suc i) t e p = (refl, refl, same-set es i t e p)

module _ (g : ℕ → Core) where
  same-env : (es ds : List Entry) → AreSame es ds → env g es ≡ env g ds
  same-env [] [] h = refl
  same-env [] (d ∷ ds) h = absurd h
  same-env (e ∷ es) [] h = absurd h
  same-env (e ∷ es) (d ∷ ds) h = ap (λ v. bound (g v) (env g es)) h.0 ∙ ap (bound (g d.value)) (same-env es ds h.2)

  same-nearest : (b : Bool) (es ds : List Entry) → AreSame es ds → IsNearest b es → IsNearest b ds
  same-nearest b [] [] h n = n
  same-nearest b [] (d ∷ ds) h n = absurd h
  same-nearest b (e ∷ es) [] h n = absurd h
  same-nearest b (e ∷ es) (d ∷ ds) h n = sym h.1 ∙ n

  same-length : (es ds : List Entry) → AreSame es ds → length es ≡ length ds
  same-length [] [] h = refl
  same-length [] (d ∷ ds) h = absurd h
  same-length (e ∷ es) [] h = absurd h
  same-length (e ∷ es) (d ∷ ds) h = ap suc (same-length es ds h.2)

  same-drop : (es ds : List Entry) → AreSame es ds → AreSame (drop 1 es) (drop 1 ds)
  same-drop [] [] h = tt
  same-drop [] (d ∷ ds) h = absurd h
  same-drop (e ∷ es) [] h = absurd h
  same-drop (e ∷ es) (d ∷ ds) h = h.2

  same-outer : (f : Frame) (es ds : List Entry) → AreSame es ds → AreSame (outer_scope f es) (outer_scope f ds)
  same-outer (frames.Function a) es ds h = h
  same-outer (frames.Argument t a) es ds h = h
  same-outer (frames.LambdaDomain x a b) es ds h = h
  same-outer (frames.LambdaBody x a n) es ds h = same-drop es ds h
  same-outer (frames.ForallDomain x a b) es ds h = h
  same-outer (frames.ForallRange u) es ds h = same-drop es ds h
  same-outer (frames.Value a b) es ds h = h
  same-outer (frames.LetAnnotation t a b) es ds h = h
  same-outer (frames.LetValue t a b) es ds h = h
  same-outer (frames.LetBody k) es ds h = same-drop es ds h
  same-outer (frames.Part k at us) es ds h = h
  same-outer (frames.Universe k at us found left) es ds h = h
  same-outer (frames.CompletedType t r) es ds h = h
  same-outer (frames.CompletedRecord t r) es ds h = h
  same-outer frames.Completion es ds h = h
  same-outer (frames.Used i) es ds h = h

  same-debt : (es ds : List Entry) (ls : List ℕ) → AreSame es ds → (f : Frame) → debt_of g es ls f ≡ debt_of g ds ls f
  same-debt es ds ls h (frames.Function a) = let p = same-env es ds h in cc
  same-debt es ds ls h (frames.Argument t a) = let p = same-env es ds h in cc
  same-debt es ds ls h (frames.LambdaDomain x a b) = let p = same-env es ds h in cc
  same-debt es ds ls h (frames.LambdaBody x a n) = refl
  same-debt es ds ls h (frames.ForallDomain x a b) = let p = same-env es ds h in cc
  same-debt es ds ls h (frames.ForallRange u) = refl
  same-debt es ds ls h (frames.Value a b) = let p = same-env es ds h in cc
  same-debt es ds ls h (frames.LetAnnotation t a b) = let p = same-env es ds h in cc
  same-debt es ds ls h (frames.LetValue t a b) = let p = same-env es ds h in cc
  same-debt es ds ls h (frames.LetBody k) = refl
  same-debt es ds ls h (frames.Part k at us) = let p = same-env es ds h in cc
  same-debt es ds ls h (frames.Universe k at us found left) = let p = same-env es ds h in cc
  same-debt es ds ls h (frames.CompletedType t r) = let p = same-env es ds h in cc
  same-debt es ds ls h (frames.CompletedRecord t r) = let p = same-env es ds h in cc
  same-debt es ds ls h frames.Completion = refl
  same-debt es ds ls h (frames.Used i) = let p = same-env es ds h in cc

  same-debts : (es ds : List Entry) (ls : List ℕ) → AreSame es ds → (fs : List Frame) → debts g es ls fs ≡ debts g ds ls fs
  same-debts es ds ls h [] = refl
  same-debts es ds ls h (f ∷ fs) =
      ap (λ z. z ∷ debts g (outer_scope f es) (outer_levels f ls) fs) (same-debt es ds ls h f)
      ∙ ap (λ z. debt_of g ds ls f ∷ z) (same-debts (outer_scope f es) (outer_scope f ds) (outer_levels f ls) (same-outer f es ds h) fs)

  module _ (es ds : List Entry) (ls : List ℕ) (h : AreSame es ds) where
    by-env : (P : (ℕ → Core) → Type 0) → P (env g es) → P (env g ds)
    by-env P p = along P (same-env es ds h) p

    same-frame : (f : Frame) → IsFrameSound g es ls f → IsFrameSound g ds ls f
    same-frame (frames.Function a) q = by-env (λ s. IsOf (length (map g ls)) (sub s (g a))) q
    same-frame (frames.Argument t a) q = (q.0, by-env (λ s. IsOf (length (map g ls)) (sub s (g a))) q.1)
    same-frame (frames.LambdaDomain x a b) q = by-env (λ s. IsOf (length (map g ls)) (sub s (g a)) × IsOfBelow (length (map g ls)) (sub (raised s) (g b))) q
    same-frame (frames.LambdaBody x a n) q = (same-nearest true es ds h q.0, q.1, q.2)
    same-frame (frames.ForallDomain x a b) q = by-env (λ s. IsOf (length (map g ls)) (sub s (g a)) × IsOfBelow (length (map g ls)) (sub (raised s) (g b))) q
    same-frame (frames.ForallRange u) q = same-nearest true es ds h q
    same-frame (frames.Value a b) q = by-env (λ s. IsOf (length (map g ls)) (sub s (g a)) × IsOfBelow (length (map g ls)) (sub (raised s) (g b))) q
    same-frame (frames.LetAnnotation t a b) q =
        by-env (λ s. IsOf (length (map g ls)) (sub s (g t)) × IsOf (length (map g ls)) (sub s (g a)) × IsOfBelow (length (map g ls)) (sub (raised s) (g b))) q
    same-frame (frames.LetValue t a b) q =
        by-env (λ s. IsOf (length (map g ls)) (sub s (g t)) × IsOf (length (map g ls)) (sub s (g a)) × IsOfBelow (length (map g ls)) (sub (raised s) (g b))) q
    same-frame (frames.LetBody k) q = same-nearest false es ds h q
    same-frame (frames.Part k at us) q = (q.0, by-env (λ s. IsOf (length (map g ls)) (sub s (g k))) q.1, q.2, q.3)
    same-frame (frames.Universe k at us found left) q =
        (q.0, by-env (λ s. IsOf (length (map g ls)) (sub s (g k))) q.1, q.2, q.3, by-env (λ s. AreNormals g (map g ls) (bodies_of (sub s (g k))) found) q.4, q.5)
    same-frame (frames.CompletedType t r) q = by-env (λ s. IsOf (length (map g ls)) (sub s (g t)) × IsOf (length (map g ls)) (sub s (g r))) q
    same-frame (frames.CompletedRecord t r) q = by-env (λ s. IsOf (length (map g ls)) (sub s (g t)) × IsOf (length (map g ls)) (sub s (g r))) q
    same-frame frames.Completion q = tt
    same-frame (frames.Used i) q = along (λ n. i < n) (same-length es ds h) q

  same-frames : (es ds : List Entry) (ls : List ℕ) → AreSame es ds → (fs : List Frame) → AreFramesSound g es ls fs → AreFramesSound g ds ls fs
  same-frames es ds ls h [] q = tt
  same-frames es ds ls h (f ∷ fs) q =
      (same-frame es ds ls h f q.0, same-frames (outer_scope f es) (outer_scope f ds) (outer_levels f ls) (same-outer f es ds h) fs q.1)

  -- ---- the binders that stand above, with one more type known

  behind-set : (b : Bool) (es ds : List Entry) (ls : List ℕ) → (b ≡ true → (l : ℕ) (ks : List ℕ) → ls ≡ l ∷ ks → IsOf (length (map g ks)) (g l) → IsScope g es ks → IsScope g ds ks)
      → (b ≡ false → IsScope g es ls → IsScope g ds ls) → behind b g (IsScope g es) ls → behind b g (IsScope g ds) ls
  behind-set true es ds [] f k h = absurd h
  behind-set true es ds (l ∷ ls) f k h = (h.0, f refl l ls refl h.0 h.1)
  behind-set false es ds ls f k h = k refl h

  pub scope-typed : (es : List Entry) (ls : List ℕ) (i t : ℕ) (e : Entry) → slice_get es i ≡ Some e → IsScope g es ls → HasFound (whole (map g ls) (g e.value)) (g t)
      → IsScope g (set es i (with_type t e)) ls
  scope-typed [] ls i t e p h found = absurd cc
  scope-typed (d ∷ es) ls zero t e p h found =
      let q : d ≡ e = cc in
      (record { value = along (λ z. IsOf (length (map g ls)) (g z.value)) q h.0.value; typed = found }, along (λ z. behind z.opened g (IsScope g es) ls) q h.1)
  scope-typed (d ∷ es) ls (suc i) t e p h found = (
    record { value = h.0.value; typed = h.0.typed },
    behind-set d.opened es (set es i (with_type t e)) ls
        (λ y l ks q o s.
        let more : HasFound (whole (g l ∷ map g ks) (g e.value)) (g t) = along (λ z. HasFound (whole (map g z) (g e.value)) (g t)) q found in
        scope-typed es ks i t e p s (found-shrunk (g l) (map g ks) (o, scope-of g es ks s) (g e.value) (g t) (scope-knows g es ks s i e p).value more))
        (λ n s. scope-typed es ls i t e p s found) h.1,
  )

entries-typed : (n : ℕ) (es : List Entry) (i t : ℕ) (e : Entry) → slice_get es i ≡ Some e → t < n → AreEntriesThere n es → AreEntriesThere n (set es i (with_type t e))
entries-typed n [] i t e p l h = absurd cc
entries-typed n (d ∷ es) zero t e p l h = let q : d ≡ e = cc in ((along (λ z. z.value < n) q h.0.0, l), h.1)
entries-typed n (d ∷ es) (suc i) t e p l h = (h.0, entries-typed n es i t e p l h.1)

-- the machine that knows the type of this variable
abbrev pub kept : Typer → ℕ → Entry → ℕ → Typer
kept m i e t = record m { scope = set m.scope i (with_type t e) }

pub used-typed : (m : Typer) (i t u : ℕ) (e : Entry) → slice_get m.scope i ≡ Some e → IsReady (with_frame (frames.Used i) m) (states.Typed t)
    → Advances (with_frame (frames.Used i) m) (kept m i e t) (states.Typed t) (states.Typed t) u u
used-typed m i t u e at r = record {
  ready = λ root w. record {
    coded = r.coded;
    entries = entries-typed (count m.codes) m.scope i t e at r.state r.entries;
    levels = r.levels;
    frames = r.frames.1;
    state = r.state;
    sound = λ g k. (let s = r.sound g k in record {
      scope = scope-typed g m.scope m.levels i t e at s.scope
          (along (λ z. HasFound (whole (map g m.levels) z) (g t)) (env-there g m.scope i e at) (meets-found (w g k).0.0 u (whole (map g m.levels) (env g m.scope i)) (g t) (w g k).0.1));
      frames = same-frames g m.scope (set m.scope i (with_type t e)) m.levels (same-set m.scope i t e at) m.frames s.frames.1;
      state = s.state;
    });
  };
  models = λ g k. k;
  works = λ g k root w. along (λ z. Comes root z (Has (g t) u)) (same-debts g m.scope (set m.scope i (with_type t e)) m.levels (same-set m.scope i t e at) m.frames) w.1;
}
