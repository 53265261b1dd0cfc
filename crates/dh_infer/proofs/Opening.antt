-- How the machine goes below a binder whose variable gets a number, and comes out again.
use Rattle.std.specs.Prelude.{◌≡◌, ◌<◌, ℕ, true, false, List, [], ◌∷◌, map, length, drop, Option, Some, None, IfSome, IfNone, Result, Ok, Err, IfOk, OnErr, refl}
use Rattle.std.proofs.Common.{ap, sym, ◌∙◌, arith, subst as along}
use Rattle.dh_syntax.specs.declared.operators.Builtin.{Builtin}
use Rattle.dh_syntax.specs.declared.operators.Builtin.TheVariants as builtins
use Rattle.dh_syntax.specs.Expressions.Forms as form
use Rattle.dh_syntax.specs.Expressions.Tree.{Leaf, Name}
use Rattle.dh_syntax.specs.Names.Nameless.{Core}
use Rattle.dh_syntax.specs.Typing.TypeViews.{is_constant}
use Rattle.dh_syntax.specs.Typing.Universes.{as_universe, function_check}
use Rattle.dh_store.specs.declared.codes.Code.TheVariants as codes
use Rattle.dh_store.specs.declared.codes.Codes.{Codes}
use Rattle.dh_store.specs.Cells.{code_core, AreCoded}
use Rattle.dh_store.specs.Coding.{Coded}
use Rattle.dh_store.specs.Growth.{count}
use Rattle.dh_norm.specs.Answers.{IsNormal}
use Rattle.dh_norm.proofs.LoadSteps.{pushed-Free}
use Rattle.dh_types.specs.Binding.{bound_in}
use Rattle.dh_types.specs.Growing.{Grows, Stands}
use Rattle.dh_types.proofs.Grown.{grows-after, grows-push, grows-same}
use Rattle.dh_infer.specs.declared.frames.Entry.{Entry}
use Rattle.dh_infer.specs.declared.frames.Frame.{Frame}
use Rattle.dh_infer.specs.declared.frames.Frame.TheVariants as frames
use Rattle.dh_infer.specs.declared.frames.State.{State}
use Rattle.dh_infer.specs.declared.frames.State.TheVariants as states
use Rattle.dh_infer.specs.declared.frames.Typer.{Typer}
use Rattle.dh_syntax.specs.declared.faults.NormFault.{NormFault}
use Rattle.dh_infer.specs.Inside.Machine.{IsReady, Advances, Halts, IsRefusal, with_frame}
use Rattle.dh_infer.specs.Inside.NormalCodes.{IsNormalCode, IsStopped}
use Rattle.dh_infer.specs.Inside.Normals.{IsLicensedHalt}
use Rattle.dh_infer.specs.Inside.Opening.{Opens}
use Rattle.dh_infer.specs.Inside.OpenTyping.{level}
use Rattle.dh_infer.specs.Inside.Scopes.{Models, in_scope}
use Rattle.dh_infer.proofs.Binding as lambdas
use Rattle.dh_infer.proofs.Binding.{opened}
use Rattle.dh_infer.proofs.Modelled.{models-before, models-itself}
use Rattle.dh_infer.proofs.Ranging as foralls
use Rattle.dh_infer.proofs.Readiness.{with_codes, ready-grown, advances-grown}
use Rattle.dh_infer.proofs.Returning.{closed}
use Rattle.dh_infer.proofs.Scoping.{map-length}

-- ---- the variable with a number

module _ (old new : Codes) (coded : AreCoded old) (x : Name) (n : ℕ) (unnamed : x ≡ []) where
  pub numbered-grows : {E : Type 0} (r : Result ℕ E) → IfOk r (λ c. Coded old new (codes.Free x n) c) → OnErr r (new.codes.items ≡ old.codes.items) → Grows old new
  numbered-grows (Ok c) h e = grows-push old new (codes.Free x n) c h coded tt
  numbered-grows (Err y) h e = grows-same old new coded e

  pub numbered-stands : {E : Type 0} (r : Result ℕ E) → IfOk r (λ c. Coded old new (codes.Free x n) c) → IfOk r (λ c. Stands new c (Leaf (level n)))
  numbered-stands (Ok c) h =
      let i = pushed-Free {E = ℕ} old new coded (Ok c) [] n (along (λ y. Coded old new (codes.Free y n) c) unnamed h) in
      record { there = i.there; core = i.core }
  numbered-stands (Err y) h = tt

-- ---- machines

abbrev made : Codes → List Entry → List ℕ → List Frame → Typer
made cs es ls fs = record { codes = cs; scope = es; levels = ls; frames = fs }

pub same-made : (cs : Codes) (es ds : List Entry) (ls ks : List ℕ) (fs hs : List Frame) → es ≡ ds → ls ≡ ks → fs ≡ hs → made cs es ls fs ≡ made cs ds ks hs
same-made cs es ds ls ks fs hs p q r = ap (λ z. made cs z ls fs) p ∙ ap (λ z. made cs ds z fs) q ∙ ap (made cs ds ks) r

-- what was taken off a stack
pub popped : {X : Type 0} (old new : List X) (r : Option X) → IfSome r (λ x. old ≡ x ∷ new) → IfNone r (old ≡ []) → IfNone r (new ≡ []) → new ≡ drop 1 old
popped old new (Some x) h n e = sym (ap (drop 1) h)
popped old new None h n e = e ∙ sym (ap (drop 1) n)

-- what is nothing is none
pub none-else : {X : Type 0} (o : Option X) → ((x : X) → o ≡ Some x → ⊥) → None ≡ o
none-else None h = refl
none-else (Some x) h = absurd (h x refl)

-- what is seen of a code by itself is seen by any function that gives what codes stand for
pub seen : {X : Type 0} (see : Core → X) (cs : Codes) (g : ℕ → Core) → Models cs g → (c : ℕ) → c < count cs → (x : X) → x ≡ see (code_core cs c) → see (g c) ≡ x
seen see cs g m c l x p = ap see (m c l) ∙ sym p

-- ---- below a binder

-- the machine that went below a binder
opened-is : (m mid new : Typer) (number e : ℕ) (f : Frame) → mid ≡ with_codes mid.codes m → (o : Opens mid new number e f) → new ≡ opened (with_codes new.codes m) o.value e f
opened-is m mid new number e f rest o =
    same-made new.codes new.scope (record { value = o.value; typed = Some e; opened = true } ∷ m.scope) new.levels (e ∷ m.levels) new.frames (f ∷ m.frames)
    (o.scope ∙ ap (λ z. record { value = o.value; typed = Some e; opened = true } ∷ z.scope) rest) (o.levels ∙ ap (λ z. e ∷ z.levels) rest) (o.frames ∙ ap (λ z. f ∷ z.frames) rest)

module _ (m mid new : Typer) (x : Name) (a b c u l number e : ℕ) (v : Builtin) (is : Some v ≡ as_universe (code_core m.codes c)) (rest : mid ≡ with_codes mid.codes m)
    (grows : Grows m.codes mid.codes) (counts : number ≡ length mid.levels) (normal : IsNormalCode mid.codes u l (λ g. in_scope g m.scope a) e) where
  number-is : number ≡ length m.levels
  number-is = counts ∙ ap (λ z. length z.levels) rest

  module _ (f : Frame) (o : Opens mid new number e f) where
    abbrev later : Typer
    later = with_codes new.codes m

    grows-all : Grows m.codes new.codes
    grows-all = grows-after m.codes mid.codes new.codes grows o.grows

    e-there : e < count new.codes
    e-there = let p = normal.there in let q = o.grows.more in omega (arith, p, q)

    universe-is : (there : c < count m.codes) (g : ℕ → Core) → Models new.codes g → as_universe (g c) ≡ Some v
    universe-is there g k = seen as_universe m.codes g (models-before m.codes new.codes g grows-all k) c there (Some v) is

    normal-is : (g : ℕ → Core) → Models new.codes g → IsNormal u l (in_scope g m.scope a) (g e)
    normal-is g k = normal.normal g (models-before mid.codes new.codes g o.grows k)

    level-is : (g : ℕ → Core) → Models new.codes g → g o.value ≡ Leaf (level (length m.levels))
    level-is g k = k o.value o.stands.there ∙ o.stands.core ∙ ap (λ n. Leaf (level n)) number-is

  pub lambda-begins : IsReady (with_frame (frames.LambdaDomain x a b) m) (states.Typed c) → Opens mid new number e (frames.LambdaBody x e number)
      → Advances (with_frame (frames.LambdaDomain x a b) m) new (states.Typed c) (states.Type b) u l
  lambda-begins ready o =
      let f = frames.LambdaBody x e number in
      let cs = new.codes in
      let r = ready-grown (with_frame (frames.LambdaDomain x a b) m) (states.Typed c) cs (grows-all f o) ready in
      along (λ z. Advances (with_frame (frames.LambdaDomain x a b) m) z (states.Typed c) (states.Type b) u l)
      (sym (opened-is m mid new number e f rest o ∙ ap (λ n. opened (later f o) o.value e (frames.LambdaBody x e n)) number-is))
      (advances-grown (with_frame (frames.LambdaDomain x a b) m) (opened (later f o) o.value e (frames.LambdaBody x e (length m.levels))) cs (states.Typed c) (states.Type b) u l (grows-all f o)
      (lambdas.lambda-opened (later f o) x a b c u l r v (universe-is f o ready.state) e o.value (e-there f o) o.stands.there (normal-is f o) (level-is f o)))

  pub forall-begins : IsReady (with_frame (frames.ForallDomain x a b) m) (states.Typed c) → Opens mid new number e (frames.ForallRange v)
      → Advances (with_frame (frames.ForallDomain x a b) m) new (states.Typed c) (states.Type b) u l
  forall-begins ready o =
      let f = frames.ForallRange v in
      let cs = new.codes in
      let r = ready-grown (with_frame (frames.ForallDomain x a b) m) (states.Typed c) cs (grows-all f o) ready in
      along (λ z. Advances (with_frame (frames.ForallDomain x a b) m) z (states.Typed c) (states.Type b) u l) (sym (opened-is m mid new number e f rest o))
      (advances-grown (with_frame (frames.ForallDomain x a b) m) (opened (later f o) o.value e f) cs (states.Typed c) (states.Type b) u l (grows-all f o)
      (foralls.forall-opened (later f o) x a b c u l r v (universe-is f o ready.state) e o.value (e-there f o) o.stands.there (normal-is f o) (level-is f o)))

-- ---- out of the body of a λ

module _ (m : Typer) (x : Name) (a n c u : ℕ) (ready : IsReady (with_frame (frames.LambdaBody x a n) m) (states.Typed c)) where
  pub sort-refused : (mid : Typer) → mid ≡ closed m → (s : State) → IsRefusal 4 s → true ≡ is_constant builtins.Sort (code_core mid.codes c)
      → Advances (with_frame (frames.LambdaBody x a n) m) mid (states.Typed c) s u u
  sort-refused mid rest s i p =
      along (λ z. Advances (with_frame (frames.LambdaBody x a n) m) z (states.Typed c) s u u) (sym rest)
      (lambdas.lambda-of_sort m x a n c u ready s i
      (λ g k. seen (is_constant builtins.Sort) m.codes g k c ready.state true (p ∙ ap (λ z. is_constant builtins.Sort (code_core z.codes c)) rest)))

  module _ (mid : Typer) (rest : mid ≡ closed m) (c1 c2 : Codes) (range function : ℕ) (g1 : Grows mid.codes c1) (g2 : Grows c1 c2)
      (s1 : Stands c1 range (bound_in n (code_core mid.codes c))) (s2 : Stands c2 function (form.forall x (code_core c1 a) (code_core c1 range)))
      (no-sort : false ≡ is_constant builtins.Sort (code_core mid.codes c)) where
    grows-first : Grows m.codes c1
    grows-first = along (λ z. Grows z.codes c1) rest g1

    range-is : Stands c1 range (bound_in n (code_core m.codes c))
    range-is = along (λ z. Stands c1 range (bound_in n (code_core z.codes c))) rest s1

    unlike : (g : ℕ → Core) → Models m.codes g → is_constant builtins.Sort (g c) ≡ false
    unlike g k = seen (is_constant builtins.Sort) m.codes g k c ready.state false (no-sort ∙ ap (λ z. is_constant builtins.Sort (code_core z.codes c)) rest)

    -- what the type of the λ is the normal form of
    forall-is : (g : ℕ → Core) → Models m.codes g → code_core c2 function ≡ form.forall x (g a) (bound_in (length (map g (drop 1 m.levels))) (g c))
    forall-is g k =
        s2.core
        ∙ ap (λ z. form.forall x z (code_core c1 range)) (grows-first.cores a ready.frames.0 ∙ sym (k a ready.frames.0))
        ∙ ap (form.forall x (g a))
        (range-is.core ∙ ap (bound_in n) (sym (k c ready.state)) ∙ ap (λ z. bound_in z (g c)) ((ready.sound g k).frames.0.1 ∙ sym (map-length g (drop 1 m.levels))))

    pub body-halts : (h : NormFault) → IsStopped c2 u (λ g. g function) h → Halts (with_frame (frames.LambdaBody x a n) m) (states.Typed c) u h
    body-halts h stop =
        lambdas.lambda-type_halts m x a n c u ready unlike h (λ g k. along (λ z. IsLicensedHalt u z h) (forall-is g k) (stop (code_core c2) (models-itself c2)))

    pub body-typed : (c3 : Codes) (t l : ℕ) → Grows c2 c3 → IsNormalCode c3 u l (λ g. g function) t
        → Advances (with_frame (frames.LambdaBody x a n) m) (with_codes c3 mid) (states.Typed c) (states.Typed t) u l
    body-typed c3 t l g3 normal =
        let grows = grows-after m.codes c2 c3 (grows-after m.codes c1 c2 grows-first g2) g3 in
        along (λ z. Advances (with_frame (frames.LambdaBody x a n) m) (with_codes c3 z) (states.Typed c) (states.Typed t) u l) (sym rest)
        (advances-grown (with_frame (frames.LambdaBody x a n) m) (with_codes c3 (closed m)) c3 (states.Typed c) (states.Typed t) u l grows
        (lambdas.lambda-typed (with_codes c3 m) x a n c u (ready-grown (with_frame (frames.LambdaBody x a n) m) (states.Typed c) c3 grows ready)
        (λ g k. unlike g (models-before m.codes c3 g grows k)) t l normal.there
        (λ g k.
        along (λ z. IsNormal u l z (g t)) (models-before c2 c3 g g3 k function s2.there ∙ forall-is g (models-before m.codes c3 g grows k)) (normal.normal g k))))

-- ---- out of the range of a ∀

module _ (m : Typer) (v : Builtin) (c u : ℕ) (ready : IsReady (with_frame (frames.ForallRange v) m) (states.Typed c)) (mid : Typer) (rest : mid ≡ closed m) where
  pub range-refused : (s : State) → IsRefusal 6 s → None ≡ as_universe (code_core mid.codes c) → Advances (with_frame (frames.ForallRange v) m) mid (states.Typed c) s u u
  range-refused s i p =
      along (λ z. Advances (with_frame (frames.ForallRange v) m) z (states.Typed c) s u u) (sym rest)
      (foralls.range-no_universe m v c u ready s i (λ g k. seen as_universe m.codes g k c ready.state None (p ∙ ap (λ z. as_universe (code_core z.codes c)) rest)))

  pub range-typed : (w : Builtin) → Some w ≡ as_universe (code_core mid.codes c) → (cs : Codes) → Grows mid.codes cs → (t : ℕ) → Stands cs t (form.builtin (function_check v w))
      → Advances (with_frame (frames.ForallRange v) m) (with_codes cs mid) (states.Typed c) (states.Typed t) u u
  range-typed w p cs grows t s =
      let h : Grows m.codes cs = along (λ z. Grows z.codes cs) rest grows in
      along (λ z. Advances (with_frame (frames.ForallRange v) m) (with_codes cs z) (states.Typed c) (states.Typed t) u u) (sym rest)
      (advances-grown (with_frame (frames.ForallRange v) m) (with_codes cs (closed m)) cs (states.Typed c) (states.Typed t) u u h
      (foralls.range-typed (with_codes cs m) v c u (ready-grown (with_frame (frames.ForallRange v) m) (states.Typed c) cs h ready) w
      (λ g k. seen as_universe m.codes g (models-before m.codes cs g h k) c ready.state (Some w) (p ∙ ap (λ z. as_universe (code_core z.codes c)) rest)) t s))
