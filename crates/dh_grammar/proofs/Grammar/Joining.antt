-- What is joined is derived, and its tokens are those that were read.
use Rattle.std.proofs.Common.{◌≡◌, ℕ, ◌≤◌, Bool, true, false, List, [], ◌∷◌, ◌++◌, refl, sym, ◌∙◌, ap, arith, leb-true, le-leb, lt-ltb}
use Rattle.std.specs.Prelude.{IsTrue, nat_le}
use Rattle.std.proofs.lemmas.List.{append_assoc}
use Rattle.dh_syntax.specs.declared.operators.BinOp.{BinOp}
use Rattle.dh_syntax.specs.declared.operators.BinOp.TheVariants as binary
use Rattle.dh_syntax.specs.Text.Derivation.{Keys, Derivation, updates, one_update, merging, to_map, annotation}
use Rattle.dh_syntax.specs.Text.Derived.{binds, is_imp, is_special, derived}
use Rattle.dh_syntax.specs.Expressions.Levels.{level_of}
use Rattle.dh_syntax.specs.Text.Yield.{Written, yield}
use Rattle.dh_grammar.specs.Inside.Before.{open_before, before_stack, before_with}
use Rattle.dh_grammar.specs.Machine.{left, applied, merged, somed, mapped, update, body, target, otherwise, bound, noted, emptied, asserted, first, «open», shut, ready, have}
use Rattle.dh_grammar.specs.Trees.{Open, Shut, Stack, State, build, updating, noting, quantify, join, least, level, asks, shut_asks, open_gap, open_depth, depth_on, depth_out, gap_on}
use Rattle.dh_grammar.specs.Inside.Valid.{D, is_base, OpenOk, StackOk, Holds}
use Rattle.dh_grammar.proofs.TruthValues.{by_test, both}

-- ---- one frame

quantify_derived : (b : Bool) (w : _) (a x : Derivation) → D a → D x → D (quantify b w a x)
quantify_derived true w a x h d = both (derived a) (derived x) h d
quantify_derived false w a x h d = both (derived a) (derived x) h d

one_update_derived : (x : Derivation) (ks : Keys) (v : Derivation) → IsTrue (is_imp x) → 1 ≤ binds v → D x → D v → D (updates (one_update x ks v))
one_update_derived x ks v i o d e = rw (i, le-leb 1 (binds v) o, d, e)

updating_derived : (x : Derivation) (ks : Keys) (v : Derivation) → D x → IsTrue (is_base x) → D v → 1 ≤ binds v → D (updating x ks v)
updating_derived (updates us) ks v d b e o = rw (le-leb 1 (binds v) o, d, e)
updating_derived x ks v d b e o = one_update_derived x ks v b o d e

annotation_derived : (t a : Derivation) → 1 ≤ binds t → is_special t ≡ false → D t → D a → D (annotation t a)
annotation_derived t a o s d e = rw (le-leb 1 (binds t) o, s, d, e)

noting_derived : (t a : Derivation) → D t → 1 ≤ binds t → D a → D (noting t a)
noting_derived (merging t u) a d o e = both (derived (merging t u)) (derived a) d e
noting_derived (to_map t) a d o e = both (derived (to_map t)) (derived a) d e
noting_derived t a d o e = annotation_derived t a o refl d e

pub build_derived : (f : Open) (x : Derivation) → OpenOk f → D x → asks f ≤ binds x → D (build f x)
build_derived (left l o) x h d a = rw (le-leb _ (binds l) h.1, lt-ltb (level_of o) (binds x) a, h.0, d)
build_derived (applied f) x h d a = rw (le-leb 14 (binds f) h.1, le-leb 15 (binds x) a, h.0, d)
build_derived (merged t) x h d a = rw (le-leb 15 (binds t) h.1, le-leb 15 (binds x) a, h.0, d)
build_derived somed x h d a = rw (le-leb 15 (binds x) a, d)
build_derived mapped x h d a = rw (le-leb 15 (binds x) a, d)
build_derived (update y ks) x h d a = updating_derived y ks x h.0 h.1 d a
build_derived (body b w t) x h d a = quantify_derived b w t x h d
build_derived (target t) x h d a = rw (le-leb 1 (binds t) h.1, h.0, d)
build_derived (otherwise p t) x h d a = rw (h.0, h.1, d)
build_derived (bound ls) x h d a = rw (h, d)
build_derived (noted t) x h d a = noting_derived t x h.0 h.1 d
build_derived (emptied c) x h d a = d
build_derived asserted x h d a = d

updating_binds : (x : Derivation) (ks : Keys) (v : Derivation) → binds (updating x ks v) ≡ 0
updating_binds (updates us) ks v = refl
updating_binds x ks v = refl

noting_binds : (t a : Derivation) → binds (noting t a) ≡ 0
noting_binds (merging t u) a = refl
noting_binds (to_map t) a = refl
noting_binds t a = refl

quantify_binds : (b : Bool) (w : _) (a x : Derivation) → binds (quantify b w a x) ≡ 0
quantify_binds true w a x = refl
quantify_binds false w a x = refl

pub build_binds : (f : Open) (x : Derivation) → binds (build f x) ≡ level f
build_binds (left l o) x = refl
build_binds (applied f) x = refl
build_binds (merged t) x = refl
build_binds somed x = refl
build_binds mapped x = refl
build_binds (update y ks) x = updating_binds y ks x
build_binds (body b w t) x = quantify_binds b w t x
build_binds (target t) x = refl
build_binds (otherwise p t) x = refl
build_binds (bound ls) x = refl
build_binds (noted t) x = noting_binds t x
build_binds (emptied c) x = refl
build_binds asserted x = refl

one_update_yield : (n : ℕ) (g : Bool) (x : Derivation) (ks : Keys) (v : Derivation) (r : List Written) → yield n g (updates (one_update x ks v)) ++ r ≡ open_before n g (update x ks) (yield n (open_gap (update x ks)) v ++ r)
one_update_yield n g x ks v r = simp append_assoc

updating_yield : (n : ℕ) (g : Bool) (x : Derivation) (ks : Keys) (v : Derivation) (r : List Written) → yield n g (updating x ks v) ++ r ≡ open_before n g (update x ks) (yield n (open_gap (update x ks)) v ++ r)
updating_yield n g (updates us) ks v r = simp append_assoc
updating_yield n g x ks v r = one_update_yield n g x ks v r

annotation_yield : (n : ℕ) (g : Bool) (t a : Derivation) (r : List Written) → yield n g (annotation t a) ++ r ≡ open_before n g (noted t) (yield (open_depth (noted t) n) (open_gap (noted t)) a ++ r)
annotation_yield n g t a r = simp append_assoc

noting_yield : (n : ℕ) (g : Bool) (t a : Derivation) (r : List Written) → yield n g (noting t a) ++ r ≡ open_before n g (noted t) (yield (open_depth (noted t) n) (open_gap (noted t)) a ++ r)
noting_yield n g (merging t u) a r = simp append_assoc
noting_yield n g (to_map t) a r = simp append_assoc
noting_yield n g t a r = annotation_yield n g t a r

pub build_yield : (n : ℕ) (g : Bool) (f : Open) (x : Derivation) (r : List Written) → yield n g (build f x) ++ r ≡ open_before n g f (yield (open_depth f n) (open_gap f) x ++ r)
build_yield n g (left l o) x r = simp append_assoc
build_yield n g (applied f) x r = simp append_assoc
build_yield n g (merged t) x r = simp append_assoc
build_yield n g somed x r = refl
build_yield n g mapped x r = refl
build_yield n g (update y ks) x r = updating_yield n g y ks x r
build_yield n g (body true w t) x r = simp append_assoc
build_yield n g (body false w t) x r = simp append_assoc
build_yield n g (target t) x r = simp append_assoc
build_yield n g (otherwise p t) x r = simp append_assoc
build_yield n g (bound ls) x r = simp append_assoc
build_yield n g (noted t) x r = noting_yield n g t x r
build_yield n g (emptied c) x r = simp append_assoc
build_yield n g asserted x r = refl

-- ---- levels

level_low : (o : BinOp) → level_of o ≤ 15
level_low binary.Equivalent = omega arith
level_low binary.Fallback = omega arith
level_low _ = omega arith

asks_low : (f : Open) → asks f ≤ 16
asks_low (left l o) = let low = level_low o in omega arith
asks_low (applied f) = omega arith
asks_low (merged t) = omega arith
asks_low somed = omega arith
asks_low mapped = omega arith
asks_low _ = omega arith

shut_asks_low : (f : Shut) → shut_asks f ≤ 16
shut_asks_low first = omega arith
shut_asks_low _ = omega arith

pub least_low : (st : Stack) → least st ≤ 16
least_low [] = omega arith
least_low («open» f ∷ st) = asks_low f
least_low (shut f ∷ st) = shut_asks_low f

pub level_asks : (f : Open) → level f ≤ asks f
level_asks (left l o) = omega arith
level_asks _ = omega arith

-- a frame that binds at all is at the depth outside
pub same_depth : (f : Open) (n : ℕ) → 1 ≤ level f → open_depth f n ≡ n
same_depth (left l o) n h = refl
same_depth (applied f) n h = refl
same_depth (merged t) n h = refl
same_depth somed n h = refl
same_depth mapped n h = refl
same_depth (update x ks) n h = refl
same_depth _ n h = absurd (omega arith)

-- ---- joining

pub record Joined (m k : ℕ) (st : Stack) (x : Derivation) (st' : Stack) (x' : Derivation) : Type 0 where
  pub held : Holds m st' x'
  pub same : (r : List Written) → before_with st x r ≡ before_with st' x' r
  pub out : depth_out st ≡ depth_out st'
  pub on : 1 ≤ k → depth_on st ≡ depth_on st'

abbrev pub JoinedTo : ℕ → ℕ → Stack → Derivation → State → Type 0
JoinedTo m k st x (have st' (ready x')) = Joined m k st x st' x'
JoinedTo m k st x _ = ⊥

pub built_holds : (k : ℕ) (f : Open) (st : Stack) (x : Derivation) → StackOk («open» f ∷ st) → D x → asks f ≤ binds x → k ≤ level f → Holds k st (build f x)
built_holds k f st x h d a m = record {
  stack = h.2;
  derived = build_derived f x h.1 d a;
  stands = let e = build_binds f x in let l = h.0 in omega arith;
  tight = let e = build_binds f x in omega arith;
}

joined_more : (m k : ℕ) (f : Open) (st : Stack) (x : Derivation) (s : State) → k ≤ level f → JoinedTo m k st (build f x) s → JoinedTo m k («open» f ∷ st) x s
joined_more m k f st x (have st' (ready x')) l j = record {
  held = j.held;
  same = λ r. ap (before_stack st) (sym (build_yield (depth_on st) (gap_on st) f x r)) ∙ j.same r;
  out = j.out;
  on = λ p. same_depth f (depth_on st) (omega arith) ∙ j.on p;
}
joined_more m k f st x _ l j = absurd j

pub join_joins : (m k : ℕ) (st : Stack) (x : Derivation) → m ≤ k → Holds m st x → JoinedTo m k st x (join k st x)
join_joins m k [] x l h = record { held = h; same = λ r. refl; out = refl; on = λ p. refl }
join_joins m k (shut f ∷ st) x l h = record { held = h; same = λ r. refl; out = refl; on = λ p. refl }
join_joins m k («open» f ∷ st) x l h =
    by_test (JoinedTo m k («open» f ∷ st) x) (nat_le k (level f)) (join k st (build f x)) (have («open» f ∷ st) (ready x))
    (λ e. let b = leb-true k (level f) e in joined_more m k f st x (join k st (build f x)) b (join_joins m k st (build f x) l (built_holds m f st x h.stack h.derived h.stands (omega arith))))
    (λ e. record { held = h; same = λ r. refl; out = refl; on = λ p. refl })

-- what is held between two tokens, joined
pub held_joins : (m k : ℕ) (st : Stack) (x : Derivation) → m ≤ k → m ≤ 15 → Holds 15 st x → JoinedTo m k st x (join k st x)
held_joins m k st x l low h =
    join_joins m k st x l (record { stack = h.stack; derived = h.derived; stands = h.stands; tight = let t = h.tight in omega arith })
