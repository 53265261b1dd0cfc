-- A typing that keeps answers, or whose normaliser keeps heads, against the plain count: what it comes to the plain inference
-- comes to with at least as many units and the same units left, or some number of units comes to.
use Rattle.std.specs.Prelude.{◌≡◌, ℕ, ◌+◌, List, Option, Some, None, option_map, refl}
use Rattle.std.proofs.Common.{ap, sym, ◌∙◌, arith, inl, inr, subst as along}
use Rattle.dh_syntax.specs.Normalising.Heads.{Lang, Whole, Answer, Found, Wide, Deep, Over, run}
use Rattle.dh_syntax.specs.Typing.Inference.{Inference, FromNormal, FromPart, Aside, Instead, Judgment, Has, Ill, IsWide, IsDeep, IsOver, IsOverAside, IsShallow, after_normal, after_part, after_aside, instead, judged, ComesTo, judged_within}
use Rattle.dh_syntax.specs.Names.Moves.{Move, moved}
use Rattle.dh_syntax.specs.Normalising.Normal.{endless, Normalises}
use Rattle.dh_syntax.specs.Expressions.Tree.{Tree}
use Rattle.dh_syntax.specs.Typing.TypeRules.{Rule}
use Rattle.dh_laws.specs.Runs.{IsWithMore}
use Rattle.dh_typing_laws.specs.KeptTypes.{NormalLag, TypingLag}
use Rattle.dh_typing_laws.specs.Judgments.{IsJudgedWithMore, IsUnlessTooFew}
use Rattle.dh_typing_laws.proofs.Judging.JudgmentsSteady.{later, grown}
use Rattle.dh_laws.proofs.Normalising.RunLimits.{more_units, higher}
use Rattle.dh_typing_laws.proofs.Ruling.Typings.{Courses}

found_type : {T : Type 0} (e f : T) (l k : ℕ) → Found e l ≡ Found f k → e ≡ f
found_type e f l k h = cc

found_left : {T : Type 0} (e f : T) (l k : ℕ) → Found e l ≡ Found f k → l ≡ k
found_left e f l k h = cc

pub has_type : {T : Type 0} (e f : T) (l k : ℕ) → Has e l ≡ Has f k → e ≡ f
has_type e f l k h = cc

pub has_left : {T : Type 0} (e f : T) (l k : ℕ) → Has e l ≡ Has f k → l ≡ k
has_left e f l k h = cc

plus-comm : (a b : ℕ) → a + b ≡ b + a
plus-comm a b = omega arith

over-before : {T : Type 0} (k : ℕ) (a b : Judgment T) → IsJudgedWithMore k a b → b ≡ IsOver → a ≡ IsOver
over-before k (Has t l) b p q = cc
over-before k (Ill path rule) b p q = cc
over-before k IsWide b p q = cc
over-before k IsDeep b p q = cc
over-before k IsOver b p q = refl
over-before k IsOverAside b p q = cc
over-before k IsShallow b p q = cc

module _ {T : Type 0} (L : Lang T) where
  -- a judgment that more heights and a greater purse do not change
  abbrev pub Firm : Judgment T → Type 0
  Firm b = (c : Judgment T) → IsUnlessTooFew b c → c ≡ b

  grow : (h k p q u : ℕ) (i : Inference T) (b : Judgment T) → Firm b → judged_within L h p u i ≡ b → judged_within L (h + k) (p + q) u i ≡ b
  grow h k p q u i b f r = f _ (along (λ z. IsUnlessTooFew z (judged_within L (h + k) (p + q) u i)) r (grown L h k p q u i))

  -- the same with the sums the other way round
  grow_after : (h k p q u : ℕ) (i : Inference T) (b : Judgment T) → Firm b → judged_within L h p u i ≡ b → judged_within L (k + h) (q + p) u i ≡ b
  grow_after h k p q u i b f r =
      along (λ z. judged_within L z (q + p) u i ≡ b) (plus-comm h k) (along (λ z. judged_within L (h + k) z u i ≡ b) (plus-comm p q) (grow h k p q u i b f r))

  -- so with so many units an inference comes to one judgment
  pub one_judgment : (u : ℕ) (i : Inference T) (a b : Judgment T) → Firm a → Firm b → ComesTo L u i a → ComesTo L u i b → a ≡ b
  one_judgment u i a b f g (h, p, r) (h', p', s) = sym (grow h h' p p' u i a f r) ∙ grow_after h' h p' p u i b g s

  with_more : (h p u k : ℕ) (i : Inference T) (b : Judgment T) → judged_within L h p u i ≡ b → IsJudgedWithMore k b (judged_within L h p (u + k) i)
  with_more h p u k i b r = along (λ z. IsJudgedWithMore k z (judged_within L h p (u + k) i)) r (later L h p u k i)

  run-more : (h u k : ℕ) (e : T) (a : Answer T) → run (endless L) h Whole u e ≡ a → IsWithMore k a (run (endless L) h Whole (u + k) e)
  run-more h u k e a r = along (λ z. IsWithMore k z (run (endless L) h Whole (u + k) e)) r (more_units (endless L) h Whole u k e)

  -- ---- one step, and what follows

  normal-step : (h p u l : ℕ) (e v : T) (y : T → Inference T) → run (endless L) h Whole u e ≡ Found v l → judged_within L h p u (FromNormal e y) ≡ judged_within L h p l (y v)
  normal-step h p u l e v y r = ap (λ z. after_normal z (λ f left. judged_within L h p left (y f))) r

  part-step : (h p u l n : ℕ) (j : Inference T) (v : T) (y : T → Inference T) → judged_within L h p u j ≡ Has v l → judged_within L h p u (FromPart n j y) ≡ judged_within L h p l (y v)
  part-step h p u l n j v y r = ap (λ z. after_part n z (λ f left. judged_within L h p left (y f))) r

  pub normal-then : (u k l : ℕ) (e v : T) (y : T → Inference T) (b : Judgment T) → Firm b → Normalises L u e (Found v l) → ComesTo L (l + k) (y v) b → ComesTo L (u + k) (FromNormal e y) b
  normal-then u k l e v y b f (h, r) (h', p, s) = (
    h + h',
    p,
    normal-step (h + h') p (u + k) (l + k) e v y (run-more (h + h') u k e (Found v l) (higher (endless L) h h' Whole u e (Found v l) r refl))
        ∙ along (λ z. judged_within L (h + h') z (l + k) (y v) ≡ b) (omega arith) (grow_after h' h p 0 (l + k) (y v) b f s),
  )

  pub part-then : (u k l n : ℕ) (j : Inference T) (v : T) (y : T → Inference T) (b : Judgment T) → Firm b → ComesTo L u j (Has v l) → ComesTo L (l + k) (y v) b → ComesTo L (u + k) (FromPart n j y) b
  part-then u k l n j v y b f (h, p, r) (h', p', s) = (
    h + h',
    p + p',
    part-step (h + h') (p + p') (u + k) (l + k) n j v y (with_more (h + h') (p + p') u k j (Has v l) (grow h h' p p' u j (Has v l) (λ c g. g) r))
        ∙ grow_after h' h p' p (l + k) (y v) b f s,
  )

  pub aside-type : (n l u : ℕ) (j : Inference T) (v : T) (y : Option T → Inference T) (b : Judgment T) → Firm b → ComesTo L n j (Has v l) → ComesTo L u (y (Some v)) b → ComesTo L u (Aside j y) b
  aside-type n l u j v y b f (h, p, r) (h', p', s) =
      let P = p + (p' + n) in
      let w : judged_within L (h + h') P (n + (p + p')) j ≡ Has v (l + (p + p')) = with_more (h + h') P n (p + p') j (Has v l) (grow h h' p (p' + n) n j (Has v l) (λ c g. g) r) in
      let w' : judged_within L (h + h') P P j ≡ Has v (l + (p + p')) = along (λ z. judged_within L (h + h') P z j ≡ Has v (l + (p + p'))) (omega arith) w in
      let t : judged_within L (h + h') P u (y (Some v)) ≡ b = along (λ z. judged_within L (h + h') z u (y (Some v)) ≡ b) (omega arith) (grow_after h' h p' (p + n) u (y (Some v)) b f s) in
      (h + h', P, ap (λ z. after_aside z (λ o. judged_within L (h + h') P u (y o))) w' ∙ t)

  pub aside-refused : (n u : ℕ) (j : Inference T) (path : List ℕ) (rule : Rule) (y : Option T → Inference T) (b : Judgment T) → Firm b
      → ComesTo L n j (Ill path rule) → ComesTo L u (y None) b → ComesTo L u (Aside j y) b
  aside-refused n u j path rule y b f (h, p, r) (h', p', s) =
      let P = p + (p' + n) in
      let w : judged_within L (h + h') P (n + (p + p')) j ≡ Ill path rule = with_more (h + h') P n (p + p') j (Ill path rule) (grow h h' p (p' + n) n j (Ill path rule) (λ c g. g) r) in
      let w' : judged_within L (h + h') P P j ≡ Ill path rule = along (λ z. judged_within L (h + h') P z j ≡ Ill path rule) (omega arith) w in
      let t : judged_within L (h + h') P u (y None) ≡ b = along (λ z. judged_within L (h + h') z u (y None) ≡ b) (omega arith) (grow_after h' h p' (p + n) u (y None) b f s) in
      (h + h', P, ap (λ z. after_aside z (λ o. judged_within L (h + h') P u (y o))) w' ∙ t)

  -- ---- with too few units

  over-after-normal : (h p u extra l : ℕ) (e v : T) (y : T → Inference T) (a b : Answer T) → run (endless L) h Whole u e ≡ a → IsWithMore extra a b → b ≡ Found v l
      → judged_within L h p l (y v) ≡ IsOver → judged_within L h p u (FromNormal e y) ≡ IsOver
  over-after-normal h p u extra l e v y (Found v' l') b r w q s =
      let t : judged_within L h p (l' + extra) (y v') ≡ IsOver =
      along (λ z. judged_within L h p z (y v') ≡ IsOver) (found_left v v' l (l' + extra) (sym q ∙ w)) (along (λ z. judged_within L h p l (y z) ≡ IsOver) (found_type v v' l (l' + extra) (sym q ∙ w)) s) in
      normal-step h p u l' e v' y r ∙ over-before extra _ _ (later L h p l' extra (y v')) t
  over-after-normal h p u extra l e v y (Wide l') b r w q s = absurd cc
  over-after-normal h p u extra l e v y (Deep l') b r w q s = absurd cc
  over-after-normal h p u extra l e v y Over b r w q s = ap (λ z. after_normal z (λ f left. judged_within L h p left (y f))) r

  over-after-part : (h p u extra l n : ℕ) (j : Inference T) (v : T) (y : T → Inference T) (a b : Judgment T) → judged_within L h p u j ≡ a → IsJudgedWithMore extra a b → b ≡ Has v l
      → judged_within L h p l (y v) ≡ IsOver → judged_within L h p u (FromPart n j y) ≡ IsOver
  over-after-part h p u extra l n j v y (Has v' l') b r w q s =
      let t : judged_within L h p (l' + extra) (y v') ≡ IsOver =
      along (λ z. judged_within L h p z (y v') ≡ IsOver) (has_left v v' l (l' + extra) (sym q ∙ w)) (along (λ z. judged_within L h p l (y z) ≡ IsOver) (has_type v v' l (l' + extra) (sym q ∙ w)) s) in
      part-step h p u l' n j v' y r ∙ over-before extra _ _ (later L h p l' extra (y v')) t
  over-after-part h p u extra l n j v y (Ill path rule) b r w q s = absurd cc
  over-after-part h p u extra l n j v y IsWide b r w q s = absurd cc
  over-after-part h p u extra l n j v y IsDeep b r w q s = absurd cc
  over-after-part h p u extra l n j v y IsOver b r w q s = ap (λ z. after_part n z (λ f left. judged_within L h p left (y f))) r
  over-after-part h p u extra l n j v y IsOverAside b r w q s = absurd cc
  over-after-part h p u extra l n j v y IsShallow b r w q s = absurd cc

  pub normal-over : (u extra l : ℕ) (e v : T) (y : T → Inference T) → Normalises L (u + extra) e (Found v l) → ComesTo L l (y v) IsOver → ComesTo L u (FromNormal e y) IsOver
  normal-over u extra l e v y (h, r) (h', p, s) = (
    h + h',
    p,
    over-after-normal (h + h') p u extra l e v y (run (endless L) (h + h') Whole u e) (run (endless L) (h + h') Whole (u + extra) e) refl
        (more_units (endless L) (h + h') Whole u extra e) (higher (endless L) h h' Whole (u + extra) e (Found v l) r refl)
        (along (λ z. judged_within L (h + h') z l (y v) ≡ IsOver) (omega arith) (grow_after h' h p 0 l (y v) IsOver (λ c g. g) s)),
  )

  pub part-over : (u extra l n : ℕ) (j : Inference T) (v : T) (y : T → Inference T) → ComesTo L (u + extra) j (Has v l) → ComesTo L l (y v) IsOver → ComesTo L u (FromPart n j y) IsOver
  part-over u extra l n j v y (h, p, r) (h', p', s) = (
    h + h',
    p + p',
    over-after-part (h + h') (p + p') u extra l n j v y (judged_within L (h + h') (p + p') u j) (judged_within L (h + h') (p + p') (u + extra) j) refl
        (later L (h + h') (p + p') u extra j) (grow h h' p p' (u + extra) j (Has v l) (λ c g. g) r)
        (grow_after h' h p' p l (y v) IsOver (λ c g. g) s),
  )

  -- ---- the relation

  module _ (wide deep : T → Type 0) (purse : ℕ) where
    -- a type that is kept costs nothing: whatever it took once, the plain inference takes it again
    pub kept-lag : {U : Type 0} (f : T → U) (units n : ℕ) (j : Inference T) (t : T) → ComesTo L n j (Has t 0) → TypingLag L wide deep purse f units j (Has (f t) units)
    kept-lag f units n j t (h, p, r) =
        let w : judged_within L h p (n + units) j ≡ Has t (0 + units) = along (λ z. IsJudgedWithMore units z (judged_within L h p (n + units) j)) r (later L h p n units j) in
        (t, refl, n, (h, p, along (λ z. judged_within L h p z j ≡ Has t units) (omega arith) (w ∙ ap (Has t) (omega arith))))

    -- the same of a judgment that comes later, from what is before it
    pub normal-lag : {U : Type 0} (f : T → U) (u extra l : ℕ) (e v : T) (y : T → Inference T) → Normalises L (u + extra) e (Found v l) → (b : Judgment U) → TypingLag L wide deep purse f l (y v) b → TypingLag L wide deep purse f u (FromNormal e y) b
    normal-lag f u extra l e v y r (Has t l') (w, q, more, s) =
        (w, q, extra + more, along (λ z. ComesTo L z (FromNormal e y) (Has w l')) (omega arith) (normal-then (u + extra) more l e v y (Has w l') (λ c g. g) r s))
    normal-lag f u extra l e v y r (Ill path rule) (n, (h, p, s)) =
        (u + extra + n, normal-then (u + extra) n l e v y (Ill path rule) (λ c g. g) r (h, p, along (λ z. judged_within L h p z (y v) ≡ Ill path rule) (omega arith) (with_more h p n l (y v) (Ill path rule) s)))
    normal-lag f u extra l e v y r IsWide s = inr (v, (u + extra, l, r), s)
    normal-lag f u extra l e v y r IsDeep s = inr (v, (u + extra, l, r), s)
    normal-lag f u extra l e v y r IsOver s = normal-over u extra l e v y r s
    normal-lag f u extra l e v y r IsOverAside s = inr (v, (u + extra, l, r), s)
    normal-lag f u extra l e v y r IsShallow s = tt

    pub part-lag : {U : Type 0} (f : T → U) (u extra l n : ℕ) (j : Inference T) (v : T) (y : T → Inference T) → ComesTo L (u + extra) j (Has v l) → (b : Judgment U) → TypingLag L wide deep purse f l (y v) b → TypingLag L wide deep purse f u (FromPart n j y) b
    part-lag f u extra l n j v y r (Has t l') (w, q, more, s) =
        (w, q, extra + more, along (λ z. ComesTo L z (FromPart n j y) (Has w l')) (omega arith) (part-then (u + extra) more l n j v y (Has w l') (λ c g. g) r s))
    part-lag f u extra l n j v y r (Ill path rule) (k, (h, p, s)) =
        (u + extra + k, part-then (u + extra) k l n j v y (Ill path rule) (λ c g. g) r (h, p, along (λ z. judged_within L h p z (y v) ≡ Ill path rule) (omega arith) (with_more h p k l (y v) (Ill path rule) s)))
    part-lag f u extra l n j v y r IsWide s = inr (v, (u + extra, l, r), s)
    part-lag f u extra l n j v y r IsDeep s = inr (v, (u + extra, l, r), s)
    part-lag f u extra l n j v y r IsOver s = part-over u extra l n j v y r s
    part-lag f u extra l n j v y r IsOverAside s = inr (v, (u + extra, l, r), s)
    part-lag f u extra l n j v y r IsShallow s = tt

    pub aside_type-lag : {U : Type 0} (f : T → U) (u n l : ℕ) (j : Inference T) (v : T) (y : Option T → Inference T) → ComesTo L n j (Has v l) → (b : Judgment U) → TypingLag L wide deep purse f u (y (Some v)) b → TypingLag L wide deep purse f u (Aside j y) b
    aside_type-lag f u n l j v y r (Has t l') (w, q, more, s) = (w, q, more, aside-type n l (u + more) j v y (Has w l') (λ c g. g) r s)
    aside_type-lag f u n l j v y r (Ill path rule) (k, s) = (k, aside-type n l k j v y (Ill path rule) (λ c g. g) r s)
    aside_type-lag f u n l j v y r IsWide s = inr (inr (inl (v, (n, l, r), s)))
    aside_type-lag f u n l j v y r IsDeep s = inr (inr (inl (v, (n, l, r), s)))
    aside_type-lag f u n l j v y r IsOver s = aside-type n l u j v y IsOver (λ c g. g) r s
    aside_type-lag f u n l j v y r IsOverAside s = inr (inr (inl (v, (n, l, r), s)))
    aside_type-lag f u n l j v y r IsShallow s = tt

    pub aside_refused-lag : {U : Type 0} (f : T → U) (u n : ℕ) (j : Inference T) (path : List ℕ) (rule : Rule) (y : Option T → Inference T) → ComesTo L n j (Ill path rule) → (b : Judgment U)
        → TypingLag L wide deep purse f u (y None) b → TypingLag L wide deep purse f u (Aside j y) b
    aside_refused-lag f u n j path rule y r (Has t l') (w, q, more, s) = (w, q, more, aside-refused n (u + more) j path rule y (Has w l') (λ c g. g) r s)
    aside_refused-lag f u n j path rule y r (Ill path' rule') (k, s) = (k, aside-refused n k j path rule y (Ill path' rule') (λ c g. g) r s)
    aside_refused-lag f u n j path rule y r IsWide s = inr (inr (inr (path, rule, (n, r), s)))
    aside_refused-lag f u n j path rule y r IsDeep s = inr (inr (inr (path, rule, (n, r), s)))
    aside_refused-lag f u n j path rule y r IsOver s = aside-refused n u j path rule y IsOver (λ c g. g) r s
    aside_refused-lag f u n j path rule y r IsOverAside s = inr (inr (inr (path, rule, (n, r), s)))
    aside_refused-lag f u n j path rule y r IsShallow s = tt

    -- ---- what follows each question

    pub after_normal-lag : {U : Type 0} (f : T → U) (u : ℕ) (e : T) (y : T → Inference T) (a : Answer U) (x : U → ℕ → Judgment U) → NormalLag L wide deep f u e a
        → ((v : T) (l : ℕ) → TypingLag L wide deep purse f l (y v) (x (f v) l)) → TypingLag L wide deep purse f u (FromNormal e y) (after_normal a x)
    after_normal-lag f u e y (Found t l) x (v, q, extra, r) k =
        along (λ z. TypingLag L wide deep purse f u (FromNormal e y) (x z l)) (sym q) (normal-lag f u extra l e v y r (x (f v) l) (k v l))
    after_normal-lag f u e y (Wide l) x r k = inl r
    after_normal-lag f u e y (Deep l) x r k = inl r
    after_normal-lag f u e y Over x (h, r) k = (h, 0, ap (λ z. after_normal z (λ d left. judged_within L h 0 left (y d))) r)

    pub after_part-lag : {U : Type 0} (f g : T → U) (u n : ℕ) (j : Inference T) (y : T → Inference T) (a : Judgment U) (x : U → ℕ → Judgment U) → TypingLag L wide deep purse g u j a
        → ((v : T) (l : ℕ) → TypingLag L wide deep purse f l (y v) (x (g v) l)) → TypingLag L wide deep purse f u (FromPart n j y) (after_part n a x)
    after_part-lag f g u n j y (Has t l) x (v, q, extra, r) k =
        along (λ z. TypingLag L wide deep purse f u (FromPart n j y) (x z l)) (sym q) (part-lag f u extra l n j v y r (x (g v) l) (k v l))
    after_part-lag f g u n j y (Ill path rule) x (m, (h, p, r)) k = (m, (h, p, ap (λ z. after_part n z (λ d left. judged_within L h p left (y d))) r))
    after_part-lag f g u n j y IsWide x r k = inl r
    after_part-lag f g u n j y IsDeep x r k = inl r
    after_part-lag f g u n j y IsOver x (h, p, r) k = (h, p, ap (λ z. after_part n z (λ d left. judged_within L h p left (y d))) r)
    after_part-lag f g u n j y IsOverAside x r k = inl r
    after_part-lag f g u n j y IsShallow x r k = tt

    pub after_aside-lag : {U : Type 0} (f : T → U) (u : ℕ) (j : Inference T) (y : Option T → Inference T) (a : Judgment U) (x : Option U → Judgment U) → TypingLag L wide deep purse f purse j a
        → ((o : Option T) → TypingLag L wide deep purse f u (y o) (x (option_map f o))) → TypingLag L wide deep purse f u (Aside j y) (after_aside a x)
    after_aside-lag f u j y (Has t l) x (v, q, extra, r) k =
        along (λ z. TypingLag L wide deep purse f u (Aside j y) (x (Some z))) (sym q) (aside_type-lag f u (purse + extra) l j v y r (x (Some (f v))) (k (Some v)))
    after_aside-lag f u j y (Ill path rule) x (n, r) k = aside_refused-lag f u n j path rule y r (x None) (k None)
    after_aside-lag f u j y IsWide x r k = inr (inl r)
    after_aside-lag f u j y IsDeep x r k = inr (inl r)
    after_aside-lag f u j y IsOver x r k = inl r
    after_aside-lag f u j y IsOverAside x r k = inr (inl r)
    after_aside-lag f u j y IsShallow x r k = tt

    pub instead-lag : {U : Type 0} (f : T → U) (u : ℕ) (j : Inference T) (rule : Rule) (a : Judgment U) → TypingLag L wide deep purse f u j a → TypingLag L wide deep purse f u (Instead j rule) (instead a rule)
    instead-lag f u j rule (Has t l) (v, q, extra, (h, p, r)) = (v, q, extra, (h, p, ap (λ z. instead z rule) r))
    instead-lag f u j rule (Ill path other) (n, (h, p, r)) = (n, (h, p, ap (λ z. instead z rule) r))
    instead-lag f u j rule IsWide r = r
    instead-lag f u j rule IsDeep r = r
    instead-lag f u j rule IsOver (h, p, r) = (h, p, ap (λ z. instead z rule) r)
    instead-lag f u j rule IsOverAside r = r
    instead-lag f u j rule IsShallow r = tt

-- ---- the courses of inferences

module _ {S A B C D : Type 0} (m : Move S A B C D) (E : S → Tree C D → Tree A B → Type 0) (L : Lang (Tree A B)) (wide deep : Tree A B → Type 0) (purse : ℕ)
    (normal : ℕ → Tree C D → Answer (Tree C D))
    (h : (s : S) (units : ℕ) (d : Tree C D) (e : Tree A B) → E s d e → NormalLag L wide deep (moved m s) units e (normal units d)) where
  -- with all units
  abbrev pub JudgedLag : S → Inference (Tree C D) → Inference (Tree A B) → Type 0
  JudgedLag s i j = (units : ℕ) → TypingLag L wide deep purse (moved m s) units j (judged normal purse units i)

  pub lag-courses : Courses m E JudgedLag
  lag-courses = record {
    gives = λ s t units. (t, refl, 0, (0, 0, ap (Has t) (omega arith)));
    fails = λ s r units. (0, (0, 0, refl));
    deeper = λ s units. tt;
    from_normal = λ s d e x y p k units. after_normal-lag L wide deep purse (moved m s) units e y _ _ (h s units d e p) (λ v l. k v l);
    from_part = λ s t n i j x y p k units. after_part-lag L wide deep purse (moved m s) (moved m t) units n j y _ _ (p units) (λ v l. k v l);
    aside = λ s i j x y p k units. after_aside-lag L wide deep purse (moved m s) units j y _ _ (p purse) (λ o. k o units);
    instead = λ s i j r p units. instead-lag L wide deep purse (moved m s) units j r _ (p units);
  }
