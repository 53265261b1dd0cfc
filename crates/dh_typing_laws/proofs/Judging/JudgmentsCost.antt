-- What an inference takes to its type, and so what is left over at every purse.
use Rattle.std.specs.Prelude.{◌≡◌, ℕ, ◌+◌, Option, Some, None, refl}
use Rattle.std.proofs.Common.{ap, arith, subst as along}
use Rattle.dh_syntax.specs.Normalising.Heads.{Lang, Whole, Answer, Found, Wide, Deep, Over, run}
use Rattle.dh_syntax.specs.Typing.Inference.{Inference, Gives, Fails, Deeper, FromNormal, FromPart, Aside, Instead, Judgment, Has, Ill, IsWide, IsDeep, IsOver, IsOverAside, IsShallow, after_normal, after_part, after_aside, instead, ComesTo, judged_within}
use Rattle.dh_syntax.specs.Normalising.Normal.{endless}
use Rattle.dh_syntax.specs.Typing.TypeRules.{Rule}
use Rattle.dh_typing_laws.proofs.Judging.JudgmentsLag.{has_type, has_left, normal-then, part-then, aside-type, aside-refused}
use Rattle.dh_laws.proofs.Normalising.RunCosts.{whole_cost_of_run}

module _ {T : Type 0} (L : Lang T) where
  -- n units bring the inference to the type t, and none is left
  abbrev pub Costs : ℕ → ℕ → Inference T → T → Type 0
  Costs u l i t = (n : ℕ) × (n + l ≡ u) × ComesTo L n i (Has t 0)

  cost-normal : (h p u l : ℕ) (t e : T) (y : T → Inference T) (a : Answer T) → run (endless L) h Whole u e ≡ a → after_normal a (λ f left. judged_within L h p left (y f)) ≡ Has t l
      → ((v : T) (k : ℕ) → judged_within L h p k (y v) ≡ Has t l → Costs k l (y v) t) → Costs u l (FromNormal e y) t
  cost-normal h p u l t e y (Found v k) r s ih =
      let (m, w, z) = whole_cost_of_run L u k e v (h, r) in
      let (n, q, x) = ih v k s in
      (m + n, omega arith, normal-then L m n 0 e v y (Has t 0) (λ c g. g) w (along (λ i. ComesTo L i (y v) (Has t 0)) (omega arith) x))
  cost-normal h p u l t e y (Wide k) r s ih = absurd cc
  cost-normal h p u l t e y (Deep k) r s ih = absurd cc
  cost-normal h p u l t e y Over r s ih = absurd cc

  cost-part : (h p u l k : ℕ) (t : T) (m : Inference T) (y : T → Inference T) (a : Judgment T) → judged_within L h p u m ≡ a → after_part k a (λ f left. judged_within L h p left (y f)) ≡ Has t l
      → ((v : T) (j : ℕ) → judged_within L h p u m ≡ Has v j → Costs u j m v) → ((v : T) (j : ℕ) → judged_within L h p j (y v) ≡ Has t l → Costs j l (y v) t) → Costs u l (FromPart k m y) t
  cost-part h p u l k t m y (Has v j) r s before ih =
      let (a, z, w) = before v j r in
      let (n, q, x) = ih v j s in
      (a + n, omega arith, part-then L a n 0 k m v y (Has t 0) (λ c g. g) w (along (λ i. ComesTo L i (y v) (Has t 0)) (omega arith) x))
  cost-part h p u l k t m y (Ill path rule) r s before ih = absurd cc
  cost-part h p u l k t m y IsWide r s before ih = absurd cc
  cost-part h p u l k t m y IsDeep r s before ih = absurd cc
  cost-part h p u l k t m y IsOver r s before ih = absurd cc
  cost-part h p u l k t m y IsOverAside r s before ih = absurd cc
  cost-part h p u l k t m y IsShallow r s before ih = absurd cc

  cost-aside : (h p u l : ℕ) (t : T) (m : Inference T) (y : Option T → Inference T) (a : Judgment T) → judged_within L h p p m ≡ a → after_aside a (λ o. judged_within L h p u (y o)) ≡ Has t l
      → ((o : Option T) → judged_within L h p u (y o) ≡ Has t l → Costs u l (y o) t) → Costs u l (Aside m y) t
  cost-aside h p u l t m y (Has v j) r s ih =
      let (n, q, x) = ih (Some v) s in (n, q, aside-type L p j n m v y (Has t 0) (λ c g. g) (h, p, r) x)
  cost-aside h p u l t m y (Ill path rule) r s ih =
      let (n, q, x) = ih None s in (n, q, aside-refused L p n m path rule y (Has t 0) (λ c g. g) (h, p, r) x)
  cost-aside h p u l t m y IsWide r s ih = absurd cc
  cost-aside h p u l t m y IsDeep r s ih = absurd cc
  cost-aside h p u l t m y IsOver r s ih = absurd cc
  cost-aside h p u l t m y IsOverAside r s ih = absurd cc
  cost-aside h p u l t m y IsShallow r s ih = absurd cc

  instead-type : (a : Judgment T) (rule : Rule) (t : T) (l : ℕ) → instead a rule ≡ Has t l → a ≡ Has t l
  instead-type (Has v j) rule t l r = r
  instead-type (Ill path other) rule t l r = absurd cc
  instead-type IsWide rule t l r = absurd cc
  instead-type IsDeep rule t l r = absurd cc
  instead-type IsOver rule t l r = absurd cc
  instead-type IsOverAside rule t l r = absurd cc
  instead-type IsShallow rule t l r = absurd cc

  cost-instead : (u l : ℕ) (t : T) (m : Inference T) (rule : Rule) → Costs u l m t → Costs u l (Instead m rule) t
  cost-instead u l t m rule (n, q, (h, p, r)) = (n, q, (h, p, ap (λ z. instead z rule) r))

  -- so what a machine found at its first use is kept with its whole cost
  pub cost-of : (h p u l : ℕ) (t : T) (i : Inference T) → judged_within L h p u i ≡ Has t l → Costs u l i t
  cost-of h p u l t (Gives v) r = (0, (let q = has_left v t u l r in omega arith), (0, 0, ap (λ z. Has z 0) (has_type v t u l r)))
  cost-of h p u l t (Fails rule) r = absurd cc
  cost-of h p u l t Deeper r = absurd cc
  cost-of h p u l t (FromNormal e y) r = cost-normal h p u l t e y (run (endless L) h Whole u e) refl r (λ v k s. cost-of h p k l t (y v) s)
  cost-of h p u l t (FromPart k m y) r = cost-part h p u l k t m y (judged_within L h p u m) refl r (λ v j s. cost-of h p u j v m s) (λ v j s. cost-of h p j l t (y v) s)
  cost-of h p u l t (Aside m y) r = cost-aside h p u l t m y (judged_within L h p p m) refl r (λ o s. cost-of h p u l t (y o) s)
  cost-of h p u l t (Instead m rule) r = cost-instead u l t m rule (cost-of h p u l t m (instead-type (judged_within L h p u m) rule t l r))
