-- Two stretches that are written one after the other.
use Rattle.std.proofs.Common.{◌≡◌, ◌∙◌, ℕ, List, [], ◌++◌, length, take, Option, Result, Ok, Err, OnOk, OnErr, ap, subst, arith, length-append, append_assoc, refl}
use Rattle.std.proofs.KnownBytes.{Appends-nil, Appends-trans}
use Rattle.std.proofs.Math.Seq.{take-append-add}
use Rattle.std.proofs.lemmas.List.{take-append-le}
use Rattle.dh_ports.specs.Counts.{Rose}
use Rattle.dh_streams.specs.Streams.{Gains, Stops, output}

-- both are written
pub gains-both : (w0 w1 w2 : Option (List ℕ)) (f0 f1 f2 : ℕ) (a b : List ℕ) → Gains (output w0 w1 f0 f1) a → Gains (output w1 w2 f1 f2) b → Gains (output w0 w2 f0 f2) (a ++ b)
gains-both w0 w1 w2 f0 f1 f2 a b p q = record { grown = Appends-trans w0 w1 w2 a b p.grown q.grown; quiet = q.quiet ∙ p.quiet }

-- the first is written, and a write of the second fails
pub gains-stops : (w0 w1 w2 : Option (List ℕ)) (f0 f1 f2 : ℕ) (a b : List ℕ) → Gains (output w0 w1 f0 f1) a → Stops (output w1 w2 f1 f2) b → Stops (output w0 w2 f0 f2) (a ++ b)
gains-stops w0 w1 w2 f0 f1 f2 a b p q = record {
  part = a ++ q.part;
  begins = ap (λ n. take n (a ++ b)) (length-append a q.part) ∙ take-append-add a b (length q.part) ∙ ap (λ t. a ++ t) q.begins;
  short = let short = q.short in omega (arith, short, length-append a q.part, length-append a b);
  gains = Appends-trans w0 w1 w2 a q.part p.grown q.gains;
  failed = subst (λ f. Rose f f2) p.quiet q.failed;
}

-- a write of the first fails
pub stops-first : (w0 w1 : Option (List ℕ)) (f0 f1 : ℕ) (a b : List ℕ) → Stops (output w0 w1 f0 f1) a → Stops (output w0 w1 f0 f1) (a ++ b)
stops-first w0 w1 f0 f1 a b q = record {
  part = q.part;
  begins = let short = q.short in take-append-le (length q.part) a b (omega (arith, short)) ∙ q.begins;
  short = let short = q.short in omega (arith, short, length-append a b);
  gains = q.gains;
  failed = q.failed;
}

-- nothing is written
pub gains-nothing : (w : Option (List ℕ)) (f : ℕ) → Gains (output w w f f) []
gains-nothing w f = record { grown = Appends-nil w; quiet = refl }

-- ---- by what a second write answers

pub first-err : (w0 w1 : Option (List ℕ)) (f0 f1 : ℕ) (a b whole : List ℕ) → a ++ b ≡ whole → Stops (output w0 w1 f0 f1) a → Stops (output w0 w1 f0 f1) whole
first-err w0 w1 f0 f1 a b whole joined q = subst (Stops (output w0 w1 f0 f1)) joined (stops-first w0 w1 f0 f1 a b q)

module _ {A E : Type 0} (w0 w1 w2 : Option (List ℕ)) (f0 f1 f2 : ℕ) (a b whole : List ℕ) (joined : a ++ b ≡ whole) where
  pub both-ok : (r : Result A E) → Gains (output w0 w1 f0 f1) a → OnOk r (Gains (output w1 w2 f1 f2) b) → OnOk r (Gains (output w0 w2 f0 f2) whole)
  both-ok (Ok x) p q = subst (Gains (output w0 w2 f0 f2)) joined (gains-both w0 w1 w2 f0 f1 f2 a b p q)
  both-ok (Err e) p q = tt

  pub both-err : (r : Result A E) → Gains (output w0 w1 f0 f1) a → OnErr r (Stops (output w1 w2 f1 f2) b) → OnErr r (Stops (output w0 w2 f0 f2) whole)
  both-err (Ok x) p q = tt
  both-err (Err e) p q = subst (Stops (output w0 w2 f0 f2)) joined (gains-stops w0 w1 w2 f0 f1 f2 a b p q)

-- two stretches around one
pub around : (a b c d m : List ℕ) → a ≡ c → b ≡ d → (a ++ m) ++ b ≡ c ++ (m ++ d)
around a b c d m p q = append_assoc a m b ∙ ap (λ t. t ++ (m ++ b)) p ∙ ap (λ t. c ++ (m ++ t)) q
