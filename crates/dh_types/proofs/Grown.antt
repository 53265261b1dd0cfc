-- Codes that are made over older ones stand for what they were made for.
use Rattle.std.specs.Prelude.{◌≡◌, ◌<◌, ◌++◌, ℕ, zero, suc, List, [], ◌∷◌, map, length, Some, None, Result, Ok, Err, IfOk, OnErr, slice_get, slice_index_or, true, IsTrue, refl}
use Rattle.std.proofs.Common.{ap, sym, ◌∙◌, arith, subst as along}
use Rattle.dh_syntax.specs.declared.expressions.Op.{Op}
use Rattle.dh_syntax.specs.declared.expressions.Op.TheVariants as ops
use Rattle.dh_syntax.specs.Expressions.Arity.{fits, plain}
use Rattle.dh_syntax.specs.Expressions.Forms.{plain_row}
use Rattle.dh_syntax.specs.Expressions.Order.{ascending}
use Rattle.dh_syntax.specs.Expressions.Tree.{Leaf, Name, Node, kid}
use Rattle.dh_syntax.specs.Names.Nameless as ref
use Rattle.dh_syntax.specs.Names.Nameless.{Core}
use Rattle.dh_store.specs.declared.codes.Code.{Code}
use Rattle.dh_store.specs.declared.codes.Code.TheVariants as codes
use Rattle.dh_store.specs.declared.codes.CodeKid.{CodeKid}
use Rattle.dh_store.specs.declared.codes.Codes.{Codes}
use Rattle.dh_store.specs.Cells.{blanks, code_core, code_row, nothing, takes, AreBelow, AreCoded, AreKidsBelow, IsCoded}
use Rattle.dh_store.specs.Coding.{Coded}
use Rattle.dh_store.specs.Growth.{count}
use Rattle.dh_store.proofs.Coding.{code-Bound, code-Node, code_row-agree, pushed-coded, pushed-core, pushed-count, pushed-there}
use Rattle.dh_types.specs.Growing.{plain_kid, Grows, Stands}

same-codes : (old new : Codes) → new.codes.items ≡ old.codes.items → (c : ℕ) → code_core new c ≡ code_core old c
unfolding code_core
same-codes old new e c = cc

-- ---- growing

pub grows-same : (old new : Codes) → AreCoded old → new.codes.items ≡ old.codes.items → Grows old new
grows-same old new coded e = record {
  coded = record {
    each = along (λ is. (i : ℕ) → i < length is → IsCoded i (slice_index_or is i (codes.Bound 0))) (sym e) coded.each;
    later = coded.later;
    first = e ∙ coded.first;
  };
  more = (let p = ap length e in omega arith);
  cores = λ c h. same-codes old new e c;
}

pub grows-itself : (cs : Codes) → AreCoded cs → Grows cs cs
grows-itself cs coded = record { coded = coded; more = (omega arith); cores = λ c h. refl }

pub grows-after : (old mid new : Codes) → Grows old mid → Grows mid new → Grows old new
grows-after old mid new g h = record {
  coded = h.coded;
  more = (let p = g.more in let q = h.more in omega arith);
  cores = λ c l. h.cores c (let p = g.more in omega arith) ∙ g.cores c l;
}

pub grows-push : (old new : Codes) (code : Code) (c : ℕ) → Coded old new code c → AreCoded old → IsCoded (count old) code → Grows old new
grows-push old new code c h coded b = record {
  coded = pushed-coded old new code c h coded b;
  more = (let p = pushed-count old new code c h in omega arith);
  cores = λ k l. pushed-core old new code c h k l;
}

pub stands-with : (cs : Codes) (c : ℕ) (e f : Core) → e ≡ f → Stands cs c e → Stands cs c f
stands-with cs c e f p s = record { there = s.there; core = s.core ∙ p }

-- what stands keeps standing
pub stands-later : (old new : Codes) (c : ℕ) (e : Core) → Grows old new → Stands old c e → Stands new c e
stands-later old new c e g s = record { there = (let p = g.more in let q = s.there in omega arith); core = g.cores c s.there ∙ s.core }

-- ---- one more node

got-last : (cs : List Code) (code : Code) (i : ℕ) → i ≡ length cs → slice_get (cs ++ code ∷ []) i ≡ Some code
got-last [] code zero e = refl
got-last [] code (suc i) e = absurd (omega arith)
got-last (d ∷ cs) code zero e = absurd (omega arith)
got-last (d ∷ cs) code (suc i) e = got-last cs code i (omega arith)

module _ (old new : Codes) (op : Op) (ks : List CodeKid) (coded : AreCoded old) (below : AreKidsBelow (count old) ks) (fit : IsTrue (fits op (code_row (λ c. nothing) ks))) where
  stands-push : (c : ℕ) → Coded old new (codes.Node op ks) c → Stands new c (Node op (code_row (code_core old) ks))
  stands-push c h = record {
    there = pushed-there old new _ c h;
    core =
        code-Node new (pushed-coded old new _ c h coded (below, fit)) c op ks (ap (λ is. slice_get is c) h.codes ∙ got-last old.codes.items _ c h.number)
        ∙ ap (Node op) (code_row-agree (code_core new) (code_core old) (count old) ks (pushed-core old new _ c h) below);
  }

  pub node-grows : {E : Type 0} (r : Result ℕ E) → IfOk r (λ c. Coded old new (codes.Node op ks) c) → OnErr r (new.codes.items ≡ old.codes.items) → Grows old new
  node-grows (Ok c) h e = grows-push old new _ c h coded (below, fit)
  node-grows (Err x) h e = grows-same old new coded e

  pub node-stands : {E : Type 0} (r : Result ℕ E) → IfOk r (λ c. Coded old new (codes.Node op ks) c) → IfOk r (λ c. Stands new c (Node op (code_row (code_core old) ks)))
  node-stands (Ok c) h = stands-push c h
  node-stands (Err x) h = tt

-- ---- parts under no binder

pub plain-row : (f : ℕ → Core) (is : List ℕ) → code_row f (map plain_kid is) ≡ plain_row (map f is)
plain-row f [] = refl
plain-row f (i ∷ is) = ap (kid None (f i)) (plain-row f is)

plain-blanks : (is : List ℕ) → code_row (λ c. nothing) (map plain_kid is) ≡ blanks (length is)
plain-blanks [] = refl
plain-blanks (i ∷ is) = ap (kid None nothing) (plain-blanks is)

pub plain-fits : (op : Op) (is : List ℕ) → IsTrue (takes op (length is)) → IsTrue (fits op (code_row (λ c. nothing) (map plain_kid is)))
plain-fits op is h = ap (fits op) (plain-blanks is) ∙ h

blanks-plain : (n m : ℕ) → n ≡ m → plain n (blanks m) ≡ true
blanks-plain zero zero e = refl
blanks-plain zero (suc m) e = absurd (omega arith)
blanks-plain (suc n) zero e = absurd (omega arith)
blanks-plain (suc n) (suc m) e = blanks-plain n m (omega arith)

-- as many types as labels that ascend make a record type
pub record-fits : (xs : List Name) (n : ℕ) → IsTrue (ascending xs) → length xs ≡ n → IsTrue (takes (ops.RecordType xs) n)
record-fits xs n up e = rw (up, blanks-plain (length xs) n e) refl

pub plain-below : (n : ℕ) (is : List ℕ) → AreBelow n is → AreKidsBelow n (map plain_kid is)
plain-below n [] b = tt
plain-below n (i ∷ is) b = (b.0, plain-below n is b.1)

-- ---- answers

pub stands-as : {E : Type 0} (cs : Codes) (r : Result ℕ E) (e f : Core) → e ≡ f → IfOk r (λ c. Stands cs c e) → IfOk r (λ c. Stands cs c f)
stands-as cs (Ok c) e f p s = stands-with cs c e f p s
stands-as cs (Err x) e f p s = tt

-- what holds of the expression that a code stands for
pub made-as : {E : Type 0} (P : Core → Type 0) (cs : Codes) (r : Result ℕ E) (e : Core) → P e → IfOk r (λ c. Stands cs c e) → IfOk r (λ c. P (code_core cs c))
made-as P cs (Ok c) e p s = along P (sym s.core) p
made-as P cs (Err x) e p s = tt

-- ---- one more variable

module _ (old new : Codes) (i : ℕ) (coded : AreCoded old) where
  pub bound-grows : {E : Type 0} (r : Result ℕ E) → IfOk r (λ c. Coded old new (codes.Bound i) c) → OnErr r (new.codes.items ≡ old.codes.items) → Grows old new
  bound-grows (Ok c) h e = grows-push old new _ c h coded tt
  bound-grows (Err x) h e = grows-same old new coded e

  pub bound-stands : {E : Type 0} (r : Result ℕ E) → IfOk r (λ c. Coded old new (codes.Bound i) c) → IfOk r (λ c. Stands new c (Leaf (ref.Bound i)))
  bound-stands (Ok c) h = record {
    there = pushed-there old new _ c h;
    core = code-Bound new (pushed-coded old new _ c h coded tt) c i (ap (λ is. slice_get is c) h.codes ∙ got-last old.codes.items _ c h.number);
  }
  bound-stands (Err x) h = tt
