-- Weakening: typing of a nameless expression in a longer context.
use Rattle.std.specs.Prelude.{◌≡◌, ℕ, zero, suc, pred, Bool, true, false, ◌&&◌, ◌||◌, if◌then◌else◌, map, [], ◌∷◌, Option, Some, None, option_map, refl}
use Rattle.std.proofs.Common.{ap, sym, ◌∙◌}
use Rattle.std.proofs.Math.Path.{fun_ext}
use Rattle.dh_syntax.specs.declared.operators.Builtin.{Builtin}
use Rattle.dh_syntax.specs.Normalising.Heads.{Lang, Whole, Answer, Found, Wide, Deep, Over, run}
use Rattle.dh_syntax.specs.Typing.Inference.{Inference, judged_within}
use Rattle.dh_syntax.specs.Names.Moves.{Move, moved, moved_row}
use Rattle.dh_syntax.specs.Names.Nameless.{Ref, Bound, Free, renamed_ref, lifted, renaming, ren, sub, first}
use Rattle.dh_syntax.specs.Normalising.NamelessRuns.{ref_eq, nameless_eq, nameless_row_eq, nameless_binders}
use Rattle.dh_syntax.specs.Typing.NamelessTyping.{mentions, mentions_row, down, nth_type, type_in, nameless_scopes}
use Rattle.dh_syntax.specs.Normalising.Normal.{endless}
use Rattle.dh_syntax.specs.Expressions.Numbers.{eq}
use Rattle.dh_syntax.specs.Expressions.SameTree.{op_eq}
use Rattle.dh_syntax.specs.Typing.Scopes.{Scopes, Context, enter}
use Rattle.dh_syntax.specs.Expressions.Tree.{Tree, Row, Leaf, Node, end, kid, Name}
use Rattle.dh_syntax.specs.Normalising.Trees.{trees}
use Rattle.dh_syntax.specs.Typing.Typing.{typing}
use Rattle.dh_syntax.proofs.Moves.{staying, moved-staying}
use Rattle.dh_laws.specs.NamelessAnswers.{answer_map}
use Rattle.dh_laws.proofs.Contracting.Contractions.{ren-first}
use Rattle.dh_typing_laws.specs.Judgments.{judgment_map}
use Rattle.dh_typing_laws.proofs.Judging.Judgments.{JudgedAlike, judged-courses}
use Rattle.dh_laws.proofs.Contracting.Moved.{BindersMove}
use Rattle.dh_laws.proofs.Normalising.MovedRuns.{MovedAlike, trees-alike}
use Rattle.dh_laws.proofs.Names.Renamings.{ren-ren}
use Rattle.dh_laws.proofs.Normalising.RunLimits.{reaches-itself}
use Rattle.dh_laws.proofs.Normalising.RunsAlike.{plus, AnswersAlike, Alike, run-alike}
use Rattle.dh_laws.proofs.Names.Shifts.{or-false_left, or-false_right}
use Rattle.dh_typing_laws.proofs.Ruling.TypedRules.{ScopesMove}
use Rattle.dh_typing_laws.proofs.Ruling.TypedViews.{map-map}
use Rattle.dh_typing_laws.proofs.Ruling.Typings.{Courses}
use Rattle.dh_typing_laws.proofs.Typing.TypingsMoved.{IsMoved, typing-moved}

-- a renaming that keeps different variables different
pub record Apart : Type 0 where
  pub fun : ℕ → ℕ
  pub apart : (i j : ℕ) → eq (fun i) (fun j) ≡ eq i j

pub lifted-apart : (f : ℕ → ℕ) → ((i j : ℕ) → eq (f i) (f j) ≡ eq i j) → (i j : ℕ) → eq (lifted f i) (lifted f j) ≡ eq i j
lifted-apart f h zero zero = refl
lifted-apart f h zero (suc j) = refl
lifted-apart f h (suc i) zero = refl
lifted-apart f h (suc i) (suc j) = h i j

abbrev pub lift : Apart → Apart
lift s = record { fun = lifted s.fun; apart = lifted-apart s.fun s.apart }

abbrev pub one : Apart
one = record { fun = λ k. suc k; apart = λ i j. refl }

lifted-eq : (f : ℕ → ℕ) (j k : ℕ) → ((i : ℕ) → eq (f i) k ≡ eq i j) → (i : ℕ) → eq (lifted f i) (suc k) ≡ eq i (suc j)
lifted-eq f j k h zero = refl
lifted-eq f j k h (suc i) = h i

lifted-agree : (f g : ℕ → ℕ) (k : ℕ) → ((i : ℕ) → eq i k ≡ false → f i ≡ g i) → (i : ℕ) → eq i (suc k) ≡ false → lifted f i ≡ lifted g i
lifted-agree f g k h zero p = refl
lifted-agree f g k h (suc i) p = ap suc (h i p)

lifted-nearest : (f : ℕ → ℕ) (i : ℕ) → eq (lifted f i) 0 ≡ eq i 0
lifted-nearest f zero = refl
lifted-nearest f (suc i) = refl

pred-lifted : (f : ℕ → ℕ) (i : ℕ) → eq i 0 ≡ false → pred (lifted f i) ≡ f (pred i)
pred-lifted f zero p = absurd cc
pred-lifted f (suc i) p = refl

plus-zero : (n : ℕ) → plus n 0 ≡ n
plus-zero zero = refl
plus-zero (suc n) = ap suc (plus-zero n)

kept-ref : (s : Apart) (r q : Ref) → ref_eq (renamed_ref s.fun r) (renamed_ref s.fun q) ≡ ref_eq r q
kept-ref s (Bound i) (Bound j) = s.apart i j
kept-ref s (Free x n) (Free y k) = refl
kept-ref s (Bound i) (Free y k) = refl
kept-ref s (Free x n) (Bound j) = refl

module _ {B : Type 0} where
  abbrev pub keeping : Move Apart Ref B Ref B
  keeping = record { leaf = λ s r. renamed_ref s.fun r; binder = λ y. y; enter = λ s y. lift s }

  same_kid : (b b' : Option B) (e e' : Tree Ref B) (r r' : Row Ref B) → b ≡ b' → e ≡ e' → r ≡ r' → kid b e r ≡ kid b' e' r'
  same_kid b b' e e' r r' p q t = cc

  mutual
    pub keeping-ren : (s : Apart) (c : Tree Ref B) → moved keeping s c ≡ ren s.fun c
    keeping-ren s (Leaf r) = refl
    keeping-ren s (Node op r) = ap (Node op) (keeping-ren_row s r)

    keeping-ren_row : (s : Apart) (r : Row Ref B) → moved_row keeping s r ≡ moved_row renaming s.fun r
    keeping-ren_row s end = refl
    keeping-ren_row s (kid None e r) = same_kid None None _ _ _ _ refl (keeping-ren s e) (keeping-ren_row s r)
    keeping-ren_row s (kid (Some y) e r) = same_kid (Some y) (Some y) _ _ _ _ refl (keeping-ren (lift s) e) (keeping-ren_row s r)

  -- ---- what is mentioned

  mutual
    mentions-ren : (f : ℕ → ℕ) (j k : ℕ) → ((i : ℕ) → eq (f i) k ≡ eq i j) → (c : Tree Ref B) → mentions k (ren f c) ≡ mentions j c
    mentions-ren f j k h (Leaf (Bound i)) = h i
    mentions-ren f j k h (Leaf (Free x n)) = refl
    mentions-ren f j k h (Node op r) = mentions_row-ren f j k h r

    mentions_row-ren : (f : ℕ → ℕ) (j k : ℕ) → ((i : ℕ) → eq (f i) k ≡ eq i j) → (r : Row Ref B) → mentions_row k (moved_row renaming f r) ≡ mentions_row j r
    mentions_row-ren f j k h end = refl
    mentions_row-ren f j k h (kid None e r) = let p = mentions-ren f j k h e in let q = mentions_row-ren f j k h r in λ i. p i || q i
    mentions_row-ren f j k h (kid (Some y) e r) =
        let p = mentions-ren (lifted f) (suc j) (suc k) (lifted-eq f j k h) e in let q = mentions_row-ren f j k h r in λ i. p i || q i

  mutual
    ren-unmentioned : (f g : ℕ → ℕ) (k : ℕ) → ((i : ℕ) → eq i k ≡ false → f i ≡ g i) → (c : Tree Ref B) → mentions k c ≡ false → ren f c ≡ ren g c
    ren-unmentioned f g k h (Leaf (Bound i)) p = ap (λ j. Leaf (Bound j)) (h i p)
    ren-unmentioned f g k h (Leaf (Free x n)) p = refl
    ren-unmentioned f g k h (Node op r) p = ap (Node op) (ren_row-unmentioned f g k h r p)

    ren_row-unmentioned : (f g : ℕ → ℕ) (k : ℕ) → ((i : ℕ) → eq i k ≡ false → f i ≡ g i) → (r : Row Ref B) → mentions_row k r ≡ false
        → moved_row renaming f r ≡ moved_row renaming g r
    ren_row-unmentioned f g k h end p = refl
    ren_row-unmentioned f g k h (kid None e r) p =
        same_kid None None _ _ _ _ refl (ren-unmentioned f g k h e (or-false_left (mentions k e) (mentions_row k r) p)) (ren_row-unmentioned f g k h r (or-false_right (mentions k e) (mentions_row k r) p))
    ren_row-unmentioned f g k h (kid (Some y) e r) p =
        same_kid (Some y) (Some y) _ _ _ _ refl
        (ren-unmentioned (lifted f) (lifted g) (suc k) (lifted-agree f g k h) e (or-false_left (mentions (suc k) e) (mentions_row k r) p))
        (ren_row-unmentioned f g k h r (or-false_right (mentions (suc k) e) (mentions_row k r) p))

  unless_mentioned : (f : Tree Ref B → Tree Ref B) (b' b : Bool) (x' x : Tree Ref B) → b' ≡ b → (b ≡ false → x' ≡ f x)
      → (if b' then None else Some x') ≡ option_map f (if b then None else Some x)
  unless_mentioned f b' true x' x p k = ap (λ c. if c then None else Some x') p
  unless_mentioned f b' false x' x p k = ap (λ c. if c then None else Some x') p ∙ ap Some (k refl)

  down-ren : (f : ℕ → ℕ) (c : Tree Ref B) → down (ren (lifted f) c) ≡ option_map (ren f) (down c)
  down-ren f c =
      unless_mentioned (ren f) _ _ _ _ (mentions-ren (lifted f) 0 0 (lifted-nearest f) c) λ p.
      ren-ren pred (lifted f) c ∙ ren-unmentioned (λ i. pred (lifted f i)) (λ i. f (pred i)) 0 (pred-lifted f) c p ∙ sym (ren-ren f pred c)

  up-ren : (f : ℕ → ℕ) (c : Tree Ref B) → ren (λ k. suc k) (ren f c) ≡ ren (lifted f) (ren (λ k. suc k) c)
  up-ren f c = ren-ren (λ k. suc k) f c ∙ sym (ren-ren (lifted f) (λ k. suc k) c)

  -- ---- sameness

  mutual
    kept-same : (s : Apart) (c d : Tree Ref B) → nameless_eq (moved keeping s c) (moved keeping s d) ≡ nameless_eq c d
    kept-same s (Leaf r) (Leaf q) = kept-ref s r q
    kept-same s (Node o r) (Node p q) = ap (λ b. op_eq o p && b) (kept_row-same s r q)
    kept-same s (Leaf r) (Node p q) = refl
    kept-same s (Node o r) (Leaf q) = refl

    kept_row-same : (s : Apart) (r q : Row Ref B) → nameless_row_eq (moved_row keeping s r) (moved_row keeping s q) ≡ nameless_row_eq r q
    kept_row-same s end end = refl
    kept_row-same s (kid None e r) (kid None f q) = let p = kept-same s e f in let t = kept_row-same s r q in λ i. true && p i && t i
    kept_row-same s (kid (Some x) e r) (kid (Some y) f q) = let p = kept-same (lift s) e f in let t = kept_row-same s r q in λ i. true && p i && t i
    kept_row-same s (kid None e r) (kid (Some y) f q) = refl
    kept_row-same s (kid (Some x) e r) (kid None f q) = refl
    kept_row-same s end (kid c f q) = refl
    kept_row-same s (kid b e r) end = refl

  -- ---- contexts

  -- a variable has, renamed in the longer context, its type renamed
  abbrev pub IsLonger : Apart → Context Ref B → Context Ref B → Type 0
  IsLonger s c' c = (i : ℕ) → nth_type c' (s.fun i) ≡ option_map (moved keeping s) (nth_type c i)

  nth-map : (g : Tree Ref B → Tree Ref B) (c : Context Ref B) (i : ℕ) → nth_type (map (λ (y, u). (y, g u)) c) i ≡ option_map g (nth_type c i)
  nth-map g [] i = refl
  nth-map g ((y, t) ∷ c) zero = refl
  nth-map g ((y, t) ∷ c) (suc i) = nth-map g c i

  -- ---- typing

  module _ (types : Builtin → Option (Tree Ref B)) (binder : Name → B) (closed : (f : ℕ → ℕ) (b : Builtin) → option_map (ren f) (types b) ≡ types b) where
    abbrev scopes : Scopes Ref B
    scopes = nameless_scopes types binder

    keeping-up : (s : Apart) (c : Tree Ref B) → ren (λ k. suc k) (moved keeping s c) ≡ moved keeping (lift s) (ren (λ k. suc k) c)
    keeping-up s c = ap (ren (λ k. suc k)) (keeping-ren s c) ∙ up-ren s.fun c ∙ sym (keeping-ren (lift s) (ren (λ k. suc k) c))

    pub scopes-kept : ScopesMove keeping scopes scopes
    scopes-kept = record {
      type_of = λ s b. sym (closed s.fun b) ∙ ap (λ g. option_map g (types b)) (sym (fun_ext (keeping-ren s)));
      binder = λ x. refl;
      up = λ s x e. keeping-up s e;
      down = λ s x e. ap down (keeping-ren (lift s) e) ∙ down-ren s.fun e ∙ ap (λ g. option_map g (down e)) (sym (fun_ext (keeping-ren s)));
      same = kept-same;
    }

    puts-kept : (s : Apart) (x : B) (a b : Tree Ref B) → sub (first (moved keeping s a)) (moved keeping (lift s) b) ≡ moved keeping s (sub (first a) b)
    puts-kept s x a b =
        ap (λ d. sub (first d) (moved keeping (lift s) b)) (keeping-ren s a) ∙ ap (sub (first (ren s.fun a))) (keeping-ren (lift s) b)
        ∙ sym (ren-first s.fun a b) ∙ sym (keeping-ren s (sub (first a) b))

    entering-kept : (s : Apart) (x : B) (t : Tree Ref B) (c' c : Context Ref B) → IsLonger s c' c → IsLonger (lift s) (enter scopes x (moved keeping s t) c') (enter scopes x t c)
    entering-kept s x t c' c g zero = ap Some (keeping-up s t)
    entering-kept s x t c' c g (suc i) =
        nth-map (ren (λ k. suc k)) c' (s.fun i)
        ∙ map-map (moved keeping s) (moved keeping (lift s)) _ _ (ren (λ k. suc k)) (ren (λ k. suc k)) (g i) (keeping-up s)
        ∙ ap (option_map (moved keeping (lift s))) (sym (nth-map (ren (λ k. suc k)) c i))

    looks-kept : (s : Apart) (c' c : Context Ref B) (r : Ref) → IsLonger s c' c → type_in c' (renamed_ref s.fun r) ≡ option_map (moved keeping s) (type_in c r)
    looks-kept s c' c (Bound i) g = g i
    looks-kept s c' c (Free x n) g = refl

    -- one more binder above
    pub longer-by_one : (x : B) (t : Tree Ref B) (c : Context Ref B) → IsLonger one (enter scopes x t c) c
    longer-by_one x t c i = nth-map (ren (λ k. suc k)) c i ∙ ap (λ g. option_map g (nth_type c i)) (sym (fun_ext (keeping-ren one)))

    -- WEAKENING, for every relation of inferences
    module _ (Q : Apart → Inference (Tree Ref B) → Inference (Tree Ref B) → Type 0) (q : Courses keeping (IsMoved keeping) Q) where
      pub weakening : (depth : ℕ) (s : Apart) (c' c : Context Ref B) (e : Tree Ref B) → IsLonger s c' c → Q s (typing scopes depth c' (moved keeping s e)) (typing scopes depth c e)
      weakening depth s c' c e g = typing-moved keeping scopes scopes scopes-kept puts-kept IsLonger Q q entering-kept looks-kept depth s c' c e g

    -- ---- and what typing comes to

    module _ (x a as' : B) (too_deep : Tree Ref B → Bool) where
      abbrev L : Lang (Tree Ref B)
      L = trees (nameless_binders x a as') nameless_eq too_deep

      keeping-cons : (s : Apart) (t : Tree Ref B) → (nameless_binders x a as').cons (moved keeping s t) ≡ moved keeping s ((nameless_binders x a as').cons t)
      keeping-cons s t = let p = keeping-up s t in cc

      keeping-binders : BindersMove keeping (nameless_binders x a as') (nameless_binders x a as')
      keeping-binders = record { put = puts-kept; successor = λ s. refl; cons = keeping-cons }

      stays : (s : Unit {0}) (e : Tree Ref B) → moved staying s e ≡ e
      stays s e = moved-staying e

      staying-binders : BindersMove staying (nameless_binders x a as') (nameless_binders x a as')
      staying-binders =
          let b = nameless_binders x a as' in
          record {
            put = λ s y d c. ap (λ z. sub (first z) (moved staying s c)) (stays s d) ∙ ap (sub (first d)) (stays s c) ∙ sym (stays s (sub (first d) c));
            successor = λ s. sym (stays s b.successor);
            cons = λ s t. ap b.cons (stays s t) ∙ sym (stays s (b.cons t));
          }

      abbrev Rel : Apart × Unit {0} → Tree Ref B → Tree Ref B → Type 0
      Rel c e f = MovedAlike keeping staying c e f

      kept_test : (c : Apart × Unit {0}) (d g e f : Tree Ref B) → Rel c d g → Rel c e f → nameless_eq d e ≡ nameless_eq g f
      kept_test c d g e f p k =
          sym (kept-same c.0 d e) ∙ ap (λ z. nameless_eq z (moved keeping c.0 e)) (p ∙ moved-staying g) ∙ ap (nameless_eq g) (k ∙ moved-staying f)

      kept_alike : Alike false (endless L) (endless L) Rel
      kept_alike =
          trees-alike keeping staying (nameless_binders x a as') (nameless_binders x a as') (nameless_binders x a as') keeping-binders staying-binders
          false nameless_eq nameless_eq (λ e. false) (λ e. false) kept_test (λ c e f p. refl)

      answer-of : (s : Apart) (a b : Answer (Tree Ref B)) → AnswersAlike 0 false false (Rel (s, tt)) a b → b ≡ answer_map (moved keeping s) a
      answer-of s (Found e left) b (f, p, k) = k ∙ ap (Found f) (plus-zero left) ∙ ap (λ z. Found z left) (sym (p ∙ moved-staying f))
      answer-of s (Wide left) b k = k ∙ ap Wide (plus-zero left)
      answer-of s (Deep left) b k = k ∙ ap Deep (plus-zero left)
      answer-of s Over b k = k

      kept_runs : (heights : ℕ) (s : Apart) (units : ℕ) (d e : Tree Ref B) → IsMoved keeping s d e
          → run (endless L) heights Whole units d ≡ answer_map (moved keeping s) (run (endless L) heights Whole units e)
      kept_runs heights s units d e p =
          ap (λ u. run (endless L) heights Whole u d) (sym (plus-zero units))
          ∙ answer-of s _ _ (run-alike 0 false false (λ z. refl) (endless L) (endless L) Rel kept_alike heights heights (reaches-itself false heights) (s, tt) Whole units e d (sym p ∙ sym (moved-staying d)))

      -- WEAKENING: in the longer context the renamed expression comes to the renamed type with the same units left, to the
      -- same path and rule, or to the same limit
      pub weakened : (heights purse depth : ℕ) (s : Apart) (c' c : Context Ref B) (units : ℕ) (e : Tree Ref B) → IsLonger s c' c
          → judged_within L heights purse units (typing scopes depth c' (moved keeping s e)) ≡ judgment_map (moved keeping s) (judged_within L heights purse units (typing scopes depth c e))
      weakened heights purse depth s c' c units e g =
          weakening
          (JudgedAlike keeping (IsMoved keeping) (λ u d. run (endless L) heights Whole u d) (λ u d. run (endless L) heights Whole u d) (kept_runs heights))
          (judged-courses keeping (IsMoved keeping) (λ u d. run (endless L) heights Whole u d) (λ u d. run (endless L) heights Whole u d) (kept_runs heights))
          depth s c' c e g purse units
