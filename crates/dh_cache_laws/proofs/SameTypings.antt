-- Typing of nameless forms commutes with forgetting the names of binders; so expressions of one form without names are typed alike.
use Rattle.std.specs.Prelude.{◌≡◌, ℕ, zero, suc, pred, Bool, true, false, ◌&&◌, ◌||◌, if◌then◌else◌, map, codes, [], ◌∷◌, Option, Some, None, option_map, refl}
use Rattle.std.proofs.Common.{ap, sym, ◌∙◌}
use Rattle.std.proofs.Math.Path.{fun_ext}
use Rattle.dh_syntax.specs.declared.operators.BinOp.TheVariants as bins
use Rattle.dh_syntax.specs.Expressions.Forms as form
use Rattle.dh_syntax.specs.Expressions.SameTree.{op_eq}
use Rattle.dh_syntax.specs.Expressions.Tree.{Tree, Row, Leaf, Node, end, kid, Name, Term}
use Rattle.dh_syntax.specs.Names.Moves.{moved, moved_row}
use Rattle.dh_syntax.specs.Names.Nameless.{Ref, Bound, Free, Core, Bare, core_below, to_core, forgetting, forget, bare, ren, sub, first}
use Rattle.dh_syntax.specs.Normalising.Contraction.{Binders}
use Rattle.dh_syntax.specs.Normalising.Heads.{Lang, Whole, Answer, Found, Wide, Deep, Over, run}
use Rattle.dh_syntax.specs.Normalising.NamelessRuns.{nameless_eq, nameless_row_eq, nameless_binders, cores, bares}
use Rattle.dh_syntax.specs.Normalising.Normal.{endless}
use Rattle.dh_syntax.specs.Typing.BuiltinTypes.{type_of}
use Rattle.dh_syntax.specs.Typing.Inference.{Inference, Judgment, Has, Ill, IsWide, IsDeep, IsOver, IsOverAside, IsShallow, judged_within}
use Rattle.dh_syntax.specs.Typing.NamedTyping.{infer}
use Rattle.dh_syntax.specs.Typing.NamelessTyping.{mentions, mentions_row, down, nth_type, type_in, core_scopes, bare_scopes}
use Rattle.dh_syntax.specs.Typing.Scopes.{Context, enter}
use Rattle.dh_syntax.specs.Typing.Typing.{typing}
use Rattle.dh_syntax.proofs.Moves.{staying, moved-staying}
use Rattle.dh_laws.specs.NamelessAnswers.{answer_map}
use Rattle.dh_laws.proofs.Contracting.Moved.{BindersMove}
use Rattle.dh_laws.proofs.Names.AlphaForms.{same-bare, bare-same}
use Rattle.dh_laws.proofs.Names.Renamings.{forget-ren, forget-sub}
use Rattle.dh_laws.proofs.Normalising.MovedRuns.{MovedAlike, trees-alike}
use Rattle.dh_laws.proofs.Normalising.RunLimits.{reaches-itself}
use Rattle.dh_laws.proofs.Normalising.RunsAlike.{plus, AnswersAlike, Alike, run-alike}
use Rattle.dh_typing_laws.specs.Judgments.{judgment_map}
use Rattle.dh_typing_laws.specs.NamelessTyping.{names_of, core_context}
use Rattle.dh_typing_laws.proofs.Judging.Judgments.{JudgedAlike, judged-courses}
use Rattle.dh_typing_laws.proofs.Ruling.TypedRules.{ScopesMove}
use Rattle.dh_typing_laws.proofs.Ruling.Typings.{Courses}
use Rattle.dh_typing_laws.proofs.Typing.TypingsMoved.{IsMoved, typing-moved}
use Rattle.dh_typing_laws.proofs.Typing.TypingsNamed.{cored-itself, nameless_judged}
use Rattle.dh_cache_laws.specs.SameTyping.{forget_context, BareJudged, IsSameJudgment, SameJudged}

-- ---- what is mentioned

mutual
  mentions-forget : (k : ℕ) (c : Core) → mentions k (forget c) ≡ mentions k c
  mentions-forget k (Leaf r) = refl
  mentions-forget k (Node op r) = mentions_row-forget k r

  mentions_row-forget : (k : ℕ) (r : Row Ref Name) → mentions_row k (moved_row forgetting tt r) ≡ mentions_row k r
  mentions_row-forget k end = refl
  mentions_row-forget k (kid None e r) = let p = mentions-forget k e in let q = mentions_row-forget k r in λ i. p i || q i
  mentions_row-forget k (kid (Some y) e r) = let p = mentions-forget (suc k) e in let q = mentions_row-forget k r in λ i. p i || q i

unless_mentioned : (b' b : Bool) (x' : Bare) (x : Core) → b' ≡ b → x' ≡ forget x
    → (if b' then None else Some x') ≡ option_map forget (if b then None else Some x)
unless_mentioned b' true x' x p k = ap (λ c. if c then None else Some x') p
unless_mentioned b' false x' x p k = ap (λ c. if c then None else Some x') p ∙ ap Some k

down-forget : (c : Core) → down (forget c) ≡ option_map forget (down c)
down-forget c = unless_mentioned _ _ _ _ (mentions-forget 0 c) (sym (forget-ren pred c))

-- ---- sameness

mutual
  same-forget : (c d : Core) → nameless_eq (forget c) (forget d) ≡ nameless_eq c d
  same-forget (Leaf r) (Leaf q) = refl
  same-forget (Node o r) (Node p q) = ap (λ b. op_eq o p && b) (same_row-forget r q)
  same-forget (Leaf r) (Node p q) = refl
  same-forget (Node o r) (Leaf q) = refl

  same_row-forget : (r q : Row Ref Name) → nameless_row_eq (moved_row forgetting tt r) (moved_row forgetting tt q) ≡ nameless_row_eq r q
  same_row-forget end end = refl
  same_row-forget (kid None e r) (kid None f q) = let p = same-forget e f in let t = same_row-forget r q in λ i. true && p i && t i
  same_row-forget (kid (Some x) e r) (kid (Some y) f q) = let p = same-forget e f in let t = same_row-forget r q in λ i. true && p i && t i
  same_row-forget (kid None e r) (kid (Some y) f q) = refl
  same_row-forget (kid (Some x) e r) (kid None f q) = refl
  same_row-forget end (kid c f q) = refl
  same_row-forget (kid b e r) end = refl

-- ---- scopes

types-forget : (o : Option Term) → option_map bare o ≡ option_map forget (option_map to_core o)
types-forget (Some t) = refl
types-forget None = refl

scopes-forget : ScopesMove forgetting core_scopes bare_scopes
scopes-forget = record {
  type_of = λ s b. types-forget (type_of b);
  binder = λ x. refl;
  up = λ s x e. sym (forget-ren (λ k. suc k) e);
  down = λ s x e. down-forget e;
  same = λ s d e. same-forget d e;
}

forget-first_at : (c : Core) (i : ℕ) → forget (first c i) ≡ first (forget c) i
forget-first_at c zero = refl
forget-first_at c (suc i) = refl

puts-forget : (s : Unit {0}) (x : Name) (a b : Core) → sub (first (forget a)) (forget b) ≡ forget (sub (first a) b)
puts-forget s x a b = sym (forget-sub (first a) b ∙ ap (λ t. sub t (forget b)) (fun_ext (forget-first_at a)))

-- ---- contexts

abbrev IsForgotten : Unit {0} → Context Ref (Unit {0}) → Context Ref Name → Type 0
IsForgotten s c' c = c' ≡ forget_context c

forget-map : (c : Context Ref Name) → forget_context (map (λ (y, u). (y, ren (λ k. suc k) u)) c) ≡ map (λ (y, u). (y, ren (λ k. suc k) u)) (forget_context c)
forget-map [] = refl
forget-map ((y, t) ∷ c) = let q = forget-ren (λ k. suc k) t in let r = forget-map c in λ i. (tt, q i) ∷ r i

entering-forget : (s : Unit {0}) (x : Name) (t : Core) (c' : Context Ref (Unit {0})) (c : Context Ref Name) → IsForgotten s c' c
    → IsForgotten tt (enter bare_scopes tt (forget t) c') (enter core_scopes x t c)
entering-forget s x t c' c g = ap (λ z. enter bare_scopes tt (forget t) z) g ∙ sym (forget-map ((x, t) ∷ c))

nth-forget : (c : Context Ref Name) (i : ℕ) → nth_type (forget_context c) i ≡ option_map forget (nth_type c i)
nth-forget [] i = refl
nth-forget ((y, t) ∷ c) zero = refl
nth-forget ((y, t) ∷ c) (suc i) = nth-forget c i

look-forget : (c : Context Ref Name) (r : Ref) → type_in (forget_context c) r ≡ option_map forget (type_in c r)
look-forget c (Bound i) = nth-forget c i
look-forget c (Free x n) = refl

looks-forget : (s : Unit {0}) (c' : Context Ref (Unit {0})) (c : Context Ref Name) (r : Ref) → IsForgotten s c' c → type_in c' r ≡ option_map forget (type_in c r)
looks-forget s c' c r g = ap (λ z. type_in z r) g ∙ look-forget c r

-- ---- typing

module _ (Q : Unit {0} → Inference Bare → Inference Core → Type 0) (q : Courses forgetting (IsMoved forgetting) Q) where
  pub forgotten_typing : (depth : ℕ) (s : Unit {0}) (c' : Context Ref (Unit {0})) (c : Context Ref Name) (e : Core) → IsForgotten s c' c
      → Q s (typing bare_scopes depth c' (forget e)) (typing core_scopes depth c e)
  forgotten_typing depth s c' c e g =
      typing-moved forgetting core_scopes bare_scopes scopes-forget puts-forget IsForgotten Q q entering-forget looks-forget depth s c' c e g

-- ---- runs

-- the language of nameless forms without names
abbrev pub the_bares : Lang Bare
the_bares = bares

abbrev pub core_binders : Binders Ref Name
core_binders = nameless_binders (codes "x") (codes "a") (codes "as")

abbrev pub bare_binders : Binders Ref (Unit {0})
bare_binders = nameless_binders tt tt tt

pub binders-forget : BindersMove forgetting core_binders bare_binders
binders-forget = record {
  put = puts-forget;
  successor = λ s. refl;
  cons = λ s t. ap (λ z. form.lambda tt (forget t) (form.lambda tt (form.list_type z) (form.operator bins.ListAppend (form.list (Leaf (Bound 1) ∷ [])) (Leaf (Bound 0))))) (sym (forget-ren (λ k. suc k) t));
}

stays : {A B : Type 0} (s : Unit {0}) (e : Tree A B) → moved staying s e ≡ e
stays s e = moved-staying e

pub binders-staying : {A B : Type 0} (b : Binders A B) → BindersMove staying b b
binders-staying b = record {
  put = λ s x a c. ap (λ d. b.put x d (moved staying s c)) (stays s a) ∙ ap (b.put x a) (stays s c) ∙ sym (stays s (b.put x a c));
  successor = λ s. sym (stays s b.successor);
  cons = λ s t. ap b.cons (stays s t) ∙ sym (stays s (b.cons t));
}

abbrev pub Rel : Unit {0} × Unit {0} → Core → Bare → Type 0
Rel c e f = MovedAlike forgetting staying c e f

pub bare_tests : (c : Unit {0} × Unit {0}) (d : Core) (g : Bare) (e : Core) (f : Bare) → Rel c d g → Rel c e f → nameless_eq d e ≡ nameless_eq g f
bare_tests c d g e f p k = sym (same-forget d e) ∙ ap (λ z. nameless_eq z (forget e)) (p ∙ moved-staying g) ∙ ap (nameless_eq g) (k ∙ moved-staying f)

bares-alike : Alike false (endless cores) (endless bares) Rel
bares-alike =
    trees-alike forgetting staying core_binders bare_binders bare_binders binders-forget (binders-staying bare_binders) false nameless_eq nameless_eq
    (λ e. false) (λ e. false) bare_tests (λ c e f p. refl)

pub plus-zero : (n : ℕ) → plus n 0 ≡ n
plus-zero zero = refl
plus-zero (suc n) = ap suc (plus-zero n)

pub answer-of : (a : Answer Core) (b : Answer Bare) → AnswersAlike 0 false false (Rel (tt, tt)) a b → b ≡ answer_map forget a
answer-of (Found e left) b (f, p, k) = k ∙ ap (Found f) (plus-zero left) ∙ ap (λ z. Found z left) (sym (p ∙ moved-staying f))
answer-of (Wide left) b k = k ∙ ap Wide (plus-zero left)
answer-of (Deep left) b k = k ∙ ap Deep (plus-zero left)
answer-of Over b k = k

pub bare-runs : (heights : ℕ) (s : Unit {0}) (units : ℕ) (d : Bare) (e : Core) → IsMoved forgetting s d e
    → run (endless bares) heights Whole units d ≡ answer_map forget (run (endless cores) heights Whole units e)
bare-runs heights s units d e p =
    ap (λ u. run (endless bares) heights Whole u d) (sym (plus-zero units))
    ∙ answer-of _ _ (run-alike 0 false false (λ z. refl) (endless cores) (endless bares) Rel bares-alike heights heights (reaches-itself false heights) (tt, tt) Whole units e d (sym p ∙ sym (moved-staying d)))

bare_core_judged : (heights purse depth : ℕ) (c : Context Ref Name) (units : ℕ) (e : Core)
    → judged_within bares heights purse units (typing bare_scopes depth (forget_context c) (forget e))
    ≡ judgment_map forget (judged_within cores heights purse units (typing core_scopes depth c e))
bare_core_judged heights purse depth c units e =
    forgotten_typing
    (JudgedAlike forgetting (IsMoved forgetting) (λ u d. run (endless bares) heights Whole u d) (λ u d. run (endless cores) heights Whole u d) (bare-runs heights))
    (judged-courses forgetting (IsMoved forgetting) (λ u d. run (endless bares) heights Whole u d) (λ u d. run (endless cores) heights Whole u d) (bare-runs heights))
    depth tt (forget_context c) c e refl purse units

map-twice : {S T U : Type 0} (f : T → U) (g : S → T) (j : Judgment S) → judgment_map f (judgment_map g j) ≡ judgment_map (λ x. f (g x)) j
map-twice f g (Has t left) = refl
map-twice f g (Ill path rule) = refl
map-twice f g IsWide = refl
map-twice f g IsDeep = refl
map-twice f g IsOver = refl
map-twice f g IsOverAside = refl
map-twice f g IsShallow = refl

pub bare_judged : BareJudged
bare_judged heights purse depth c units e =
    bare_core_judged heights purse depth (core_context c) units (core_below (names_of c) e)
    ∙ ap (judgment_map forget) (nameless_judged heights purse depth (names_of c) (core_context c) c units e (cored-itself c))
    ∙ map-twice forget (core_below (names_of c)) (infer heights purse depth c units e)

-- ---- expressions of one form without names

has_type : {T : Type 0} (d : T) (j : Judgment T) → T
has_type d (Has t left) = t
has_type d (Ill path rule) = d
has_type d IsWide = d
has_type d IsDeep = d
has_type d IsOver = d
has_type d IsOverAside = d
has_type d IsShallow = d

same-judgment : (a b : Judgment Term) → judgment_map bare a ≡ judgment_map bare b → IsSameJudgment a b
unfolding has_type
same-judgment (Has t left) (Has u rest) h = (u, bare-same t u (ap (has_type (bare t)) h), units h)
  where
    units : Has (bare t) left ≡ Has (bare u) rest → Has u rest ≡ Has u left
    units k = cc
same-judgment (Has t left) (Ill path rule) h = absurd cc
same-judgment (Has t left) IsWide h = absurd cc
same-judgment (Has t left) IsDeep h = absurd cc
same-judgment (Has t left) IsOver h = absurd cc
same-judgment (Has t left) IsOverAside h = absurd cc
same-judgment (Has t left) IsShallow h = absurd cc
same-judgment (Ill path rule) (Ill way other) h = cc
same-judgment (Ill path rule) (Has u rest) h = absurd cc
same-judgment (Ill path rule) IsWide h = absurd cc
same-judgment (Ill path rule) IsDeep h = absurd cc
same-judgment (Ill path rule) IsOver h = absurd cc
same-judgment (Ill path rule) IsOverAside h = absurd cc
same-judgment (Ill path rule) IsShallow h = absurd cc
same-judgment IsWide IsWide h = refl
same-judgment IsWide (Has u rest) h = absurd cc
same-judgment IsWide (Ill path rule) h = absurd cc
same-judgment IsWide IsDeep h = absurd cc
same-judgment IsWide IsOver h = absurd cc
same-judgment IsWide IsOverAside h = absurd cc
same-judgment IsWide IsShallow h = absurd cc
same-judgment IsDeep IsDeep h = refl
same-judgment IsDeep (Has u rest) h = absurd cc
same-judgment IsDeep (Ill path rule) h = absurd cc
same-judgment IsDeep IsWide h = absurd cc
same-judgment IsDeep IsOver h = absurd cc
same-judgment IsDeep IsOverAside h = absurd cc
same-judgment IsDeep IsShallow h = absurd cc
same-judgment IsOver IsOver h = refl
same-judgment IsOver (Has u rest) h = absurd cc
same-judgment IsOver (Ill path rule) h = absurd cc
same-judgment IsOver IsWide h = absurd cc
same-judgment IsOver IsDeep h = absurd cc
same-judgment IsOver IsOverAside h = absurd cc
same-judgment IsOver IsShallow h = absurd cc
same-judgment IsOverAside IsOverAside h = refl
same-judgment IsOverAside (Has u rest) h = absurd cc
same-judgment IsOverAside (Ill path rule) h = absurd cc
same-judgment IsOverAside IsWide h = absurd cc
same-judgment IsOverAside IsDeep h = absurd cc
same-judgment IsOverAside IsOver h = absurd cc
same-judgment IsOverAside IsShallow h = absurd cc
same-judgment IsShallow IsShallow h = refl
same-judgment IsShallow (Has u rest) h = absurd cc
same-judgment IsShallow (Ill path rule) h = absurd cc
same-judgment IsShallow IsWide h = absurd cc
same-judgment IsShallow IsDeep h = absurd cc
same-judgment IsShallow IsOver h = absurd cc
same-judgment IsShallow IsOverAside h = absurd cc

pub same_judged : SameJudged
same_judged heights purse depth units e f s =
    same-judgment _ _
    (sym (bare_judged heights purse depth [] units e)
    ∙ ap (λ z. judged_within bares heights purse units (typing bare_scopes depth [] z)) (same-bare e f s)
    ∙ bare_judged heights purse depth [] units f)
