-- What is read and what is refused: whole texts with their answer, and the limits.
use Rattle.std.specs.Prelude.{◌≡◌, ℕ, zero, suc, Bool, true, false, not, ◌||◌, List, [], ◌∷◌, ◌++◌, Ok, Err, IsTrue, codes, refl}
use Rattle.std.proofs.Common.{sym, subst, inl, inr, true≢false}
use Rattle.std.proofs.lemmas.Bool.{leb-true}
use Rattle.dh_syntax.specs.declared.faults.ParseFault.TheVariants as faults
use Rattle.dh_syntax.specs.declared.operators.BinOp.TheVariants as binary
use Rattle.dh_syntax.specs.declared.tokens.Token.{Token}
use Rattle.dh_syntax.specs.declared.tokens.TokenKind.{TokenKind}
use Rattle.dh_syntax.specs.declared.tokens.TokenKind.TheVariants as kinds
use Rattle.dh_syntax.specs.Text.Derivation.{NameToken, plain, quoted, ImportType, path, url, environment, missing, Derivation, lambda, pi, arrow, choice, lets, updates, merge_as, to_map_as, empty_list, assertion, annotation, operation, application, merging, some_of, to_map, import, field, project_none, project, project_by, natural, integer, truth, builtin, variable, text, brackets, list, union_none, union, record_type_none, record_type, record_none, record_of, Lets, one_let, more_lets, Updates, one_update, more_updates}
use Rattle.dh_examples.specs.Text.GrammarExamples.{nat, bin}
use Rattle.dh_syntax.specs.Text.Lexing.{lex}
use Rattle.dh_syntax.specs.Text.Meaning.{meaning}
use Rattle.dh_syntax.specs.Expressions.Nesting.{nesting}
use Rattle.dh_syntax.specs.Text.Spelling.{AreTokens, IsPrefixOfDerived, OpensTooMany, NestsTooDeep, ParsesTo, opens_too_many}
use Rattle.dh_syntax.specs.Text.Yield.{Written, name_kind, import_type_kind, yield, lets_yield, updates_yield, text_yield}
use lib.Utf8.{encode}

sum_parsed : ParsesTo (codes "1 + 2") (Ok (bin binary.Plus (nat 1) (nat 2)))
unfolding lex encode
sum_parsed = record {
  is_text = (leb-true _ _ refl, (codes "1 + 2", (refl, refl)));
  tokens = _;
  lexed = refl;
  tree = operation binary.Plus (natural 1) (natural 2);
  derives = record { derived = refl; written = ((refl, refl), ((refl, refl), ((refl, refl), ((refl, refl), tt)))) };
  few_open = refl;
  means = refl;
  spellable = ((refl, ((refl, tt), ((refl, tt), tt))), leb-true _ _ refl, refl);
}

left_out : ParsesTo (codes "1.5") (Err (faults.Out 0))
unfolding lex encode
left_out = ((leb-true _ _ refl, (codes "1.5", (refl, refl))), refl)

wide_index : ParsesTo (codes "x@2147483648") (Err (faults.Wide 2))
unfolding lex encode
wide_index = ((leb-true _ _ refl, (codes "x@2147483648", (refl, refl))), refl)

not_closed : ParsesTo (codes "\"a") (Err (faults.Syntax 0))
unfolding lex encode
not_closed = ((leb-true _ _ refl, (codes "\"a", (refl, refl))), inl refl)

-- ---- the limits

-- so many brackets round 1
abbrev bracketed : ℕ → Derivation
bracketed zero = natural 1
bracketed (suc n) = brackets (bracketed n)

brackets_within : opens_too_many (text_yield (bracketed 499)) ≡ false
brackets_within = refl

brackets_too_many : opens_too_many (text_yield (bracketed 500)) ≡ true
brackets_too_many = refl

-- so many sums, each the left part of the next
abbrev summed : ℕ → Derivation
summed zero = natural 1
summed (suc n) = operation binary.Plus (summed n) (natural 1)

-- tokens that a tree has
abbrev tokens_by : List Written → List Token
tokens_by [] = []
tokens_by (w ∷ ws) = record { kind = w.kind; from = 0; to = 0; gap = true } ∷ tokens_by ws

gap_enough : (g : Bool) → IsTrue (not g || true)
gap_enough true = refl
gap_enough false = refl

are_tokens : (ws : List Written) → AreTokens ws (tokens_by ws)
are_tokens [] = tt
are_tokens (w ∷ ws) = ((refl, gap_enough w.gap), are_tokens ws)

sums_nest_too_deep : NestsTooDeep (tokens_by (text_yield (summed 501)))
sums_nest_too_deep = record {
  tree = summed 501;
  derives = record { derived = refl; written = are_tokens (text_yield (summed 501)) };
  few_open = refl;
  deep = leb-true _ _ refl;
}

sums_nest : nesting (meaning (summed 500)) ≡ 500
sums_nest = refl

-- ---- a text without tokens

-- whether a token is not the end
abbrev not_end : TokenKind → Bool
not_end kinds.End = false
not_end _ = true

-- the first of these tokens is not the end
abbrev Begins : List Written → Type 0
Begins [] = ⊥
Begins (w ∷ ws) = IsTrue (not_end w.kind)

begins-append : (xs ys : List Written) → Begins xs → Begins (xs ++ ys)
begins-append [] ys h = absurd h
begins-append (x ∷ xs) ys h = h

name_begins : (w : NameToken) → IsTrue (not_end (name_kind w))
name_begins (plain x) = refl
name_begins (quoted x) = refl

import_begins : (i : ImportType) → IsTrue (not_end (import_type_kind i))
import_begins (path l) = refl
import_begins (url l) = refl
import_begins (environment x) = refl
import_begins missing = refl

mutual
  yield_begins : (d : Derivation) (n : ℕ) (g : Bool) → Begins (yield n g d)
  yield_begins (lambda w a b) n g = refl
  yield_begins (pi w a b) n g = refl
  yield_begins (arrow a b) n g = begins-append _ _ (yield_begins a n g)
  yield_begins (choice p t e) n g = refl
  yield_begins (lets ls b) n g = begins-append _ _ (lets_begins ls n g)
  yield_begins (updates us) n g = updates_begins us n g
  yield_begins (merge_as t u a) n g = refl
  yield_begins (to_map_as t a) n g = refl
  yield_begins (empty_list c a) n g = refl
  yield_begins (assertion a) n g = refl
  yield_begins (annotation t a) n g = begins-append _ _ (yield_begins t n g)
  yield_begins (operation o l r) n g = begins-append _ _ (yield_begins l n g)
  yield_begins (application f x) n g = begins-append _ _ (yield_begins f n g)
  yield_begins (merging t u) n g = refl
  yield_begins (some_of t) n g = refl
  yield_begins (to_map t) n g = refl
  yield_begins (import i d m) n g = import_begins i
  yield_begins (field t k) n g = begins-append _ _ (yield_begins t n g)
  yield_begins (project_none t c) n g = begins-append _ _ (begins-append _ _ (yield_begins t n g))
  yield_begins (project t c ks d) n g = begins-append _ _ (begins-append _ _ (begins-append _ _ (begins-append _ _ (yield_begins t n g))))
  yield_begins (project_by t a) n g = begins-append _ _ (begins-append _ _ (yield_begins t n g))
  yield_begins (natural i) n g = refl
  yield_begins (integer z) n g = refl
  yield_begins (truth b) n g = refl
  yield_begins (builtin b) n g = refl
  yield_begins (variable w i) n g = name_begins w
  yield_begins (text f cs) n g = refl
  yield_begins (brackets e) n g = refl
  yield_begins (list c is d) n g = refl
  yield_begins (union_none c) n g = refl
  yield_begins (union c as' d) n g = refl
  yield_begins (record_type_none c) n g = refl
  yield_begins (record_type c fs d) n g = refl
  yield_begins (record_none c d) n g = refl
  yield_begins (record_of c es d) n g = refl

  lets_begins : (ls : Lets) (n : ℕ) (g : Bool) → Begins (lets_yield n g ls)
  lets_begins (one_let w a v) n g = refl
  lets_begins (more_lets ls w a v) n g = begins-append _ _ (begins-append _ _ (lets_begins ls n g))

  updates_begins : (us : Updates) (n : ℕ) (g : Bool) → Begins (updates_yield n g us)
  updates_begins (one_update t ks v) n g = begins-append _ _ (begins-append _ _ (yield_begins t n g))
  updates_begins (more_updates us ks v) n g = begins-append _ _ (begins-append _ _ (updates_begins us n g))

-- tokens of a tree do not begin with the end
first_kind : (ws : List Written) (t : Token) (ts : List Token) → Begins ws → AreTokens ws (t ∷ ts) → IsTrue (not_end t.kind)
first_kind [] t ts h a = absurd h
first_kind (w ∷ ws) t ts h a = subst (λ k. IsTrue (not_end k)) (sym a.0.0) h

no_end_first : (t : Token) → t.kind ≡ kinds.End → ¬ IsPrefixOfDerived (t ∷ [])
no_end_first t e p =
    let seen : IsTrue (not_end t.kind) = first_kind (text_yield p.tree) t p.more (begins-append _ _ (yield_begins p.tree 1 false)) p.derives.written in
    true≢false (sym (subst (λ k. IsTrue (not_end k)) e seen))

nothing_opens : ¬ OpensTooMany []
nothing_opens p = true≢false (sym p.many_open)

nothing_derived : IsPrefixOfDerived []
nothing_derived = record {
  more = tokens_by (text_yield (natural 1));
  tree = natural 1;
  derives = record { derived = refl; written = are_tokens (text_yield (natural 1)) };
}

empty : ParsesTo [] (Err (faults.Syntax 0))
unfolding lex
empty = (
  (leb-true _ _ refl, ([], (refl, refl))),
  inr (
    _,
    refl,
    record {
      before = [];
      token = _;
      after = [];
      split = refl;
      at = refl;
      goes_on = nothing_derived;
      stops = no_end_first _ refl;
      few_open = nothing_opens;
    },
  ),
)
