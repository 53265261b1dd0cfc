-- What reading a printed text answers.
use Rattle.std.proofs.Common.{◌≡◌, ℕ, suc, ◌<◌, ◌≤◌, Bool, true, false, if◌then◌else◌, nat_lt, inl, List, [], ◌∷◌, length, take, Ok, Err, Result, append-nil, refl, sym, ap, subst, ◌∙◌, arith}
use Rattle.std.proofs.lemmas.Bool.{ltb-true, lt-ltb, both_ways}
use Rattle.std.proofs.lemmas.Bool.Decides.{nat_tests}
use Rattle.std.proofs.Math.Seq.{take-length}
use Rattle.std.specs.Prelude.{nat_le}
use Rattle.std.specs.List.{list_any}
use Rattle.dh_syntax.specs.declared.faults.ParseFault.TheVariants as faults
use Rattle.dh_syntax.specs.declared.tokens.Token.{Token}
use Rattle.dh_syntax.specs.declared.tokens.TokenKind.TheVariants as kinds
use Rattle.dh_syntax.specs.Text.Derivation.{Derivation}
use Rattle.dh_syntax.specs.Text.Lexing.{Outside, Start, lex, LexFault}
use Rattle.dh_syntax.specs.Text.Meaning.{meaning}
use Rattle.dh_syntax.specs.Expressions.Nesting.{nesting}
use Rattle.dh_syntax.specs.Text.Printed.{text_of}
use Rattle.dh_syntax.specs.Expressions.Spellable.{IsSpellable}
use Rattle.dh_syntax.specs.Text.Spelling.{AreTokens, Derives, Spells, StopsNested, ParsesTo, opens_too_many}
use Rattle.dh_syntax.specs.Expressions.Tree.{Term}
use Rattle.dh_syntax.specs.Text.Yield.{Written, token, free, text_yield}
use Rattle.dh_syntax.specs.Limits.{most_bytes, most_open}
use Rattle.dh_layout.specs.Answers.{answer}
use Rattle.dh_layout.specs.Opened.{opened}
use Rattle.dh_layout.proofs.Opening.Opens.{opens}
use Rattle.dh_layout.proofs.Trees.Trees.{tree_of}
use Rattle.dh_layout.proofs.Texts.Values.{HasValues}
use Rattle.dh_layout.proofs.Reading.Walks.{Lexes}
use Rattle.dh_layout.proofs.Opening.Depths.{too_many, text_over}
use Rattle.dh_layout.proofs.Opening.Nestings.{opens_nesting}
use Rattle.dh_layout.proofs.Opening.Openings.{opened_is}
use Rattle.dh_layout.proofs.Trees.Printing.{good_of}
use Rattle.dh_layout.proofs.Texts.Utf8.{text_utf8}
use Rattle.dh_layout.proofs.Reading.Walk.{finish}

-- a printed text is read as the tokens of the expression's tree, which means the expression
record Read (e : Term) : Type 0 where
  tokens : List Token
  lexed : lex (text_of e) ≡ Ok tokens
  derives : Derives tokens (tree_of e)
  means : meaning (tree_of e) ≡ e

read : (e : Term) → IsSpellable e → HasValues e → Read e
unfolding lex
read e s v =
    let g = good_of e s.0 s.2 v in
    let all : Lexes Outside false (text_of e) (text_yield (tree_of e)) = subst (λ t. Lexes Outside false t (text_yield (tree_of e))) (append-nil (text_of e)) (g.reads 1 false Outside [] (token 0 free kinds.End ∷ []) tt refl (finish 0)) in
    let goal = all.lexes Start true tt refl 0 in
    record { tokens = goal.0; lexed = goal.1; derives = record { derived = g.is_derived; written = goal.2 }; means = g.means }

-- a printed text opens too many expressions exactly where more than 499 are opened below its own
counted : (e : Term) → IsSpellable e → HasValues e → opens_too_many (text_yield (tree_of e)) ≡ nat_lt 499 (opened e)
counted e s v = too_many (tree_of e) ∙ ap (nat_lt 499) (sym (opened_is e s.0 s.2 v))

-- no more are opened than the expression nests
pub opened_nesting : (e : Term) → IsSpellable e → HasValues e → opened e ≤ nesting e
opened_nesting e s v = let a = opened_is e s.0 s.2 v in let b = opens_nesting e in omega (arith, a, b)

-- the printed text of an expression that can be spelled never opens more than 501
pub at_most_501 : (e : Term) → IsSpellable e → HasValues e → list_any (λ (w : Written). nat_lt 501 w.depth) (text_yield (tree_of e)) ≡ false
at_most_501 e s v =
    let n = s.1 in
    let k = opens_nesting e in
    text_over 501 (tree_of e) ∙ within (opens (tree_of e)) (omega (arith, n, k))
  where
    within : (k : ℕ) → k ≤ 500 → nat_lt 501 (suc k) ≡ false
    within k h = grind (arith, nat_tests)

-- ---- where a printed text is read

-- a printed text that is no more than 1 MiB and opens few enough spells its expression
pub printed_spells : (e : Term) → IsSpellable e → HasValues e → length (text_of e) ≤ most_bytes → opened e ≤ 499 → Spells (text_of e) e
printed_spells e s v size few =
    let r = read e s v in
    record {
      is_text = (size, text_utf8 e s.2 v);
      tokens = r.tokens;
      lexed = r.lexed;
      tree = tree_of e;
      derives = r.derives;
      few_open = counted e s v ∙ at_most (opened e) few;
      means = r.means;
      spellable = s;
    }
  where
    at_most : (k : ℕ) → k ≤ 499 → nat_lt 499 k ≡ false
    at_most k h = grind (arith, nat_tests)

-- and where it nests at most 499, it opens few enough
pub shallow_spells : (e : Term) → IsSpellable e → HasValues e → length (text_of e) ≤ most_bytes → nesting e ≤ 499 → Spells (text_of e) e
shallow_spells e s v size shallow = printed_spells e s v size (let k = opened_nesting e s v in omega (arith, k, shallow))

-- ---- where it is refused

same_length : (ws : List Written) (ts : List Token) → AreTokens ws ts → length ts ≡ length ws
same_length [] [] h = refl
same_length [] (t ∷ ts) h = absurd h
same_length (w ∷ ws) [] h = absurd h
same_length (w ∷ ws) (t ∷ ts) h = ap suc (same_length ws ts h.1)

stops : (e : Term) (r : Read e) → opens_too_many (text_yield (tree_of e)) ≡ true → StopsNested r.tokens
stops e r over =
    let ws = text_yield (tree_of e) in
    let whole : take (length r.tokens) ws ≡ ws = ap (λ k. take k ws) (same_length ws r.tokens r.derives.written) ∙ take-length ws in
    record {
      before = r.tokens;
      after = [];
      split = sym (append-nil r.tokens);
      many_open = record {
        more = [];
        tree = tree_of e;
        derives = subst (λ ts. Derives ts (tree_of e)) (sym (append-nil r.tokens)) r.derives;
        many_open = ap opens_too_many whole ∙ over;
      };
    }

-- the tests on both sides of the limit
limit : (k : ℕ) → nat_lt 499 k ≡ nat_le most_open k
limit k = grind (arith, nat_tests)

-- what reading the printed text of any expression that can be spelled answers
pub printed_parses : (e : Term) → IsSpellable e → HasValues e → ParsesTo (text_of e) (answer e)
printed_parses e s v = by (nat_lt most_bytes (length (text_of e))) (nat_le most_open (opened e)) refl (limit (opened e))
  where
    short : (k : ℕ) → nat_lt most_bytes k ≡ false → k ≤ most_bytes
    short k h = grind (arith, nat_tests)

    few : (k : ℕ) → nat_lt 499 k ≡ false → k ≤ 499
    few k h = grind (arith, nat_tests)

    by : (large deep : Bool) → nat_lt most_bytes (length (text_of e)) ≡ large → nat_lt 499 (opened e) ≡ deep
        → ParsesTo (text_of e) (if large then Err faults.TooLarge else if deep then Err faults.TooNested else Ok e)
    by true deep l d = ltb-true most_bytes (length (text_of e)) l
    by false true l d =
        let r = read e s v in
        ((short (length (text_of e)) l, text_utf8 e s.2 v), r.tokens, r.lexed, inl (stops e r (counted e s v ∙ d)))
    by false false l d = printed_spells e s v (short (length (text_of e)) l) (few (opened e) d)

-- ---- where one list of tokens has one tree

abbrev Unique : Type 0
Unique = (ts : List Token) (d e : Derivation) → Derives ts d → Derives ts e → d ≡ e

abbrev LexedAs : List Token → Result (List Token) LexFault
LexedAs ts = Ok ts

same_tokens : (a b : List Token) → LexedAs a ≡ LexedAs b → a ≡ b
same_tokens a b e = cc

its_tree : Unique → (e f : Term) → IsSpellable e → HasValues e → (t : Spells (text_of e) f) → tree_of e ≡ t.tree
its_tree unique e f s v t =
    let r = read e s v in
    unique t.tokens (tree_of e) t.tree (subst (λ ts. Derives ts (tree_of e)) (same_tokens r.tokens t.tokens (sym r.lexed ∙ t.lexed)) r.derives) t.derives

-- a printed text spells no other expression, however deep it is
pub printed_again : Unique → (e f : Term) → IsSpellable e → HasValues e → Spells (text_of e) f → f ≡ e
printed_again unique e f s v t = sym t.means ∙ ap meaning (sym (its_tree unique e f s v t)) ∙ (read e s v).means

-- one that opens too many spells none
pub printed_refused : Unique → (e f : Term) → IsSpellable e → HasValues e → 499 < opened e → Spells (text_of e) f → ⊥
printed_refused unique e f s v many t =
    let over : opens_too_many (text_yield (tree_of e)) ≡ true = counted e s v ∙ lt-ltb 499 (opened e) many in
    let few : opens_too_many (text_yield (tree_of e)) ≡ false = ap (λ d. opens_too_many (text_yield d)) (its_tree unique e f s v t) ∙ t.few_open in
    both_ways (opens_too_many (text_yield (tree_of e))) few over
