-- What the machine over expressions accepts is spelled, by the tree that the machine over derivation trees accepts.
use Rattle.std.proofs.Common.{◌≡◌, ℕ, ◌≤◌, List, [], refl, sym, ◌∙◌, ap, subst, arith}
use Rattle.std.specs.Prelude.{Ok}
use Rattle.dh_syntax.specs.declared.tokens.Token.{Token}
use Rattle.dh_syntax.specs.Expressions.Spellable.{IsSpellable}
use Rattle.dh_syntax.specs.Expressions.Tree.{Term}
use Rattle.dh_syntax.specs.Limits.{most_nesting}
use Rattle.dh_syntax.specs.Text.Derivation.{Derivation}
use Rattle.dh_syntax.specs.Text.Lexing.{lex}
use Rattle.dh_syntax.specs.Text.Meaning.{meaning}
use Rattle.dh_syntax.specs.Text.Spelling.{IsText, Spells}
use Rattle.dh_grammar.specs.Inside.Cut.{cut_tree}
use Rattle.dh_grammar.specs.Inside.Forget.{ftree}
use Rattle.dh_grammar.specs.Laws.Derivations.{OutcomeIsRight}
use Rattle.dh_grammar.specs.Machine.{need}
use Rattle.dh_grammar.specs.Reading.{Outcome, accepted, unfinished, refused, nested, outcome_map, reading}
use Rattle.dh_grammar.specs.Stubs.{Kept, stubs}
use Rattle.dh_grammar.specs.Trees.{trees}
use Rattle.dh_grammar.proofs.Grammar.Outcomes.{answers}
use Rattle.dh_grammar.proofs.Lexed.LexedTokens.{means_spellable}
use Rattle.dh_grammar.proofs.Maps.Cutting.{Cut, few, many, is_cut, cuts}
use Rattle.dh_grammar.proofs.Maps.Forgetting.{forgets}
use Rattle.dh_grammar.proofs.Maps.Readings.{carry_reading}

pub stub_reading : (ts : List Token) → reading stubs (need []) ts ≡ outcome_map cut_tree (outcome_map ftree (reading trees (need []) ts))
stub_reading ts = carry_reading cuts ts (need []) ∙ ap (outcome_map cut_tree) (carry_reading forgets ts (need []))

-- the tree, and the spelling by it
pub record Spelled (bytes : List ℕ) (ts : List Token) (e : Term) : Type 0 where
  pub tree : Derivation
  pub read : reading trees (need []) ts ≡ accepted tree
  pub spells : Spells bytes e
  pub tokens_are : spells.tokens ≡ ts
  pub tree_is : spells.tree ≡ tree

kept_is : (a b : Kept) → ◌≡◌ {A = Outcome Kept} (accepted a) (accepted b) → a ≡ b
kept_is a b h = cc

spelled_part : (bytes : List ℕ) (ts : List Token) (d : Derivation) (x : Kept) → IsText bytes → lex bytes ≡ Ok ts → x.part.nests ≤ most_nesting → reading trees (need []) ts ≡ accepted d → OutcomeIsRight ts (accepted d) → cut_tree (ftree d) ≡ x
    → Cut (meaning d) → Spelled bytes ts x.part.expression
spelled_part bytes ts d x i e n o h s (few k c) =
    let means : meaning d ≡ x.part.expression = sym (ap (λ p. p.expression) c) ∙ ap (λ y. y.part.expression) s in
    record {
      tree = d;
      read = o;
      spells = record { is_text = i; tokens = ts; lexed = e; tree = d; derives = h.0; few_open = h.1; means = means; spellable = subst (λ e. IsSpellable e) means (means_spellable bytes ts e d h.0 k) };
      tokens_are = refl;
      tree_is = refl;
    }
spelled_part bytes ts d x i e n o h s (many k c) = absurd (let m = ap (λ p. p.nests) c in let l = ap (λ y. y.part.nests) s in omega arith)

spelled_by : (bytes : List ℕ) (ts : List Token) (x : Kept) (o : Outcome Derivation) → IsText bytes → lex bytes ≡ Ok ts → x.part.nests ≤ most_nesting → reading trees (need []) ts ≡ o → OutcomeIsRight ts o
    → outcome_map cut_tree (outcome_map ftree o) ≡ accepted x → Spelled bytes ts x.part.expression
spelled_by bytes ts x (accepted d) i e n o h q = spelled_part bytes ts d x i e n o h (kept_is (cut_tree (ftree d)) x q) (is_cut (meaning d))
spelled_by bytes ts x unfinished i e n o h q = absurd cc
spelled_by bytes ts x (refused k) i e n o h q = absurd cc
spelled_by bytes ts x nested i e n o h q = absurd cc

pub spelled : (bytes : List ℕ) (ts : List Token) (x : Kept) → IsText bytes → lex bytes ≡ Ok ts → x.part.nests ≤ most_nesting → reading stubs (need []) ts ≡ accepted x → Spelled bytes ts x.part.expression
spelled bytes ts x i e n q = spelled_by bytes ts x (reading trees (need []) ts) i e n refl (answers ts) (sym (stub_reading ts) ∙ q)

-- ---- what follows the tree

follows_by : {A : Type 0} (g : Derivation → A) (o : Outcome Derivation) (x : Kept) → outcome_map cut_tree (outcome_map ftree o) ≡ accepted x → (p : A) × (outcome_map g o ≡ accepted p)
follows_by g (accepted d) x q = (g d, refl)
follows_by g unfinished x q = absurd cc
follows_by g (refused k) x q = absurd cc
follows_by g nested x q = absurd cc

pub follows : {A : Type 0} (g : Derivation → A) (ts : List Token) (x : Kept) → reading stubs (need []) ts ≡ accepted x → (p : A) × (outcome_map g (reading trees (need []) ts) ≡ accepted p)
follows g ts x q = follows_by g (reading trees (need []) ts) x (sym (stub_reading ts) ∙ q)
