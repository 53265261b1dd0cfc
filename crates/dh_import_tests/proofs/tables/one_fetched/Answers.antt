use Rattle.std.proofs.Common.{◌≡◌, ap, sym, ◌∙◌, refl, [], ◌∷◌, Ok, Some, subst as along}
use Rattle.std.specs.Prelude.{ℕ, List, codes}
use Rattle.std.proofs.lemmas.Bool.{leb-true}
use Rattle.dh_syntax.specs.declared.expressions.Op.TheVariants as ops
use Rattle.dh_syntax.specs.declared.locations.Key.{Key}
use Rattle.dh_syntax.specs.Expressions.Tree.{Node, end, Term}
use Rattle.dh_imports.specs.Walk.{keys_of}
use Rattle.dh_syntax.specs.Text.Derivation.{natural}
use Rattle.dh_syntax.specs.Text.Lexing.{lex}
use Rattle.dh_syntax.specs.Text.Spelling.{ParsesTo, Spells}
use lib.Utf8.{encode}
use Rattle.dh_import_tests.proofs.tables.one_fetched.Goals as goal

abbrev literal : Term
literal = Node (ops.Nat 1) end

literal_parsed : ParsesTo (codes "1") (Ok literal)
unfolding lex encode
literal_parsed = record {
  is_text = (leb-true _ _ refl, (codes "1", (refl, refl)));
  tokens = _;
  lexed = refl;
  tree = natural 1;
  derives = record { derived = refl; written = ((refl, refl), ((refl, refl), tt)) };
  few_open = refl;
  means = refl;
  spellable = ((refl, tt), leb-true _ _ refl, refl);
}

pub returns : goal.returns
returns c = (
  refl,
  (
    along (λ (t : Term). Spells c.of-bytes.result t) (sym c.one.ensures) (along (λ (b : List ℕ). Spells b literal) (sym (c.of-bytes.ensures ∙ c.in_ok-from_slice.ensures.items)) literal_parsed),
    c.new.ensures ∙ ap (keys_of (Some c.in_ok-loc.loc)) (sym c.one.ensures),
  ),
)
