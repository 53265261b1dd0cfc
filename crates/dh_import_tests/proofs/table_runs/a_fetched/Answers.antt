use Rattle.std.proofs.Common.{ap, sym, ◌∙◌, refl, [], ◌∷◌, Ok, Some, None, subst as along}
use Rattle.std.specs.Prelude.{ℕ, List, ◌++◌, codes}
use Rattle.std.proofs.lemmas.Bool.{leb-true}
use Rattle.dh_syntax.specs.declared.expressions.Op.TheVariants as ops
use Rattle.dh_syntax.specs.declared.locations.Key.{Key}
use Rattle.dh_syntax.specs.declared.locations.Loc.{Loc}
use Rattle.dh_syntax.specs.declared.locations.Loc.TheVariants as locs
use Rattle.dh_syntax.specs.declared.locations.Mode.TheVariants as modes
use Rattle.dh_syntax.specs.Expressions.Tree.{Node, end, Term}
use Rattle.dh_imports.specs.Walk.{keys_of}
use Rattle.dh_syntax.specs.Text.Derivation.{import, path}
use Rattle.dh_syntax.specs.Text.Lexing.{lex}
use Rattle.dh_syntax.specs.Text.Spelling.{ParsesTo, Spells}
use lib.Utf8.{encode}
use Rattle.dh_record.specs.declared.news.Noted.{Noted}
use Rattle.dh_record.specs.declared.news.Parsed.TheVariants as parseds
use Rattle.dh_record.specs.Brought.{IsScanned, IsTold}
use Rattle.dh_import_tests.proofs.table_runs.a_fetched.Goals as goal

abbrev link : Term
link = Node (ops.Import (record { loc = locs.Here (codes "a" ∷ []); mode = modes.Code; digest = None })) end

link_parsed : ParsesTo (codes "./a") (Ok link)
unfolding lex encode
link_parsed = record {
  is_text = (leb-true _ _ refl, (codes "./a", (refl, refl)));
  tokens = _;
  lexed = refl;
  tree = import (path (locs.Here (codes "a" ∷ []))) None modes.Code;
  derives = record { derived = refl; written = ((refl, refl), ((refl, refl), tt)) };
  few_open = refl;
  means = refl;
  spellable = ((refl, tt), leb-true _ _ refl, refl);
}

pub returns : goal.returns
returns c =
    along (λ (n : Noted). IsTold None n × IsScanned c.in_ok-loc.loc n (Some (parseds.Good c.in_ok-expr.expr c.push.new.self))) (sym c.in_ok-got.ensures) (
      refl,
      (
        along (λ (t : Term). ParsesTo (codes "./a") (Ok t)) (sym c.in_ok-expr.ensures) link_parsed,
        c.in_ok-push.ensures.ok ∙ ap (λ (ks : List Key). ks ++ c.in_ok-key.field-0 ∷ []) c.new-keys.ensures ∙ ap (λ (k : Key). k ∷ []) c.in_ok-key.ensures
            ∙ sym (ap (keys_of (Some c.in_ok-loc.loc)) c.in_ok-expr.ensures ∙ ap (λ (l : Loc). keys_of (Some l) link) c.in_ok-loc.ensures),
      ),
    )
