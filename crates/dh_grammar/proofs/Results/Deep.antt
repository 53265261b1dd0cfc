-- Where a stub stands.
use Rattle.std.proofs.Common.{◌≡◌, suc, ◌≤◌, ◌<◌, List, [], ◌∷◌, ◌++◌, sym, ◌∙◌, ap, subst, arith}
use Rattle.std.specs.Prelude.{Option}
use Rattle.dh_syntax.specs.declared.tokens.Token.{Token}
use Rattle.dh_syntax.specs.Text.Meaning.{meaning}
use Rattle.dh_syntax.specs.Expressions.Nesting.{nesting}
use Rattle.dh_syntax.specs.Limits.{most_nesting}
use Rattle.dh_syntax.specs.Text.Spelling.{NestsTooDeep}
use Rattle.dh_syntax.specs.Expressions.Tree.{Name, Term}
use Rattle.dh_grammar.specs.Laws.Depths.{DeepExactly, StubsSpread}
use Rattle.dh_grammar.specs.Inside.Forget.{ftree}
use Rattle.dh_grammar.specs.Reading.{Outcome, accepted, unfinished, refused, nested, outcome_map, reading}
use Rattle.dh_grammar.specs.Laws.Derivations.{OutcomeIsRight}
use Rattle.dh_grammar.specs.Machine.{need}
use Rattle.dh_grammar.specs.Stubs.{Part, Parts, Kept, deepest}
use Rattle.dh_grammar.specs.Inside.Cut.{cut, cut_tree}
use Rattle.dh_grammar.proofs.Maps.Cutting.{Cut, few, many, is_cut, kept_many}
use Rattle.dh_grammar.proofs.Results.OneOutcome.{one_outcome}
use Rattle.dh_grammar.proofs.Grammar.Outcomes.{answers}
use Rattle.dh_grammar.specs.Trees.{trees}
use Rattle.dh_syntax.specs.Text.Derivation.{Derivation}
use Rattle.dh_grammar.proofs.Results.Spelled.{stub_reading}

deepest_low : (before after : Parts) (b : Option Name) (p : Part) → suc p.nests ≤ deepest (before ++ (b, p) ∷ after)
deepest_low [] after b p = omega arith
deepest_low (q ∷ before) after b p = let h = deepest_low before after b p in omega arith

pub stubs_spread : StubsSpread
stubs_spread op before after b p h = let d = deepest_low before after b p in kept_many _ (deepest (before ++ (b, p) ∷ after)) (omega arith)

stub_nests : (e : Term) → most_nesting < nesting e → Cut e → most_nesting < (cut e).nests
stub_nests e h (few k c) = absurd (omega arith)
stub_nests e h (many k c) = let n = ap (λ p. p.nests) c in omega arith

nests_deep : (e : Term) → most_nesting < (cut e).nests → Cut e → most_nesting < nesting e
nests_deep e h (few k c) = absurd (let n = ap (λ p. p.nests) c in omega arith)
nests_deep e h (many k c) = k

accepted_is : (a b : Kept) → ◌≡◌ {A = Outcome Kept} (accepted a) (accepted b) → a ≡ b
accepted_is a b h = cc

deep_by : (ts : List Token) (x : Kept) (v : Outcome Derivation) → OutcomeIsRight ts v → outcome_map cut_tree (outcome_map ftree v) ≡ accepted x → most_nesting < x.part.nests → NestsTooDeep ts
deep_by ts x (accepted d) h q n =
    let s : cut_tree (ftree d) ≡ x = accepted_is (cut_tree (ftree d)) x q in
    record { tree = d; derives = h.0; few_open = h.1; deep = nests_deep (meaning d) (subst (λ y. most_nesting < y.part.nests) (sym s) n) (is_cut (meaning d)) }
deep_by ts x unfinished h q n = absurd cc
deep_by ts x (refused k) h q n = absurd cc
deep_by ts x nested h q n = absurd cc

pub deep_exactly : DeepExactly
deep_exactly ts = (
  λ h. (cut_tree (ftree h.tree), stub_reading ts ∙ ap (λ v. outcome_map cut_tree (outcome_map ftree v)) (one_outcome ts (accepted h.tree) tt (h.derives, h.few_open)), stub_nests (meaning h.tree) h.deep (is_cut (meaning h.tree))),
  λ h. deep_by ts h.0 (reading trees (need []) ts) (answers ts) (sym (stub_reading ts) ∙ h.1) h.2,
)
