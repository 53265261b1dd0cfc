-- One expression is spelled by a text, or none.
use Rattle.std.proofs.Common.{◌≡◌, ℕ, List, Bool, true, false, true≢false, Result, Ok, Err, ap}
use Rattle.dh_grammar.proofs.Results.Answering.{parses_once}
use Rattle.dh_syntax.specs.declared.faults.ParseFault.{ParseFault}
use Rattle.dh_syntax.specs.Expressions.Tree.{Term}
use Rattle.dh_syntax.specs.Text.Spelling.{ParsesTo}

abbrev term_of : Result Term ParseFault → Term → Term
term_of (Ok e) d = e
term_of (Err f) d = d

pub same_term : (text : List ℕ) (e f : Term) → ParsesTo text (Ok e) → ParsesTo text (Ok f) → e ≡ f
same_term text e f p q = ap (λ r. term_of r e) (parses_once text (Ok e) (Ok f) p q)

abbrev is_spelled : Result Term ParseFault → Bool
is_spelled (Ok e) = true
is_spelled (Err f) = false

pub not_both : (text : List ℕ) (e : Term) (f : ParseFault) → ParsesTo text (Ok e) → ParsesTo text (Err f) → ⊥
not_both text e f p q = true≢false (ap is_spelled (parses_once text (Ok e) (Err f) p q))
