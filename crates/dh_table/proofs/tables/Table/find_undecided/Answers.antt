use Rattle.std.proofs.Common.{ap, sym, ◌∙◌, subst as along}
use Rattle.std.specs.Prelude.{◌≡◌, false, IsSome, is_some}
use Rattle.std.proofs.lemmas.Bool.{false≢true}
use Rattle.dh_imports.specs.Replay.{has_too_many, root_end}
use Rattle.dh_table.specs.Shown.{Shown}
use Rattle.dh_table.specs.States.{state_of}
use Rattle.dh_table.specs.Tables.{view_of}
use Rattle.dh_table.proofs.Beginnings.{above, not_above}
use Rattle.dh_table.proofs.Known.{found_undecided}
use Rattle.dh_table.proofs.RootEnds.{known_count, ends_too_many}
use Rattle.dh_table.proofs.tables.Table.find_undecided.Goals as goal

pub returns-then-len-gt-MOST_KEYS-clause-none : goal.returns-then-len-gt-MOST_KEYS-clause-none
returns-then-len-gt-MOST_KEYS-clause-none g c e n =
    let t = c.self.inside in
    let many = above _ _ (known_count t.root t.keys t.texts.items c.self.invariant.known) (rw c.len.ensures at c.if-len-gt-MOST_KEYS.true) in
    let ends : IsSome (root_end (state_of c.args.self.now)) = along (λ (v : Shown). IsSome (root_end (state_of v))) c.self.view_is (ends_too_many (state_of (view_of {W = g.row.W.Denot} t)) many) in
    absurd (false≢true (sym (ap is_some n) ∙ ends))

pub returns-clause-undecided : goal.returns-clause-undecided
returns-clause-undecided g c e =
    let t = c.self.inside in
    let few = not_above _ _ (known_count t.root t.keys t.texts.items c.self.invariant.known) (rw c.len.ensures at c.if-len-gt-MOST_KEYS.false) in
    let few_now : has_too_many (state_of c.args.self.now) ≡ false = along (λ (v : Shown). has_too_many (state_of v) ≡ false) c.self.view_is few in
    found_undecided (state_of c.args.self.now) c.args.self.now.keys c.find.result few_now c.find.ensures.found e
