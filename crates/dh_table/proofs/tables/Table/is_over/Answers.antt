use Rattle.std.proofs.Common.{ap, sym, ◌∙◌, refl, subst as along}
use Rattle.std.proofs.lemmas.Bool.{false≢true}
use Rattle.std.specs.Prelude.{◌≡◌, false, None, is_some, IsSome}
use Rattle.dh_imports.specs.Machine.{root_walk}
use Rattle.dh_imports.specs.Replay.{has_too_many, root_end}
use Rattle.dh_table.specs.Shown.{Shown}
use Rattle.dh_record.specs.Rows.{rows_of}
use Rattle.dh_table.specs.States.{state_of}
use Rattle.dh_table.specs.Tables.{view_of}
use Rattle.dh_table.proofs.Beginnings.{above, not_above}
use Rattle.dh_table.proofs.RootEnds.{known_count, ends_too_many, needed, no_end}
use Rattle.dh_table.proofs.tables.Table.is_over.Goals as goal

pub returns-then-len-gt-MOST_KEYS : goal.returns-then-len-gt-MOST_KEYS
returns-then-len-gt-MOST_KEYS g c =
    let t = c.self.inside in
    let many = above _ _ (known_count t.root t.keys t.texts.items c.self.invariant.known) (rw c.len.ensures at c.if-len-gt-MOST_KEYS.true) in
    (λ e. along (λ (v : Shown). IsSome (root_end (state_of v))) c.self.view_is (ends_too_many (state_of (view_of {W = g.row.W.Denot} t)) many), λ i. refl)

pub returns-in-Need : goal.returns-in-Need
returns-in-Need g c =
    let t = c.self.inside in
    let few = not_above _ _ (known_count t.root t.keys t.texts.items c.self.invariant.known) (rw c.len.ensures at c.if-len-gt-MOST_KEYS.false) in
    let few_now : has_too_many (state_of c.args.self.now) ≡ false = along (λ (v : Shown). has_too_many (state_of v) ≡ false) c.self.view_is few in
    let n = needed (rows_of c.args.self.now.keys) (root_walk (state_of c.args.self.now)) c.in-Need.field-0 c.in-Need.ensures.next in
    let none : root_end (state_of c.args.self.now) ≡ None = no_end (state_of c.args.self.now) n.0 few_now n.1 in
    (λ e. absurd (false≢true e), λ i. sym (ap is_some none) ∙ i)
