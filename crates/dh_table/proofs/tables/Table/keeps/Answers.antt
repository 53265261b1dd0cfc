use Rattle.std.specs.Prelude.{◌≡◌, ℕ, [], false, true, map, None}
use Rattle.std.proofs.Common.{ap, subst as along}
use Rattle.std.proofs.lemmas.Result.{IfOk-weaker}
use Rattle.dh_imports.specs.Keeps.{AreKeeps}
use Rattle.dh_imports.specs.Machine.{State, root_walk}
use Rattle.dh_imports.specs.Replay.{has_too_many, root_end}
use Rattle.dh_imports.specs.Resolver.{resolve}
use Rattle.dh_table.specs.Kept.{IsKeeping}
use Rattle.dh_record.specs.Kept.{pair_of}
use Rattle.dh_table.specs.Shown.{Shown}
use Rattle.dh_record.specs.Rows.{rows_of}
use Rattle.dh_table.specs.States.{state_of}
use Rattle.dh_table.proofs.Beginnings.{above, not_above}
use Rattle.dh_record.proofs.DueItems.{ready_value}
use Rattle.dh_table.proofs.RootEnds.{known_count}
use Rattle.dh_table.proofs.RootEnding.{many_keep, ready_keep}
use Rattle.dh_table.proofs.tables.Table.keeps.Goals as goal

pub returns-then-len-gt-MOST_KEYS : goal.returns-then-len-gt-MOST_KEYS
returns-then-len-gt-MOST_KEYS g c =
    let t = c.self.inside in
    let many = above _ _ (known_count t.root t.keys t.texts.items c.self.invariant.known) (rw c.len.ensures at c.if-len-gt-MOST_KEYS.true) in
    many_keep (state_of c.args.self.now) (map pair_of c.new.result) (along (λ (v : Shown). has_too_many (state_of v) ≡ true) c.self.view_is many) (ap (map pair_of) c.new.ensures)

pub returns-in-Ready : goal.returns-in-Ready
returns-in-Ready g c =
    let t = c.self.inside in
    let s : State = state_of c.args.self.now in
    let few = not_above _ _ (known_count t.root t.keys t.texts.items c.self.invariant.known) (rw c.len.ensures at c.if-len-gt-MOST_KEYS.false) in
    let few_now : has_too_many s ≡ false = along (λ (v : Shown). has_too_many (state_of v) ≡ false) c.self.view_is few in
    let r = ready_value None (rows_of c.args.self.now.keys) (root_walk s) c.in-Ready.ensures.next in
    IfOk-weaker c.ready_keeps.result (λ es. (n : ℕ) × AreKeeps s.recorded (resolve s.recorded n []) s.root (map pair_of es)) (λ es. IsKeeping s (root_end s) (map pair_of es))
    (λ es h. ready_keep s r.0 (map pair_of es) few_now r.1 h)
    c.ready_keeps.ensures
