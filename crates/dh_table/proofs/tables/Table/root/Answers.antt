use Rattle.std.proofs.Common.{◌≡◌, ap, sym, ◌∙◌, None, subst as along}
use Rattle.std.specs.Prelude.{false, true, is_some}
use Rattle.std.proofs.lemmas.Bool.{false≢true}
use Rattle.dh_syntax.specs.Expressions.Bridge.{term}
use Rattle.dh_imports.specs.Machine.{State, outcome_of, root_walk}
use Rattle.dh_imports.specs.Replay.{has_too_many, root_end}
use Rattle.dh_imports.specs.Walk.{Ready, walk}
use Rattle.dh_demand.specs.declared.ends.Next.TheVariants as next
use Rattle.dh_demand.specs.Nexts.{IsNext}
use Rattle.dh_demand.specs.Results.{ask_of}
use Rattle.dh_demand.specs.Scans.{Fits}
use Rattle.dh_demand.specs.Values.{IsReady}
use Rattle.dh_record.specs.Values.{FitsRoot}
use Rattle.dh_table.specs.Shown.{Shown}
use Rattle.dh_record.specs.Rows.{rows_of}
use Rattle.dh_table.specs.States.{state_of}
use Rattle.dh_table.specs.Tables.{view_of}
use Rattle.dh_record.proofs.Assembled.{AreValues, walk_fits}
use Rattle.dh_table.proofs.Beginnings.{above, not_above}
use Rattle.dh_record.proofs.DueItems.{ready_value, values_known}
use Rattle.dh_table.proofs.RootEnds.{known_count, needed, no_end}
use Rattle.dh_table.proofs.RootEnding.{many_end, ready_end, bad_end}
use Rattle.dh_table.proofs.tables.Table.root.Goals as goal

pub returns-then-len-gt-MOST_KEYS-clause-ended : goal.returns-then-len-gt-MOST_KEYS-clause-ended
returns-then-len-gt-MOST_KEYS-clause-ended g c =
    let t = c.self.inside in
    let many = above _ _ (known_count t.root t.keys t.texts.items c.self.invariant.known) (rw c.len.ensures at c.if-len-gt-MOST_KEYS.true) in
    many_end (state_of c.args.self.now) (along (λ (v : Shown). has_too_many (state_of v) ≡ true) c.self.view_is many)

pub unreachable-requires : goal.unreachable-requires
unreachable-requires g c =
    let t = c.self.inside in
    let s : State = state_of c.args.self.now in
    let few = not_above _ _ (known_count t.root t.keys t.texts.items c.self.invariant.known) (rw c.len.ensures at c.if-len-gt-MOST_KEYS.false) in
    let few_now : has_too_many s ≡ false = along (λ (v : Shown). has_too_many (state_of v) ≡ false) c.self.view_is few in
    let n = needed (rows_of c.args.self.now.keys) (root_walk s) c.in-Need.field-0 c.in-Need.ensures.next in
    let none : root_end s ≡ None = no_end s n.0 few_now n.1 in
    false≢true (ap is_some (sym none) ∙ c.requires)

pub assemble-requires : goal.assemble-requires
assemble-requires g c =
    let t = c.self.inside in
    let v = view_of {W = g.row.W.Denot} t in
    let r = ready_value None (rows_of c.args.self.now.keys) (root_walk (state_of c.args.self.now)) c.in-Ready.ensures.next in
    let asks : outcome_of (state_of c.args.self.now) ≡ ask_of (rows_of c.args.self.now.keys) = along (λ (x : Shown). outcome_of (state_of x) ≡ ask_of (rows_of x.keys)) c.self.view_is c.self.invariant.asks in
    let root : (state_of c.args.self.now).root ≡ term t.root.expr = ap (λ (x : Shown). term x.root.expr) (sym c.self.view_is) in (
      None,
      r.0,
      record {
        fits = along (λ (x : Shown). Fits None (rows_of x.keys) (term t.root.expr) t.root.edges) c.self.view_is c.self.invariant.known.root_fits;
        ready = (λ i. walk None (sym asks i) (sym root i)) ∙ r.1;
      },
    )

pub returns-in_ok-assemble-in-Ready-clause-ended : goal.returns-in_ok-assemble-in-Ready-clause-ended
returns-in_ok-assemble-in-Ready-clause-ended g c =
    let t = c.self.inside in
    let s : State = state_of c.args.self.now in
    let few = not_above _ _ (known_count t.root t.keys t.texts.items c.self.invariant.known) (rw c.len.ensures at c.if-len-gt-MOST_KEYS.false) in
    let few_now : has_too_many s ≡ false = along (λ (v : Shown). has_too_many (state_of v) ≡ false) c.self.view_is few in
    let r = ready_value None (rows_of c.args.self.now.keys) (root_walk s) c.in-Ready.ensures.next in
    let asks : outcome_of s ≡ ask_of (rows_of c.args.self.now.keys) = along (λ (x : Shown). outcome_of (state_of x) ≡ ask_of (rows_of x.keys)) c.self.view_is c.self.invariant.asks in
    let root : s.root ≡ term t.root.expr = ap (λ (x : Shown). term x.root.expr) (sym c.self.view_is) in
    let here : IsReady None (rows_of c.args.self.now.keys) (term t.root.expr) t.root.edges r.0 = record {
      fits = along (λ (x : Shown). Fits None (rows_of x.keys) (term t.root.expr) t.root.edges) c.self.view_is c.self.invariant.known.root_fits;
      ready = (λ i. walk None (sym asks i) (sym root i)) ∙ r.1;
    } in
    ready_end s r.0 c.in_ok-assemble-in-Ready.field-0 few_now r.1 (c.in_ok-assemble-in-Ready.ensures None r.0 here)

pub returns-in_ok-assemble-in-Ready-clause-fits : goal.returns-in_ok-assemble-in-Ready-clause-fits
returns-in_ok-assemble-in-Ready-clause-fits g c =
    let t = c.self.inside in
    let s : State = state_of c.args.self.now in
    let r = ready_value None (rows_of c.args.self.now.keys) (root_walk s) c.in-Ready.ensures.next in
    let asks : outcome_of s ≡ ask_of (rows_of c.args.self.now.keys) = along (λ (x : Shown). outcome_of (state_of x) ≡ ask_of (rows_of x.keys)) c.self.view_is c.self.invariant.asks in
    let root : s.root ≡ term t.root.expr = ap (λ (x : Shown). term x.root.expr) (sym c.self.view_is) in
    let ready : walk None (ask_of (rows_of c.args.self.now.keys)) (term t.root.expr) ≡ Ready r.0 = (λ i. walk None (sym asks i) (sym root i)) ∙ r.1 in
    let here : IsReady None (rows_of c.args.self.now.keys) (term t.root.expr) t.root.edges r.0 = record {
      fits = along (λ (x : Shown). Fits None (rows_of x.keys) (term t.root.expr) t.root.edges) c.self.view_is c.self.invariant.known.root_fits;
      ready = ready;
    } in
    let values = along (λ (x : Shown). AreValues (ask_of (rows_of x.keys))) c.self.view_is (values_known t.keys c.self.invariant.fit.values) in
    along (λ e. FitsRoot e (term c.in_ok-assemble-in-Ready.field-0)) (sym root)
    (along (FitsRoot (term t.root.expr)) (sym (c.in_ok-assemble-in-Ready.ensures None r.0 here)) (walk_fits None (ask_of (rows_of c.args.self.now.keys)) values (term t.root.expr) r.0 ready))

pub returns-in_ok-blame_at-in-Fault-clause-ended : goal.returns-in_ok-blame_at-in-Fault-clause-ended
returns-in_ok-blame_at-in-Fault-clause-ended g c =
    let t = c.self.inside in
    let s : State = state_of c.args.self.now in
    let few = not_above _ _ (known_count t.root t.keys t.texts.items c.self.invariant.known) (rw c.len.ensures at c.if-len-gt-MOST_KEYS.false) in
    let few_now : has_too_many s ≡ false = along (λ (v : Shown). has_too_many (state_of v) ≡ false) c.self.view_is few in
    let next_is = along (λ (x : Shown). IsNext None (rows_of x.keys) (root_walk s) (next.Fault c.in-Fault.edge)) (sym c.self.view_is) c.in-Fault.ensures.next in
    bad_end s c.in_ok-blame_at-in-Fault.field-0 few_now (c.in_ok-blame_at-in-Fault.ensures (root_walk s) next_is)
