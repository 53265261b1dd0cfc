use Rattle.std.proofs.Common.{◌<◌, ◌≤◌, ◌∙◌, ap, sym, ℕ, length, arith, inl, inr, subst as along}
use Rattle.std.specs.Prelude.{List, slice_set}
use Rattle.dh_imports.specs.Machine.{leads_by}
use Rattle.dh_imports.specs.Resolver.{plan}
use Rattle.dh_demand.specs.Results.{ask_of}
use Rattle.dh_record.specs.Reading.{record_by}
use Rattle.dh_table.specs.Inside.Searching.{AreKnown, IsSearched, left_to_see, no_hole}
use Rattle.dh_record.specs.Rows.{rows_of, key_named}
use Rattle.dh_table.proofs.Known.{reach_leads_to}
use Rattle.dh_record.proofs.Reaching.{leads_numbered}
use Rattle.dh_record.proofs.Reading.{number_names}
use Rattle.dh_table.proofs.Searched.{held_searched, open_tried, push_falls, put_falls, wait_searched}
use Rattle.dh_table.proofs.search.searches.see.Goals as goal

pub push-requires-clause-inside : goal.push-requires-clause-inside
push-requires-clause-inside c =
    let keys = c.args.keys.now in
    let k = key_named keys c.args.n in
    let its = plan (record_by c.args.texts.now c.args.looks.now) k in
    let led = c.lead-other.ensures.one its c.plan_of-plan.ensures.plan (reach_leads_to (ask_of (rows_of keys)) (rows_of keys) k its c.in-Wait.by (c.in-Wait.ensures its c.plan_of-plan.ensures.plan)) in
    let a = (number_names keys led.0 c.lead-other.result led.2).0 in
    let b = c.requires.room.piles in
    let d = c.lead-other.ensures.piles in
    let e = c.waiters.ensures in
    omega arith

pub push-requires-clause-free : goal.push-requires-clause-free
push-requires-clause-free c =
    let its = plan (record_by c.args.texts.now c.args.looks.now) (key_named c.args.keys.now c.args.n) in
    let one = c.requires.taken in
    elim ((c.lead-other.ensures.put its c.plan_of-plan.ensures.plan).only c.args.n) [
      | inl same ↦ omega arith
      | inr (was, two, w) ↦ omega arith
    ]

pub returns-in-Wait-clause-tried : goal.returns-in-Wait-clause-tried
returns-in-Wait-clause-tried c s p u x =
    let keys = c.args.keys.now in
    let n = c.args.n in
    let k = key_named keys n in
    let its = plan (record_by c.args.texts.now c.args.looks.now) k in
    let e = c.lead-other.new.explored in
    let led = c.lead-other.ensures.one its c.plan_of-plan.ensures.plan (reach_leads_to (ask_of (rows_of keys)) (rows_of keys) k its c.in-Wait.by (c.in-Wait.ensures its c.plan_of-plan.ensures.plan)) in
    along (λ (ps : List ℕ). IsSearched s keys c.args.flights.now no_hole ps) (sym (c.push.ensures ∙ ap (slice_set e.piles n) c.waiters.ensures))
    (wait_searched keys c.args.texts.now c.args.looks.now c.args.flights.now s p n c.requires.inside u c.args.explored.now.piles c.requires.taken x c.lead-other.result e.piles led
    (λ j m. leads_numbered (rows_of keys) k its c.plan_of-plan.result j c.plan_of-plan.ensures.plan m) (c.lead-other.ensures.put its c.plan_of-plan.ensures.plan))

pub returns-in-Wait-clause-falls : goal.returns-in-Wait-clause-falls
returns-in-Wait-clause-falls c h =
    let keys = c.args.keys.now in
    let n = c.args.n in
    let k = key_named keys n in
    let its = plan (record_by c.args.texts.now c.args.looks.now) k in
    let old = c.args.explored.now in
    let e = c.lead-other.new.explored in
    let inside : n < length e.piles = let a = c.requires.inside in let b = c.requires.room.piles in let d = c.lead-other.ensures.piles in omega arith in
    let three : 3 ≤ c.waiters.result = let a = c.waiters.ensures in omega arith in
    let pushed = push_falls e.piles n c.waiters.result inside three in
    let led = put_falls (rows_of keys) (leads_by (ask_of (rows_of keys)) k its) old.piles e.piles c.lead-other.ensures.piles (c.lead-other.ensures.put its c.plan_of-plan.ensures.plan) in
    along (λ (ps : List ℕ). left_to_see ps ≤ left_to_see old.piles) (sym c.push.ensures) (omega arith)

pub returns-then-flies-clause-tried : goal.returns-then-flies-clause-tried
returns-then-flies-clause-tried c s p u x =
    let keys = c.args.keys.now in
    let n = c.args.n in
    let its = plan (record_by c.args.texts.now c.args.looks.now) (key_named keys n) in
    along (λ (ps : List ℕ). IsSearched s keys c.args.flights.now no_hole ps) (sym c.push-then-flies.ensures)
    (held_searched keys c.args.texts.now c.args.looks.now c.args.flights.now s p n c.requires.inside u c.args.explored.now.piles c.requires.taken x c.in-Due.kind (c.in-Due.ensures its c.plan_of-plan.ensures.plan) c.if-flies.ensures)

pub returns-else-flies-clause-tried : goal.returns-else-flies-clause-tried
returns-else-flies-clause-tried c s p u x =
    let keys = c.args.keys.now in
    let n = c.args.n in
    let its = plan (record_by c.args.texts.now c.args.looks.now) (key_named keys n) in
    let t = open_tried keys c.args.texts.now c.args.looks.now c.args.flights.now s p n c.requires.inside u c.args.explored.now.piles c.requires.taken x c.in-Due.kind (c.in-Due.ensures its c.plan_of-plan.ensures.plan) c.if-flies.ensures in
    (t.0, along (λ (ps : List ℕ). AreKnown s keys no_hole ps) (sym c.push-else-flies.ensures) t.1)
