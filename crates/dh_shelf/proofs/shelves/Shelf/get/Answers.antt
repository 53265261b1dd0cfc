use Rattle.std.proofs.Common.{arith, ap, sym, ◌∙◌, Some, option_map, ◌≡◌, true}
use Rattle.dh_syntax.proofs.SameTree.{digests_tell}
use Rattle.dh_syntax.specs.Expressions.SameTree.{digest_eq}
use Rattle.dh_shelf.specs.Shelves.{finds, seen_at, HasGap, IsFull}
use Rattle.dh_shelf.proofs.Finding.{finds_no_more, finds_none, full_again, gap_again, grows_on, one_again, went_gap, went_one}
use Rattle.dh_shelf.proofs.shelves.Shelf.get.Goals as goal

gap : (g : _) (c : goal.In-None g) → HasGap c.read.new.pass.seen c.args.d.now
gap g c =
    went_gap c.args.self.now c.loop-i.pass.cells c.read.new.pass.cells c.args.pass.now.seen c.loop-i.pass.seen c.read.new.pass.seen c.args.d.now c.loop-i.i c.loop-i.invariant c.read.ensures.cells c.read.ensures.keeps c.loop-i-test.true
    (ap (seen_at c.read.new.pass.seen) (sym c.slot_of.ensures.value) ∙ sym c.read.ensures.value ∙ ap (option_map (λ e. e.now)) c.in-None.is)

pub returns-in-None-clause-value : goal.returns-in-None-clause-value
returns-in-None-clause-value g c = sym (finds_none c.read.new.pass.seen c.args.d.now (gap g c))

pub returns-in-None-clause-again : goal.returns-in-None-clause-again
returns-in-None-clause-again g c = gap_again c.args.pass.now.seen c.read.new.pass.seen c.args.d.now (grows_on c.args.pass.now.seen c.loop-i.pass.seen c.read.new.pass.seen c.loop-i.invariant.keeps c.read.ensures.keeps) (gap g c)

same : (g : _) (c : goal.Then-is_same_digest g) → digest_eq c.in-Some.entry.now.digest c.args.d.now ≡ true
same g c = ap (λ x. digest_eq x c.args.d.now) (sym c.digest.ensures) ∙ sym c.is_same_digest.ensures ∙ c.if-is_same_digest.true

one : (g : _) (c : goal.Then-is_same_digest g) → finds c.read.new.pass.seen c.args.d.now ≡ Some c.in-Some.entry.now
one g c =
    went_one c.args.self.now c.loop-i.pass.cells c.read.new.pass.cells c.args.pass.now.seen c.loop-i.pass.seen c.read.new.pass.seen c.args.d.now c.loop-i.i c.loop-i.invariant c.read.ensures.cells c.read.ensures.keeps c.in-Some.entry.now c.loop-i-test.true
    (ap (seen_at c.read.new.pass.seen) (sym c.slot_of.ensures.value) ∙ sym c.read.ensures.value ∙ ap (option_map (λ e. e.now)) c.in-Some.is) (same g c)

pub returns-then-is_same_digest-clause-value : goal.returns-then-is_same_digest-clause-value
returns-then-is_same_digest-clause-value g c = sym (one g c)

pub returns-then-is_same_digest-clause-again : goal.returns-then-is_same_digest-clause-again
returns-then-is_same_digest-clause-again g c =
    one_again c.args.pass.now.seen c.read.new.pass.seen c.args.d.now c.in-Some.entry.now (grows_on c.args.pass.now.seen c.loop-i.pass.seen c.read.new.pass.seen c.loop-i.invariant.keeps c.read.ensures.keeps) (one g c)

pub returns-then-is_same_digest-clause-digest : goal.returns-then-is_same_digest-clause-digest
returns-then-is_same_digest-clause-digest g c = digests_tell.equal c.in-Some.entry.now.digest c.args.d.now (same g c)

full : (g : _) (c : goal.After-loop-i g) → IsFull c.loop-i.pass.seen c.args.d.now
full g c i p = c.loop-i.invariant.others i (omega (arith, p, c.loop-i-test.false))

pub returns-clause-value : goal.returns-clause-value
returns-clause-value g c = sym (finds_no_more c.loop-i.pass.seen c.args.d.now (full g c))

pub returns-clause-again : goal.returns-clause-again
returns-clause-again g c = full_again c.args.pass.now.seen c.loop-i.pass.seen c.args.d.now c.loop-i.invariant.keeps (full g c)
