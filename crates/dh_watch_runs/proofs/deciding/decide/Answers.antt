use Rattle.std.specs.Prelude.{◌<◌, ◌∷◌, [], ℕ, All, drop, length}
use Rattle.std.proofs.Common.{ap, sym, ◌∙◌, subst, arith, refl}
use Rattle.std.proofs.lemmas.List.Elements.{All-nil, All-cons}
use Rattle.dh_watch_laws.specs.Running.{stage_at, Runs, begins}
use Rattle.dh_watch_laws.proofs.Running.{runs-open}
use Rattle.dh_watch_runs.specs.Progressing.{IsProgress}
use Rattle.dh_watch_runs.specs.Resolving.{named, trail_of, AreMore, IsWait}
use Rattle.dh_watch_runs.proofs.Descending.{more-itself, in-more, more-more, top-inside, rest-inside, advanced, shorter, met-loop, met-chain, entered, entered-inside, met-many}
use Rattle.dh_watch_runs.proofs.Reversing.{err-any, numbers-inside}
use Rattle.dh_watch_runs.proofs.deciding.decide.Goals as goal

pub returns-in_err-push-clause-stopped : goal.returns-in_err-push-clause-stopped
returns-in_err-push-clause-stopped g c = err-any _ c.from_residual.result (record { trail = _; run = begins c.requires.open })

pub steps-init : goal.steps-init
steps-init g c =
    let e = c.in_ok-push.ensures.ok ∙ ap (λ z. c.args.root ∷ z) c.clear.ensures in
    record {
      runs = subst (λ z. Runs (g.S.Resolver.kept c.args.resolver.now) (named (g.S.Resolver.keys c.args.resolver.now) c.args.root) (g.S.Resolver.kept c.args.resolver.now) (trail_of (g.S.Resolver.keys c.args.resolver.now) z)) (sym e) (begins c.requires.open);
      inside =
          subst (All (λ (n : ℕ). n < length (g.S.Resolver.keys c.args.resolver.now))) (sym e)
          (All-cons (λ (n : ℕ). n < length (g.S.Resolver.keys c.args.resolver.now)) c.args.root [] c.requires.inside (All-nil (λ (n : ℕ). n < length (g.S.Resolver.keys c.args.resolver.now))));
      keys = more-itself (g.S.Resolver.keys c.args.resolver.now);
      sound = c.requires.sound;
      over = λ n t o. o;
      now = refl;
      counted = omega arith;
      most = omega (arith, ap length e);
      good = c.requires.good;
      faults = refl;
      asks = omega arith;
    }

pub finish-requires-clause-inside : goal.finish-requires-clause-inside
finish-requires-clause-inside g c =
    top-inside (g.S.Resolver.keys c.advance.new.self) c.steps.trail c.in-Some.top c.in-Some.ensures.some
    (in-more (g.S.Resolver.keys c.steps.resolver) (g.S.Resolver.keys c.advance.new.self) c.advance.ensures.keys c.steps.trail c.steps.invariant.inside)

pub finish-requires-clause-open : goal.finish-requires-clause-open
finish-requires-clause-open g c =
    let keys = g.S.Resolver.keys c.steps.resolver in
    let more = g.S.Resolver.keys c.advance.new.self in
    runs-open (g.S.Resolver.kept c.args.resolver.now) (g.S.Resolver.kept c.advance.new.self) (named (g.S.Resolver.keys c.args.resolver.now) c.args.root) (named more c.in-Some.top) (trail_of more (drop 1 c.steps.trail)) c.requires.sound
    (advanced (g.S.Resolver.kept c.args.resolver.now) (named (g.S.Resolver.keys c.args.resolver.now) c.args.root) keys more (g.S.Resolver.kept c.steps.resolver) (g.S.Resolver.kept c.advance.new.self) c.steps.trail c.in-Some.top c.in-Some.ensures.some
    c.steps.invariant.inside c.advance.ensures.keys c.advance.ensures.goes_on c.steps.invariant.runs)

pub steps-preserved-in-Due : goal.steps-preserved-in-Due
steps-preserved-in-Due g c =
    let keys0 = g.S.Resolver.keys c.args.resolver.now in
    let keys = g.S.Resolver.keys c.steps.resolver in
    let more = g.S.Resolver.keys c.advance.new.self in
    let last = g.S.Resolver.keys c.finish.new.self in
    let old = g.S.Resolver.kept c.args.resolver.now in
    let s' = g.S.Resolver.kept c.advance.new.self in
    let s'' = g.S.Resolver.kept c.finish.new.self in
    let root = named keys0 c.args.root in
    let rest = drop 1 c.steps.trail in
    let here = advanced old root keys more (g.S.Resolver.kept c.steps.resolver) s' c.steps.trail c.in-Some.top c.in-Some.ensures.some
    c.steps.invariant.inside c.advance.ensures.keys c.advance.ensures.goes_on c.steps.invariant.runs in
    let done : Runs old root s'' (trail_of more rest) = c.in_ok-finish-in-Due.ensures.finishes old root (trail_of more rest) here in
    let inside : All (λ (n : ℕ). n < length more) rest
    = rest-inside more c.steps.trail c.in-Some.top c.in-Some.ensures.some (in-more keys more c.advance.ensures.keys c.steps.trail c.steps.invariant.inside) in
    record {
      runs = subst (λ z. Runs old root s'' (trail_of last z)) (sym c.pop.ensures) (subst (λ z. Runs old root s'' (trail_of z rest)) (sym c.finish.ensures.keys) done);
      inside = subst (λ z. All (λ (n : ℕ). n < length last) z) (sym c.pop.ensures) (subst (λ z. All (λ (n : ℕ). n < length z) rest) (sym c.finish.ensures.keys) inside);
      keys = subst (AreMore keys0) (sym c.finish.ensures.keys) (more-more keys0 keys more c.steps.invariant.keys c.advance.ensures.keys);
      sound = c.finish.ensures.sound;
      over = λ n t o. c.finish.ensures.over n (c.advance.ensures.now ∙ c.steps.invariant.now ∙ t) (c.advance.ensures.over n (c.steps.invariant.now ∙ t) (c.steps.invariant.over n t o));
      now = c.finish.ensures.now ∙ c.advance.ensures.now ∙ c.steps.invariant.now;
      counted = omega (arith, c.steps.invariant.counted, c.in_ok-finish-in-Due.ensures.one, ap (λ z. length z) c.advance.ensures.outcomes);
      most = omega (arith, c.steps.invariant.most, shorter c.steps.trail c.in-Some.top c.in-Some.ensures.some, ap (λ z. length z) c.pop.ensures);
      good = c.finish.ensures.good;
      faults = c.finish.ensures.faults ∙ c.in_ok-advance.ensures.quiet ∙ c.steps.invariant.faults;
      asks = omega (arith, c.steps.invariant.asks, c.in_ok-advance.ensures.asks, c.finish.ensures.asked, ap (λ z. length z) c.finish.ensures.texts);
    }

pub meets-requires-clause-trail : goal.meets-requires-clause-trail
meets-requires-clause-trail g c =
    numbers-inside (λ (n : ℕ). n < length (g.S.Resolver.keys c.advance.new.self)) c.numbers.result.now c.steps.trail c.numbers.ensures
    (in-more (g.S.Resolver.keys c.steps.resolver) (g.S.Resolver.keys c.advance.new.self) c.advance.ensures.keys c.steps.trail c.steps.invariant.inside)

pub least_back-requires-clause-trail : goal.least_back-requires-clause-trail
least_back-requires-clause-trail g c =
    numbers-inside (λ (n : ℕ). n < length (g.S.Resolver.keys c.advance.new.self)) c.numbers-then-meets.result.now c.steps.trail c.numbers-then-meets.ensures
    (in-more (g.S.Resolver.keys c.steps.resolver) (g.S.Resolver.keys c.advance.new.self) c.advance.ensures.keys c.steps.trail c.steps.invariant.inside)

pub returns-then-meets-clause-ended : goal.returns-then-meets-clause-ended
returns-then-meets-clause-ended g c =
    let keys = g.S.Resolver.keys c.steps.resolver in
    let more = g.S.Resolver.keys c.advance.new.self in
    let old = g.S.Resolver.kept c.args.resolver.now in
    let s' = g.S.Resolver.kept c.advance.new.self in
    let root = named (g.S.Resolver.keys c.args.resolver.now) c.args.root in (
      c.least_back.ensures.inside,
      met-loop old root more s' c.steps.trail c.numbers.result.now c.numbers-then-meets.result.now c.in-Some.top c.in-Wait.next c.least_back.result c.in-Some.ensures.some
          (advanced old root keys more (g.S.Resolver.kept c.steps.resolver) s' c.steps.trail c.in-Some.top c.in-Some.ensures.some
          c.steps.invariant.inside c.advance.ensures.keys c.advance.ensures.goes_on c.steps.invariant.runs)
          (subst (λ z. IsProgress more (stage_at s' (named more c.in-Some.top)) z) c.in-Wait.is c.in_ok-advance.ensures.reach)
          c.numbers.ensures (sym c.meets.ensures ∙ c.if-meets.true) c.numbers-then-meets.ensures c.least_back.ensures.least,
    )

pub returns-then-meets-clause-chain : goal.returns-then-meets-clause-chain
returns-then-meets-clause-chain g c =
    let keys = g.S.Resolver.keys c.steps.resolver in
    let more = g.S.Resolver.keys c.advance.new.self in
    let old = g.S.Resolver.kept c.args.resolver.now in
    let s' = g.S.Resolver.kept c.advance.new.self in
    let root = named (g.S.Resolver.keys c.args.resolver.now) c.args.root in (
      in-more keys more c.advance.ensures.keys c.steps.trail c.steps.invariant.inside,
      met-chain old root more s' c.steps.trail c.numbers.result.now c.numbers-then-meets.result.now c.in-Some.top c.in-Wait.next c.least_back.result c.requires.sound c.in-Some.ensures.some
          (advanced old root keys more (g.S.Resolver.kept c.steps.resolver) s' c.steps.trail c.in-Some.top c.in-Some.ensures.some
          c.steps.invariant.inside c.advance.ensures.keys c.advance.ensures.goes_on c.steps.invariant.runs)
          (subst (λ z. IsProgress more (stage_at s' (named more c.in-Some.top)) z) c.in-Wait.is c.in_ok-advance.ensures.reach)
          c.numbers.ensures (sym c.meets.ensures ∙ c.if-meets.true) c.numbers-then-meets.ensures c.least_back.ensures.least,
    )

pub returns-then-found-len-ge-MOST_KEYS-clause-many : goal.returns-then-found-len-ge-MOST_KEYS-clause-many
returns-then-found-len-ge-MOST_KEYS-clause-many g c same =
    let keys = g.S.Resolver.keys c.steps.resolver in
    let more = g.S.Resolver.keys c.advance.new.self in
    let old = g.S.Resolver.kept c.args.resolver.now in
    let s' = g.S.Resolver.kept c.advance.new.self in
    let root = named (g.S.Resolver.keys c.args.resolver.now) c.args.root in
    let wait : IsWait more (stage_at s' (named more c.in-Some.top)) c.in-Wait.next
    = subst (λ z. IsProgress more (stage_at s' (named more c.in-Some.top)) z) c.in-Wait.is c.in_ok-advance.ensures.reach in
    met-many old root more s' c.steps.trail c.in-Wait.next c.steps.found
    (entered old root more s' c.steps.trail c.numbers.result.now c.in-Some.top c.in-Wait.next c.in-Some.ensures.some
    (advanced old root keys more (g.S.Resolver.kept c.steps.resolver) s' c.steps.trail c.in-Some.top c.in-Some.ensures.some
    c.steps.invariant.inside c.advance.ensures.keys c.advance.ensures.goes_on c.steps.invariant.runs)
    wait c.numbers.ensures (sym c.meets.ensures ∙ c.if-meets.false))
    (c.steps.invariant.counted ∙ ap (λ z. length z) (sym c.advance.ensures.outcomes))
    (omega (arith, c.if-found-len-ge-MOST_KEYS.true, c.len.ensures))

pub steps-preserved : goal.steps-preserved
steps-preserved g c =
    let keys0 = g.S.Resolver.keys c.args.resolver.now in
    let keys = g.S.Resolver.keys c.steps.resolver in
    let more = g.S.Resolver.keys c.advance.new.self in
    let old = g.S.Resolver.kept c.args.resolver.now in
    let s' = g.S.Resolver.kept c.advance.new.self in
    let root = named keys0 c.args.root in
    let wait : IsWait more (stage_at s' (named more c.in-Some.top)) c.in-Wait.next
    = subst (λ z. IsProgress more (stage_at s' (named more c.in-Some.top)) z) c.in-Wait.is c.in_ok-advance.ensures.reach in
    let run = entered old root more s' c.steps.trail c.numbers.result.now c.in-Some.top c.in-Wait.next c.in-Some.ensures.some
    (advanced old root keys more (g.S.Resolver.kept c.steps.resolver) s' c.steps.trail c.in-Some.top c.in-Some.ensures.some
    c.steps.invariant.inside c.advance.ensures.keys c.advance.ensures.goes_on c.steps.invariant.runs)
    wait c.numbers.ensures (sym c.meets.ensures ∙ c.if-meets.false) in
    let pushed = c.in_ok-push-in-Wait.ensures.ok in
    record {
      runs = subst (λ z. Runs old root s' (trail_of more z)) (sym pushed) run;
      inside =
          subst (All (λ (n : ℕ). n < length more)) (sym pushed)
          (entered-inside more c.in-Wait.next c.steps.trail wait.0 (in-more keys more c.advance.ensures.keys c.steps.trail c.steps.invariant.inside));
      keys = more-more keys0 keys more c.steps.invariant.keys c.advance.ensures.keys;
      sound = c.advance.ensures.sound;
      over = λ n t o. c.advance.ensures.over n (c.steps.invariant.now ∙ t) (c.steps.invariant.over n t o);
      now = c.advance.ensures.now ∙ c.steps.invariant.now;
      counted = c.steps.invariant.counted ∙ ap (λ z. length z) (sym c.advance.ensures.outcomes);
      most = omega (arith, c.if-found-len-ge-MOST_KEYS.false, c.len.ensures, ap (λ z. length z) pushed);
      good = c.advance.ensures.good;
      faults = c.in_ok-advance.ensures.quiet ∙ c.steps.invariant.faults;
      asks = omega (arith, c.steps.invariant.asks, c.in_ok-advance.ensures.asks);
    }
