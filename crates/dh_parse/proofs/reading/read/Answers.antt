use Rattle.std.proofs.Common.{rules, ◌≡◌, ◌+◌, [], ◌∷◌, length, ap, sym, ◌∙◌, subst, add-one, arith}
use Rattle.std.specs.Vec.Iter.{into_iter_items}
use Rattle.dh_reader.specs.States.{state_of}
use Rattle.dh_grammar.specs.Machine.{need}
use Rattle.dh_grammar.specs.Reading.{reading_at}
use Rattle.dh_parse.specs.Answers.{IsFault}
use Rattle.dh_parse.specs.Inside.Steps.{EndsOn}
use Rattle.dh_parse.proofs.ReadingTokens.{reads_on, awaits, ends_behind, ends_so}
use Rattle.dh_parse.proofs.reading.read.Goals as goal

pub loop-token-preserved : goal.loop-token-preserved
loop-token-preserved g c =
    let m = g.M.Makes.makes in
    let s = state_of g.M.Makes.views c.loop-token.reader.frames c.loop-token.reader.top in
    let on = state_of g.M.Makes.views c.step.new.reader.frames c.step.new.reader.top in
    let rest = into_iter_items c.next.new.self in
    let left : into_iter_items c.loop-token.token-iterator ≡ c.in-Some.token ∷ rest = c.in-Some.ensures.steps.0 in
    let fewer = ap length left in
    record {
      reads = reads_on m c.loop-token.at (c.loop-token.at + 1) s on c.in-Some.token _ rest _ (add-one c.loop-token.at) left c.in-Ok.ensures.read c.loop-token.invariant.reads;
      counted = search rules;
      numbered = omega (arith, fewer, c.loop-token.invariant.numbered);
      within = c.in-Ok.ensures.read.within;
      ends = ends_behind s on c.in-Some.token rest (subst (EndsOn s) left c.loop-token.invariant.ends) c.in-Ok.ensures.read.ended;
    }

pub unreachable-requires : goal.unreachable-requires
unreachable-requires g c =
    let s = state_of g.M.Makes.views c.loop-token.reader.frames c.loop-token.reader.top in
    let ended = ends_so s _ (sym c.loop-token.invariant.counted ∙ c.in-None.ensures.steps.0) c.loop-token.invariant.ends in
    awaits g.M.Makes.views c.loop-token.reader.frames c.loop-token.reader.top c.in-Need.is ended

pub returns-in-Err-clause-fault : goal.returns-in-Err-clause-fault
returns-in-Err-clause-fault g c =
    let m = g.M.Makes.makes in
    let s = state_of g.M.Makes.views c.loop-token.reader.frames c.loop-token.reader.top in
    let e : reading_at m c.loop-token.at s (c.in-Some.token ∷ into_iter_items c.next.new.self) ≡ reading_at m 0 (need []) c.args.tokens = search rules in
    subst (λ r. IsFault r c.in-Err.fault) e (c.in-Err.ensures.fault (into_iter_items c.next.new.self))
