use Rattle.std.proofs.Common.{◌≡◌, true, false}
use Rattle.std.specs.Prelude.{not, ◌||◌}
use Rattle.dh_reader.specs.States.{state_of}
use Rattle.dh_grammar.specs.Depths.{opens_many}
use Rattle.dh_grammar.specs.Machine.{gap_at}
use Rattle.dh_parse.proofs.ReadingTokens.{runs, opens_too_many, goes_on}
use Rattle.dh_parse.proofs.reading.step.Goals as goal

pub returns-then-is_deep-clause-fault : goal.returns-then-is_deep-clause-fault
returns-then-is_deep-clause-fault g c =
    let s = state_of g.M.Makes.views c.args.reader.now.frames c.args.reader.now.top in
    let white : (not (gap_at s c.args.token.kind) || c.args.token.gap) ≡ true = cc in
    let many : opens_many s c.args.token.kind ≡ true = cc in
    let on = state_of g.M.Makes.views c.after.new.self.frames c.after.new.self.top in
    opens_too_many g.M.Makes.makes c.args.reader.now.at s on c.args.token c.requires white c.in-Ok.ensures (runs g.M.Makes.views c.after.new.self.frames c.after.new.self.top) many

pub returns-else-is_deep-clause-read : goal.returns-else-is_deep-clause-read
returns-else-is_deep-clause-read g c =
    let s = state_of g.M.Makes.views c.args.reader.now.frames c.args.reader.now.top in
    let white : (not (gap_at s c.args.token.kind) || c.args.token.gap) ≡ true = cc in
    let few : opens_many s c.args.token.kind ≡ false = cc in
    let on = state_of g.M.Makes.views c.after.new.self.frames c.after.new.self.top in
    goes_on g.M.Makes.makes c.args.reader.now.at s on c.args.token c.requires white c.in-Ok.ensures (runs g.M.Makes.views c.after.new.self.frames c.after.new.self.top) few
