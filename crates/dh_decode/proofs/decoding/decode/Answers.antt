use Rattle.dh_decode.proofs.DecodingLaws.{read_by, refused_by, well_formed_by, shallow_by}
use Rattle.dh_decode.proofs.decoding.decode.Goals as goal

pub returns-clause-read : goal.returns-clause-read
returns-clause-read c = read_by c.args.bytes.now c.decoded.result c.decoded.ensures.ok

pub returns-clause-refused : goal.returns-clause-refused
returns-clause-refused c = refused_by c.args.bytes.now c.decoded.result c.decoded.ensures.err

pub returns-clause-well_formed : goal.returns-clause-well_formed
returns-clause-well_formed c = well_formed_by c.args.bytes.now c.decoded.result c.decoded.ensures.ok

pub returns-clause-shallow : goal.returns-clause-shallow
returns-clause-shallow c = shallow_by c.args.bytes.now c.decoded.result c.decoded.ensures.ok
