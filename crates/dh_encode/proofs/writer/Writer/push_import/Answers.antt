use Rattle.std.proofs.Common.{refl}
use Rattle.dh_encode.proofs.ImportItems.{import_written}
use Rattle.dh_encode.proofs.writer.Writer.push_import.Goals as goal

pub returns : goal.returns
returns c =
    import_written c.push_location.result c.args.self.now c.push_head.new.self c.push_code.new.self c.push_digest.new.self c.push_mode.new.self c.push_location.new.self c.args.import.now
    _ c.count_of.result c.in_ok-push_head.ensures refl c.count_of.ensures.count c.in_ok-push_code.ensures c.in_ok-push_digest.ensures c.in_ok-push_mode.ensures c.push_location.ensures
