use Rattle.std.proofs.Common.{sym, ap, ◌∙◌, map, ◌++◌}
use Rattle.std.specs.List.{concat}
use Rattle.dh_syntax.specs.Bytes.Binary.{optional_text}
use Rattle.dh_syntax.specs.Bytes.Cbor.{head, text}
use Rattle.dh_encode.proofs.Appends.{named}
use Rattle.dh_encode.proofs.ImportItems.{url_written}
use Rattle.dh_encode.proofs.writer.Writer.push_url.Goals as goal

pub returns-in-Some : goal.returns-in-Some
returns-in-Some c =
    url_written c.push_text-in-Some.result c.args.self.now c.push_code.new.self c.push_null.new.self c.push_text.new.self c.push_pieces.new.self c.push_text-in-Some.new.self
    (head 0 c.args.scheme) (text c.args.url.now.host) (optional_text c.args.url.now.query) (map text c.args.url.now.comps)
    c.in_ok-push_code.ensures c.in_ok-push_null.ensures (c.in_ok-push_text.ensures ∙ ap (λ s. c.push_null.new.self ++ text s) c.as_str.ensures)
    (c.in_ok-push_pieces.ensures ∙ ap (λ s. c.push_text.new.self ++ concat (map text s)) c.as_slice.ensures)
    (named c.push_text-in-Some.result c.push_pieces.new.self c.push_text-in-Some.new.self (text c.as_str-in-Some.result.now) (optional_text c.args.url.now.query)
    (ap text c.as_str-in-Some.ensures ∙ sym (ap optional_text c.in-Some.is)) c.push_text-in-Some.ensures)

pub returns-in-None : goal.returns-in-None
returns-in-None c =
    url_written c.push_null-in-None.result c.args.self.now c.push_code.new.self c.push_null.new.self c.push_text.new.self c.push_pieces.new.self c.push_null-in-None.new.self
    (head 0 c.args.scheme) (text c.args.url.now.host) (optional_text c.args.url.now.query) (map text c.args.url.now.comps)
    c.in_ok-push_code.ensures c.in_ok-push_null.ensures (c.in_ok-push_text.ensures ∙ ap (λ s. c.push_null.new.self ++ text s) c.as_str.ensures)
    (c.in_ok-push_pieces.ensures ∙ ap (λ s. c.push_text.new.self ++ concat (map text s)) c.as_slice.ensures)
    (named c.push_null-in-None.result c.push_pieces.new.self c.push_null-in-None.new.self _ (optional_text c.args.url.now.query)
    (sym (ap optional_text c.in-None.is)) c.push_null-in-None.ensures)
