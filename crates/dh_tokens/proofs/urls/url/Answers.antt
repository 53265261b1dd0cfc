use Rattle.std.proofs.Common.{◌≡◌, ◌+◌, ap, length, length-drop, arith}
use Rattle.dh_tokens.proofs.UrlLaws.{within_same}
use Rattle.dh_tokens.proofs.urls.url.Goals as goal

pub returns-then-starts_with-2-clause-within : goal.returns-then-starts_with-2-clause-within
returns-then-starts_with-2-clause-within c =
    let bs = c.args.rest.now in
    let behind = c.after-then-starts_with-2.result.now in
    let e : 8 + length behind ≡ length bs = omega (arith, ap length c.after-then-starts_with-2.ensures, length-drop 8 bs, c.if-starts_with-2.ensures.bound) in
    within_same c.after_scheme-then-starts_with-2.result (8 + length behind) (length bs) e c.after_scheme-then-starts_with-2.ensures.within
