use Rattle.std.proofs.Common.{arith, ap, length, length-take}
use Rattle.std.specs.Char.{is_ascii_hexdigit}
use Rattle.dh_tokens.proofs.DigestLaws.{list_all-from_prefix_len, sixty-four, after_sha256-digest}
use Rattle.dh_tokens.proofs.digests.after_sha256.Goals as goal

pub returns-then-count-lt64-clause-within : goal.returns-then-count-lt64-clause-within
returns-then-count-lt64-clause-within c = (omega arith, omega (arith, c.run_len-count.ensures.within, ap length c.up_to-digits.ensures, length-take 64 c.args.rest.now))

pub digest_of-requires-clause-len : goal.digest_of-requires-clause-len
digest_of-requires-clause-len c = (sixty-four c.args.rest.now c.up_to-digits.result.now c.run_len-count.result c.up_to-digits.ensures c.run_len-count.ensures.value c.if-count-lt64.false).0

pub digest_of-requires-clause-digits : goal.digest_of-requires-clause-digits
digest_of-requires-clause-digits c =
    let all = sixty-four c.args.rest.now c.up_to-digits.result.now c.run_len-count.result c.up_to-digits.ensures c.run_len-count.ensures.value c.if-count-lt64.false in
    list_all-from_prefix_len is_ascii_hexdigit c.up_to-digits.result.now (omega (arith, c.run_len-count.ensures.value, all.0))

pub returns-clause-value : goal.returns-clause-value
returns-clause-value c = after_sha256-digest c.args.rest.now c.up_to-digits.result.now c.run_len-count.result c.digest_of.result c.up_to-digits.ensures c.run_len-count.ensures.value c.if-count-lt64.false c.digest_of.ensures

pub returns-clause-within : goal.returns-clause-within
returns-clause-within c =
    let all = sixty-four c.args.rest.now c.up_to-digits.result.now c.run_len-count.result c.up_to-digits.ensures c.run_len-count.ensures.value c.if-count-lt64.false in
    (omega arith, omega (arith, all.1))
